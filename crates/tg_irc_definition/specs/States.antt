-- The state of a round of iterated register coalescing (George and Appel 1996, section 4): what a
-- round is given, what remains, the classes of the nodes that were coalesced, and the moves.
use Rattle.std.specs.Prelude.{ℕ, ◌==◌, nat_lt, Bool, true, false, not, ◌&&◌, ◌||◌}
use Rattle.std.specs.Prelude.{List, [], length, filter, slice_index_or}
use Rattle.std.specs.List.{range_with_len}
use Rattle.tg_irc_definition.specs.declared.moves.Move.{Move}
use Rattle.tg_irc_definition.specs.declared.moves.MoveState.{MoveState}
use Rattle.tg_irc_definition.specs.declared.moves.MoveState.TheVariants.{Ready, Waiting}
use Rattle.tg_irc_definition.specs.declared.candidates.NodeFacts.{NodeFacts}
use Rattle.tg_irc_definition.specs.Graphs.{Set, Pairs, Graph, is_register, is_low, some, every}
use Rattle.tg_irc_definition.specs.Policies.{Rule}

-- an interference graph, the moves of its code, what is known of each node, and a policy's rule
pub record Problem : Type 0 where
  pub graph : Graph
  pub moves : List Move
  pub facts : List NodeFacts
  pub rule : Rule

abbrev pub problem : Graph → List Move → List NodeFacts → Rule → Problem
problem graph moves facts rule =
    record { graph = graph; moves = moves; facts = facts; rule = rule }

-- The nodes that remain, and their pairs by now; the node under which each node's class stands; the
-- state of each move; and the nodes that were taken out, the last one first. Whether an unsettled
-- move is ready or waiting is told apart by the code alone.
pub record RoundState : Type 0 where
  pub remaining : Set
  pub pairs : Pairs
  pub alias : ℕ → ℕ
  pub states : ℕ → MoveState
  pub stack : List ℕ

abbrev pub is_ready_or_waiting : MoveState → Bool
is_ready_or_waiting Ready = true
is_ready_or_waiting Waiting = true
is_ready_or_waiting _ = false

module _ (g : Problem) where
  -- every node remains, each is a class of its own, and every move is unsettled
  abbrev pub start : RoundState
  start = record {
    remaining = λ x. nat_lt x g.graph.nodes;
    pairs = g.graph.pairs;
    alias = λ x. x;
    states = λ i. Ready;
    stack = [];
  }

  module _ (s : RoundState) where
    -- a temporary that remains, and whether it is of low degree
    abbrev pub remains : ℕ → Bool
    remains x = nat_lt x g.graph.nodes && s.remaining x && not (is_register x)

    abbrev pub low : ℕ → Bool
    low = is_low g.graph.nodes s.remaining s.pairs

    -- Moves, by their places.

    abbrev pub move_at : ℕ → Move
    move_at i = slice_index_or g.moves i (record { to = 0; from = 0 })

    -- the classes of a move's ends
    abbrev pub to : ℕ → ℕ
    to i = s.alias (move_at i).to

    abbrev pub from : ℕ → ℕ
    from i = s.alias (move_at i).from

    abbrev pub is_unsettled : ℕ → Bool
    is_unsettled i = nat_lt i (length g.moves) && is_ready_or_waiting (s.states i)

    -- an unsettled move with an end in this class
    abbrev pub touches : ℕ → ℕ → Bool
    touches x i = is_unsettled i && (to i == x || from i == x)

    abbrev pub is_move_related : ℕ → Bool
    is_move_related x = some (touches x) (length g.moves)

    -- Classes, by the nodes under which they stand.

    abbrev pub members : ℕ → List ℕ
    members x = filter (λ y. s.alias y == x) (range_with_len 0 g.graph.nodes)

    abbrev pub facts_at : ℕ → NodeFacts
    facts_at x = slice_index_or g.facts x (record { uses = 0; made = false })

    -- spilling has made all members
    abbrev pub all_made : ℕ → Bool
    all_made x = every (λ y. not (s.alias y == x) || (facts_at y).made) g.graph.nodes
