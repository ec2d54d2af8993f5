-- The work of the code as a state of a round, and what holds of it between steps.
use Rattle.std.specs.Prelude.{◌≡◌, ℕ, ◌+◌, ◌*◌, ◌<◌, ◌≤◌, ◌==◌, nat_eq, All, nat_lt, Bool, false}
use Rattle.std.specs.Prelude.{not, ◌&&◌}
use Rattle.std.specs.Prelude.{IsTrue, IsFalse, List, [], length, map, reverse, count_by, sum_by}
use Rattle.std.specs.Prelude.{slice_index, slice_index_or}
use Rattle.std.specs.List.{IsDistinct}
use Rattle.tg_graph.specs.declared.worklists.Worklist.{Worklist}
use Rattle.tg_graph.specs.Interference as graphs
use Rattle.tg_graph.specs.Interference.{Interference, colours, is_register, is_among}
use Rattle.tg_graph.specs.Interference.{interferes, most_nodes}
use Rattle.tg_graph.specs.Lists.{nodes_in, number}
use Rattle.tg_graph.specs.laws.Laws.{ArePartition}
use Rattle.tg_irc_definition.specs.declared.moves.MoveState.{MoveState}
use Rattle.tg_irc_definition.specs.declared.moves.MoveState.TheVariants.{Ready, Waiting}
use Rattle.tg_irc_definition.specs.declared.rounds.Round.{Round}
use Rattle.tg_irc_definition.specs.Graphs.{Graph, IsGraph, bit}
use Rattle.tg_irc_definition.specs.States.{Problem, problem, RoundState, start, remains}
use Rattle.tg_irc_definition.specs.States.{members, facts_at, all_made, is_ready_or_waiting}
use Rattle.tg_irc_definition.specs.Steps.{can_move, AreTaken, after_all}
use Rattle.tg_irc_definition.specs.laws.Laws.{AreNodes, is_stacked}
use Rattle.tg_irc_definition.specs.laws.Degrees.{degree_of}
use Rattle.tg_coalescing_round.specs.glue.Lists.{list_at}
use Rattle.tg_coalescing_round.specs.glue.Groupings.{IsGrouping, is_made}
use Rattle.tg_coalescing_round.specs.glue.Tables.{IsTable, state_at, is_unsettled, is_related}
use Rattle.tg_coalescing_round.specs.glue.Tables.{is_waiting}
use Rattle.tg_coalescing_round.specs.glue.Works.{Work, degree_at, alias_of, is_left, is_open}
use Rattle.tg_coalescing_round.specs.glue.Works.{list_of, to}
use Rattle.tg_coalescing_round.specs.glue.Works.{from}
use Rattle.tg_coalescing_round.specs.mirror.Selecting.{colour_at, selected}

-- the graph as a round sees it
abbrev pub graph_of : Interference → Graph
graph_of g = record { nodes = g.nodes; pairs = interferes g }

-- a round tells no ready move from a waiting one
abbrev pub as_told : MoveState → MoveState
as_told Waiting = Ready
as_told state = state

abbrev pub state_of : Work → RoundState
state_of w = record {
  remaining = λ x. nat_lt x w.graph.nodes && is_left w.lists x;
  pairs = interferes w.graph;
  alias = λ x. slice_index_or w.classes.aliases x x;
  states = λ i. as_told (state_at w.moves i);
  stack = reverse w.stack;
}

-- a problem with the nodes and the moves of the work, for what depends on no more
abbrev pub shown : Work → Problem
shown w = problem (graph_of w.graph) w.moves.moves [] (λ _ _. false)

-- every part is of the same size
pub record IsSized (w : Work) : Type 0 where
  pub lists : w.lists.nodes ≡ w.graph.nodes
  pub degrees : length w.degrees ≡ w.graph.nodes
  pub classes : length w.classes.aliases ≡ w.graph.nodes
  pub touching : length w.moves.touching ≡ w.graph.nodes

module _ (w : Work) where
  -- each counter is the degree among the nodes that remain
  pub record HasDegrees : Type 0 where
    pub bound : (x : ℕ) → x < w.graph.nodes → degree_at w x ≤ w.graph.nodes
    pub exact :
        (x : ℕ) →
        IsTrue (remains (shown w) (state_of w) x) →
        degree_at w x ≡ degree_of (shown w) (state_of w) x

  -- each node is in the list where it belongs, a temporary that remains by its degree and its moves
  pub record IsPlaced : Type 0 where
    pub partition : ArePartition w.lists
    pub fixed : (x : ℕ) → x < w.graph.nodes → is_among x w.lists.fixed ≡ is_register x
    pub stack_below : All (λ x. (colours ≤ x) × (x < w.graph.nodes)) w.stack
    pub stacked :
        (x : ℕ) → x < w.graph.nodes → is_among x w.lists.stacked ≡ is_stacked (state_of w) x
    pub listed :
        (x : ℕ) →
        x < w.graph.nodes →
        IsTrue (is_open w x) →
        (l : Worklist) →
        is_among x (nodes_in w.lists l) ≡ (number l == number (list_of w x))

  -- the members listed of a class are those that stand under it, each once
  pub record HasMembers : Type 0 where
    pub exact :
        (x y : ℕ) →
        x < w.graph.nodes →
        is_among y (list_at w.classes.members x) ≡ (nat_lt y w.graph.nodes && alias_of w y == x)
    pub distinct : (x : ℕ) → IsDistinct nat_eq (list_at w.classes.members x)

  -- the moves listed of a class are those that end in it, once for each end, the ends of the
  -- unsettled ones are counted, and only classes that remain have any
  pub record HasEnds : Type 0 where
    pub listed :
        (x i : ℕ) →
        x < w.graph.nodes →
        i < length w.moves.moves →
        count_by (nat_eq i) (list_at w.moves.touching x) ≡ bit (to w i == x) + bit (from w i == x)
    pub counted :
        (x : ℕ) →
        x < w.graph.nodes →
        slice_index w.moves.unsettled x ≡
        count_by (is_unsettled w.moves) (list_at w.moves.touching x)
    pub left :
        (x : ℕ) → x < w.graph.nodes → IsTrue (is_related w.moves x) → IsTrue (is_left w.lists x)

  -- the moves to be tried are the ready ones, each once; no waiting one can be settled
  pub record HasReady : Type 0 where
    pub exact :
        (i : ℕ) →
        i < length w.moves.moves →
        is_among i w.moves.ready ≡
        (is_unsettled w.moves i && not (is_waiting (state_at w.moves i)))
    pub distinct : IsDistinct nat_eq w.moves.ready
    pub waiting :
        (i : ℕ) →
        i < length w.moves.moves →
        IsTrue (is_waiting (state_at w.moves i)) →
        IsFalse (can_move (shown w) (state_of w) i)

  -- all of this
  pub record IsOrderly : Type 0 where
    pub some : colours ≤ w.graph.nodes
    pub few : w.graph.nodes ≤ most_nodes
    pub sized : IsSized w
    pub grouping : IsGrouping w.classes
    pub table : IsTable w.moves
    pub graph : graphs.IsGraph w.graph
    pub degrees : HasDegrees
    pub placed : IsPlaced
    pub members : HasMembers
    pub ends : HasEnds
    pub ready : HasReady

-- the work is that of a run of the problem from its start
pub record IsRunOf (g : Problem) (w : Work) : Type 0 where
  pub graph : IsGraph g.graph
  pub ends : AreNodes g
  pub nodes : w.graph.nodes ≡ g.graph.nodes
  pub moves : w.moves.moves ≡ g.moves
  pub steps : AreTaken g (start g) w.steps
  pub state : state_of w ≡ after_all g (start g) w.steps
  pub uses :
      (x : ℕ) →
      x < w.graph.nodes →
      slice_index w.classes.uses x ≡
      sum_by (λ y. (facts_at g (state_of w) y).uses) (members g (state_of w) x)
  pub made :
      (x : ℕ) →
      x < w.graph.nodes →
      alias_of w x ≡ x →
      is_made w.classes x ≡ all_made g (state_of w) x

-- How much is left to do, which each step and each move that fails its test makes less: the
-- temporaries that remain and the unsettled moves, and then the moves to be tried.
abbrev pub left_to_do : Work → ℕ
left_to_do w =
    let open_nodes = length w.lists.simplify + length w.lists.freeze + length w.lists.spill in
    let unsettled = count_by is_ready_or_waiting w.moves.states in
    (open_nodes + unsettled) * (length w.moves.moves + 1) + length w.moves.ready

abbrev pub is_empty : List ℕ → Bool
is_empty list = length list == 0

-- nothing is left to do
abbrev pub is_done : Work → Bool
is_done w =
    is_empty w.lists.simplify && is_empty w.moves.ready && is_empty w.lists.freeze &&
    is_empty w.lists.spill

-- what is answered of work that is done
abbrev pub answer_of : Work → Round
answer_of w = record {
  moves = w.moves.moves;
  steps = w.steps;
  states = w.moves.states;
  aliases = w.classes.aliases;
  colours = map (colour_at (selected w.graph w.stack).colours) w.classes.aliases;
  spilled = (selected w.graph w.stack).spilled;
}
