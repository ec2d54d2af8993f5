-- The work of a round as the code keeps it, and how its parts change (George and Appel 1996,
-- section 4 and appendix).
use Rattle.std.specs.Prelude.{ℕ, ◌-◌, nat_lt, Bool, true, false, not, ◌&&◌, ◌||◌, if◌then◌else◌}
use Rattle.std.specs.Prelude.{List, [], ◌∷◌, ◌++◌, fold, map, replicate, slice_index}
use Rattle.std.specs.List.{range_with_len}
use Rattle.tg_graph.specs.declared.worklists.Worklist.{Worklist}
use Rattle.tg_graph.specs.declared.worklists.Worklist.TheVariants.{Fixed, Simplify, Freeze}
use Rattle.tg_graph.specs.declared.worklists.Worklist.TheVariants.{Spill, Stacked, Merged}
use Rattle.tg_graph.specs.Interference.{Interference, colours, is_register, is_among, neighbours}
use Rattle.tg_graph.specs.Interference.{degree}
use Rattle.tg_graph.specs.Lists as lists
use Rattle.tg_graph.specs.Lists.{Lists, moved}
use Rattle.tg_irc_definition.specs.declared.candidates.NodeFacts.{NodeFacts}
use Rattle.tg_irc_definition.specs.declared.moves.Move.{Move}
use Rattle.tg_irc_definition.specs.declared.moves.MoveState.{MoveState}
use Rattle.tg_irc_definition.specs.declared.steps.Step.{Step}
use Rattle.tg_coalescing_round.specs.glue.Groupings.{Grouping, apart}
use Rattle.tg_coalescing_round.specs.glue.Tables as tables
use Rattle.tg_coalescing_round.specs.glue.Tables.{Table, move_at, is_related, woken}

-- The graph with the pairs of all merges, the worklists, how many neighbours that remain each
-- temporary has, the classes, the moves, what was taken out with the last one last, and the steps.
pub record Work : Type 0 where
  pub graph : Interference
  pub lists : Lists
  pub degrees : List ℕ
  pub classes : Grouping
  pub moves : Table
  pub stack : List ℕ
  pub steps : List Step

abbrev pub degree_at : Work → ℕ → ℕ
degree_at w x = slice_index w.degrees x

-- the nodes of a list remain
abbrev pub holds_remaining : Worklist → Bool
holds_remaining Stacked = false
holds_remaining Merged = false
holds_remaining _ = true

-- they are registers or have as many neighbours as there are colours
abbrev pub holds_high : Worklist → Bool
holds_high Fixed = true
holds_high Spill = true
holds_high _ = false

-- a node was neither taken out nor merged into another
abbrev pub is_left : Lists → ℕ → Bool
is_left l x = not (is_among x l.stacked || is_among x l.merged)

-- a temporary that remains
abbrev pub is_open : Work → ℕ → Bool
is_open w x = not (is_register x) && is_left w.lists x

-- a node that remains is a register or has as many neighbours as there are colours
abbrev pub is_high : Lists → ℕ → Bool
is_high l x = is_among x l.fixed || is_among x l.spill

-- the list for a temporary that remains, by its degree and its moves
abbrev pub list_of : Work → ℕ → Worklist
list_of w x =
    if nat_lt (degree_at w x) colours then (if is_related w.moves x then Freeze else Simplify)
    else Spill

-- a temporary that remains put into its list
unfoldable pub relisted : ℕ → Work → Work
relisted x w =
    if is_open w x then record w { lists = moved w.lists x (list_of w x) } else w

-- The classes of a move's ends.

abbrev pub alias_of : Work → ℕ → ℕ
alias_of w x = slice_index w.classes.aliases x

abbrev pub to : Work → ℕ → ℕ
to w i = alias_of w (move_at w.moves.moves i).to

abbrev pub from : Work → ℕ → ℕ
from w i = alias_of w (move_at w.moves.moves i).from

-- an unsettled move has its last state, and its ends are where they belong by then
unfoldable pub settled : ℕ → MoveState → Work → Work
settled i state w =
    relisted (from w i) (relisted (to w i)
    (record w { moves = tables.settled i state (to w i) (from w i) w.moves }))

-- the waiting moves of a node, and of a temporary's neighbours, are to be tried again
abbrev pub awake : ℕ → Work → Work
awake x w = record w { moves = woken x w.moves }

abbrev pub awake_around : ℕ → Work → Work
awake_around x w = record w { moves = fold (λ t y. woken y t) w.moves (neighbours w.graph x) }

-- one step more
abbrev pub stepped : Step → Work → Work
stepped step w = record w { steps = w.steps ++ step ∷ [] }

-- registers have no counter
abbrev pub first_degrees : Interference → List ℕ
first_degrees g = replicate colours 0 ++ map (degree g) (range_with_len colours (g.nodes - colours))

-- everything at the start, where each temporary may still be in a wrong list
abbrev pub unlisted : Interference → List Move → List NodeFacts → Work
unlisted g moves facts = record {
  graph = g;
  lists = lists.started g.nodes;
  degrees = first_degrees g;
  classes = apart facts;
  moves = tables.started moves g.nodes;
  stack = [];
  steps = [];
}

unfoldable pub started : Interference → List Move → List NodeFacts → Work
started g moves facts =
    fold (λ w x. relisted x w) (unlisted g moves facts)
    (range_with_len colours (g.nodes - colours))
