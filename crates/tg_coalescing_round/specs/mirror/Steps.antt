-- The steps of a round as the code takes them, each a function of the work before it.
use Rattle.std.specs.Prelude.{ℕ, ◌-◌, ◌<◌, ◌==◌, IsTrue, not, ◌&&◌, if◌then◌else◌}
use Rattle.std.specs.Prelude.{List, [], ◌∷◌, ◌++◌, fold, map, filter, slice_index}
use Rattle.std.specs.List.{range_with_len}
use Rattle.tg_graph.specs.declared.worklists.Worklist.TheVariants.{Stacked, Merged}
use Rattle.tg_graph.specs.Interference.{colours, is_among, is_register, interferes, neighbours}
use Rattle.tg_graph.specs.Interference.{with_edge}
use Rattle.tg_graph.specs.Lists.{moved}
use Rattle.tg_irc_definition.specs.declared.candidates.Candidate.{Candidate}
use Rattle.tg_irc_definition.specs.declared.steps.Step.TheVariants.{Simplify, Same, Constrain}
use Rattle.tg_irc_definition.specs.declared.steps.Step.TheVariants.{Coalesce}
use Rattle.tg_irc_definition.specs.declared.steps.Step.TheVariants.{Freeze, Spill}
use Rattle.tg_irc_definition.specs.declared.moves.MoveState.TheVariants.{Coalesced, Constrained}
use Rattle.tg_irc_definition.specs.declared.moves.MoveState.TheVariants.{Frozen}
use Rattle.tg_coalescing_round.specs.glue.Lists.{list_at, raised, lowered}
use Rattle.tg_coalescing_round.specs.glue.Groupings as groupings
use Rattle.tg_coalescing_round.specs.glue.Tables as tables
use Rattle.tg_coalescing_round.specs.glue.Works.{Work, degree_at, is_left, is_open, relisted}
use Rattle.tg_coalescing_round.specs.glue.Works.{settled, to}
use Rattle.tg_coalescing_round.specs.glue.Works.{from, awake, awake_around, stepped}
use Rattle.tg_coalescing_round.specs.mirror.Passing.{passes, stands_under}

-- a node has a neighbour less, if it is a temporary that remains; where it turns low, the moves of
-- its neighbours are to be tried again
unfoldable pub bereft : Work → ℕ → Work
bereft w x =
    let less = record w { degrees = lowered x w.degrees } in
    if not (is_open w x) then w
    else if degree_at less x == colours - 1 then awake_around x (relisted x less)
    else less

-- each temporary next to a node has a neighbour to lose
abbrev pub CanLose : Work → ℕ → Type 0
CanLose w x =
    (z : ℕ) →
    IsTrue (is_among z (neighbours w.graph x)) →
    IsTrue (is_open w z) →
    0 < degree_at w z

-- a temporary is taken out
unfoldable pub taken_out : ℕ → Work → Work
taken_out x w =
    let out = record w { lists = moved w.lists x Stacked; stack = w.stack ++ x ∷ [] } in
    fold bereft out (neighbours w.graph x)

abbrev pub simplified : ℕ → Work → Work
simplified x w = stepped (Simplify x) (taken_out x w)

-- the unsettled moves of a class are given up
abbrev pub freeze_one : Work → ℕ → Work
freeze_one w i = if tables.is_unsettled w.moves i then settled i Frozen w else w

unfoldable pub given_up : ℕ → Work → Work
given_up x w = fold freeze_one w (list_at w.moves.touching x)

abbrev pub frozen : ℕ → Work → Work
frozen x w = stepped (Freeze x) (given_up x w)

abbrev pub spilled : ℕ → Work → Work
spilled x w = stepped (Spill x) (taken_out x (awake_around x (given_up x w)))

-- the kept node has a neighbour of the one that goes, which has the kept one in its place
unfoldable pub passed_edge : (kept : ℕ) → Work → ℕ → Work
passed_edge kept w z =
    if interferes w.graph kept z then bereft w z
    else record w {
      graph = with_edge w.graph kept z;
      degrees =
          if is_left w.lists z && not (is_register kept) then raised kept w.degrees else w.degrees;
    }

abbrev pub passed_on : (kept : ℕ) → Work → ℕ → Work
passed_on kept w z = awake z (passed_edge kept w z)

unfoldable pub merged : (kept gone : ℕ) → Work → Work
merged kept gone w =
    let one = record w {
      lists = moved w.lists gone Merged;
      classes = groupings.joined kept gone w.classes;
      moves = tables.joined kept gone w.moves;
    } in
    relisted kept (awake kept (fold (passed_on kept) one (neighbours w.graph gone)))

abbrev pub coalesced : (i kept gone : ℕ) → Work → Work
coalesced i kept gone w =
    stepped (Coalesce i kept gone (not (is_register kept)))
    (merged kept gone (settled i Coalesced w))

-- the move that is the first to be tried is tried
abbrev pub tried_out : ℕ → Work → Work
tried_out i w =
    let x = to w i in
    let y = from w i in
    if x == y then stepped (Same i) (settled i Coalesced w)
    else if interferes w.graph x y then stepped (Constrain i) (settled i Constrained w)
    else if not (passes w x y) then record w { moves = tables.parked i w.moves }
    else if stands_under w x y then coalesced i x y w
    else coalesced i y x w

unfoldable pub tried : ℕ → Work → Work
tried i w = tried_out i (record w { moves = tables.first_taken w.moves })

-- which classes may be spilled
abbrev pub candidate : Work → ℕ → Candidate
candidate w x = record {
  temp = x - colours;
  degree = degree_at w x;
  uses = slice_index w.classes.uses x;
  made = groupings.is_made w.classes x;
}

abbrev pub candidates : Work → List Candidate
candidates w =
    map (candidate w)
    (filter (is_left w.lists) (range_with_len colours (w.graph.nodes - colours)))
