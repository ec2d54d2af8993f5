-- Work in order but for the moves to be tried, and those moves but for one.
use Rattle.std.proofs.Common.{◌≡◌, ◌≢◌, ℕ, ◌<◌, ◌≤◌, true, false, not, ◌&&◌, List, length, sym, ap, ◌∙◌}
use Rattle.std.specs.Prelude.{nat_eq, count_by}
use Rattle.std.specs.List.{IsDistinct}
use Rattle.tg_irc_definition.specs.declared.moves.MoveState.{MoveState}
use Rattle.tg_irc_definition.specs.declared.steps.Step.{Step}
use Rattle.tg_irc_definition.specs.Steps.{can_move}
use Rattle.tg_graph.specs.Interference.{IsGraph, colours, most_nodes, is_among}
use Rattle.tg_coalescing_round.specs.glue.Lists.{list_at}
use Rattle.tg_coalescing_round.specs.glue.Groupings.{IsGrouping}
use Rattle.tg_coalescing_round.specs.glue.Tables.{IsTable, state_at, is_waiting, is_unsettled}
use Rattle.tg_coalescing_round.specs.glue.Works.{Work}
use Rattle.tg_coalescing_round.specs.glue.Standing.{shown, state_of, IsOrderly, IsSized, HasDegrees, IsPlaced, HasMembers, HasEnds, HasReady}
use Rattle.tg_coalescing_round.proofs.AdvancingWaking.{requeued}
use Rattle.tg_coalescing_round.proofs.AdvancingOrder.{HasMoves}

pub record IsKept (w : Work) : Type 0 where
  pub some : colours ≤ w.graph.nodes
  pub few : w.graph.nodes ≤ most_nodes
  pub sized : IsSized w
  pub grouping : IsGrouping w.classes
  pub table : IsTable w.moves
  pub graph : IsGraph w.graph
  pub degrees : HasDegrees w
  pub placed : IsPlaced w
  pub members : HasMembers w
  pub ends : HasEnds w

pub kept_of : (w : Work) → IsOrderly w → IsKept w
kept_of w h = record {
  some = h.some;
  few = h.few;
  sized = h.sized;
  grouping = h.grouping;
  table = h.table;
  graph = h.graph;
  degrees = h.degrees;
  placed = h.placed;
  members = h.members;
  ends = h.ends;
}

pub orderly_of : (w : Work) → IsKept w → HasReady w → IsOrderly w
orderly_of w k ready = record {
  some = k.some;
  few = k.few;
  sized = k.sized;
  grouping = k.grouping;
  table = k.table;
  graph = k.graph;
  degrees = k.degrees;
  placed = k.placed;
  members = k.members;
  ends = k.ends;
  ready = ready;
}

pub moves_kept : (w : Work) → IsKept w → HasMoves w
moves_kept w k = record { sized = k.sized; grouping = k.grouping; table = k.table; ends = k.ends }

-- where moves change their states, and none is settled, the rest stays in order
module _ (w : Work) (k : IsKept w) (states : List MoveState) (ready : List ℕ) (steps : List Step)
    (table : IsTable (requeued states ready w.moves))
    (told : (i : ℕ) → is_unsettled (requeued states ready w.moves) i ≡ is_unsettled w.moves i) where
  abbrev pub restated : Work
  restated = record w { moves = requeued states ready w.moves; steps = steps }

  pub kept_restated : IsKept restated
  kept_restated = record {
    some = k.some;
    few = k.few;
    sized = record {
      lists = k.sized.lists;
      degrees = k.sized.degrees;
      classes = k.sized.classes;
      touching = k.sized.touching;
    };
    grouping = k.grouping;
    table = table;
    graph = k.graph;
    degrees = record { bound = k.degrees.bound; exact = k.degrees.exact };
    placed = record {
      partition = k.placed.partition;
      fixed = k.placed.fixed;
      stack_below = k.placed.stack_below;
      stacked = k.placed.stacked;
      listed = k.placed.listed;
    };
    members = record { exact = k.members.exact; distinct = k.members.distinct };
    ends = record {
      listed = k.ends.listed;
      counted = λ x l. k.ends.counted x l
          ∙ sym (ap (λ f. count_by f (list_at w.moves.touching x)) (λ d i. told i d));
      left = k.ends.left;
    };
  }

-- one move is not to be tried, whatever its state
pub record HasReadyBut (w : Work) (i : ℕ) : Type 0 where
  pub exact : (j : ℕ) → j < length w.moves.moves → j ≢ i →
      is_among j w.moves.ready ≡ (is_unsettled w.moves j && not (is_waiting (state_at w.moves j)))
  pub without : is_among i w.moves.ready ≡ false
  pub distinct : IsDistinct nat_eq w.moves.ready
  pub waiting : (j : ℕ) → j < length w.moves.moves → is_waiting (state_at w.moves j) ≡ true →
      can_move (shown w) (state_of w) j ≡ false
