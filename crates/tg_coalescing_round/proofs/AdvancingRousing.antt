-- Waiting moves of work in order are to be tried again.
use Rattle.std.proofs.Common.{◌≡◌, ℕ, false, List, sym, subst}
use Rattle.tg_irc_definition.specs.declared.moves.MoveState.{MoveState}
use Rattle.tg_irc_definition.specs.Steps.{can_move}
use Rattle.tg_graph.specs.Interference.{interferes}
use Rattle.tg_coalescing_round.specs.glue.Works.{Work}
use Rattle.tg_coalescing_round.specs.glue.Standing.{shown, state_of, IsOrderly}
use Rattle.tg_coalescing_round.proofs.AdvancingWaking.{IsWoken, requeued, woken_unsettled}
use Rattle.tg_coalescing_round.proofs.AdvancingKept.{kept_of, kept_restated, orderly_of}
use Rattle.tg_coalescing_round.proofs.AdvancingTaking.{queue_of}

module _ (w : Work) (h : IsOrderly w) (states : List MoveState) (ready : List ℕ)
    (b : IsWoken w.moves (requeued states ready w.moves)) where
  abbrev pub roused : Work
  roused = record w { moves = requeued states ready w.moves }

  pub state_roused : state_of roused ≡ state_of w
  state_roused = λ d. record {
    remaining = (state_of w).remaining;
    pairs = interferes w.graph;
    alias = (state_of w).alias;
    states = λ i. b.told i d;
    stack = (state_of w).stack;
  }

  pub orderly_roused : IsOrderly roused
  orderly_roused =
      let queue = b.kept (queue_of w h) in
      orderly_of roused
      (kept_restated w (kept_of w h) states ready w.steps queue.table (woken_unsettled w.moves roused.moves b))
      (record {
        exact = queue.exact;
        distinct = queue.distinct;
        waiting = λ i l waits.
            subst (λ s. can_move (shown w) s i ≡ false) (sym state_roused) (h.ready.waiting i l (b.waiting i waits));
      })
