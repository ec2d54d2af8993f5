-- A move that fails its test waits.
use Rattle.std.proofs.Common.{◌≡◌, ◌≢◌, ℕ, suc, ◌+◌, ◌*◌, ◌<◌, Bool, true, false, not, ◌&&◌, ◌||◌}
use Rattle.std.proofs.Common.{length, drop, Some, refl, sym, ap, subst, ◌∙◌, arith, ⊎_elim}
use Rattle.std.specs.Prelude.{◌==◌, slice_get}
use Rattle.std.proofs.lemmas.Bool.{cases_eq}
use Rattle.std.proofs.lemmas.List.{get_or-set_same, get_or-set_other, length-set}
use Rattle.tg_irc_definition.specs.declared.moves.MoveState.TheVariants.{Ready, Waiting}
use Rattle.tg_irc_definition.specs.Graphs.{is_register}
use Rattle.tg_irc_definition.specs.States.{is_ready_or_waiting}
use Rattle.tg_irc_definition.specs.States as states
use Rattle.tg_irc_definition.specs.Steps.{can_move}
use Rattle.tg_irc_definition.specs.Steps as steps
use Rattle.tg_irc_definition.specs.laws.Laws.{work_left}
use Rattle.tg_irc_definition.proofs.Deciding.{clash, both, never, same_test}
use Rattle.tg_graph.specs.Interference.{is_among, interferes}
use Rattle.tg_coalescing_round.specs.glue.Tables.{IsTable, state_at, is_waiting, is_unsettled, first_taken, parked}
use Rattle.tg_coalescing_round.specs.glue.Works.{Work, to, from}
use Rattle.tg_coalescing_round.specs.mirror.Passing.{passes}
use Rattle.tg_coalescing_round.specs.glue.Standing.{as_told, shown, state_of, IsOrderly, left_to_do}
use Rattle.tg_coalescing_round.specs.glue.Advancing.{Advances}
use Rattle.tg_coalescing_round.proofs.AdvancingWaking.{told_open}
use Rattle.tg_coalescing_round.proofs.AdvancingOrder.{to_below, from_below}
use Rattle.tg_coalescing_round.proofs.AdvancingPossible.{moves_of}
use Rattle.tg_coalescing_round.proofs.AdvancingMeasure.{left_is}
use Rattle.tg_coalescing_round.proofs.AdvancingKept.{kept_of, kept_restated, orderly_of}
use Rattle.tg_coalescing_round.proofs.AdvancingPassing.{passes_told}
use Rattle.tg_coalescing_round.proofs.AdvancingTrying.{ready, index, is_ready, begun_kept, begun_ready, registers_interfere, at_ends}

module _ (i : ℕ) (w : Work) (h : IsOrderly w) (first : slice_get w.moves.ready 0 ≡ Some i) where
  -- between two classes that don't interfere and fail the test it can't be settled
  pub not_moving : (to w i == from w i) ≡ false → interferes w.graph (to w i) (from w i) ≡ false →
      passes w (to w i) (from w i) ≡ false → can_move (shown w) (state_of w) i ≡ false
  not_moving e p q =
      at_ends i w h first
      (λ a b. (states.is_unsettled (shown w) (state_of w) i && ((a == b) ||
      (not (a == b) && (interferes w.graph a b || (is_register a && is_register b))) ||
      (not (a == b) && not (not (a == b) && (interferes w.graph a b || (is_register a && is_register b))) &&
      steps.passes (shown w) (state_of w) a b))) ≡ false)
      (by (states.is_unsettled (shown w) (state_of w) i) e p apart (sym (passes_told w h (to w i) (from w i)
      (to_below w (moves_of w h) i (index i w h first)) (from_below w (moves_of w h) i (index i w h first)) apart) ∙ q))
    where
      apart : (is_register (to w i) && is_register (from w i)) ≡ false
      apart = never (λ r. let rs = both (is_register (to w i)) (is_register (from w i)) r in
          clash (registers_interfere w.graph (to w i) (from w i)
          (λ s. clash (same_test (to w i) (from w i) s) e) rs.0 rs.1) p)

      by : (u : Bool) {e p r q : Bool} → e ≡ false → p ≡ false → r ≡ false → q ≡ false →
          (u && (e || (not e && (p || r)) || (not e && not (not e && (p || r)) && q))) ≡ false
      by u {e = true} a b c d = cc
      by u {e = false} {p = true} a b c d = cc
      by u {e = false} {p = false} {r = true} a b c d = cc
      by u {e = false} {p = false} {r = false} {q = true} a b c d = cc
      by true {e = false} {p = false} {r = false} {q = false} a b c d = refl
      by false {e = false} {p = false} {r = false} {q = false} a b c d = refl

  module _ (fails : can_move (shown w) (state_of w) i ≡ false) where
    abbrev pub waiting : Work
    waiting = record w { moves = parked i (first_taken w.moves) }

    here : state_at waiting.moves i ≡ Waiting
    here = get_or-set_same w.moves.states i Waiting Ready
        (subst (λ n. i < n) (sym h.table.states_sized) (index i w h first))

    there : (j : ℕ) → j ≢ i → state_at waiting.moves j ≡ state_at w.moves j
    there j d = get_or-set_other w.moves.states i j Waiting Ready d

    told : (j : ℕ) → as_told (state_at waiting.moves j) ≡ as_told (state_at w.moves j)
    told j =
        ⊎_elim
        (λ (p : j ≡ i). subst (λ k. as_told (state_at waiting.moves k) ≡ as_told (state_at w.moves k)) (sym p)
        (ap as_told here ∙ sym (ap as_told (is_ready i w h first))))
        (λ (d : j ≢ i). ap as_told (there j d))
        (cases_eq j i)

    open_told : (j : ℕ) → is_unsettled waiting.moves j ≡ is_unsettled w.moves j
    open_told j =
        sym (told_open (state_at waiting.moves j))
        ∙ (ap is_ready_or_waiting (told j) ∙ told_open (state_at w.moves j))

    state_waiting : state_of waiting ≡ state_of w
    state_waiting = λ d. record {
      remaining = (state_of w).remaining;
      pairs = interferes w.graph;
      alias = (state_of w).alias;
      states = λ j. told j d;
      stack = (state_of w).stack;
    }

    table_waiting : IsTable waiting.moves
    table_waiting = record {
      few = h.table.few;
      states_sized = length-set w.moves.states i Waiting ∙ h.table.states_sized;
      unsettled_sized = h.table.unsettled_sized;
      ends_below = h.table.ends_below;
      ready_below = (begun_kept i w h first).table.ready_below;
      touching_below = h.table.touching_below;
      few_unsettled = h.table.few_unsettled;
    }

    exact_waiting : (j : ℕ) → j < length w.moves.moves → is_among j (drop 1 w.moves.ready) ≡
        (is_unsettled waiting.moves j && not (is_waiting (state_at waiting.moves j)))
    exact_waiting j l =
        ⊎_elim
        (λ (p : j ≡ i).
        ap (λ k. is_among k (drop 1 w.moves.ready)) p
        ∙ ((begun_ready i w h first).without
        ∙ sym (ap (λ s. is_ready_or_waiting s && not (is_waiting s)) (ap (state_at waiting.moves) p ∙ here))))
        (λ (d : j ≢ i).
        (begun_ready i w h first).exact j l d
        ∙ sym (ap (λ s. is_ready_or_waiting s && not (is_waiting s)) (there j d)))
        (cases_eq j i)

    still_waits : (j : ℕ) → j < length w.moves.moves → is_waiting (state_at waiting.moves j) ≡ true →
        can_move (shown w) (state_of waiting) j ≡ false
    still_waits j l waits =
        subst (λ s. can_move (shown w) s j ≡ false) (sym state_waiting)
        (⊎_elim
        (λ (p : j ≡ i). subst (λ k. can_move (shown w) (state_of w) k ≡ false) (sym p) fails)
        (λ (d : j ≢ i). h.ready.waiting j l (sym (ap is_waiting (there j d)) ∙ waits))
        (cases_eq j i))

    orderly_waiting : IsOrderly waiting
    orderly_waiting =
        orderly_of waiting
        (kept_restated w (kept_of w h) waiting.moves.states waiting.moves.ready w.steps table_waiting open_told)
        (record {
          exact = exact_waiting;
          distinct = (begun_ready i w h first).distinct;
          waiting = still_waits;
        })

    less_waiting : left_to_do waiting < left_to_do w
    less_waiting =
        let now = left_is waiting orderly_waiting in
        let was = left_is w h in
        let same : work_left (shown w) (state_of waiting) * (length w.moves.moves + 1) ≡
        work_left (shown w) (state_of w) * (length w.moves.moves + 1) =
        ap (λ s. work_left (shown w) s * (length w.moves.moves + 1)) state_waiting in
        let longer = ap length (ready i w h first) in
        smaller (work_left (shown w) (state_of waiting) * (length w.moves.moves + 1))
        (work_left (shown w) (state_of w) * (length w.moves.moves + 1)) (length (drop 1 w.moves.ready))
        (length w.moves.ready) now was same longer
      where
        smaller : {n m : ℕ} (a b r q : ℕ) → n ≡ a + r → m ≡ b + q → a ≡ b → q ≡ suc r → n < m
        smaller a b r q c d e f = omega (arith, c, d, e, f)

    pub park_advances : Advances w waiting
    park_advances = record {
      on = record { orderly = orderly_waiting; less = less_waiting };
      run = λ g run. record {
        graph = run.graph;
        ends = run.ends;
        nodes = run.nodes;
        moves = run.moves;
        steps = run.steps;
        state = state_waiting ∙ run.state;
        uses = run.uses;
        made = run.made;
      };
    }
