-- The first move to be tried: its steps Same and Constrain, and that it waits where it fails its test.
use Rattle.std.proofs.Common.{◌≡◌, ◌≢◌, ℕ, ◌<◌, true, false, not, ◌&&◌, ◌||◌, List, [], ◌∷◌}
use Rattle.std.proofs.Common.{length, drop, Some, refl, sym, ap, subst, ◌∙◌, arith, ⊎_elim}
use Rattle.std.specs.Prelude.{◌==◌, nat_eq, slice_get}
use Rattle.std.specs.List.{IsDistinct}
use Rattle.std.proofs.lemmas.Bool.{cases_order, ltb-true}
use Rattle.std.proofs.lemmas.List.Elements.{All-drop}
use Rattle.tg_irc_definition.specs.declared.moves.MoveState.{MoveState}
use Rattle.tg_irc_definition.specs.declared.moves.MoveState.TheVariants.{Ready, Waiting, Coalesced, Constrained, Frozen}
use Rattle.tg_irc_definition.specs.declared.steps.Step.{Step}
use Rattle.tg_irc_definition.specs.declared.steps.Step.TheVariants.{Same, Constrain}
use Rattle.tg_irc_definition.specs.Graphs.{is_register}
use Rattle.tg_irc_definition.specs.States.{Problem, RoundState, is_ready_or_waiting}
use Rattle.tg_irc_definition.specs.States as states
use Rattle.tg_irc_definition.specs.Steps.{can, kind, after, settle}
use Rattle.tg_irc_definition.proofs.Deciding.{and_true, or_left, never, from_false, same_node}
use Rattle.tg_graph.specs.Interference.{Interference, is_among, interferes}
use Rattle.tg_graph.specs.Lists.{Lists}
use Rattle.tg_graph.proofs.Joining.{below, above, registers_joined}
use Rattle.tg_coalescing_round.specs.glue.Tables.{state_at, is_waiting, is_unsettled, first_taken}
use Rattle.tg_coalescing_round.specs.glue.Works.{Work, settled, stepped, to, from}
use Rattle.tg_coalescing_round.specs.glue.Standing.{shown, state_of, IsOrderly, IsRunOf}
use Rattle.tg_coalescing_round.specs.glue.Advancing.{Advances}
use Rattle.tg_coalescing_round.proofs.AdvancingMembers.{all_among, among_first, not_again, distinct_rest}
use Rattle.tg_coalescing_round.proofs.AdvancingListing.{IsShifted, IsListed}
use Rattle.tg_coalescing_round.proofs.AdvancingOrder.{to_same, from_same, unsettled_told}
use Rattle.tg_coalescing_round.proofs.AdvancingPossible.{moves_of, with_parts, at_problem}
use Rattle.tg_coalescing_round.proofs.AdvancingKept.{IsKept, HasReadyBut, kept_of, kept_restated}
use Rattle.tg_coalescing_round.proofs.AdvancingMeasure.{goes_less}
use Rattle.tg_coalescing_round.proofs.AdvancingRuns.{goes_on}
use Rattle.tg_coalescing_round.proofs.AdvancingSteps.{orderly_stepped, taken}
use Rattle.tg_coalescing_round.proofs.AdvancingSettling.{built, settled_same, settled_shifts, settled_listed, state_settled, orderly_settled}

first_is : (xs : List ℕ) (i : ℕ) → slice_get xs 0 ≡ Some i → xs ≡ i ∷ drop 1 xs
first_is [] i e = cc
first_is (x ∷ xs) i e = ap (λ y. y ∷ xs) (the_same e)
  where
    the_same : Some x ≡ Some i → x ≡ i
    the_same e = cc

ready_is : (s : MoveState) → (is_ready_or_waiting s && not (is_waiting s)) ≡ true → s ≡ Ready
ready_is Ready e = refl
ready_is Waiting e = cc
ready_is Coalesced e = cc
ready_is Constrained e = cc
ready_is Frozen e = cc

pub registers_interfere : (g : Interference) (x y : ℕ) → x ≢ y → is_register x ≡ true → is_register y ≡ true →
    interferes g x y ≡ true
registers_interfere g x y d p q =
    let l = ltb-true x 25 p in
    let k = ltb-true y 25 q in
    ⊎_elim (λ (e : x ≡ y). absurd (d e))
    (λ o. ⊎_elim (λ (m : x < y). below g x y m ∙ registers_joined g x y k)
    (λ (m : y < x). above g x y m ∙ registers_joined g y x l) o)
    (cases_order x y)

module _ (i : ℕ) (w : Work) (h : IsOrderly w) (first : slice_get w.moves.ready 0 ≡ Some i) where
  -- it is tried no more
  abbrev pub begun : Work
  begun = record w { moves = first_taken w.moves }

  pub ready : w.moves.ready ≡ i ∷ drop 1 w.moves.ready
  ready = first_is w.moves.ready i first

  distinct : IsDistinct nat_eq (i ∷ drop 1 w.moves.ready)
  distinct = subst (λ xs. IsDistinct nat_eq xs) ready h.ready.distinct

  pub index : i < length w.moves.moves
  index = all_among (λ j. j < length w.moves.moves) i w.moves.ready h.table.ready_below (among_first w.moves.ready i first)

  pub is_ready : state_at w.moves i ≡ Ready
  is_ready = ready_is (state_at w.moves i) (sym (h.ready.exact i index) ∙ among_first w.moves.ready i first)

  pub unsettled : is_unsettled w.moves i ≡ true
  unsettled = ap is_ready_or_waiting is_ready

  pub begun_kept : IsKept begun
  begun_kept =
      kept_restated w (kept_of w h) w.moves.states (drop 1 w.moves.ready) w.steps
      (record {
        few = h.table.few;
        states_sized = h.table.states_sized;
        unsettled_sized = h.table.unsettled_sized;
        ends_below = h.table.ends_below;
        ready_below = All-drop (λ j. j < length w.moves.moves) 1 w.moves.ready h.table.ready_below;
        touching_below = h.table.touching_below;
        few_unsettled = h.table.few_unsettled;
      })
      (λ j. refl)

  pub begun_ready : HasReadyBut begun i
  begun_ready = record {
    exact = λ j l d.
        sym (ap (λ b. b || is_among j (drop 1 w.moves.ready)) (never (λ e. d (same_node j i e))))
        ∙ (sym (ap (is_among j) ready) ∙ h.ready.exact j l);
    without = not_again i (drop 1 w.moves.ready) distinct;
    distinct = distinct_rest i (drop 1 w.moves.ready) distinct;
    waiting = h.ready.waiting;
  }

  pub told_unsettled : states.is_unsettled (shown w) (state_of w) i ≡ true
  told_unsettled = unsettled_told w (moves_of w h) i index ∙ unsettled

  -- it is settled by itself
  module _ (simplify : w.lists.simplify ≡ []) (state : MoveState) (last : is_ready_or_waiting state ≡ false)
      (step : Step) (possible : can (shown w) (state_of w) step ≡ true)
      (makes : (g : Problem) → after g (state_of w) step ≡ settle g (state_of w) i state)
      (second : (g : Problem) → kind g step ≡ 1)
      (possible_in : (g : Problem) → IsRunOf g w → can g (state_of w) step ≡ true) where
    module _ (lists : Lists) (shifts : IsShifted w.lists lists)
        (listed : (z : ℕ) → z < w.graph.nodes →
        IsListed (built begun begun_kept i index unsettled state last lists) z) where
      abbrev v : Work
      v = built begun begun_kept i index unsettled state last lists

      state_after : (g : Problem) → state_of v ≡ after g (state_of w) step
      state_after g =
          state_settled begun begun_kept i index unsettled state last lists shifts listed ∙ sym (makes g)

      orderly : IsOrderly (stepped step v)
      orderly =
          orderly_stepped step v
          (orderly_settled begun begun_kept i index unsettled state last lists shifts listed begun_ready)

      advances : Advances w (stepped step v)
      advances = record {
        on = record {
          orderly = orderly;
          less = goes_less w (stepped step v) step h orderly refl refl possible (state_after (shown w));
        };
        run = λ g run.
            goes_on g w run (stepped step v) step
            (taken g w h run step
            (possible_in g run)
            (λ l. simplify)
            (λ l. let k = second g in absurd (omega (arith, l, k)))
            (λ l. let k = second g in absurd (omega (arith, l, k))))
            refl (state_after g) refl refl refl;
      }

    pub settles : Advances w (stepped step (settled i state begun))
    settles =
        subst (λ v. Advances w (stepped step v)) (sym (settled_same begun begun_kept i index unsettled state last))
        (advances (settled i state begun).lists (settled_shifts begun begun_kept i index unsettled state last)
        (settled_listed begun begun_kept i index unsettled state last))

  -- Whether its ends are of one class or interfere, by the classes that the code reads.

  abbrev pub Ends : (ℕ → ℕ → Type 0) → Type 0
  Ends P = P (states.to (shown w) (state_of w) i) (states.from (shown w) (state_of w) i)

  pub at_ends : (P : ℕ → ℕ → Type 0) → P (to w i) (from w i) → Ends P
  at_ends P p =
      subst (λ a. P a (states.from (shown w) (state_of w) i)) (sym (to_same w (moves_of w h) i index))
      (subst (λ b. P (to w i) b) (sym (from_same w (moves_of w h) i index)) p)

  module _ (simplify : w.lists.simplify ≡ []) where
    pub same_advances : (to w i == from w i) ≡ true → Advances w (stepped (Same i) (settled i Coalesced begun))
    same_advances e =
        settles simplify Coalesced refl (Same i) possible (λ g. refl) (λ g. refl)
        (λ g run. at_problem g w run.nodes run.moves
        (λ n ms. can (with_parts g w run.nodes run.moves n ms) (state_of w) (Same i) ≡ true) possible)
      where
        possible : can (shown w) (state_of w) (Same i) ≡ true
        possible = and_true told_unsettled (at_ends (λ a b. (a == b) ≡ true) e)

    pub constrain_advances : (to w i == from w i) ≡ false → interferes w.graph (to w i) (from w i) ≡ true →
        Advances w (stepped (Constrain i) (settled i Constrained begun))
    constrain_advances e p =
        settles simplify Constrained refl (Constrain i) possible (λ g. refl) (λ g. refl)
        (λ g run. at_problem g w run.nodes run.moves
        (λ n ms. can (with_parts g w run.nodes run.moves n ms) (state_of w) (Constrain i) ≡ true) possible)
      where
        possible : can (shown w) (state_of w) (Constrain i) ≡ true
        possible =
            and_true told_unsettled
            (at_ends (λ a b. (not (a == b) && (interferes w.graph a b || (is_register a && is_register b))) ≡ true)
            (and_true (from_false e) (or_left _ _ p)))
