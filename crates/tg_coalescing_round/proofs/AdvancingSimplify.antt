-- Simplify.
use Rattle.std.proofs.Common.{◌≡◌, ℕ, ◌<◌, true, false, not, List, length, refl, sym, subst, ◌∙◌, arith}
use Rattle.std.specs.Prelude.{◌==◌, nat_lt, IsFalse}
use Rattle.tg_irc_definition.specs.declared.moves.MoveState.{MoveState}
use Rattle.tg_irc_definition.specs.declared.steps.Step.TheVariants.{Simplify}
use Rattle.tg_irc_definition.specs.laws.Waiting.{is_woken}
use Rattle.tg_irc_definition.specs.States.{Problem}
use Rattle.tg_irc_definition.specs.Steps.{can, can_move, take_out}
use Rattle.tg_irc_definition.proofs.Deciding.{both, or_left, or_right, not_true, same_test}
use Rattle.tg_irc_definition.proofs.Waiting.{waiting_fails}
use Rattle.tg_graph.specs.declared.worklists.Worklist.TheVariants as worklists
use Rattle.tg_graph.specs.Interference.{is_among, neighbours}
use Rattle.tg_graph.specs.Lists.{Lists, number}
use Rattle.tg_graph.proofs.Joining.{either_way}
use Rattle.tg_coalescing_round.specs.glue.Lists.{list_at}
use Rattle.tg_coalescing_round.specs.glue.Tables.{state_at, is_waiting, is_related}
use Rattle.tg_coalescing_round.specs.glue.Works.{Work, degree_at, is_open, list_of, stepped, to, from}
use Rattle.tg_coalescing_round.specs.glue.Standing.{shown, state_of, IsOrderly, IsRunOf}
use Rattle.tg_coalescing_round.specs.glue.Advancing.{Advances, SimplifyAdvances}
use Rattle.tg_coalescing_round.proofs.AdvancingMembers.{among_first}
use Rattle.tg_coalescing_round.proofs.AdvancingLosing.{IsBereft}
use Rattle.tg_coalescing_round.proofs.AdvancingOrder.{to_below, from_below, to_same, from_same, listed_ends}
use Rattle.tg_coalescing_round.proofs.AdvancingPossible.{moves_of, in_list, for_simplify, is_simplify, simplify_told, with_parts, at_problem}
use Rattle.tg_coalescing_round.proofs.AdvancingMeasure.{goes_less}
use Rattle.tg_coalescing_round.proofs.AdvancingRuns.{goes_on}
use Rattle.tg_coalescing_round.proofs.AdvancingTaking.{out, built, state_taken, orderly_taken, none_turned}
use Rattle.tg_coalescing_round.proofs.AdvancingRemoving.{built_same, built_bereft}
use Rattle.tg_coalescing_round.proofs.AdvancingSteps.{orderly_stepped, taken}

module _ (x : ℕ) (w : Work) (h : IsOrderly w) (l : x < w.graph.nodes) (o : is_open w x ≡ true)
    (place : (1 == number (list_of w x)) ≡ true) where
  possible : can (shown w) (state_of w) (Simplify x) ≡ true
  possible = simplify_told w (moves_of w h) h.degrees x l o ∙ place

  alone : is_related w.moves x ≡ false
  alone =
      not_true (both (nat_lt (degree_at w x) 25) (not (is_related w.moves x))
      (sym (is_simplify (nat_lt (degree_at w x) 25) (is_related w.moves x)) ∙ place)).1

  module _ (lists : Lists) (degrees : List ℕ) (states : List MoveState) (ready : List ℕ)
      (b : IsBereft (out w h x l o alone) (built w h x l o alone lists degrees states ready)
      (λ z. is_among z (neighbours w.graph x))) where
    abbrev v : Work
    v = built w h x l o alone lists degrees states ready

    state : state_of v ≡ take_out (shown w) (state_of w) x
    state = state_taken w h x l o alone lists degrees states ready b

    not_woken : (i y : ℕ) → is_among i (list_at w.moves.touching y) ≡ true → is_waiting (state_at v.moves i) ≡ true →
        IsFalse (is_woken (shown w) (state_of w) (Simplify x) y)
    not_woken i y ends waits = none_turned w h x l o alone lists degrees states ready b y i ends waits

    still_waits : (i : ℕ) → i < length w.moves.moves → is_waiting (state_at v.moves i) ≡ true →
        can_move (shown v) (state_of v) i ≡ false
    still_waits i k waits =
        subst (λ s. can_move (shown w) s i ≡ false) (sym state)
        (waiting_fails (shown w) (state_of w) (Simplify x) i (either_way w.graph) possible
        (h.ready.waiting i k (b.moves.waiting i waits))
        (subst (λ y. IsFalse (is_woken (shown w) (state_of w) (Simplify x) y)) (sym (to_same w (moves_of w h) i k))
        (not_woken i (to w i) (listed_ends w (moves_of w h) i k (to w i) (to_below w (moves_of w h) i k)
        (or_left _ _ (same_test (to w i) (to w i) refl))) waits))
        (subst (λ y. IsFalse (is_woken (shown w) (state_of w) (Simplify x) y)) (sym (from_same w (moves_of w h) i k))
        (not_woken i (from w i) (listed_ends w (moves_of w h) i k (from w i) (from_below w (moves_of w h) i k)
        (or_right (to w i == from w i) _ (same_test (from w i) (from w i) refl))) waits)))

    orderly : IsOrderly (stepped (Simplify x) v)
    orderly = orderly_stepped (Simplify x) v
        (orderly_taken w h x l o alone lists degrees states ready b still_waits)

    possible_in : (g : Problem) → IsRunOf g w → can g (state_of w) (Simplify x) ≡ true
    possible_in g run =
        at_problem g w run.nodes run.moves
        (λ n ms. can (with_parts g w run.nodes run.moves n ms) (state_of w) (Simplify x) ≡ true) possible

    advances : Advances w (stepped (Simplify x) v)
    advances = record {
      on = record {
        orderly = orderly;
        less = goes_less w (stepped (Simplify x) v) (Simplify x) h orderly refl refl possible state;
      };
      run = λ g run.
          goes_on g w run (stepped (Simplify x) v) (Simplify x)
          (taken g w h run (Simplify x) (possible_in g run) (λ k. absurd (omega arith)) (λ k. absurd (omega arith))
          (λ k. absurd (omega arith)))
          refl state refl refl refl;
    }

pub simplify_advances : SimplifyAdvances
simplify_advances x w h e =
    let at = in_list w h x worklists.Simplify for_simplify (among_first w.lists.simplify x e) in
    let lone = alone x w h at.node at.remains at.place in
    subst (λ v. Advances w (stepped (Simplify x) v)) (sym (built_same w h x at.node at.remains lone))
    (advances x w h at.node at.remains at.place _ _ _ _ (built_bereft w h x at.node at.remains lone))
