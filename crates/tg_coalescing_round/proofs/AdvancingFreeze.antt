-- Freeze.
use Rattle.std.proofs.Common.{◌≡◌, ℕ, ◌<◌, true, List, [], refl, sym, subst, ◌∙◌, arith}
use Rattle.std.specs.Prelude.{◌==◌}
use Rattle.tg_irc_definition.specs.declared.moves.MoveState.{MoveState}
use Rattle.tg_irc_definition.specs.declared.steps.Step.TheVariants.{Freeze}
use Rattle.tg_irc_definition.specs.Steps.{can, freeze}
use Rattle.tg_graph.specs.declared.worklists.Worklist.TheVariants as worklists
use Rattle.tg_graph.specs.Lists.{Lists, number}
use Rattle.tg_coalescing_round.specs.glue.Works.{Work, is_open, list_of, stepped}
use Rattle.tg_coalescing_round.specs.glue.Standing.{shown, state_of, IsOrderly}
use Rattle.tg_coalescing_round.specs.glue.Advancing.{Advances, FreezeAdvances}
use Rattle.tg_coalescing_round.proofs.AdvancingMembers.{among_first}
use Rattle.tg_coalescing_round.proofs.AdvancingPossible.{moves_of, in_list, for_freeze, freeze_told, with_parts, at_problem}
use Rattle.tg_coalescing_round.proofs.AdvancingMeasure.{goes_less}
use Rattle.tg_coalescing_round.proofs.AdvancingRuns.{goes_on}
use Rattle.tg_coalescing_round.proofs.AdvancingSteps.{orderly_stepped, taken}
use Rattle.tg_coalescing_round.proofs.AdvancingFreezing.{IsGivenUp, with_states, of_class, given_class, state_given}

module _ (x : ℕ) (w : Work) (h : IsOrderly w) (simplify : w.lists.simplify ≡ []) (ready : w.moves.ready ≡ [])
    (l : x < w.graph.nodes) (o : is_open w x ≡ true) (place : (2 == number (list_of w x)) ≡ true) where
  possible : can (shown w) (state_of w) (Freeze x) ≡ true
  possible = freeze_told w (moves_of w h) h.degrees x l o ∙ place

  module _ (lists : Lists) (states : List MoveState) (unsettled : List ℕ)
      (b : IsGivenUp w (with_states w lists states unsettled) (of_class w h ready x l)) where
    abbrev v : Work
    v = with_states w lists states unsettled

    state : state_of v ≡ freeze (shown w) (state_of w) x
    state = state_given w h ready x l lists states unsettled b

    advances : Advances w (stepped (Freeze x) v)
    advances = record {
      on = record {
        orderly = orderly_stepped (Freeze x) v b.orderly;
        less = goes_less w (stepped (Freeze x) v) (Freeze x) h (orderly_stepped (Freeze x) v b.orderly) refl refl
            possible state;
      };
      run = λ g run.
          goes_on g w run (stepped (Freeze x) v) (Freeze x)
          (taken g w h run (Freeze x)
          (at_problem g w run.nodes run.moves
          (λ n ms. can (with_parts g w run.nodes run.moves n ms) (state_of w) (Freeze x) ≡ true) possible)
          (λ k. simplify) (λ k. ready) (λ k. absurd (omega arith)))
          refl
          (at_problem g w run.nodes run.moves
          (λ n ms. state_of v ≡ freeze (with_parts g w run.nodes run.moves n ms) (state_of w) x) state)
          refl refl refl;
    }

pub freeze_advances : FreezeAdvances
freeze_advances x w h simplify ready e =
    let at = in_list w h x worklists.Freeze for_freeze (among_first w.lists.freeze x e) in
    let given = given_class w h ready x at.node in
    subst (λ v. Advances w (stepped (Freeze x) v)) (sym given.same)
    (advances x w h simplify ready at.node at.remains at.place _ _ _
    (subst (λ v. IsGivenUp w v (of_class w h ready x at.node)) given.same given))
