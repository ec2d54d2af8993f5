-- A step more in the list of steps changes nothing else, and where nothing is listed earlier a step is taken.
use Rattle.std.proofs.Common.{◌≡◌, ◌<◌, [], ◌∷◌, ◌++◌, true, refl}
use Rattle.tg_irc_definition.specs.declared.steps.Step.{Step}
use Rattle.tg_irc_definition.specs.declared.steps.Step.TheVariants.{Simplify, Freeze}
use Rattle.std.specs.Prelude.{IsFalse}
use Rattle.tg_irc_definition.specs.States.{Problem}
use Rattle.tg_irc_definition.specs.Steps.{can, can_move, kind, IsTaken}
use Rattle.tg_irc_definition.proofs.Taking.{first_are_taken}
use Rattle.tg_coalescing_round.specs.glue.Works.{Work, stepped}
use Rattle.tg_coalescing_round.specs.glue.Standing.{state_of, IsOrderly, IsRunOf}
use Rattle.tg_coalescing_round.proofs.AdvancingKept.{kept_of, kept_restated, orderly_of}
use Rattle.tg_coalescing_round.proofs.AdvancingPossible.{with_parts, at_problem, no_simplify, no_freeze, no_move}

pub orderly_stepped : (step : Step) (w : Work) → IsOrderly w → IsOrderly (stepped step w)
orderly_stepped step w h =
    orderly_of (stepped step w)
    (kept_restated w (kept_of w h) w.moves.states w.moves.ready (w.steps ++ step ∷ []) h.table (λ i. refl))
    (record { exact = h.ready.exact; distinct = h.ready.distinct; waiting = h.ready.waiting })

-- a step of a run that is possible and before which nothing is listed
module _ (g : Problem) (w : Work) (h : IsOrderly w) (run : IsRunOf g w) (step : Step)
    (possible : can g (state_of w) step ≡ true) where
  pub taken : (0 < kind g step → w.lists.simplify ≡ []) → (1 < kind g step → w.moves.ready ≡ []) →
      (2 < kind g step → w.lists.freeze ≡ []) → IsTaken g (state_of w) step
  taken simplify ready freeze =
      first_are_taken g (state_of w) step possible
      (λ l x. at_problem g w run.nodes run.moves
      (λ n ms. IsFalse (can (with_parts g w run.nodes run.moves n ms) (state_of w) (Simplify x)))
      (no_simplify w h (simplify l) x))
      (λ l i. at_problem g w run.nodes run.moves
      (λ n ms. IsFalse (can_move (with_parts g w run.nodes run.moves n ms) (state_of w) i))
      (no_move w h (ready l) i))
      (λ l x. at_problem g w run.nodes run.moves
      (λ n ms. IsFalse (can (with_parts g w run.nodes run.moves n ms) (state_of w) (Freeze x)))
      (no_freeze w h (freeze l) x))
