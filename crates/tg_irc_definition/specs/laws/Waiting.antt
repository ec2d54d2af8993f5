-- Which waiting moves a step may let pass: why no other has to be tried again (George and Appel
-- 1996, EnableMoves).
use Rattle.std.specs.Prelude.{◌≡◌, ℕ, ◌==◌, false, not, ◌&&◌, ◌||◌, IsTrue, IsFalse}
use Rattle.tg_irc_definition.specs.declared.steps.Step.{Step}
use Rattle.tg_irc_definition.specs.declared.steps.Step.TheVariants.{Simplify, Coalesce, Spill}
use Rattle.tg_irc_definition.specs.Graphs.{is_register, Set, Pairs, some}
use Rattle.tg_irc_definition.specs.States.{Problem, RoundState, low, to, from}
use Rattle.tg_irc_definition.specs.Steps.{can, can_move, after}

abbrev pub IsSymmetric : Pairs → Type 0
IsSymmetric pairs = (x y : ℕ) → pairs x y ≡ pairs y x

module _ (g : Problem) (s : RoundState) where
  -- a node that the step lets turn from high to low
  abbrev pub turns_low : Step → Set
  turns_low step z =
      s.remaining z && (after g s step).remaining z &&
      not (low g s z) && low g (after g s step) z

  abbrev pub is_by_turned : Step → Set
  is_by_turned step y = some (λ z. turns_low step z && s.pairs z y) g.graph.nodes

  -- The classes whose waiting moves have to be tried again after a step.
  abbrev pub is_woken : Step → Set
  is_woken (Simplify x) y = is_by_turned (Simplify x) y
  is_woken (Spill x) y = s.pairs x y || is_by_turned (Spill x) y
  is_woken (Coalesce i kept gone b) y =
      y == kept || s.pairs gone y || is_by_turned (Coalesce i kept gone b) y
  is_woken _ y = false

  -- a neighbour of a node, or of a temporary among its neighbours
  abbrev pub is_near : ℕ → Set
  is_near x y =
      s.pairs x y ||
      some (λ z. s.remaining z && not (is_register z) && s.pairs x z && s.pairs z y) g.graph.nodes

  -- Those of the rule: the merged node, and what is near a temporary that was merged, removed or
  -- spilled.
  abbrev pub is_disturbed : Step → Set
  is_disturbed (Simplify x) y = is_near x y
  is_disturbed (Spill x) y = is_near x y
  is_disturbed (Coalesce i kept gone b) y =
      y == kept || is_near gone y || (not (is_register kept) && is_near kept y)
  is_disturbed _ y = false

-- a move of which no step is possible stays so, unless one of its ends is woken
abbrev pub WaitingFails : Type 0
WaitingFails =
    (g : Problem) (s : RoundState) (step : Step) (i : ℕ) →
    IsSymmetric s.pairs →
    IsTrue (can g s step) →
    IsFalse (can_move g s i) →
    IsFalse (is_woken g s step (to g (after g s step) i)) →
    IsFalse (is_woken g s step (from g (after g s step) i)) →
    IsFalse (can_move g (after g s step) i)

-- what is woken is disturbed, so the rule tries enough again
abbrev pub WokenAreDisturbed : Type 0
WokenAreDisturbed =
    (g : Problem) (s : RoundState) (step : Step) (y : ℕ) →
    IsSymmetric s.pairs →
    IsTrue (can g s step) →
    IsTrue (is_woken g s step y) →
    IsTrue (is_disturbed g s step y)
