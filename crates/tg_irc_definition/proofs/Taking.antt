-- That a list of steps is taken, each where no step of an earlier kind is possible, by a test that computes.
use Rattle.std.proofs.Common.{◌≡◌, ℕ, zero, suc, ◌<◌, ◌≤◌, Bool, true, false, not, ◌&&◌, ◌||◌, List, [], ◌∷◌, length}
use Rattle.std.proofs.Common.{arith}
use Rattle.std.specs.Prelude.{nat_lt, IsFalse}
use Rattle.tg_irc_definition.specs.declared.steps.Step.{Step}
use Rattle.tg_irc_definition.specs.declared.steps.Step.TheVariants.{Simplify, Same, Constrain, Coalesce, Freeze, Spill}
use Rattle.tg_irc_definition.specs.Graphs.{some}
use Rattle.tg_irc_definition.specs.States.{Problem, RoundState, remains, is_unsettled}
use Rattle.tg_irc_definition.specs.Steps.{can, can_move, kind, after, IsTaken, AreTaken, is_same, is_constrained, is_safe}
use Rattle.tg_irc_definition.specs.laws.Laws.{FirstAreTaken}
use Rattle.tg_irc_definition.proofs.Deciding.{both, and_true, or_left, or_right, clash, never, not_true, none}

module _ (g : Problem) where
  module _ (s : RoundState) where
    -- a step of each kind is possible
    abbrev pub can_simplify : Bool
    can_simplify = some (λ x. can g s (Simplify x)) g.graph.nodes

    abbrev pub can_settle : Bool
    can_settle = some (can_move g s) (length g.moves)

    abbrev pub can_freeze : Bool
    can_freeze = some (λ x. can g s (Freeze x)) g.graph.nodes

    -- none of an earlier kind is
    abbrev pub is_clear : ℕ → Bool
    is_clear zero = true
    is_clear (suc zero) = not can_simplify
    is_clear (suc (suc zero)) = not can_simplify && not can_settle
    is_clear (suc (suc (suc k))) = not can_simplify && not can_settle && not can_freeze

    -- what remains is below the number of nodes
    pub node_of : (x : ℕ) (p q : Bool) → (remains g s x && p && q) ≡ true → nat_lt x g.graph.nodes ≡ true
    node_of x p q h = (both (nat_lt x g.graph.nodes) _ (both _ _ (both (remains g s x) p (both _ q h).0).0).0).0

    pub of_parts : (i : ℕ) → is_unsettled g s i ≡ true →
        (is_same g s i || is_constrained g s i || is_safe g s i) ≡ true → can_move g s i ≡ true
    of_parts i u h = and_true u h

    pub no_simplify : can_simplify ≡ false → (x : ℕ) → IsFalse (can g s (Simplify x))
    no_simplify e = none (λ x. can g s (Simplify x)) g.graph.nodes e (λ x h. node_of x _ _ h)

    pub no_freeze : can_freeze ≡ false → (x : ℕ) → IsFalse (can g s (Freeze x))
    no_freeze e = none (λ x. can g s (Freeze x)) g.graph.nodes e (λ x h. node_of x _ _ h)

    pub no_move : can_settle ≡ false → (i : ℕ) → IsFalse (can_move g s i)
    no_move e = none (can_move g s) (length g.moves) e
        (λ i h. (both (nat_lt i (length g.moves)) _ (both (is_unsettled g s i) _ h).0).0)

    -- a move of which no step is possible
    pub no_same : (i : ℕ) → IsFalse (can_move g s i) → IsFalse (can g s (Same i))
    no_same i n = never (λ h. let b = both (is_unsettled g s i) (is_same g s i) h in
        clash (of_parts i b.0 (or_left _ _ (or_left _ _ b.1))) n)

    pub no_constrain : (i : ℕ) → IsFalse (can_move g s i) → IsFalse (can g s (Constrain i))
    no_constrain i n = never (λ h. let b = both (is_unsettled g s i) (is_constrained g s i) h in
        clash (of_parts i b.0 (or_left _ _ (or_right _ _ b.1))) n)

    pub no_coalesce : (i kept gone : ℕ) (by_briggs : Bool) → IsFalse (can_move g s i) →
        IsFalse (can g s (Coalesce i kept gone by_briggs))
    no_coalesce i kept gone b n =
        never (λ h. let p = both (is_unsettled g s i) (is_safe g s i) (both _ _ (both _ _ (both _ _ h).0).0).0 in
        clash (of_parts i p.0 (or_right _ _ p.1)) n)

    -- no step of an earlier kind is possible
    pub first : (step : Step) →
        (0 < kind g step → (x : ℕ) → IsFalse (can g s (Simplify x))) →
        (1 < kind g step → (i : ℕ) → IsFalse (can_move g s i)) →
        (2 < kind g step → (x : ℕ) → IsFalse (can g s (Freeze x))) →
        (other : Step) → kind g other < kind g step → IsFalse (can g s other)
    first step simplify move freeze (Simplify x) l = simplify l x
    first step simplify move freeze (Same i) l = no_same i (move l i)
    first step simplify move freeze (Constrain i) l = no_constrain i (move l i)
    first step simplify move freeze (Coalesce i kept gone b) l = no_coalesce i kept gone b (move l i)
    first step simplify move freeze (Freeze x) l = freeze l x
    first step simplify move freeze (Spill x) l = let most = at_most step in absurd (omega arith)
      where
        at_most : (step : Step) → kind g step ≤ 3
        at_most (Simplify x) = omega arith
        at_most (Same i) = omega arith
        at_most (Constrain i) = omega arith
        at_most (Coalesce i kept gone b) = omega arith
        at_most (Freeze x) = omega arith
        at_most (Spill x) = omega arith

    abbrev pub is_taken : Step → Bool
    is_taken step = can g s step && is_clear (kind g step)

    no_simplify_before : (k : ℕ) → is_clear k ≡ true → 0 < k → can_simplify ≡ false
    no_simplify_before zero e l = absurd (omega arith)
    no_simplify_before (suc zero) e l = not_true e
    no_simplify_before (suc (suc zero)) e l = not_true (both _ _ e).0
    no_simplify_before (suc (suc (suc k))) e l = not_true (both _ _ (both _ _ e).0).0

    no_settle_before : (k : ℕ) → is_clear k ≡ true → 1 < k → can_settle ≡ false
    no_settle_before zero e l = absurd (omega arith)
    no_settle_before (suc zero) e l = absurd (omega arith)
    no_settle_before (suc (suc zero)) e l = not_true (both _ _ e).1
    no_settle_before (suc (suc (suc k))) e l = not_true (both _ _ (both _ _ e).0).1

    no_freeze_before : (k : ℕ) → is_clear k ≡ true → 2 < k → can_freeze ≡ false
    no_freeze_before zero e l = absurd (omega arith)
    no_freeze_before (suc zero) e l = absurd (omega arith)
    no_freeze_before (suc (suc zero)) e l = absurd (omega arith)
    no_freeze_before (suc (suc (suc k))) e l = not_true (both _ _ e).1

    pub taken : (step : Step) → is_taken step ≡ true → IsTaken g s step
    taken step e =
        let b = both (can g s step) (is_clear (kind g step)) e in
        record {
          possible = b.0;
          first = first step
              (λ l. no_simplify (no_simplify_before (kind g step) b.1 l))
              (λ l. no_move (no_settle_before (kind g step) b.1 l))
              (λ l. no_freeze (no_freeze_before (kind g step) b.1 l));
        }

  abbrev pub are_taken : RoundState → List Step → Bool
  are_taken s [] = true
  are_taken s (step ∷ steps) = is_taken s step && are_taken (after g s step) steps

  pub all_taken : (s : RoundState) (steps : List Step) → are_taken s steps ≡ true → AreTaken g s steps
  all_taken s [] e = tt
  all_taken s (step ∷ steps) e = let b = both (is_taken s step) _ e in
      (taken s step b.0, all_taken (after g s step) steps b.1)

pub first_are_taken : FirstAreTaken
first_are_taken g s step c simplify move freeze =
    record { possible = c; first = first g s step simplify move freeze }
