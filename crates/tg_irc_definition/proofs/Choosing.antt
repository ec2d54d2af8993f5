-- The first candidate by the order of `LeastUse`.
use Rattle.std.proofs.Common.{◌≡◌, ℕ, ◌<◌, Bool, true, false, not, ◌&&◌, List, length, ap, ◌∙◌}
use Rattle.std.proofs.lemmas.Bool.{lt-ltb}
use Rattle.std.proofs.lemmas.List.{get_or_default}
use Rattle.std.proofs.lemmas.List.Sums.{list_all-from_AllPass}
use Rattle.tg_irc_definition.specs.declared.candidates.Candidate.{Candidate}
use Rattle.tg_irc_definition.specs.Policies.{candidate_at, comes_before, least_use}

-- what no candidate comes before is allowed
pub least_is_allowed : (cs : List Candidate) (at : ℕ) → at < length cs →
    ((k : ℕ) → k < length cs → comes_before (candidate_at cs k) (candidate_at cs at) ≡ false) →
    least_use cs at ≡ true
least_is_allowed cs at l h =
    and_true (lt-ltb _ _ l)
    (list_all-from_AllPass (λ c. not (comes_before c (candidate_at cs at))) cs
    (λ k d m. ap (λ c. not (comes_before c (candidate_at cs at))) (get_or_default cs k d _ m) ∙ ap not (h k m)))
  where
    and_true : {p q : Bool} → p ≡ true → q ≡ true → (p && q) ≡ true
    and_true {p = true} e f = f
    and_true {p = false} e f = cc
