use Rattle.std.proofs.Common.{◌≡◌, ◌<◌, ℕ, false, length}
use Rattle.tg_irc_definition.specs.Policies.{candidate_at, comes_before}
use Rattle.tg_irc_definition.proofs.policies.LeastUseSpillPolicy.choose.Given as goal

-- no candidate so far comes before the one that was found
abbrev pub invariant-loop-at : goal.invariant-loop-at
invariant-loop-at l =
    (l.least < length l.candidates) ×
    ((k : ℕ) → k < l.at → comes_before (candidate_at l.candidates k) (candidate_at l.candidates l.least) ≡ false)
