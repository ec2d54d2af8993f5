-- Which candidate is spilled: what a policy's rule is, and the rule of `LeastUse`.
use Rattle.std.specs.Prelude.{ℕ, ◌==◌, nat_lt, Bool, false, not, ◌&&◌, ◌||◌}
use Rattle.std.specs.Prelude.{List, length, slice_index_or}
use Rattle.std.specs.List.{list_all}
use Rattle.std.specs.Bool.{beq}
use Rattle.tg_irc_definition.specs.declared.candidates.Candidate.{Candidate}

-- which places in a list of candidates may be answered
abbrev pub Rule : Type 0
Rule = List Candidate → ℕ → Bool

abbrev pub candidate_at : List Candidate → ℕ → Candidate
candidate_at candidates place =
    slice_index_or candidates place (record { temp = 0; degree = 0; uses = 0; made = false })

-- by (made, uses, temp), false before true
abbrev pub comes_before : Candidate → Candidate → Bool
comes_before c d =
    (not c.made && d.made) ||
    (beq c.made d.made && (nat_lt c.uses d.uses || (c.uses == d.uses && nat_lt c.temp d.temp)))

-- the first candidate by this order alone
abbrev pub least_use : Rule
least_use candidates place =
    nat_lt place (length candidates) &&
    list_all (λ c. not (comes_before c (candidate_at candidates place))) candidates
