-- The count of faults of an adapter.
use Rattle.std.specs.Prelude.{ℕ, Bool, if◌then◌else◌}
use Rattle.tg_base.specs.Counts.{counted}

-- a count after one more call, which failed or didn't
abbrev pub faults_after : ℕ → Bool → ℕ
faults_after before failed = if failed then counted before else before
