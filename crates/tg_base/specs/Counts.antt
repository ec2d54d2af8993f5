-- Counts of calls and of faults, each kept in a u64 that stands still at its end.
use Rattle.std.specs.Prelude.{ℕ, ◌+◌, ◌-◌, ◌^◌, ◌==◌, min, List, Bool, if◌then◌else◌}
use Rattle.std.specs.List.{list_any}

-- the calls and the faults so far, and the numbers of the calls that fail, counted from 1
pub record Counts : Type 0 where
  pub fails : List ℕ
  pub calls : ℕ
  pub faults : ℕ

-- a count after one more
abbrev pub counted : ℕ → ℕ
counted n = min (n + 1) (2 ^ 64 - 1)

-- before the first call
abbrev pub none_so_far : List ℕ → Counts
none_so_far fails = record { fails = fails; calls = 0; faults = 0 }

-- whether the next call is one of those that fail
abbrev pub next_fails : Counts → Bool
next_fails c = list_any (λ k. k == counted c.calls) c.fails

-- the counts after one more call, which failed or didn't
abbrev pub after_call : Counts → Bool → Counts
after_call c failed = record {
  fails = c.fails;
  calls = counted c.calls;
  faults = if failed then counted c.faults else c.faults;
}
