-- Generated programs are sources.
use Rattle.std.specs.Prelude.{ℕ, ◌≤◌}
use Rattle.tg_program_generator.specs.Generated.{generated}
use Rattle.tg_correctness.specs.Sources.{IsSource}

-- the generated program of 1 to 1000 functions is a program that typing accepts
abbrev pub GeneratedIsAccepted : Type 0
GeneratedIsAccepted = (n : ℕ) → 1 ≤ n → n ≤ 1000 → IsSource (generated n)
