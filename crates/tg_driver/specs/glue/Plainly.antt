-- Ends whose line names no number.
use Rattle.std.specs.Prelude.{ℕ, ◌≤◌}
use Rattle.tg_machine_state.specs.declared.ends.RunEnd.{RunEnd}
use Rattle.tg_machine_state.specs.declared.ends.RunEnd.TheVariants.{Break, BadAddress, Unaligned}
use Rattle.tg_machine_state.specs.declared.ends.RunEnd.TheVariants.{BadWord}
use Rattle.tg_machine_state.specs.declared.ends.RunEnd.TheVariants.{BadService}

-- the code of a `break` that a compiled program tests for
abbrev pub IsOwnBreak : (code : ℕ) → Type 0
IsOwnBreak n = (2 ≤ n) × (n ≤ 7)

abbrev pub IsPlain : RunEnd → Type 0
IsPlain (Break code) = IsOwnBreak code
IsPlain (BadAddress a) = ⊥
IsPlain (Unaligned a) = ⊥
IsPlain (BadWord w) = ⊥
IsPlain (BadService n) = ⊥
IsPlain _ = Unit {0}
