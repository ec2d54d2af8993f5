-- The registers that the code holds, as a list.
use Rattle.std.specs.Prelude.{ℕ, List, [], ◌∷◌}
use Rattle.tg_delay.specs.declared.registers.Registers.{Registers}
use Rattle.tg_delay.specs.declared.registers.Registers.TheVariants.{None, One, Two}

abbrev pub registers_of : Registers → List ℕ
registers_of None = []
registers_of (One r) = r ∷ []
registers_of (Two r s) = r ∷ s ∷ []
