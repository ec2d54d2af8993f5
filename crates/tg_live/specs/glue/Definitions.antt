-- What an instruction defines, which but for a call is one operand at most.
use Rattle.std.specs.Prelude.{List, [], ◌∷◌}
use Rattle.tg_instr.specs.declared.operands.Opnd.{Opnd}
use Rattle.tg_instr.specs.Operands.{registers}
use Rattle.tg_instr.specs.Uses.{clobbered}
use Rattle.tg_live.specs.declared.definitions.Defined.{Defined}
use Rattle.tg_live.specs.declared.definitions.Defined.TheVariants.{Nothing, One, Clobbered}

abbrev pub operands_in : Defined → List Opnd
operands_in Nothing = []
operands_in (One x) = x ∷ []
operands_in Clobbered = registers clobbered

abbrev pub first_in : List Opnd → Defined
first_in [] = Nothing
first_in (x ∷ rest) = One x
