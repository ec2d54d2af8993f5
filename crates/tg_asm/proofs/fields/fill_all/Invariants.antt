use Rattle.tg_asm.specs.glue.Registers.{fields_of}
use Rattle.tg_asm.proofs.Filling.{Filled}
use Rattle.tg_asm.proofs.fields.fill_all.Given as goal

abbrev pub invariant-loop-at : goal.invariant-loop-at
invariant-loop-at l = Filled l.slots l.operands (fields_of l.fields) l.at
