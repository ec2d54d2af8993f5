use Rattle.tg_asm.specs.glue.Layouts.{layout_of}
use Rattle.tg_asm.specs.Images.{made_of}
use Rattle.tg_asm.proofs.MakingLoops.{InMakingData}
use Rattle.tg_asm.proofs.making.Made.add_values.Given as goal

abbrev pub invariant-loop-operand : goal.invariant-loop-operand
invariant-loop-operand l = InMakingData (layout_of l.layout) (made_of l.initial.self) l.keyword l.operands (made_of l.self) l.operand-index
