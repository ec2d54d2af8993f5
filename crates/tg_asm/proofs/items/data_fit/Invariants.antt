use Rattle.tg_asm.proofs.DataLoops.{Fits}
use Rattle.tg_asm.proofs.items.data_fit.Given as goal

abbrev pub invariant-loop-operand : goal.invariant-loop-operand
invariant-loop-operand l = Fits l.keyword l.operands l.operand-index
