use Rattle.tg_asm.proofs.LayoutLoops.{Summed}
use Rattle.tg_asm.proofs.layouts.widths.Given as goal

abbrev pub invariant-loop-operand : goal.invariant-loop-operand
invariant-loop-operand l = Summed l.keyword l.operands l.total l.operand-index
