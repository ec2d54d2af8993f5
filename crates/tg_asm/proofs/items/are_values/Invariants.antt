use Rattle.tg_asm.proofs.DataLoops.{AllValues}
use Rattle.tg_asm.proofs.items.are_values.Given as goal

abbrev pub invariant-loop-operand : goal.invariant-loop-operand
invariant-loop-operand l = AllValues l.keyword l.operands l.operand-index
