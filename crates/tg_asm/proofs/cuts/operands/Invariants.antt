use Rattle.std.proofs.Common.{map}
use Rattle.tg_asm.specs.glue.Cuts.{gap_of, operand_of}
use Rattle.tg_asm.proofs.CutLoops.{InOperands, room}
use Rattle.tg_asm.proofs.cuts.operands.Given as goal

abbrev pub invariant-loop-before : goal.invariant-loop-before
invariant-loop-before l = InOperands l.text (map operand_of l.list.items) (gap_of l.before)

abbrev pub decreases-loop-before : goal.decreases-loop-before
decreases-loop-before l = room (gap_of l.before)
