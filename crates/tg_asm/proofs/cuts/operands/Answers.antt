use Rattle.std.proofs.Common.{sym, ap, map}
use Rattle.tg_asm.specs.glue.Cuts.{operand_of, gap_of}
use Rattle.tg_asm.proofs.CutLoops.{operands_begin, operands_shorter, operands_pushed, operand_pushed}
use Rattle.tg_asm.proofs.cuts.operands.Goals as goal

pub loop-before-init : goal.loop-before-init
loop-before-init c = operands_begin _ _ _ (ap (map operand_of) c.new-list.ensures.items) c.first_gap-before.ensures

pub loop-before-smaller : goal.loop-before-smaller
loop-before-smaller c = operands_shorter _ _ _ _ _ (ap gap_of c.in-Next.is) (sym c.in-Some.ensures) c.next_gap-before.ensures

pub loop-before-preserved : goal.loop-before-preserved
loop-before-preserved c = operands_pushed _ _ _ _ _ _ _ _ c.loop-before.invariant (ap gap_of c.in-Next.is)
    (sym c.in-Some.ensures) (operand_pushed _ _ _ c.in_ok-push-in-Some.ensures.items) c.next_gap-before.ensures
