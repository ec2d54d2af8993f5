use Rattle.std.proofs.Common.{sym, ◌∙◌}
use Rattle.tg_asm.proofs.Splits.{split_step, split_here, split_end}
use Rattle.tg_asm.proofs.bytes.split.Goals as goal

pub returns-then-is_in-clause-front : goal.returns-then-is_in-clause-front
returns-then-is_in-clause-front c = c.split_at.ensures.front ∙ (split_here _ _ _ c.loop-at.invariant c.loop-at-test.true (sym c.if-is_in.ensures)).0

pub returns-then-is_in-clause-back : goal.returns-then-is_in-clause-back
returns-then-is_in-clause-back c = c.split_at.ensures.back ∙ (split_here _ _ _ c.loop-at.invariant c.loop-at-test.true (sym c.if-is_in.ensures)).1

pub loop-at-preserved : goal.loop-at-preserved
loop-at-preserved c = split_step _ _ _ c.loop-at.invariant c.loop-at-test.true (sym c.if-is_in.ensures)

pub returns-clause-front : goal.returns-clause-front
returns-clause-front c = c.split_at-2.ensures.front ∙ (split_end _ _ _ c.loop-at.invariant c.loop-at-test.false).0

pub returns-clause-back : goal.returns-clause-back
returns-clause-back c = c.split_at-2.ensures.back ∙ (split_end _ _ _ c.loop-at.invariant c.loop-at-test.false).1
