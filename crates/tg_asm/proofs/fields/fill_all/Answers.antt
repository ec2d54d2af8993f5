use Rattle.tg_asm.proofs.Filling.{filled_uneven, filled_none, filled_more}
use Rattle.tg_asm.proofs.fields.fill_all.Goals as goal

pub returns-then-slots-operands : goal.returns-then-slots-operands
returns-then-slots-operands c = filled_uneven _ _ c.if-slots-operands.true

pub returns-in-None : goal.returns-in-None
returns-in-None c = filled_none _ _ _ _ _ _ c.loop-at.invariant c.loop-at-test.true c.in-None.ensures

pub loop-at-preserved : goal.loop-at-preserved
loop-at-preserved c = filled_more _ _ _ _ _ _ _ c.loop-at.invariant c.loop-at-test.true c.in-Some.ensures
