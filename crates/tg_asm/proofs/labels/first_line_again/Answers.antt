use Rattle.tg_asm.proofs.Orders.{passed_begin, passed_more, passed_end}
use Rattle.tg_asm.proofs.labels.first_line_again.Goals as goal

pub loop-at-init : goal.loop-at-init
loop-at-init c = passed_begin _

pub loop-at-preserved : goal.loop-at-preserved
loop-at-preserved c = passed_more _ c.loop-at.first c.earlier-first.result c.again.result c.loop-at.at c.index-entries-at.result
    c.index-entries-at-in-loop-at.result c.loop-at.invariant c.loop-at-test.true c.index-entries-at.is c.index-entries-at-in-loop-at.is c.again.ensures
    c.earlier-first.ensures

pub returns : goal.returns
returns c = passed_end _ _ _ c.loop-at.invariant c.loop-at-test.false
