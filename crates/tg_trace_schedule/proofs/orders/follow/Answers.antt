use Rattle.std.proofs.Common.{◌-◌, length}
use Rattle.tg_trace_schedule.specs.glue.Plains.{plain_blocks, plain_order}
use Rattle.tg_trace_schedule.proofs.Rests.{follow_step, follow_stops}
use Rattle.tg_trace_schedule.proofs.orders.follow.Goals as goal

pub returns-in-None : goal.returns-in-None
returns-in-None c =
    follow_stops (length c.args.blocks.now - c.loop-step.step) (plain_blocks c.args.blocks.now) c.loop-step.next
    (plain_order c.loop-step.order) _ c.in-None.is c.loop-step.invariant

pub loop-step-preserved : goal.loop-step-preserved
loop-step-preserved c =
    follow_step (length c.args.blocks.now) c.loop-step.step (plain_blocks c.args.blocks.now) c.loop-step.next
    c.onward_at-next.result c.in-Some.place (plain_order c.loop-step.order) (plain_order c.put.new.order) _
    c.deref.result.now c.loop-step-test.true c.in-Some.is c.in_ok-put.ensures c.deref.ensures.value c.onward_at-next.ensures c.loop-step.invariant
