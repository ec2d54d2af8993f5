use Rattle.std.proofs.Common.{◌≡◌, ◌-◌, length}
use Rattle.tg_trace_schedule.specs.glue.Plains.{plain_blocks, plain_order}
use Rattle.tg_trace_schedule.specs.mirror.Laying.{follow}
use Rattle.tg_trace_schedule.proofs.orders.follow.Given as goal

abbrev pub invariant-loop-step : goal.invariant-loop-step
invariant-loop-step l =
    follow (length l.blocks - l.step) (plain_blocks l.blocks) l.next (plain_order l.order) ≡ follow (length l.blocks)
    (plain_blocks l.blocks) l.fn.first (plain_order l.fn.order)
