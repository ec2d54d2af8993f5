use Rattle.std.proofs.Common.{◌≡◌}
use Rattle.tg_trace_schedule.specs.glue.Plains.{plain_blocks, plain_order}
use Rattle.tg_trace_schedule.specs.mirror.Laying.{traces}
use Rattle.tg_trace_schedule.proofs.orders.arrange.Given as goal

abbrev pub invariant-loop-place : goal.invariant-loop-place
invariant-loop-place l = plain_order l.order ≡ traces l.place (plain_blocks l.blocks)
