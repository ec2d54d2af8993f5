use Rattle.std.proofs.Common.{◌≡◌, ◌+◌, drop}
use Rattle.tg_trace_schedule.specs.glue.Plains.{come_to}
use Rattle.tg_trace_schedule.proofs.cutting.come_to.Given as goal

abbrev pub invariant-loop-place : goal.invariant-loop-place
invariant-loop-place l = come_to l.all ≡ l.place + come_to (drop l.place l.all)
