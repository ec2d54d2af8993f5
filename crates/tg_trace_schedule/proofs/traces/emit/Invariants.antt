use Rattle.std.proofs.Common.{◌≡◌, ◌++◌, drop}
use Rattle.tg_tree.specs.glue.Lists.{code_of}
use Rattle.tg_trace_schedule.specs.glue.Plains.{plain_blocks}
use Rattle.tg_trace_schedule.specs.mirror.Laying.{code_in}
use Rattle.tg_trace_schedule.proofs.traces.emit.Given as goal

abbrev pub invariant-loop-at : goal.invariant-loop-at
invariant-loop-at l =
    code_of l.code.items ++ code_in (drop l.at l.order) (plain_blocks l.blocks.items) ≡ code_in l.order (plain_blocks l.fn.blocks.items)
