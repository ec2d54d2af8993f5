use Rattle.std.proofs.Common.{◌≡◌, ◌++◌, drop}
use Rattle.tg_trace_schedule.specs.glue.Plains.{plain_blocks}
use Rattle.tg_show.specs.Blocks.{blocks_lines}
use Rattle.tg_show.proofs.blocks.put_blocks_lines.Given as goal

abbrev pub invariant-loop-place : goal.invariant-loop-place
invariant-loop-place l =
    l.initial.text.items ++ blocks_lines l.names 0 (plain_blocks l.list)
    ≡ l.text.items ++ blocks_lines l.names l.place (plain_blocks (drop l.place l.list))
