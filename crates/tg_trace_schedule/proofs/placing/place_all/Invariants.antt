use Rattle.std.proofs.Common.{◌≡◌, ◌++◌, map, vec_len}
use Rattle.std.specs.Prelude.{reverse}
use Rattle.tg_trace_schedule.specs.glue.Plains.{plain_blocks}
use Rattle.tg_trace_schedule.specs.mirror.Cutting.{placed}
use Rattle.tg_trace_schedule.proofs.placing.place_all.Given as goal

abbrev pub invariant-loop-block : goal.invariant-loop-block
invariant-loop-block l =
    plain_blocks l.blocks.items ++ map (placed l.places l.last) (reverse (plain_blocks l.rest.items)) ≡
    map (placed l.places l.last) (reverse (plain_blocks l.fn.laid.items))

abbrev pub decreases-loop-block : goal.decreases-loop-block
decreases-loop-block l = vec_len l.rest
