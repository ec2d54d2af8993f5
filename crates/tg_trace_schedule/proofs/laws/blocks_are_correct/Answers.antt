use Rattle.tg_trace_schedule.proofs.BlocksBodies.{bodies_carried, blocks_keep_programs}
use Rattle.tg_trace_schedule.proofs.laws.blocks_are_correct.Goals as goal

pub returns : goal.returns
returns c = record { bodies = bodies_carried; programs = blocks_keep_programs }
