use Rattle.tg_trace_schedule.proofs.BlocksRuns.{blocks_step, blocks_stay_over, blocks_only_go_on}
use Rattle.tg_trace_schedule.proofs.laws.blocks_run.Goals as goal

pub returns : goal.returns
returns c = record { step = blocks_step; over = blocks_stay_over; on = blocks_only_go_on }
