use Rattle.tg_trace_schedule.proofs.TracesShapes.{false_side_follows}
use Rattle.tg_trace_schedule.proofs.TracesLed.{jumps_are_back}
use Rattle.tg_trace_schedule.proofs.laws.traces_go_on.Goals as goal

pub returns : goal.returns
returns c = record { branches = false_side_follows; jumps = jumps_are_back }
