use Rattle.tg_trace_schedule.proofs.Names as names
use Rattle.tg_trace_schedule.proofs.laws.names_stay.Goals as goal

pub returns : goal.returns
returns c = names.names_stay
