use Rattle.tg_trace_schedule.proofs.Measures.{length_stays, needs_stay}
use Rattle.tg_trace_schedule.proofs.laws.trace_is_bounded.Goals as goal

pub returns : goal.returns
returns c = record { length = length_stays; needs = needs_stay }
