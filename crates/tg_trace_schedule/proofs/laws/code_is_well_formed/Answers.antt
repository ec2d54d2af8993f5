use Rattle.tg_trace_schedule.proofs.Marks.{code_is_flat, code_is_well_marked}
use Rattle.tg_trace_schedule.proofs.laws.code_is_well_formed.Goals as goal

pub returns : goal.returns
returns c = record { flat = code_is_flat; marks = code_is_well_marked }
