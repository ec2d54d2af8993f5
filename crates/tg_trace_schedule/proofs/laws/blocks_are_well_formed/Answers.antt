use Rattle.tg_trace_schedule.proofs.Flats.{blocks_are_flat}
use Rattle.tg_trace_schedule.proofs.Wholes.{blocks_are_whole}
use Rattle.tg_trace_schedule.proofs.TracesHeads.{blocks_are_entered}
use Rattle.tg_trace_schedule.proofs.laws.blocks_are_well_formed.Goals as goal

pub returns : goal.returns
returns c = record { flat = blocks_are_flat; whole = blocks_are_whole; entered = blocks_are_entered }
