use Rattle.tg_regalloc.proofs.Shortness.{allocations_are_short, all_in_frame_is_last}
use Rattle.tg_regalloc.proofs.growth.allocations_are_short.Goals as goal

pub returns-clause-short : goal.returns-clause-short
returns-clause-short c = allocations_are_short

pub returns-clause-last : goal.returns-clause-last
returns-clause-last c = all_in_frame_is_last
