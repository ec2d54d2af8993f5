use Rattle.tg_regalloc_proof.proofs.Sequence.{allocations_keep, frames_keep}
use Rattle.tg_regalloc_proof.proofs.laws.allocations_keep.Goals as goal

pub returns-clause-keep : goal.returns-clause-keep
returns-clause-keep c = allocations_keep c.nodes_are_operands.ensures.alone c.nodes_are_operands.ensures.exist

pub returns-clause-frames : goal.returns-clause-frames
returns-clause-frames c = frames_keep
