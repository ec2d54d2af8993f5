use Rattle.tg_regalloc_proof.proofs.Programs.{allocation_keeps}
use Rattle.tg_regalloc_proof.proofs.laws.regalloc_is_correct.Goals as goal

pub returns : goal.returns
returns c = allocation_keeps c.allocations_keep.ensures.keep c.regalloc_is_bounded.ensures
