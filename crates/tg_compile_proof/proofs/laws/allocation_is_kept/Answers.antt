use Rattle.tg_compile_proof.proofs.Allocated.{allocation_is_kept}
use Rattle.tg_compile_proof.proofs.laws.allocation_is_kept.Goals as goal

pub returns : goal.returns
returns c = allocation_is_kept c.instructions_name_their_own.ensures c.regalloc_is_correct.ensures
