use Rattle.tg_regalloc_proof.proofs.Kept.{replaced_keeps}
use Rattle.tg_regalloc_proof.proofs.laws.replaced_functions_keep.Goals as goal

pub returns : goal.returns
returns c = replaced_keeps
