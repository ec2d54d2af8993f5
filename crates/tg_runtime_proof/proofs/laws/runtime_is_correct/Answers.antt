use Rattle.tg_runtime_proof.proofs.Whole.{runtime_is_correct}
use Rattle.tg_runtime_proof.proofs.laws.runtime_is_correct.Goals as goal

pub returns : goal.returns
returns c = runtime_is_correct
