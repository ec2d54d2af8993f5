use Rattle.tg_redundancy_proof.proofs.Whole.{known_is_correct}
use Rattle.tg_redundancy_proof.proofs.laws.known_is_correct.Goals as goal

pub returns : goal.returns
returns c = known_is_correct
