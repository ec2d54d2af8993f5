use Rattle.tg_redundancy_proof.proofs.Kept.{known_code_keeps}
use Rattle.tg_redundancy_proof.proofs.laws.known_code_keeps.Goals as goal

pub returns : goal.returns
returns c = known_code_keeps
