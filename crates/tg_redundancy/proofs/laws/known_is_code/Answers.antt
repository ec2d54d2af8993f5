use Rattle.tg_redundancy.proofs.Below.{known_is_code}
use Rattle.tg_redundancy.proofs.laws.known_is_code.Goals as goal

pub returns : goal.returns
returns c = known_is_code
