use Rattle.tg_redundancy.proofs.Words.{known_is_short}
use Rattle.tg_redundancy.proofs.laws.known_is_bounded.Goals as goal

pub returns : goal.returns
returns c = known_is_short
