use Rattle.tg_semantics.proofs.GoingOn.{nothing_taken_back}
use Rattle.tg_semantics.proofs.laws.nothing_is_taken_back.Goals as goal

pub returns : goal.returns
returns c = nothing_taken_back
