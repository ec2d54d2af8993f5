use Rattle.tg_semantics.proofs.Twin.{twins}
use Rattle.tg_semantics.proofs.laws.forms_agree.Goals as goal

pub returns : goal.returns
returns c = twins
