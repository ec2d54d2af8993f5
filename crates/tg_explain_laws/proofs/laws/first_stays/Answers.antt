use Rattle.tg_explain_laws.proofs.Growing.{first_stays}
use Rattle.tg_explain_laws.proofs.laws.first_stays.Goals as goal

pub returns : goal.returns
returns c = first_stays
