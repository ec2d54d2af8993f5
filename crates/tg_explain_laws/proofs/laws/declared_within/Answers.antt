use Rattle.tg_explain_laws.proofs.Seen.{declared_within}
use Rattle.tg_explain_laws.proofs.laws.declared_within.Goals as goal

pub returns : goal.returns
returns c = declared_within
