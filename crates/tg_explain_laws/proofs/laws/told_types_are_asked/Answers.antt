use Rattle.tg_explain_laws.proofs.Told.{told_types_are_asked}
use Rattle.tg_explain_laws.proofs.laws.told_types_are_asked.Goals as goal

pub returns : goal.returns
returns c = told_types_are_asked c.types_are_told.ensures.0
