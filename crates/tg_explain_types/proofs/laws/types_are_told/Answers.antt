use Rattle.tg_explain_types.proofs.Agreement.{tests_agree, standard_agrees}
use Rattle.tg_explain_types.proofs.laws.types_are_told.Goals as goal

pub returns : goal.returns
returns c = (tests_agree, standard_agrees)
