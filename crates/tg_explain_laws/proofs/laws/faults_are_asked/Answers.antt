use Rattle.tg_explain_laws.proofs.Asked.{faults_are_asked}
use Rattle.tg_explain_laws.proofs.laws.faults_are_asked.Goals as goal

pub returns : goal.returns
returns c = faults_are_asked c.types_are_told.ensures.0
