use Rattle.tg_parser.proofs.OneFault.{faults_once}
use Rattle.tg_parser.proofs.laws.faults_once.Goals as goal

pub returns : goal.returns
returns c = faults_once
