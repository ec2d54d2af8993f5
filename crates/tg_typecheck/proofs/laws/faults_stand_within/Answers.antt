use Rattle.tg_typecheck.proofs.FaultBytes.{faults_stand_within}
use Rattle.tg_typecheck.proofs.laws.faults_stand_within.Goals as goal

pub returns : goal.returns
returns c = faults_stand_within
