use Rattle.tg_lexer.proofs.Excludes.{fault_once}
use Rattle.tg_lexer.proofs.laws.faults_once.Goals as goal

pub returns : goal.returns
returns c = λ text rule other at to f g. let s = fault_once f g in (s.rule_is, s.place_is)
