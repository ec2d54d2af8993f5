use Rattle.tg_parser.proofs.OneFault.{fault_excludes_program}
use Rattle.tg_parser.proofs.laws.fault_excludes_program.Goals as goal

pub returns : goal.returns
returns c = fault_excludes_program
