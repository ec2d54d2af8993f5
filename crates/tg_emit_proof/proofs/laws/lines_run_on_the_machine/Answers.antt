use Rattle.tg_emit_proof.proofs.OnMachine.{lines_run_on_the_machine}
use Rattle.tg_emit_proof.proofs.laws.lines_run_on_the_machine.Goals as goal

pub returns : goal.returns
returns c = lines_run_on_the_machine
