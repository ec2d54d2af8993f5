use Rattle.tg_bare_proof.proofs.OnMachine.{delayed_run_on_the_machine}
use Rattle.tg_bare_proof.proofs.laws.delayed_run_on_the_machine.Goals as goal

pub returns : goal.returns
returns c = delayed_run_on_the_machine
