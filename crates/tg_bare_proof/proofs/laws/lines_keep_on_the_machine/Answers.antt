use Rattle.tg_bare_proof.proofs.Agreeing.{lines_keep_on_the_machine}
use Rattle.tg_bare_proof.proofs.laws.lines_keep_on_the_machine.Goals as goal

pub returns : goal.returns
returns c = lines_keep_on_the_machine c.delaying_keeps_runs.ensures c.delayed_run_on_the_machine.ensures
