use Rattle.tg_driver.proofs.ExactRuns.{exact_run}
use Rattle.tg_driver.proofs.laws.runs_are_exact.Goals as goal

pub returns : goal.returns
returns g c = exact_run
