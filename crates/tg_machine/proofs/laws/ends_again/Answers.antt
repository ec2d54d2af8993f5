use Rattle.tg_machine.proofs.Ending.{ends_again, steps_end_again}
use Rattle.tg_machine.proofs.laws.ends_again.Goals as goal

pub returns-clause-run : goal.returns-clause-run
returns-clause-run g c = ends_again

pub returns-clause-step : goal.returns-clause-step
returns-clause-step g c = steps_end_again
