use Rattle.tg_driver.proofs.BareRuns.{bare_runs_are_meant}
use Rattle.tg_driver.proofs.laws.bare_runs_are_as_meant.Goals as goal

pub returns : goal.returns
returns g c = bare_runs_are_meant c.bare_ends_are_as_meant.ensures.ended c.bare_ends_are_as_meant.ensures.running
