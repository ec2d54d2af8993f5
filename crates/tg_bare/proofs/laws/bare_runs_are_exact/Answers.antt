use Rattle.tg_bare.proofs.Exact.{runs_are_exact}
use Rattle.tg_bare.proofs.laws.bare_runs_are_exact.Goals as goal

pub returns : goal.returns
returns g c = runs_are_exact
