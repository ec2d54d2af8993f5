use Rattle.tg_bare.proofs.Exact.{ends_again}
use Rattle.tg_bare.proofs.laws.bare_ends_again.Goals as goal

pub returns : goal.returns
returns g c = ends_again
