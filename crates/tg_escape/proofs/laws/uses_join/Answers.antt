use Rattle.tg_escape.proofs.Joins.{uses_join}
use Rattle.tg_escape.proofs.laws.uses_join.Goals as goal

pub returns : goal.returns
returns c = uses_join
