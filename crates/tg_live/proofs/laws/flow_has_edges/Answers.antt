use Rattle.tg_live.proofs.Turned.{flow_has}
use Rattle.tg_live.proofs.laws.flow_has_edges.Goals as goal

pub returns : goal.returns
returns c = flow_has
