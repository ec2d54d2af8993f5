use Rattle.tg_graph.proofs.Joining.{registers_alone}
use Rattle.tg_graph.proofs.laws.registers_interfere.Goals as goal

pub returns : goal.returns
returns c = registers_alone
