use Rattle.std.proofs.Common.{sym, ap, ◌∙◌}
use Rattle.tg_interference.specs.Nodes.{node_of}
use Rattle.tg_interference.proofs.Colours.{node_of_temp}
use Rattle.tg_interference.proofs.nodes.node_of.Goals as goal

pub returns-in-Temp : goal.returns-in-Temp
returns-in-Temp c = node_of_temp c.in-Temp.temp.0 ∙ ap node_of (sym c.in-Temp.is)
