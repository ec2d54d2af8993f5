use Rattle.tg_irc_definition.proofs.AmongNodes.{rounds_are_of_nodes}
use Rattle.tg_irc_definition.proofs.laws.rounds_are_of_nodes.Goals as goal

pub returns : goal.returns
returns c = rounds_are_of_nodes
