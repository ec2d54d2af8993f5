use Rattle.tg_irc_definition.proofs.Explaining.{moves_are_explained}
use Rattle.tg_irc_definition.proofs.laws.moves_are_explained.Goals as goal

pub returns : goal.returns
returns c = moves_are_explained
