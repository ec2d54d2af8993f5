use Rattle.tg_irc_definition.proofs.Classes.{pairs_are_of_classes}
use Rattle.tg_irc_definition.proofs.laws.pairs_are_of_classes.Goals as goal

pub returns : goal.returns
returns c = pairs_are_of_classes
