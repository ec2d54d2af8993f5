use Rattle.tg_irc_definition.proofs.Selecting.{colourable_never_spills}
use Rattle.tg_irc_definition.proofs.laws.colourable_never_spills.Goals as goal

pub returns : goal.returns
returns c = colourable_never_spills
