use Rattle.tg_irc_definition.proofs.Bare.{bare_are_first_coloured, spilled_name_classes}
use Rattle.tg_irc_definition.proofs.laws.spilled_are_classes.Goals as goal

pub returns-clause-bare : goal.returns-clause-bare
returns-clause-bare c = bare_are_first_coloured

pub returns-clause-named : goal.returns-clause-named
returns-clause-named c = spilled_name_classes
