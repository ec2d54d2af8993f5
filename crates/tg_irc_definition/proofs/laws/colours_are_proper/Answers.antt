use Rattle.tg_irc_definition.proofs.ProperColouring.{colours_differ, registers_are_coloured, colours_are_registers}
use Rattle.tg_irc_definition.proofs.Coloured.{each_is_coloured}
use Rattle.tg_irc_definition.proofs.laws.colours_are_proper.Goals as goal

pub returns-clause-differ : goal.returns-clause-differ
returns-clause-differ c = colours_differ

pub returns-clause-registers : goal.returns-clause-registers
returns-clause-registers c = registers_are_coloured

pub returns-clause-below : goal.returns-clause-below
returns-clause-below c = colours_are_registers

pub returns-clause-each : goal.returns-clause-each
returns-clause-each c = each_is_coloured
