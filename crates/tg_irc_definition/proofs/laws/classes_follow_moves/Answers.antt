use Rattle.tg_irc_definition.proofs.Bare.{registers_stand_above}
use Rattle.tg_irc_definition.proofs.Within.{classes_stay_within, untouched_stand_alone, one_neighbour_is_joined}
use Rattle.tg_irc_definition.proofs.Coloured.{classes_are_apart}
use Rattle.tg_irc_definition.proofs.laws.classes_follow_moves.Goals as goal

pub returns-clause-within : goal.returns-clause-within
returns-clause-within c = classes_stay_within

pub returns-clause-untouched : goal.returns-clause-untouched
returns-clause-untouched c = untouched_stand_alone

pub returns-clause-joined : goal.returns-clause-joined
returns-clause-joined c = one_neighbour_is_joined

pub returns-clause-registers : goal.returns-clause-registers
returns-clause-registers c = registers_stand_above

pub returns-clause-apart : goal.returns-clause-apart
returns-clause-apart c = classes_are_apart
