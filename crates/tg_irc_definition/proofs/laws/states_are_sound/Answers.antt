use Rattle.tg_irc_definition.proofs.Invariants.{sound_at_start, sound_after}
use Rattle.tg_irc_definition.proofs.Classes.{classes_at_start, classes_after}
use Rattle.tg_irc_definition.proofs.Standing.{stands_at_start, stands_after, stands_by_facts}
use Rattle.tg_irc_definition.proofs.laws.states_are_sound.Goals as goal

pub returns-clause-start : goal.returns-clause-start
returns-clause-start c = sound_at_start

pub returns-clause-steps : goal.returns-clause-steps
returns-clause-steps c = sound_after

pub returns-clause-start_classes : goal.returns-clause-start_classes
returns-clause-start_classes c = classes_at_start

pub returns-clause-steps_classes : goal.returns-clause-steps_classes
returns-clause-steps_classes c = classes_after

pub returns-clause-start_standing : goal.returns-clause-start_standing
returns-clause-start_standing c = stands_at_start

pub returns-clause-steps_standing : goal.returns-clause-steps_standing
returns-clause-steps_standing c = stands_after

pub returns-clause-by_facts : goal.returns-clause-by_facts
returns-clause-by_facts c = stands_by_facts
