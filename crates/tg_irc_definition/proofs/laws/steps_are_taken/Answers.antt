use Rattle.tg_irc_definition.proofs.Shrinking.{steps_shrink}
use Rattle.tg_irc_definition.proofs.Running.{runs_go_on, nothing_left_is_over}
use Rattle.tg_irc_definition.proofs.Taking.{first_are_taken}
use Rattle.tg_irc_definition.proofs.laws.steps_are_taken.Goals as goal

pub returns-clause-shrink : goal.returns-clause-shrink
returns-clause-shrink c = steps_shrink

pub returns-clause-first : goal.returns-clause-first
returns-clause-first c = first_are_taken

pub returns-clause-on : goal.returns-clause-on
returns-clause-on c = runs_go_on

pub returns-clause-over : goal.returns-clause-over
returns-clause-over c = nothing_left_is_over
