use Rattle.tg_irc_definition.proofs.Waiting.{waiting_fails, woken_are_disturbed}
use Rattle.tg_irc_definition.proofs.laws.waiting_fails.Goals as goal

pub returns-clause-fails : goal.returns-clause-fails
returns-clause-fails c = waiting_fails

pub returns-clause-woken : goal.returns-clause-woken
returns-clause-woken c = woken_are_disturbed
