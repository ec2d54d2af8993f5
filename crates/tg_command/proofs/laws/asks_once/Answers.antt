use Rattle.tg_command.proofs.CommandLemmas.{asked_once, asked_no_fault}
use Rattle.tg_command.proofs.laws.asks_once.Goals as goal

pub returns-clause-once : goal.returns-clause-once
returns-clause-once c = asked_once

pub returns-clause-none : goal.returns-clause-none
returns-clause-none c = asked_no_fault
