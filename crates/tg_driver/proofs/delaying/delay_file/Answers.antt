use Rattle.tg_command.specs.Commands.{asked_of}
use Rattle.tg_driver.specs.Calls.{shelf_of}
use Rattle.tg_driver.proofs.AnswerLemmas.{of_text, of_unread}
use Rattle.tg_driver.proofs.BareAnswers.{gives_bare}
use Rattle.tg_driver.proofs.GivenTexts.{gives_unread}
use Rattle.tg_driver.proofs.delaying.delay_file.Goals as goal

pub returns-in-Ok-clause-due : goal.returns-in-Ok-clause-due
returns-in-Ok-clause-due g c =
    of_text _ _ _ _ _ _ (rw c.as_str.ensures.value at c.in-Ok.ensures.front)
    (rw c.passes_of.ensures at rw c.deref.ensures.value at c.delay_source-answer.ensures.due)

pub returns-in-Err-clause-due : goal.returns-in-Err-clause-due
returns-in-Err-clause-due g c = rw c.unread.ensures (of_unread _ _ _ _ _ (rw c.as_str.ensures.value at c.in-Err.ensures.cause))

pub returns-in-Ok-clause-source : goal.returns-in-Ok-clause-source
returns-in-Ok-clause-source g c =
    gives_bare (shelf_of g.H.Shelf.files g.H.Shelf.faults c.args.shelf.now c.read_file.new.self) (asked_of c.args.command.now).file _ _ _ _
    (rw c.as_str.ensures.value at c.in-Ok.ensures.front) (rw c.deref.ensures.value at c.delay_source-answer.ensures.due)

pub returns-in-Err-clause-source : goal.returns-in-Err-clause-source
returns-in-Err-clause-source g c =
    rw c.unread.ensures (gives_unread (shelf_of g.H.Shelf.files g.H.Shelf.faults c.args.shelf.now c.read_file.new.self) (asked_of c.args.command.now).file _ _)
