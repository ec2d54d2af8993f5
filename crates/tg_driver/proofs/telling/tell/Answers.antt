use Rattle.std.proofs.Common.{ℕ, List, ◌++◌, subst}
use Rattle.tg_driver.specs.Calls.{stream_of, Takes}
use Rattle.tg_driver.specs.Statuses.{status_of}
use Rattle.tg_driver.proofs.Watched.{took_told, took_part}
use Rattle.tg_driver.proofs.telling.tell.Goals as goal

pub returns-in-Ok-clause-told : goal.returns-in-Ok-clause-told
returns-in-Ok-clause-told g c =
    let sink = stream_of g.E.Sink.taken g.E.Sink.faults c.args.err.now c.write_lines.new.err in
    let due = status_of c.args.answer in
    let P : List ℕ → Type 0 = λ line. Takes sink (line ++ c.args.explanation.now) due 74 due in
    rw c.status.ensures (subst P c.requires
    (took_told g.E.Sink.taken g.E.Sink.faults c.args.err.now c.write_lines.new.err _ (c.args.line.now ++ c.args.explanation.now) due 74 c.in-Ok.ensures))

pub returns-in-Err-clause-told : goal.returns-in-Err-clause-told
returns-in-Err-clause-told g c =
    let sink = stream_of g.E.Sink.taken g.E.Sink.faults c.args.err.now c.write_lines.new.err in
    let due = status_of c.args.answer in
    let P : List ℕ → Type 0 = λ line. Takes sink (line ++ c.args.explanation.now) due 74 74 in
    subst P c.requires
    (took_part g.E.Sink.taken g.E.Sink.faults c.args.err.now c.write_lines.new.err _ (c.args.line.now ++ c.args.explanation.now) due 74 c.in-Err.ensures)

pub returns-in-Ok-clause-later : goal.returns-in-Ok-clause-later
returns-in-Ok-clause-later g c = c.in-Ok.ensures.cause.later

pub returns-in-Err-clause-later : goal.returns-in-Err-clause-later
returns-in-Err-clause-later g c = c.in-Err.ensures.cause.later
