use Rattle.std.proofs.Common.{◌++◌, refl}
use Rattle.tg_driver.specs.Endings.{end_line, end_status}
use Rattle.tg_driver.proofs.Watched.{took_told, took_part}
use Rattle.tg_driver.proofs.telling.tell_run.Goals as goal

pub returns-in-Ok-clause-told : goal.returns-in-Ok-clause-told
returns-in-Ok-clause-told g c = λ reports tell.
    rw c.end_status.ensures (took_told g.E.Sink.taken g.E.Sink.faults c.args.err.now c.write_run.new.err _
    (reports ++ (end_line c.args.end ++ c.args.explanation.now)) (end_status c.args.end) 74 (c.in-Ok.ensures reports tell))

pub returns-in-Err-clause-told : goal.returns-in-Err-clause-told
returns-in-Err-clause-told g c = λ reports tell.
    took_part g.E.Sink.taken g.E.Sink.faults c.args.err.now c.write_run.new.err _
    (reports ++ (end_line c.args.end ++ c.args.explanation.now)) (end_status c.args.end) 74 (c.in-Err.ensures reports tell)

pub returns-in-Ok-clause-later : goal.returns-in-Ok-clause-later
returns-in-Ok-clause-later g c =
    (c.in-Ok.ensures _ (record { seen = c.requires.0; code = c.requires.1; stand = c.requires.2; reports_are = refl })).cause.later

pub returns-in-Err-clause-later : goal.returns-in-Err-clause-later
returns-in-Err-clause-later g c =
    (c.in-Err.ensures _ (record { seen = c.requires.0; code = c.requires.1; stand = c.requires.2; reports_are = refl })).cause.later
