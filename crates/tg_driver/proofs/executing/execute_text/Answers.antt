use Rattle.tg_command.specs.Commands.{asked_of}
use Rattle.tg_driver.specs.Calls.{stream_of, streams_of}
use Rattle.tg_driver.specs.glue.Watched.{HasWatchedRunBy}
use Rattle.tg_driver.proofs.AnswerLemmas.{executed}
use Rattle.tg_driver.proofs.executing.execute_text.Goals as goal

pub returns-in-Ok-clause-due : goal.returns-in-Ok-clause-due
returns-in-Ok-clause-due g c =
    let streams = streams_of
    (stream_of g.I.Source.left g.I.Source.faults c.args.streams.input.now c.execute_asked.new.streams.0)
    (stream_of g.O.Sink.taken g.O.Sink.faults c.args.streams.out.now c.execute_asked.new.streams.1.0) in
    let runs = HasWatchedRunBy (λ b. (goal.Watcher-dyn g (b.vtable, b.value)).stands b.value) (λ b. (goal.Watcher-dyn g (b.vtable, b.value)).report b.value)
    c.args.command.now.flags.bare c.args.watchers.now.items c.execute_asked.new.watchers.items streams in
    executed runs streams (asked_of c.args.command.now) c.args.text.now c.in-Ok.image c.execute_asked.result c.if-text-gt-LONGEST.false
    c.in-Ok.ensures.image c.execute_asked.ensures.runs
