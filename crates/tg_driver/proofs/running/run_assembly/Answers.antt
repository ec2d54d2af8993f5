use Rattle.tg_driver.specs.Calls.{stream_of, streams_of}
use Rattle.tg_driver.specs.glue.Watched.{HasWatchedRun}
use Rattle.tg_driver.proofs.AnswerLemmas.{assembled_run}
use Rattle.tg_driver.proofs.running.run_assembly.Goals as goal

pub returns-in-Ok-clause-runs : goal.returns-in-Ok-clause-runs
returns-in-Ok-clause-runs g c =
    let streams = streams_of
    (stream_of g.I.Source.left g.I.Source.faults c.args.streams.input.now c.execute.new.streams.0)
    (stream_of g.O.Sink.taken g.O.Sink.faults c.args.streams.out.now c.execute.new.streams.1.0) in
    let runs = HasWatchedRun (λ b. (goal.Watcher-dyn g (b.vtable, b.value)).stands b.value) (λ b. (goal.Watcher-dyn g (b.vtable, b.value)).report b.value)
    c.args.watchers.now.items c.execute.new.watchers.items streams in
    assembled_run runs streams _ c.in-Ok.image _ _ _ c.execute.result c.in-Ok.ensures.image c.execute.ensures.runs
