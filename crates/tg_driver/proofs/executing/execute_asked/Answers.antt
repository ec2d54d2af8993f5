use Rattle.tg_driver.specs.Calls.{stream_of, streams_of}
use Rattle.tg_driver.proofs.Watched.{bare_by_flag, plain_by_flag}
use Rattle.tg_driver.proofs.executing.execute_asked.Goals as goal

pub returns-then-bare-clause-runs : goal.returns-then-bare-clause-runs
returns-then-bare-clause-runs g c =
    let streams = streams_of
    (stream_of g.I.Source.left g.I.Source.faults c.args.streams.input.now c.execute_bare.new.streams.0)
    (stream_of g.O.Sink.taken g.O.Sink.faults c.args.streams.out.now c.execute_bare.new.streams.1.0) in
    bare_by_flag (λ b. (goal.Watcher-dyn g (b.vtable, b.value)).stands b.value) (λ b. (goal.Watcher-dyn g (b.vtable, b.value)).report b.value)
    c.args.command.now.flags.bare c.args.watchers.now.items streams c.args.image.now c.args.command.now.heap c.args.command.now.stack
    c.args.command.now.steps c.execute_bare.result c.if-bare.true c.execute_bare.ensures.runs

pub returns-else-bare-clause-runs : goal.returns-else-bare-clause-runs
returns-else-bare-clause-runs g c =
    let streams = streams_of
    (stream_of g.I.Source.left g.I.Source.faults c.args.streams.input.now c.execute.new.streams.0)
    (stream_of g.O.Sink.taken g.O.Sink.faults c.args.streams.out.now c.execute.new.streams.1.0) in
    plain_by_flag (λ b. (goal.Watcher-dyn g (b.vtable, b.value)).stands b.value) (λ b. (goal.Watcher-dyn g (b.vtable, b.value)).report b.value)
    c.args.command.now.flags.bare c.args.watchers.now.items c.execute.new.watchers.items streams c.args.image.now c.args.command.now.heap
    c.args.command.now.stack c.args.command.now.steps c.execute.result c.if-bare.false c.execute.ensures.runs
