use Rattle.tg_driver.proofs.Watched.{bare_ran}
use Rattle.tg_driver.proofs.executing.run_bare.Goals as goal

pub returns : goal.returns
returns g c = λ image heap stack is.
    bare_ran g.I.Source.left g.I.Source.faults g.O.Sink.taken g.O.Sink.faults c.args.streams.input.now c.run.new.input c.args.streams.out.now c.run.new.out
    c.args.machine c.run.new.self image heap stack c.args.steps c.run.result is c.run.ensures.run
