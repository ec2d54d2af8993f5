use Rattle.std.proofs.Common.{◌≡◌, length, arith}
use Rattle.std.proofs.lemmas.Grind.{common_steps}
use Rattle.tg_driver.proofs.Watched.{saw_nothing, saw_all}
use Rattle.tg_driver.proofs.executing.run_begun.Goals as goal

pub returns-then-is_empty : goal.returns-then-is_empty
returns-then-is_empty g c = λ image heap stack is.
    let none : length c.args.watchers.now.items ≡ 0 = grind (arith, common_steps, c.is_empty.ensures, c.if-is_empty.true) in
    saw_nothing (λ b. (goal.Watcher-dyn g (b.vtable, b.value)).stands b.value) (λ b. (goal.Watcher-dyn g (b.vtable, b.value)).report b.value) c.args.watchers.now.items
    g.I.Source.left g.I.Source.faults g.O.Sink.taken g.O.Sink.faults c.args.streams.input.now c.run.new.input c.args.streams.out.now c.run.new.out
    c.args.machine c.run.new.self image heap stack c.args.steps c.run.result none is c.run.ensures.run

pub returns : goal.returns
returns g c = λ image heap stack is.
    saw_all (λ b. (goal.Watcher-dyn g (b.vtable, b.value)).stands b.value) (λ b. (goal.Watcher-dyn g (b.vtable, b.value)).report b.value) c.args.watchers.now.items c.run_watched.new.watchers.items
    g.I.Source.left g.I.Source.faults g.O.Sink.taken g.O.Sink.faults c.args.streams.input.now c.run_watched.new.input c.args.streams.out.now
    c.run_watched.new.out c.args.machine c.run_watched.new.machine image heap stack c.args.steps c.run_watched.result is c.run_watched.ensures.run
