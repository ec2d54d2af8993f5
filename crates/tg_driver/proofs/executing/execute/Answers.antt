use Rattle.std.proofs.Common.{◌≡◌, ◌∙◌, ℕ, List, [], length, ap, sym, subst}
use Rattle.std.specs.Prelude.{All}
use Rattle.tg_machine.specs.Machines.{Simulated}
use Rattle.tg_driver.specs.Calls.{stream_of, streams_of}
use Rattle.tg_driver.proofs.Watched.{begun_before}
use Rattle.tg_driver.proofs.executing.execute.Goals as goal

pub run_begun-requires-clause-begun : goal.run_begun-requires-clause-begun
run_begun-requires-clause-begun g c =
    let size : length c.as_slice.result.now ≡ length c.in-Ok.machine.state.code =
    ap (λ (l : List ℕ). length l) c.as_slice.ensures ∙ ap (λ (m : Simulated). length m.state.code) (sym c.in-Ok.ensures) in
    subst (λ n. All (λ b. (goal.Watcher-dyn g (b.vtable, b.value)).stands b.value [] n) c.begin_all.new.watchers.items) size c.in-Ok-begin_all.ensures.begun

pub returns-in-Ok-begin_all-clause-runs : goal.returns-in-Ok-begin_all-clause-runs
returns-in-Ok-begin_all-clause-runs g c =
    let streams = streams_of
    (stream_of g.I.Source.left g.I.Source.faults c.args.streams.input.now c.run_begun.new.streams.0)
    (stream_of g.O.Sink.taken g.O.Sink.faults c.args.streams.out.now c.run_begun.new.streams.1.0) in
    begun_before (λ b. (goal.Watcher-dyn g (b.vtable, b.value)).stands b.value) (λ b. (goal.Watcher-dyn g (b.vtable, b.value)).report b.value) c.args.watchers.now.items c.begin_all.new.watchers.items
    c.run_begun.new.watchers.items streams c.args.image.now c.args.command.now.heap c.args.command.now.stack c.args.command.now.steps
    c.run_begun.result c.in-Ok-begin_all.ensures.same (c.run_begun.ensures c.args.image.now c.args.command.now.heap c.args.command.now.stack c.in-Ok.ensures)
