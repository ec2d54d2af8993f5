use Rattle.tg_profiler.proofs.WatchedRuns.{SoFar}
use Rattle.tg_profiler.proofs.running.run_watched.Given as goal

abbrev pub invariant-loop : goal.invariant-loop
invariant-loop g l =
    SoFar (λ b. (goal.Watcher-dyn g (b.vtable, b.value)).stands b.value) (λ b. (goal.Watcher-dyn g (b.vtable, b.value)).report b.value)
    g.I.Source.left g.I.Source.faults g.O.Sink.taken g.O.Sink.faults l.counter l.fn.machine l.machine l.fn.input l.input l.fn.out l.out
    l.fn.watchers.items l.watchers.items
