use Rattle.std.proofs.Common.{ℕ, List}
use Rattle.tg_machine.specs.declared.fetches.Seen.{Seen}
use Rattle.tg_profiler.proofs.Telling.{LinesTold}
use Rattle.tg_profiler.proofs.reporting.write_report.Given as goal

abbrev pub invariant-loop-at : goal.invariant-loop-at
invariant-loop-at g l =
    (seen : List Seen) (code : ℕ) → (goal.Watcher-dyn g (l.watcher.vtable, l.watcher.value)).stands l.watcher.value seen code →
    LinesTold g.E.Sink.taken g.E.Sink.faults l.initial.err l.err ((goal.Watcher-dyn g (l.watcher.vtable, l.watcher.value)).report l.watcher.value seen code) l.at
