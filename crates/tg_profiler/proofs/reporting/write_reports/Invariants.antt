use Rattle.std.proofs.Common.{ℕ, List}
use Rattle.std.specs.Prelude.{All}
use Rattle.tg_machine.specs.declared.fetches.Seen.{Seen}
use Rattle.tg_profiler.proofs.Telling.{ToldSoFar, first_reports}
use Rattle.tg_profiler.proofs.reporting.write_reports.Given as goal

abbrev pub invariant-loop-watcher : goal.invariant-loop-watcher
invariant-loop-watcher g l =
    (seen : List Seen) (code : ℕ) → All (λ b. (goal.Watcher-dyn g (b.vtable, b.value)).stands b.value seen code) l.watchers →
    ToldSoFar g.E.Sink.taken g.E.Sink.faults l.initial.err l.err
    (first_reports g.E.Sink.taken g.E.Sink.faults (λ b. (goal.Watcher-dyn g (b.vtable, b.value)).report b.value) l.watchers seen code l.watcher-index)
