use Rattle.tg_profiler.proofs.Seeing.{SeenFirst}
use Rattle.tg_profiler.proofs.running.see_all.Given as goal

abbrev pub invariant-loop-watcher : goal.invariant-loop-watcher
invariant-loop-watcher g l =
    SeenFirst (λ b. (goal.Watcher-dyn g (b.vtable, b.value)).stands b.value) (λ b. (goal.Watcher-dyn g (b.vtable, b.value)).report b.value)
    l.fn.watchers.items l.watcher-items l.seen l.watcher-index
