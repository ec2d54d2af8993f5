use Rattle.tg_profiler.proofs.RowCounts.{Passed}
use Rattle.tg_profiler.proofs.profiling.counted.Given as goal

abbrev pub invariant-loop-number : goal.invariant-loop-number
invariant-loop-number l = Passed l.counts l.before l.left l.number
