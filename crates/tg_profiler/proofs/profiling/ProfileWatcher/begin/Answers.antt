use Rattle.tg_profiler.proofs.RowCounts.{counts_none, no_counts}
use Rattle.tg_profiler.proofs.profiling.ProfileWatcher.begin.Goals as goal

pub returns-clause-begun : goal.returns-clause-begun
returns-clause-begun c = counts_none _ _ no_counts
