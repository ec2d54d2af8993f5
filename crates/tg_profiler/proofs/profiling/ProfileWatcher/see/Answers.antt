use Rattle.std.proofs.Common.{rules, ◌≡◌, length}
use Rattle.tg_profiler.proofs.RowCounts.{counts_more}
use Rattle.tg_profiler.proofs.profiling.ProfileWatcher.see.Goals as goal

pub returns-clause-seen : goal.returns-clause-seen
returns-clause-seen c = λ s code stood short inside.
    let size : length c.args.self.now.counts ≡ 43 = search rules in
    counts_more _ _ s code c.args.seen.now _ stood size c.row_number.ensures.below c.row_number.ensures.name
