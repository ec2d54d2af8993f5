use Rattle.std.proofs.Common.{◌∙◌, sym, arith}
use Rattle.tg_profiler.proofs.CoveredPlaces.{covered_le, covers_old, covers_new}
use Rattle.tg_profiler.proofs.covering.CoverageWatcher.see.Goals as goal

pub overflow_add-self : goal.overflow_add-self
overflow_add-self c =
    let le = covered_le c.requires.seen in
    omega (arith, le, c.requires.stood.all, c.requires.short)

pub returns-then-not-index-clause-seen : goal.returns-then-not-index-clause-seen
returns-then-not-index-clause-seen c = λ s code stood short inside.
    covers_new _ _ s code c.args.seen.now _ stood inside (sym c.index.ensures ∙ c.if-not-index.true)

pub returns-else-not-index-clause-seen : goal.returns-else-not-index-clause-seen
returns-else-not-index-clause-seen c = λ s code stood short inside.
    covers_old _ _ s code c.args.seen.now _ stood inside (sym c.index.ensures ∙ c.if-not-index.false)
