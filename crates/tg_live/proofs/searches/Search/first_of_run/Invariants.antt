use Rattle.std.proofs.Common.{ℕ, ◌<◌, ◌≤◌}
use Rattle.tg_live.specs.mirror.Search.{IsPassed}
use Rattle.tg_live.proofs.searches.Search.first_of_run.Given as goal

abbrev pub invariant-loop-first : goal.invariant-loop-first
invariant-loop-first l = record {
  order : l.first ≤ l.last;
  passed : (q : ℕ) → l.first < q → q ≤ l.last → IsPassed l.list l.one l.before q;
}

abbrev pub decreases-loop-first : goal.decreases-loop-first
decreases-loop-first l = l.first
