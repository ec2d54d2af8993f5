use Rattle.std.proofs.Common.{◌≡◌, ◌<◌, ◌≤◌, ◌⊎◌, ℕ, length}
use Rattle.tg_live.specs.mirror.Search.{stamp_at}
use Rattle.tg_live.proofs.searches.Search.mark.Given as goal

abbrev pub invariant-loop-at : goal.invariant-loop-at
invariant-loop-at l = record {
  size : length l.self-inside.marks.items ≡ length l.fn.self.marks;
  inner : (q : ℕ) → l.first ≤ q → q < l.at → stamp_at l.self-inside.marks.items q ≡ l.stamp;
  outer : (q : ℕ) → (q < l.first) ⊎ (l.at ≤ q) → stamp_at l.self-inside.marks.items q ≡ stamp_at l.fn.self.marks q;
  firsts : l.self-inside.firsts.items ≡ l.fn.self.firsts;
  lasts : l.self-inside.lasts.items ≡ l.fn.self.lasts;
}
