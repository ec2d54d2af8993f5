use Rattle.std.proofs.Common.{◌≡◌, ◌-◌, ◌||◌, ℕ, true, length, take}
use Rattle.std.specs.List.{list_all}
use Rattle.tg_instr.specs.Codes.{is_below}
use Rattle.tg_interference.specs.Pairs.{has}
use Rattle.tg_interference.specs.glue.Crossing.{is_marked}
use Rattle.tg_interference.proofs.crossing.mark_crossing.Given as goal

abbrev pub invariant-loop-one : goal.invariant-loop-one
invariant-loop-one l = record {
  sized : length l.crossed ≡ length l.fn.crossed;
  marked : (n : ℕ) → is_marked l.crossed n ≡ (is_marked l.fn.crossed n || has (take l.one-index l.live) n);
  first : (n : ℕ) → is_marked l.crossed n ≡ (is_marked l.fn.crossed n || has l.first.items n);
  below : list_all (is_below (length l.fn.crossed - 25)) l.first.items ≡ true;
}
