use Rattle.std.proofs.Common.{◌≡◌, ◌<◌, ℕ, length, take}
use Rattle.std.specs.Prelude.{slice_index}
use Rattle.tg_interference.specs.Facts.{temp, occurrences}
use Rattle.tg_interference.proofs.facts.count_occurrences.Given as goal

abbrev pub invariant-loop-one : goal.invariant-loop-one
invariant-loop-one l = record {
  size : length l.counts.items ≡ l.code.temps;
  each : (t : ℕ) → t < l.code.temps → slice_index l.counts.items t ≡ occurrences (temp t) (take l.one-index l.list);
}
