use Rattle.std.proofs.Common.{◌≡◌, ◌<◌, ◌+◌, ℕ, length, take, count_by}
use Rattle.std.specs.Prelude.{slice_index}
use Rattle.tg_instr.specs.Operands.{is_same}
use Rattle.tg_interference.specs.Facts.{temp}
use Rattle.tg_interference.proofs.facts.count_operands.Given as goal

abbrev pub invariant-loop-one : goal.invariant-loop-one
invariant-loop-one l = record {
  size : length l.counts ≡ length l.fn.counts;
  each : (t : ℕ) → t < length l.fn.counts → slice_index l.counts t ≡ slice_index l.fn.counts t
      + count_by (is_same (temp t)) (take l.one-index l.list);
}
