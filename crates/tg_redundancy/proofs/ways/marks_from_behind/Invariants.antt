use Rattle.std.proofs.Common.{◌≡◌, length, drop}
use Rattle.tg_redundancy.specs.glue.Walks.{HasWays, flags}
use Rattle.tg_redundancy.proofs.ways.marks_from_behind.Given as goal

abbrev pub invariant-loop-at : goal.invariant-loop-at
invariant-loop-at l = record {
  ways : HasWays l.ways (drop l.at l.code);
  size : length l.all.items ≡ length l.code;
  flags : drop l.at l.all.items ≡ flags (drop l.at l.code);
}
