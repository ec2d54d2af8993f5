use Rattle.std.proofs.Common.{◌≡◌, length, take}
use Rattle.tg_coalescing_round.proofs.Selecting.{Tells}
use Rattle.tg_coalescing_round.proofs.selection.taken_around.Given as goal

abbrev pub invariant-loop-other : goal.invariant-loop-other
invariant-loop-other l = record {
  sized : length l.taken ≡ 25;
  told : Tells l.colours l.taken (take l.other-index l.other-items);
}
