use Rattle.std.proofs.Common.{◌≡◌, ◌+◌, [], true, length, replicate, drop, take}
use Rattle.std.specs.List.{list_all}
use Rattle.tg_live.specs.glue.Tables.{add_from, numbers_used}
use Rattle.tg_live.proofs.Places.{uses_are_proper}
use Rattle.tg_live.proofs.sites.use_sites.Given as goal

abbrev pub invariant-loop-at : goal.invariant-loop-at
invariant-loop-at l = record {
  added : add_from l.at (drop l.at (numbers_used l.list)) l.sites ≡ add_from 0 (numbers_used l.list) (replicate
      (32 + l.code.temps) []);
  size : length l.sites ≡ 32 + l.code.temps;
  proper : list_all uses_are_proper (take l.at l.list) ≡ true;
}
