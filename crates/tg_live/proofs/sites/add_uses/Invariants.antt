use Rattle.std.proofs.Common.{◌≡◌, ◌+◌, true, length, drop, take}
use Rattle.std.specs.List.{list_all}
use Rattle.tg_live.specs.Live.{is_proper}
use Rattle.tg_live.specs.glue.Tables.{add_to, numbers_of}
use Rattle.tg_live.proofs.sites.add_uses.Given as goal

abbrev pub invariant-loop-one : goal.invariant-loop-one
invariant-loop-one l = record {
  added : add_to l.at (numbers_of (drop l.one-index l.one-items)) l.sites ≡ add_to l.at (numbers_of
      l.one-items) l.fn.sites;
  size : length l.sites ≡ 32 + l.temps;
  proper : list_all is_proper (take l.one-index l.one-items) ≡ true;
}
