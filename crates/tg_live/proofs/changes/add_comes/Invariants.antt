use Rattle.std.proofs.Common.{◌≡◌, ℕ, not, nat_eq, ◌&&◌, length, take}
use Rattle.std.specs.List.{list_any}
use Rattle.tg_live.specs.glue.Tables.{row}
use Rattle.tg_live.specs.mirror.Search.{has_stamp_before}
use Rattle.tg_live.proofs.Noted.{grown}
use Rattle.tg_live.proofs.changes.add_comes.Given as goal

abbrev pub invariant-loop-index : goal.invariant-loop-index
invariant-loop-index l = record {
  sized : length l.comes ≡ length l.fn.comes;
  rows : (q : ℕ) → row l.comes q ≡ grown (list_any (nat_eq q) (take l.index l.search.firsts)
      && not (has_stamp_before l.stamp l.search.marks q)) l.one (row l.fn.comes q);
}
