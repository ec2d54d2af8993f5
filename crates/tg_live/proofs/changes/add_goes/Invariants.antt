use Rattle.std.proofs.Common.{◌≡◌, ◌<◌, ℕ, suc, not, nat_eq, ◌&&◌, length, take}
use Rattle.std.specs.List.{list_any}
use Rattle.tg_live.specs.glue.Tables.{row}
use Rattle.tg_live.specs.mirror.Search.{has_stamp}
use Rattle.tg_live.proofs.Noted.{grown}
use Rattle.tg_live.proofs.changes.add_goes.Given as goal

abbrev pub invariant-loop-index : goal.invariant-loop-index
invariant-loop-index l = record {
  sized : length l.goes ≡ length l.fn.goes;
  rows : (q : ℕ) → q < length l.fn.goes → row l.goes q ≡ grown (list_any (λ p. nat_eq q (suc p)) (take l.index l.search.lasts)
      && not (has_stamp l.stamp l.search.marks q)) l.one (row l.fn.goes q);
}
