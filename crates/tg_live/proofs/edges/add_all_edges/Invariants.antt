use Rattle.std.proofs.Common.{◌≡◌, length, drop}
use Rattle.tg_live.specs.Flow.{successors}
use Rattle.tg_live.specs.glue.Tables.{add_from}
use Rattle.tg_live.proofs.edges.add_all_edges.Given as goal

abbrev pub invariant-loop-at : goal.invariant-loop-at
invariant-loop-at l = record {
  added : add_from l.at (drop l.at (successors l.list)) l.before ≡ add_from 0 (successors l.list) l.fn.before;
  size : length l.before ≡ length l.fn.before;
}
