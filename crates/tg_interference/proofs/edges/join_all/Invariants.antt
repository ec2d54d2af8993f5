use Rattle.std.proofs.Common.{◌≡◌, ◌+◌, ◌||◌, ℕ, length}
use Rattle.tg_graph.specs.Interference.{interferes}
use Rattle.tg_live.specs.glue.LiveChanges.{set_before}
use Rattle.tg_interference.specs.glue.Crossing.{HaveCrossed}
use Rattle.tg_interference.proofs.Interfering.{joined_below, are_registers}
use Rattle.tg_interference.proofs.edges.join_all.Given as goal

abbrev pub invariant-loop-at : goal.invariant-loop-at
invariant-loop-at l = record {
  nodes : l.graph.nodes ≡ 25 + l.code.temps;
  pairs : (x y : ℕ) → interferes l.graph x y ≡ (joined_below l.list l.live l.at x y || are_registers x y);
  sized : length l.crossed ≡ 25 + l.code.temps;
  crossed : HaveCrossed l.crossed l.graph;
  behind : l.behind.items ≡ set_before l.live l.at;
}
