use Rattle.std.proofs.Common.{◌≡◌, ◌==◌, ◌||◌, ℕ, take}
use Rattle.tg_graph.specs.Interference.{interferes}
use Rattle.tg_interference.specs.Pairs.{has, joins_both}
use Rattle.tg_interference.proofs.edges.join_node.Given as goal

abbrev pub invariant-loop-one : goal.invariant-loop-one
invariant-loop-one l = record {
  nodes : l.graph.nodes ≡ l.fn.graph.nodes;
  pairs : (x y : ℕ) → interferes l.graph x y ≡ (joins_both l.moved (λ n. n == l.node)
      (has (take l.one-index l.live)) x y || interferes l.fn.graph x y);
}
