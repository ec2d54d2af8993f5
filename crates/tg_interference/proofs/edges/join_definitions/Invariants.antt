use Rattle.std.proofs.Common.{◌≡◌, ◌||◌, ℕ, take}
use Rattle.tg_graph.specs.Interference.{interferes}
use Rattle.tg_interference.specs.Pairs.{has, joins_both}
use Rattle.tg_interference.proofs.edges.join_definitions.Given as goal

abbrev pub invariant-loop-definition : goal.invariant-loop-definition
invariant-loop-definition l = record {
  nodes : l.graph.nodes ≡ l.fn.graph.nodes;
  pairs : (x y : ℕ) → interferes l.graph x y ≡ (joins_both l.moved (has (take l.definition-index l.definition-items))
      (has l.live) x y || interferes l.fn.graph x y);
}
