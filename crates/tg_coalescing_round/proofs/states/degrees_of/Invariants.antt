use Rattle.std.proofs.Common.{◌≡◌, ◌-◌, ◌++◌, map, replicate}
use Rattle.std.specs.List.{range_with_len}
use Rattle.tg_graph.specs.Interference.{colours, degree}
use Rattle.tg_coalescing_round.proofs.states.degrees_of.Given as goal

abbrev pub invariant-loop-node : goal.invariant-loop-node
invariant-loop-node l =
    l.degrees.items ≡ replicate colours 0 ++ map (degree l.graph) (range_with_len colours (l.node - colours))
