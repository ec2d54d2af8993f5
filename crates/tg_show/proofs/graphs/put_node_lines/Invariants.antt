use Rattle.std.proofs.Common.{◌≡◌, ◌++◌, ◌-◌}
use Rattle.std.specs.List.{range_with_len}
use Rattle.tg_show.specs.Graph.{node_lines}
use Rattle.tg_show.proofs.graphs.put_node_lines.Given as goal

abbrev pub invariant-loop-node : goal.invariant-loop-node
invariant-loop-node l =
    l.initial.text.items ++ node_lines l.names l.graph (range_with_len 25 (l.graph.nodes - 25))
    ≡ l.text.items ++ node_lines l.names l.graph (range_with_len l.node (l.graph.nodes - l.node))
