use Rattle.std.proofs.Common.{◌≡◌, ◌++◌, drop}
use Rattle.std.specs.Prelude.{map}
use Rattle.tg_show.specs.Graph.{operand_of}
use Rattle.tg_show.proofs.graphs.operands_of.Given as goal

abbrev pub invariant-loop-node : goal.invariant-loop-node
invariant-loop-node l = map operand_of l.nodes ≡ l.list.items ++ map operand_of (drop l.node-index l.nodes)
