use Rattle.std.proofs.Common.{◌≡◌, map}
use Rattle.std.specs.List.{range_with_len}
use Rattle.tg_interference.specs.Facts.{facts_of}
use Rattle.tg_interference.proofs.facts.facts_of_nodes.Given as goal

abbrev pub invariant-loop-node : goal.invariant-loop-node
invariant-loop-node l = l.facts.items ≡ map (facts_of l.code.list l.originals) (range_with_len 0 l.node)
