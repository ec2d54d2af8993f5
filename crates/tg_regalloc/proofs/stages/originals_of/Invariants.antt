use Rattle.std.proofs.Common.{◌≡◌, take}
use Rattle.std.specs.Prelude.{filter, nat_lt}
use Rattle.tg_regalloc.proofs.stages.originals_of.Given as goal

abbrev pub invariant-loop-node : goal.invariant-loop-node
invariant-loop-node l = l.some.items ≡ filter (λ x. nat_lt x l.end) (take l.node-index l.nodes)
