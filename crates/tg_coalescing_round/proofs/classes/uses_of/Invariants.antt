use Rattle.std.proofs.Common.{◌≡◌, map, take}
use Rattle.tg_coalescing_round.proofs.classes.uses_of.Given as goal

abbrev pub invariant-loop-node : goal.invariant-loop-node
invariant-loop-node l = l.uses.items ≡ map (λ m. m.uses) (take l.node-index l.facts)
