use Rattle.std.proofs.Common.{◌≡◌, map, take}
use Rattle.tg_coalescing_round.proofs.classes.made_of.Given as goal

abbrev pub invariant-loop-node : goal.invariant-loop-node
invariant-loop-node l = l.made.items ≡ map (λ m. m.made) (take l.node-index l.facts)
