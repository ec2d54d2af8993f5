use Rattle.std.proofs.Common.{◌≡◌}
use Rattle.tg_coalescing_round.specs.mirror.Selecting.{precoloured}
use Rattle.tg_coalescing_round.proofs.selection.precoloured.Given as goal

abbrev pub invariant-loop-node : goal.invariant-loop-node
invariant-loop-node l = l.colours.items ≡ precoloured l.node
