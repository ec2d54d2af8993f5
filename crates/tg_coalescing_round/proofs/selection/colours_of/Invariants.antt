use Rattle.std.proofs.Common.{◌≡◌, map, take}
use Rattle.tg_coalescing_round.specs.mirror.Selecting.{colour_at}
use Rattle.tg_coalescing_round.proofs.selection.colours_of.Given as goal

abbrev pub invariant-loop-alias : goal.invariant-loop-alias
invariant-loop-alias l = l.list.items ≡ map (colour_at l.colours) (take l.alias-index l.aliases)
