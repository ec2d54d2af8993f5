use Rattle.std.proofs.Common.{◌≡◌, map}
use Rattle.std.specs.List.{range_with_len}
use Rattle.tg_regalloc.specs.Painting.{colour_in}
use Rattle.tg_regalloc.specs.Rewriting.{slot_in}
use Rattle.tg_regalloc.specs.Rounds.{location_in}
use Rattle.tg_regalloc.proofs.progress.locations_of.Given as goal

abbrev pub invariant-loop-at : goal.invariant-loop-at
invariant-loop-at l = l.locations.items ≡ map (λ t. location_in (slot_in l.slots t) (colour_in l.colours t)) (range_with_len 0 l.at)
