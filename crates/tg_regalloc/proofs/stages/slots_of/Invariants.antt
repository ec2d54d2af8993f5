use Rattle.std.proofs.Common.{◌≡◌, take, map}
use Rattle.tg_regalloc.specs.Rewriting.{slot_by}
use Rattle.tg_regalloc.proofs.stages.slots_of.Given as goal

abbrev pub invariant-loop-class : goal.invariant-loop-class
invariant-loop-class l = l.slots.items ≡ map (slot_by l.classes l.base) (take l.class-index l.aliases)
