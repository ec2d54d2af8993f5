use Rattle.tg_regalloc.proofs.Slots.{AreSlots}
use Rattle.tg_regalloc.proofs.stages.class_slots.Given as goal

abbrev pub invariant-loop-at : goal.invariant-loop-at
invariant-loop-at l = AreSlots l.classes l.base l.nodes l.at l.table.items
