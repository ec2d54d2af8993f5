use Rattle.std.proofs.Common.{take, ◌≡◌, ◌≤◌, ◌+◌, ◌*◌}
use Rattle.tg_regalloc.specs.Rewriting.{code_rewritten, slot_in, temps_after}
use Rattle.tg_regalloc.proofs.rewriting.instructions.Given as goal

abbrev pub invariant-loop-one : goal.invariant-loop-one
invariant-loop-one l = record {
  list : l.list.items ≡ code_rewritten (slot_in l.slots) (take l.one-index l.code) l.fn.next;
  next : l.next ≡ temps_after (slot_in l.slots) (take l.one-index l.code) l.fn.next;
  room : l.next ≤ l.fn.next + 3 * l.one-index;
}
