use Rattle.std.proofs.Common.{◌≡◌, drop}
use Rattle.tg_redundancy.specs.mirror.Facts.{forget_each}
use Rattle.tg_redundancy.proofs.facts.forget_each.Given as goal

abbrev pub invariant-loop-operand : goal.invariant-loop-operand
invariant-loop-operand l = forget_each (drop l.operand-index l.operands) l.list.items ≡ forget_each l.operands l.fn.list.items
