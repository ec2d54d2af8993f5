use Rattle.std.proofs.Common.{take, map, ◌≡◌}
use Rattle.tg_instr.specs.declared.operands.Opnd.TheVariants.{Reg}
use Rattle.tg_instr.proofs.uses.registers.Given as goal

abbrev pub invariant-loop-number : goal.invariant-loop-number
invariant-loop-number l = record { items : l.list.items ≡ map (λ n. Reg n) (take l.number-index l.numbers); capacity : l.list.capacity ≡ 24 }
