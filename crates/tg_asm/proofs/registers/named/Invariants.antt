use Rattle.tg_asm.proofs.Named.{NotYet}
use Rattle.tg_asm.proofs.registers.named.Given as goal

abbrev pub invariant-loop-r : goal.invariant-loop-r
invariant-loop-r l = NotYet l.text l.r
