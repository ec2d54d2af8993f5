use Rattle.tg_asm.proofs.Numerals.{Read}
use Rattle.tg_asm.proofs.numbers.digits.Given as goal

abbrev pub invariant-loop-byte : goal.invariant-loop-byte
invariant-loop-byte l = Read l.base l.text l.value l.byte-index
