use Rattle.tg_asm.proofs.DataLoops.{InString}
use Rattle.tg_asm.proofs.items.string.Given as goal

abbrev pub invariant-loop-byte : goal.invariant-loop-byte
invariant-loop-byte l = InString l.text l.bytes.items l.escaped l.byte-index
