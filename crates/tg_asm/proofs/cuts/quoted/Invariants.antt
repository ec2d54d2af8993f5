use Rattle.tg_asm.proofs.CutLoops.{InQuotes}
use Rattle.tg_asm.proofs.cuts.quoted.Given as goal

abbrev pub invariant-loop-at : goal.invariant-loop-at
invariant-loop-at l = InQuotes l.text l.escaped l.at
