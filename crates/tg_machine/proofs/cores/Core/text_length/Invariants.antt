use Rattle.tg_machine.proofs.Texts.{Found}
use Rattle.tg_machine.proofs.cores.Core.text_length.Given as goal

abbrev pub invariant-loop-length : goal.invariant-loop-length
invariant-loop-length l = Found l.most l.self l.address l.length
