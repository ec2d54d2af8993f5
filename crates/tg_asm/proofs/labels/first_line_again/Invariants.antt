use Rattle.tg_asm.proofs.Orders.{Passed}
use Rattle.tg_asm.proofs.labels.first_line_again.Given as goal

abbrev pub invariant-loop-at : goal.invariant-loop-at
invariant-loop-at l = Passed l.entries l.first l.at
