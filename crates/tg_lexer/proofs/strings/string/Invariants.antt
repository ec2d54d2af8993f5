use Rattle.std.proofs.Common.{length, ◌-◌}
use Rattle.tg_lexer.proofs.StringSteps.{Quotes}
use Rattle.tg_lexer.proofs.strings.string.Given as goal

abbrev pub invariant-loop-at : goal.invariant-loop-at
invariant-loop-at l = Quotes l.text l.at l.meant.items

abbrev pub decreases-loop-at : goal.decreases-loop-at
decreases-loop-at l = length l.text - l.at
