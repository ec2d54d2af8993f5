use Rattle.std.proofs.Common.{length, ◌-◌}
use Rattle.tg_lexer.proofs.Scans.{Scanned}
use Rattle.tg_lexer.proofs.lexing.lex.Given as goal

abbrev pub invariant-loop-at : goal.invariant-loop-at
invariant-loop-at l = Scanned l.text l.fn.names l.names l.at l.tokens.items

abbrev pub decreases-loop-at : goal.decreases-loop-at
decreases-loop-at l = length l.text - l.at
