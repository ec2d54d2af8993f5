use Rattle.std.proofs.Common.{length, ◌-◌}
use Rattle.tg_lexer.proofs.Closings.{Open}
use Rattle.tg_lexer.proofs.comments.comment.Given as goal

abbrev pub invariant-loop-at : goal.invariant-loop-at
invariant-loop-at l = Open l.text l.depth l.at

abbrev pub decreases-loop-at : goal.decreases-loop-at
decreases-loop-at l = length l.text - l.at
