use Rattle.std.proofs.Common.{◌≤◌, ◌-◌, vec_len}
use Rattle.tg_cli.proofs.files.read_front.Given as goal

abbrev pub invariant-loop-piece : goal.invariant-loop-piece
invariant-loop-piece g l = vec_len l.front ≤ l.most

-- each turn takes at least one byte
abbrev pub decreases-loop-piece : goal.decreases-loop-piece
decreases-loop-piece g l = l.most - vec_len l.front
