use Rattle.std.proofs.Common.{◌≡◌, ◌+◌, drop}
use Rattle.tg_show.specs.Runs.{following}
use Rattle.tg_show.proofs.runs.following.Given as goal

abbrev pub invariant-loop-at : goal.invariant-loop-at
invariant-loop-at l = following l.names l.operand l.rest ≡ l.at + following l.names l.last (drop l.at l.rest)
