use Rattle.std.proofs.Common.{◌≡◌, ◌+◌, drop}
use Rattle.tg_emit.specs.mirror.Lines.{words}
use Rattle.tg_delay.proofs.delaying.is_above.Given as goal

abbrev pub invariant-loop-line : goal.invariant-loop-line
invariant-loop-line l = l.most + words (drop l.line-index l.lines) ≡ l.left + words l.lines
