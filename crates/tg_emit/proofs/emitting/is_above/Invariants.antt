use Rattle.std.proofs.Common.{take, ◌≡◌, ◌+◌}
use Rattle.tg_emit.specs.mirror.Lines.{words}
use Rattle.tg_emit.proofs.emitting.is_above.Given as goal

abbrev pub invariant-loop-line : goal.invariant-loop-line
invariant-loop-line l = l.left + words (take l.line-index l.list) ≡ l.most
