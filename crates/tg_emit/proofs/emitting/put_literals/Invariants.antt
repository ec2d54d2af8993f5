use Rattle.std.proofs.Common.{take, ◌≡◌, ◌++◌}
use Rattle.std.specs.List.{All}
use Rattle.tg_emit.specs.Ranges.{LiteralFits}
use Rattle.tg_emit.specs.mirror.Lines.{literals_lines}
use Rattle.tg_emit.proofs.emitting.put_literals.Given as goal

abbrev pub invariant-loop-one : goal.invariant-loop-one
invariant-loop-one l = record {
  lines : l.list.items ≡ l.initial.list.items ++ literals_lines (take l.one-index l.literals);
  fits : All LiteralFits (take l.one-index l.literals);
}
