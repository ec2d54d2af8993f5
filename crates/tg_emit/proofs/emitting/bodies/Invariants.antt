use Rattle.std.proofs.Common.{take, ◌≡◌}
use Rattle.std.specs.List.{All}
use Rattle.tg_emit.specs.Ranges.{FunctionFits}
use Rattle.tg_emit.specs.mirror.Lines.{functions_lines}
use Rattle.tg_emit.proofs.emitting.bodies.Given as goal

abbrev pub invariant-loop-one : goal.invariant-loop-one
invariant-loop-one l = record {
  lines : l.list.items ≡ functions_lines l.turned (take l.one-index l.functions);
  fits : All FunctionFits (take l.one-index l.functions);
}
