use Rattle.std.proofs.Common.{take, ◌≡◌, ◌++◌}
use Rattle.std.specs.List.{All}
use Rattle.tg_emit.specs.Ranges.{InstructionFits}
use Rattle.tg_emit.specs.mirror.Lines.{code_lines}
use Rattle.tg_emit.proofs.bodies.code.Given as goal

abbrev pub invariant-loop-place : goal.invariant-loop-place
invariant-loop-place l = record {
  lines : l.list.items ≡ l.initial.list.items ++ code_lines l.turned l.label.0 l.size 0 (take l.place l.instructions);
  fits : All InstructionFits (take l.place l.instructions);
}
