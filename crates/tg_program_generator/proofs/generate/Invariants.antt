use Rattle.std.proofs.Common.{◌≡◌, ◌++◌}
use Rattle.tg_program_generator.specs.Generated.{head_lines, function_lines}
use Rattle.tg_program_generator.proofs.generate.Given as goal

abbrev pub invariant-loop-i : goal.invariant-loop-i
invariant-loop-i l = l.text.items ≡ head_lines ++ function_lines l.i
