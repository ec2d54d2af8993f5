use Rattle.std.proofs.Common.{◌≡◌, ◌++◌, false, drop}
use Rattle.tg_regalloc.specs.Allocations.{codes_of}
use Rattle.tg_emit.specs.mirror.Lines.{functions_lines}
use Rattle.tg_stages.proofs.programs.are_long.Given as goal

abbrev pub invariant-loop-at : goal.invariant-loop-at
invariant-loop-at l =
    functions_lines false (codes_of l.allocations) ≡ l.lines.items ++ functions_lines false (codes_of (drop l.at l.allocations))
