use Rattle.std.proofs.Common.{◌≡◌, ◌++◌, drop}
use Rattle.tg_show.specs.Assembly.{assembly_lines}
use Rattle.tg_show.proofs.assembly.put_assembly_lines.Given as goal

abbrev pub invariant-loop-at : goal.invariant-loop-at
invariant-loop-at l =
    l.initial.text.items ++ assembly_lines l.lines ≡ l.text.items ++ assembly_lines (drop l.at l.lines)
