use Rattle.std.proofs.Common.{◌≡◌, ◌++◌, drop}
use Rattle.tg_show.specs.Registers.{code_lines}
use Rattle.tg_show.proofs.registers.put_code_lines.Given as goal

abbrev pub invariant-loop-one : goal.invariant-loop-one
invariant-loop-one l =
    l.initial.text.items ++ code_lines l.names l.list ≡ l.text.items ++ code_lines l.names (drop l.one-index l.list)
