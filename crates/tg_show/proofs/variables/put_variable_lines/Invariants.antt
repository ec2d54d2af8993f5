use Rattle.std.proofs.Common.{◌≡◌, ◌++◌, drop}
use Rattle.tg_show.specs.Variables.{variable_lines}
use Rattle.tg_show.proofs.variables.put_variable_lines.Given as goal

abbrev pub invariant-loop-one : goal.invariant-loop-one
invariant-loop-one l =
    l.initial.text.items ++ variable_lines l.word l.list ≡ l.text.items ++ variable_lines l.word (drop l.one-index l.list)
