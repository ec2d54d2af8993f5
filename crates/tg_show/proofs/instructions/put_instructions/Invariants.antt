use Rattle.std.proofs.Common.{◌≡◌, ◌++◌, drop}
use Rattle.tg_show.specs.Instructions.{instruction_lines}
use Rattle.tg_show.proofs.instructions.put_instructions.Given as goal

abbrev pub invariant-loop-one : goal.invariant-loop-one
invariant-loop-one l =
    l.initial.text.items ++ instruction_lines l.names l.list ≡ l.text.items ++ instruction_lines l.names (drop l.one-index l.list)
