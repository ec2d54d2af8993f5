use Rattle.std.proofs.Common.{◌≡◌, ◌++◌, drop}
use Rattle.tg_show.specs.Runs.{listed_from}
use Rattle.tg_show.proofs.runs.put_operands.Given as goal

-- what is left is what is written for the operands that are left
abbrev pub invariant-loop-at : goal.invariant-loop-at
invariant-loop-at l =
    l.initial.text.items ++ listed_from l.names 0 l.operands ≡ l.text.items ++ listed_from l.names l.left (drop l.at l.operands)
