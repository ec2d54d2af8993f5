use Rattle.std.proofs.Common.{◌≡◌, ◌++◌, drop, map}
use Rattle.tg_variables.specs.Variables.{written}
use Rattle.tg_variables.proofs.homes.all_written.Given as goal

abbrev pub invariant-loop-x : goal.invariant-loop-x
invariant-loop-x l = map (written l.text) l.list ≡ l.names.items ++ map (written l.text) (drop l.x-index l.list)
