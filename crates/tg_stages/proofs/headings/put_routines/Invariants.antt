use Rattle.std.proofs.Common.{◌≡◌, ◌++◌, drop}
use Rattle.std.specs.Prelude.{map}
use Rattle.tg_stages.specs.Headings.{undeclared, routine_names}
use Rattle.tg_stages.proofs.headings.put_routines.Given as goal

abbrev pub invariant-loop-at : goal.invariant-loop-at
invariant-loop-at l =
    l.initial.all.items ++ map undeclared routine_names ≡ l.all.items ++ map undeclared (drop l.at routine_names)
