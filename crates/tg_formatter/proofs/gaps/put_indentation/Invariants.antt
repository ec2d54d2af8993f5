use Rattle.std.proofs.Common.{◌≡◌, ◌++◌}
use Rattle.tg_formatter.specs.Canonical.{indentation}
use Rattle.tg_formatter.proofs.gaps.put_indentation.Given as goal

abbrev pub invariant-loop : goal.invariant-loop
invariant-loop l = l.text.items ≡ l.initial.text.items ++ indentation l.counter
