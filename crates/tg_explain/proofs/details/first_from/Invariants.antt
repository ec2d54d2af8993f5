use Rattle.std.proofs.Common.{◌≡◌, ◌+◌, drop}
use Rattle.tg_explain.specs.glue.Fronts.{count_before}
use Rattle.tg_explain.proofs.details.first_from.Given as goal

abbrev pub invariant-loop-count : goal.invariant-loop-count
invariant-loop-count l = l.count + count_before l.at (drop l.count l.tokens) ≡ count_before l.at l.tokens
