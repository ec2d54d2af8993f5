use Rattle.std.proofs.Common.{◌≡◌}
use Rattle.tg_coalescing_round.specs.glue.Lists.{numbers_in}
use Rattle.tg_coalescing_round.specs.glue.Lists as lists_by
use Rattle.tg_coalescing_round.proofs.lists.singletons.Given as goal

abbrev pub invariant-loop-number : goal.invariant-loop-number
invariant-loop-number l = numbers_in l.lists.items ≡ lists_by.singletons l.number
