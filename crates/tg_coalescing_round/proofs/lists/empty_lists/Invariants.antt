use Rattle.std.proofs.Common.{◌≡◌, ℕ, List, [], replicate}
use Rattle.tg_coalescing_round.specs.glue.Lists.{numbers_in}
use Rattle.tg_coalescing_round.proofs.lists.empty_lists.Given as goal

abbrev pub invariant-loop : goal.invariant-loop
invariant-loop l = numbers_in l.lists.items ≡ replicate {A = List ℕ} l.counter []
