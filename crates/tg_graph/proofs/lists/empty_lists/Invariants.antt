use Rattle.std.proofs.Common.{◌≡◌, ℕ, List, [], replicate}
use Rattle.tg_graph.specs.glue.Keeping.{lists_of}
use Rattle.tg_graph.proofs.lists.empty_lists.Given as goal

abbrev pub invariant-loop : goal.invariant-loop
invariant-loop l = lists_of l.lists.items ≡ replicate {A = List ℕ} l.counter []
