use Rattle.std.proofs.Common.{◌≡◌}
use Rattle.tg_coalescing_round.specs.glue.Tables.{ends_counted}
use Rattle.tg_coalescing_round.proofs.tables.count_ends.Given as goal

abbrev pub invariant-loop-one : goal.invariant-loop-one
invariant-loop-one l = l.counts.items ≡ ends_counted l.moves l.nodes l.one-index
