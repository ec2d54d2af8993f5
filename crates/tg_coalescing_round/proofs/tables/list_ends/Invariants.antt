use Rattle.std.proofs.Common.{◌≡◌}
use Rattle.tg_coalescing_round.specs.glue.Lists.{numbers_in}
use Rattle.tg_coalescing_round.specs.glue.Tables.{ends_listed}
use Rattle.tg_coalescing_round.proofs.tables.list_ends.Given as goal

abbrev pub invariant-loop-index : goal.invariant-loop-index
invariant-loop-index l = numbers_in l.touching.items ≡ ends_listed l.moves l.nodes l.index
