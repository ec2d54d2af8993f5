use Rattle.std.proofs.Common.{arith}
use Rattle.tg_coalescing_round.proofs.Sums.{both_within}
use Rattle.tg_coalescing_round.proofs.tables.move_count.Goals as goal

pub overflow_add-counts : goal.overflow_add-counts
overflow_add-counts c =
    omega (arith, both_within c.args.counts.now c.args.to c.args.from c.requires.first c.requires.second, c.requires.few)
