use Rattle.std.proofs.Common.{arith}
use Rattle.tg_coalescing_round.proofs.Sums.{both_within}
use Rattle.tg_coalescing_round.proofs.lists.move_sum.Goals as goal

pub overflow_add-sums : goal.overflow_add-sums
overflow_add-sums c =
    omega (arith, both_within c.args.sums.now c.args.to c.args.from c.requires.first c.requires.second, c.requires.few)
