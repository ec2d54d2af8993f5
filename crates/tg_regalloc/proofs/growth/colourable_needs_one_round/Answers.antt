use Rattle.tg_regalloc.proofs.OneRound.{colourable_needs_one_round}
use Rattle.tg_regalloc.proofs.growth.colourable_needs_one_round.Goals as goal

pub returns : goal.returns
returns c = colourable_needs_one_round
