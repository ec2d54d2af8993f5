use Rattle.tg_regalloc.proofs.Growing.{regalloc_is_bounded}
use Rattle.tg_regalloc.proofs.growth.regalloc_is_bounded.Goals as goal

pub returns : goal.returns
returns c = regalloc_is_bounded
