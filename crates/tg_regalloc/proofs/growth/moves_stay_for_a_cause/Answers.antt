use Rattle.tg_regalloc.proofs.Causes.{moves_stay_for_a_cause}
use Rattle.tg_regalloc.proofs.growth.moves_stay_for_a_cause.Goals as goal

pub returns : goal.returns
returns c = moves_stay_for_a_cause
