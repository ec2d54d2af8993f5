use Rattle.tg_fold.proofs.Leaving.{folded_is_folded}
use Rattle.tg_fold.proofs.laws.folding_is_folded.Goals as goal

pub returns : goal.returns
returns c = folded_is_folded
