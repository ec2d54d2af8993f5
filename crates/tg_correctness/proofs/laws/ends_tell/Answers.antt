use Rattle.tg_correctness.proofs.Telling.{ends_tell_meaning}
use Rattle.tg_correctness.proofs.laws.ends_tell.Goals as goal

pub returns : goal.returns
returns c = ends_tell_meaning
