use Rattle.tg_munch.proofs.Counting.{few, words_few}
use Rattle.tg_munch.proofs.laws.munch_is_bounded.Goals as goal

pub returns : goal.returns
returns c = record { few = few; words = words_few }
