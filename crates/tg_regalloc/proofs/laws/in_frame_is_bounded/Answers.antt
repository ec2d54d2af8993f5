use Rattle.tg_regalloc.proofs.Counts.{few, few_words}
use Rattle.tg_regalloc.proofs.laws.in_frame_is_bounded.Goals as goal

pub returns : goal.returns
returns c = λ base list. (few base list, few_words base list)
