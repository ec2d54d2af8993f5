use Rattle.tg_munch_proof.proofs.Counting.{counts_keep, words_keep}
use Rattle.tg_munch_proof.proofs.Whole.{chosen_keep}
use Rattle.tg_munch_proof.proofs.laws.munch_is_correct.Goals as goal

pub returns : goal.returns
returns c =
    let keep = chosen_keep c.code_is_marked.ensures.differ in
    record { programs = keep; counts = counts_keep keep; words = words_keep (counts_keep keep) }
