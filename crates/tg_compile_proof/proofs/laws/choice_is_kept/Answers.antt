use Rattle.tg_compile_proof.proofs.Choosing.{choice_is_kept}
use Rattle.tg_compile_proof.proofs.laws.choice_is_kept.Goals as goal

pub returns : goal.returns
returns c =
    choice_is_kept c.lowering_is_correct.ensures.may c.munch_is_correct.ensures.programs c.known_is_correct.ensures
    c.code_keeps_counts.ensures.words
