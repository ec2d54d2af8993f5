use Rattle.tg_compile_proof.proofs.Building.{build_is_correct}
use Rattle.tg_compile_proof.proofs.laws.build_is_correct.Goals as goal

pub returns : goal.returns
returns c = build_is_correct c.trees_are_of_words.ensures c.compile_is_correct.ensures
