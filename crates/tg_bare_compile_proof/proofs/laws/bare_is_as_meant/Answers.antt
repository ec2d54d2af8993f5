use Rattle.tg_bare_compile_proof.proofs.Building.{bare_build_is_correct}
use Rattle.tg_bare_compile_proof.proofs.laws.bare_is_as_meant.Goals as goal

pub returns : goal.returns
returns c = bare_build_is_correct c.trees_are_of_words.ensures c.bare_compile_is_correct.ensures
