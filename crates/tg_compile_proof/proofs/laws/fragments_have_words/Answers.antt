use Rattle.tg_compile_proof.proofs.Constants.{fragments_have_words}
use Rattle.tg_compile_proof.proofs.laws.fragments_have_words.Goals as goal

pub returns : goal.returns
returns c = fragments_have_words c.checked_has_type.ensures c.constants_are_words.ensures.checked c.routines_are_closed.ensures.words
