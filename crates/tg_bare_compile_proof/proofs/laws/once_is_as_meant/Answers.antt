use Rattle.tg_bare_compile_proof.proofs.Meaning as meaning
use Rattle.tg_bare_compile_proof.proofs.laws.once_is_as_meant.Goals as goal

pub returns : goal.returns
returns c = meaning.once_is_as_meant
