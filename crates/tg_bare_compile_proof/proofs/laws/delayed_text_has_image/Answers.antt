use Rattle.tg_bare_compile_proof.proofs.Texts as text
use Rattle.tg_bare_compile_proof.proofs.laws.delayed_text_has_image.Goals as goal

pub returns : goal.returns
returns c = text.delayed_text_has_image c.emitted_may_be_delayed.ensures.code
