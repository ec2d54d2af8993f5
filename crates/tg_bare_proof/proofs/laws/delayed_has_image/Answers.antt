use Rattle.tg_bare_proof.proofs.DelayedImages.{delayed_has_image}
use Rattle.tg_bare_proof.proofs.laws.delayed_has_image.Goals as goal

pub returns : goal.returns
returns c = delayed_has_image
