use Rattle.tg_bare_proof.proofs.Images.{filled_has_image}
use Rattle.tg_bare_proof.proofs.LongCode.{long_code_has_image}
use Rattle.tg_bare_proof.proofs.laws.filled_has_image.Goals as goal

pub returns : goal.returns
returns c = record { short = filled_has_image; long = long_code_has_image }
