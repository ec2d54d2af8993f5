use Rattle.std.proofs.Common.{refl}
use Rattle.tg_pipeline_example.proofs.Found.{notes_are}
use Rattle.tg_pipeline_example.proofs.program_is_found.Goals as goal

pub returns : goal.returns
returns c = (notes_are, refl, refl)
