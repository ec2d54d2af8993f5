use Rattle.std.proofs.Common.{refl}
use Rattle.tg_pipeline_example.proofs.source_ends.Goals as goal

pub returns : goal.returns
returns c = (refl, refl)
