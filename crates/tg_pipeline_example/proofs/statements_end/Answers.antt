use Rattle.std.proofs.Common.{refl}
use Rattle.tg_pipeline_example.proofs.statements_end.Goals as goal

pub returns : goal.returns
returns c = (refl, refl)
