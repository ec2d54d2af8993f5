use Rattle.tg_pipeline_example.proofs.Chosen.{image_ends}
use Rattle.tg_pipeline_example.proofs.image_ends.Goals as goal

pub returns : goal.returns
returns c = image_ends
