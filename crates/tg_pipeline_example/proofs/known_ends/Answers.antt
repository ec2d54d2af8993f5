use Rattle.tg_pipeline_example.proofs.Chosen.{known_ends}
use Rattle.tg_pipeline_example.proofs.known_ends.Goals as goal

pub returns : goal.returns
returns c = known_ends
