use Rattle.tg_pipeline_example.proofs.Chosen.{instructions_end}
use Rattle.tg_pipeline_example.proofs.instructions_end.Goals as goal

pub returns : goal.returns
returns c = instructions_end
