use Rattle.tg_pipeline_example.proofs.Chosen.{frames_end}
use Rattle.tg_pipeline_example.proofs.frames_end.Goals as goal

pub returns : goal.returns
returns c = frames_end
