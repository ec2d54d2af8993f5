use Rattle.tg_pipeline_example.proofs.Chosen.{words_are_counted}
use Rattle.tg_pipeline_example.proofs.words_are_counted.Goals as goal

pub returns : goal.returns
returns c = words_are_counted
