use Rattle.tg_delay_proof.proofs.Delaying.{delaying_keeps_runs}
use Rattle.tg_delay_proof.proofs.laws.delaying_keeps_runs.Goals as goal

pub returns : goal.returns
returns c = delaying_keeps_runs c.passes_compose.ensures c.filling_keeps_runs.ensures c.turning_keeps_runs.ensures
