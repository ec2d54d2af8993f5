use Rattle.tg_delay_proof.proofs.Turning.{turning_keeps_runs}
use Rattle.tg_delay_proof.proofs.laws.turning_keeps_runs.Goals as goal

pub returns : goal.returns
returns c = turning_keeps_runs
