use Rattle.tg_delay_proof.proofs.Simulation.{filling_keeps_runs}
use Rattle.tg_delay_proof.proofs.laws.filling_keeps_runs.Goals as goal

pub returns : goal.returns
returns c = filling_keeps_runs
