use Rattle.tg_emit_proof.proofs.Emission.{emission_keeps_runs}
use Rattle.tg_emit_proof.proofs.laws.emission_keeps_runs.Goals as goal

pub returns : goal.returns
returns c = emission_keeps_runs
