use Rattle.tg_emit_proof.proofs.Emission.{emission_agrees}
use Rattle.tg_emit_proof.proofs.laws.emission_agrees.Goals as goal

pub returns : goal.returns
returns c =
    emission_agrees c.emit_is_correct.ensures c.program_has_image.ensures.image c.machine_runs_by_fuel.ensures.over
    c.machine_runs_by_fuel.ensures.goes_on
