use Rattle.tg_emit_proof.proofs.Emission.{both_halves}
use Rattle.tg_emit_proof.proofs.laws.emit_is_correct.Goals as goal

pub returns : goal.returns
returns c =
    both_halves c.program_has_image.ensures.code c.program_has_image.ensures.sound c.lines_run_on_the_machine.ensures
    c.places_are_returns.ensures c.emission_keeps_runs.ensures
