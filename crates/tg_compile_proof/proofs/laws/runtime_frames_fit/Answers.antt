use Rattle.tg_compile_proof.proofs.RuntimeFrames.{runtime_frames_fit}
use Rattle.tg_compile_proof.proofs.laws.runtime_frames_fit.Goals as goal

pub returns : goal.returns
returns c =
    runtime_frames_fit c.prepared_is_reduced.ensures.reduced c.programs_are_linked.ensures.above c.routines_are_closed.ensures.routines
    c.functions_are_bounded.ensures.frames
