use Rattle.tg_code_bounds.proofs.Programs as programs
use Rattle.tg_code_bounds.proofs.laws.programs_are_bounded.Goals as goal

pub returns : goal.returns
returns c =
    let short = c.functions_are_bounded.ensures in
    let closed = c.bodies_are_closed.ensures.checked in
    let drawn = c.temporaries_are_drawn.ensures.checked in
    let small = c.translate_is_bounded.ensures.checked in
    let routines = c.routines_are_closed.ensures.routines in
    record {
      code = programs.program_code_fits short.code short.paid c.checked_has_type.ensures closed drawn small c.translate_is_bounded.ensures.within routines;
      frames = programs.program_frames_are_small short.frames closed drawn small routines;
    }
