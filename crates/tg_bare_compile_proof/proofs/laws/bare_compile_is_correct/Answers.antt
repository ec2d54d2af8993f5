use Rattle.tg_compile.proofs.WellFormed.{functions_are}
use Rattle.tg_bare_compile_proof.proofs.Composing as composing
use Rattle.tg_bare_compile_proof.proofs.laws.bare_compile_is_correct.Goals as goal

pub returns : goal.returns
returns c =
    composing.bare_compile_is_correct c.delayed_agrees.ensures c.delayed_has_image.ensures c.delayed_text_has_image.ensures
    c.delayed_is_short.ensures c.program_has_image.ensures.code c.program_has_image.ensures.sound c.bare_image_agrees.ensures
    c.forms_agree.ensures c.programs_as_sources.ensures.full c.programs_as_sources.ensures.stuck c.never_stuck.ensures
    c.programs_are_translated.ensures c.prepared_is_reduced.ensures.reduced
    (λ program accepted. functions_are program accepted c.bodies_are_closed.ensures.checked
    c.temporaries_are_drawn.ensures.checked c.translate_is_bounded.ensures.checked c.routines_are_closed.ensures.routines)
