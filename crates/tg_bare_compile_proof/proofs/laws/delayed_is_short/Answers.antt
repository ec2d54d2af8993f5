use Rattle.tg_bare_compile_proof.proofs.Sizes as sizes
use Rattle.tg_bare_compile_proof.proofs.laws.delayed_is_short.Goals as goal

pub returns : goal.returns
returns c =
    sizes.delayed_is_short c.functions_are_bounded.ensures.code c.functions_are_bounded.ensures.paid
    c.functions_are_few.ensures c.checked_has_type.ensures c.translate_is_bounded.ensures.within
    c.routines_are_closed.ensures.routines c.prepared_is_reduced.ensures.reduced
