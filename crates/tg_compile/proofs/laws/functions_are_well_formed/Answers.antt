use Rattle.std.proofs.Common.{subst}
use Rattle.tg_typecheck.specs.Programs.{plain_checked, IsAccepted}
use Rattle.tg_compile.proofs.WellFormed.{functions_are}
use Rattle.tg_compile.proofs.laws.functions_are_well_formed.Goals as goal

pub returns : goal.returns
returns c =
    functions_are (plain_checked c.args.checked.now) (subst (λ v. IsAccepted (plain_checked v)) c.checked.view_is c.checked.invariant)
    c.bodies_are_closed.ensures.checked c.temporaries_are_drawn.ensures.checked c.translate_is_bounded.ensures.checked c.routines_are_closed.ensures.routines
