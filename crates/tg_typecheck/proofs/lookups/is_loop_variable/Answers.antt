use Rattle.std.proofs.Common.{ap, ◌∙◌, refl, []}
use Rattle.std.proofs.lemmas.Option.{slice_get-get_or}
use Rattle.tg_typecheck.proofs.Namings.{bound_open, bound_outside, loop_open, loop_outside}
use Rattle.tg_typecheck.proofs.lookups.is_loop_variable.Goals as goal

pub returns-in-Some : goal.returns-in-Some
returns-in-Some c = λ scope l h. c.is_loop_variable.ensures ∙ loop_open (bound_open c.args.x scope _ _ (ap (λ s. s.bindings) h) c.in-Some.ensures)

pub returns-in-None : goal.returns-in-None
returns-in-None c =
    λ scope l h. loop_outside _ (bound_outside c.args.x scope _ c.args.names.now (ap (λ s. s.bindings) h) c.in-None.ensures
    (slice_get-get_or c.args.names.now c.args.x.name.0 [] c.requires) refl)
