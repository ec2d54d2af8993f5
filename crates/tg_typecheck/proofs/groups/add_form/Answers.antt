use Rattle.std.proofs.Common.{sym, ap, ◌∙◌, map}
use Rattle.tg_syntax.specs.declared.trees.Param.{Param}
use Rattle.tg_syntax.specs.glue.Plain.{plain_form}
use Rattle.tg_typecheck.specs.Types.{record_shape, array_shape}
use Rattle.tg_typecheck.specs.Checks.{add_shape}
use Rattle.tg_typecheck.specs.Groups as groups
use Rattle.tg_typecheck.specs.glue.States.{no_memory, noted_of}
use Rattle.tg_typecheck.proofs.Steps.{ended, given, carry}
use Rattle.tg_typecheck.proofs.groups.add_form.Goals as goal

pub returns-in_err-fields-in-Fields-clause-given : goal.returns-in_err-fields-in-Fields-clause-given
returns-in_err-fields-in-Fields-clause-given c = λ in_loop scope h. ended _ _ _ c.from_residual.ensures no_memory

pub returns-in-Alias-clause-given : goal.returns-in-Alias-clause-given
returns-in-Alias-clause-given c = λ in_loop scope h.
    ap (λ f. groups.add_form scope c.args.dec.now.name.span.from (plain_form f) (noted_of c.args.state.now)) c.in-Alias.is ∙ given

pub returns-in_ok-fields-in-Fields-clause-given : goal.returns-in_ok-fields-in-Fields-clause-given
returns-in_ok-fields-in-Fields-clause-given c = λ in_loop scope h.
    let at = c.args.dec.now.name.span.from in
    let n = noted_of c.args.state.now in
    let is = c.record_of.ensures ∙ ap record_shape (c.in_ok-fields-in-Fields.ensures scope in_loop h ∙ ap
    (λ ps. map (λ (p : Param). (p.name.name.0, groups.known_type scope p.kind)) ps) c.as_slice.ensures) in
    carry c.add_shape.result _ _ (ap (λ f. groups.add_form scope at (plain_form f) n) c.in-Fields.is ∙ ap (λ s. add_shape at s n) (sym is))
    c.add_shape.ensures.given

pub returns-in-Array-clause-given : goal.returns-in-Array-clause-given
returns-in-Array-clause-given c = λ in_loop scope h.
    let at = c.args.dec.now.name.span.from in
    let n = noted_of c.args.state.now in
    let is = c.array_of.ensures ∙ ap array_shape (c.known_type-element.ensures scope in_loop h) in
    carry c.add_shape-in-Array.result _ _ (ap (λ f. groups.add_form scope at (plain_form f) n) c.in-Array.is ∙ ap (λ s. add_shape at s n) (sym is))
    c.add_shape-in-Array.ensures.given
