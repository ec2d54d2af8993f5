use Rattle.std.proofs.Common.{[], sym, ap, ◌∙◌}
use Rattle.tg_syntax.specs.glue.Plain.{plain_form}
use Rattle.tg_typecheck.specs.Groups as groups
use Rattle.tg_typecheck.proofs.Steps.{carry}
use Rattle.tg_typecheck.proofs.groups.known_form.Goals as goal

pub returns-in-Alias : goal.returns-in-Alias
returns-in-Alias c = λ whole scope in_loop h e n.
    carry c.known.result _ _ (ap (λ f. groups.known_form whole scope (plain_form f) n) c.in-Alias.is) (c.known.ensures whole scope in_loop h e n)

pub returns-in-Fields : goal.returns-in-Fields
returns-in-Fields c = λ whole scope in_loop h e n.
    carry c.known_fields.result _ _ (ap (λ f. groups.known_form whole scope (plain_form f) n) c.in-Fields.is ∙ ap
    (λ ps. groups.known_fields whole scope [] ps n) (sym c.as_slice.ensures)) (c.known_fields.ensures whole scope in_loop h e n)

pub returns-in-Array : goal.returns-in-Array
returns-in-Array c = λ whole scope in_loop h e n.
    carry c.known-in-Array.result _ _ (ap (λ f. groups.known_form whole scope (plain_form f) n) c.in-Array.is)
    (c.known-in-Array.ensures whole scope in_loop h e n)
