use Rattle.std.proofs.Common.{sym, ap, ◌∙◌}
use Rattle.std.specs.Option.{option_copied}
use Rattle.tg_typecheck.specs.glue.States.{bad, noted_of}
use Rattle.tg_typecheck.proofs.FieldSteps.{not_record, of_shape, no_shape, fields_is, fields_not}
use Rattle.tg_typecheck.proofs.records.fields_of.Goals as goal

pub returns-in_default : goal.returns-in_default
returns-in_default c = bad (not_record c.args.ty c.args.at (noted_of c.args.state.now) (sym c.in_default.is ∙ c.record_byte.ensures))

pub returns-in_default-get : goal.returns-in_default-get
returns-in_default-get c =
    bad (of_shape c.args.ty c.args.at _ _ (noted_of c.args.state.now) (sym c.in-Some.is ∙ c.record_byte.ensures)
    (sym (ap option_copied c.in_default-get.is) ∙ c.get.ensures) ∙ no_shape c.args.at (noted_of c.args.state.now))

pub returns-in-Some-fields : goal.returns-in-Some-fields
returns-in-Some-fields c =
    of_shape c.args.ty c.args.at _ _ (noted_of c.args.state.now) (sym c.in-Some.is ∙ c.record_byte.ensures) c.in-Some-get.ensures ∙ fields_is _ c.args.at
    (noted_of c.args.state.now) _ c.in-Some-fields.ensures

pub returns-in-None : goal.returns-in-None
returns-in-None c =
    bad (of_shape c.args.ty c.args.at _ _ (noted_of c.args.state.now) (sym c.in-Some.is ∙ c.record_byte.ensures) c.in-Some-get.ensures
    ∙ fields_not _ c.args.at (noted_of c.args.state.now) c.in-None.ensures)
