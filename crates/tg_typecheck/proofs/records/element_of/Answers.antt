use Rattle.std.proofs.Common.{sym, ap, ◌∙◌}
use Rattle.std.specs.Option.{option_copied}
use Rattle.tg_typecheck.specs.glue.States.{bad, noted_of}
use Rattle.tg_typecheck.proofs.FieldSteps.{not_array, of_array, no_array, element_is, element_not}
use Rattle.tg_typecheck.proofs.records.element_of.Goals as goal

pub returns-in_default : goal.returns-in_default
returns-in_default c = bad (not_array c.args.ty c.args.at (noted_of c.args.state.now) (sym c.in_default.is ∙ c.array_byte.ensures))

pub returns-in_default-get : goal.returns-in_default-get
returns-in_default-get c =
    bad (of_array c.args.ty c.args.at _ _ (noted_of c.args.state.now) (sym c.in-Some.is ∙ c.array_byte.ensures)
    (sym (ap option_copied c.in_default-get.is) ∙ c.get.ensures) ∙ no_array c.args.at (noted_of c.args.state.now))

pub returns-in-Some-element : goal.returns-in-Some-element
returns-in-Some-element c =
    of_array c.args.ty c.args.at _ _ (noted_of c.args.state.now) (sym c.in-Some.is ∙ c.array_byte.ensures) c.in-Some-get.ensures ∙ element_is _ c.args.at
    (noted_of c.args.state.now) _ c.in-Some-element.ensures

pub returns-in-None : goal.returns-in-None
returns-in-None c =
    bad (of_array c.args.ty c.args.at _ _ (noted_of c.args.state.now) (sym c.in-Some.is ∙ c.array_byte.ensures) c.in-Some-get.ensures
    ∙ element_not _ c.args.at (noted_of c.args.state.now) c.in-None.ensures)
