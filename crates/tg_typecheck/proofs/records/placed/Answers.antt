use Rattle.std.proofs.Common.{sym, ◌∙◌}
use Rattle.tg_typecheck.proofs.Steps.{step, fails_first, ended}
use Rattle.tg_typecheck.specs.glue.States.{bad}
use Rattle.tg_typecheck.proofs.FieldSteps.{present_is, present_not, placed_is, placed_not, named_not}
use Rattle.tg_typecheck.proofs.records.placed.Goals as goal

pub returns-in_err-fields : goal.returns-in_err-fields
returns-in_err-fields c = ended _ _ _ c.from_residual.ensures (fails_first _ _ c.in_err-fields.ensures)

pub returns-in_default : goal.returns-in_default
returns-in_default c = bad (step _ _ c.in_ok-fields.ensures (present_not _ _ _ (placed_not c.args.field.name.0 0 _ (sym c.find.ensures ∙ c.in_default.is))))

pub returns-in-Some-get : goal.returns-in-Some-get
returns-in-Some-get c =
    step _ _ c.in_ok-fields.ensures (present_is _ _ _ (placed_is c.args.field.name.0 0 _ _ _ (sym c.find.ensures ∙ c.in-Some.is) (sym c.in-Some-get.ensures)))

pub returns-in-None : goal.returns-in-None
returns-in-None c =
    bad (step _ _ c.in_ok-fields.ensures (present_not _ _ _ (placed_not c.args.field.name.0 0 _ (named_not c.args.field.name.0 0 _ (sym c.in-None.ensures)))))
