use Rattle.std.proofs.Common.{refl, sym, ap, ◌∙◌, length}
use Rattle.tg_syntax.specs.glue.Plain.{plain_inits}
use Rattle.tg_typecheck.specs.Typing as typing
use Rattle.tg_typecheck.specs.glue.States.{no_memory, noted_of}
use Rattle.tg_typecheck.proofs.Steps.{step, given_is, keep_is, keep_true, fails_first, fails_then, ended, last_fails}
use Rattle.tg_typecheck.proofs.FieldSteps.{same_lengths}
use Rattle.tg_typecheck.proofs.records.made.Goals as goal

pub returns-in_err-fields_of-clause-given : goal.returns-in_err-fields_of-clause-given
returns-in_err-fields_of-clause-given c = ended _ _ _ c.from_residual.ensures (fails_first _ _ c.in_err-fields_of.ensures)

pub returns-in_err-fields-clause-given : goal.returns-in_err-fields-clause-given
returns-in_err-fields-clause-given c = ended _ _ _ c.from_residual-in_err-fields.ensures no_memory

pub returns-in_err-kept-clause-given : goal.returns-in_err-kept-clause-given
returns-in_err-kept-clause-given c =
    let b = ap (λ fs. typing.are_fields (plain_inits c.args.inits.now) fs) (sym c.in_ok-fields.ensures ∙ sym c.deref.ensures.value)
    ∙ sym c.are_fields.ensures.value in
    ended _ _ _ c.from_residual-in_err-kept.ensures (fails_then _ _ c.in_ok-fields_of.ensures
    (fails_first _ _ (last_fails (keep_is _ _ refl b) (c.in_err-kept.ensures _))))

pub returns-clause-given : goal.returns-clause-given
returns-clause-given c =
    let b = ap (λ fs. typing.are_fields (plain_inits c.args.inits.now) fs) (sym c.in_ok-fields.ensures ∙ sym c.deref.ensures.value)
    ∙ sym c.are_fields.ensures.value in
    step _ _ c.in_ok-fields_of.ensures (step _ _ (keep_is _ _ refl b ∙ c.in_ok-kept.ensures _) (given_is c.in_ok-fields.ensures))

pub returns-clause-as_many : goal.returns-clause-as_many
returns-clause-as_many c =
    ap length (sym c.deref.ensures.value) ∙ same_lengths (plain_inits c.args.inits.now) c.deref.result.now
    (sym c.are_fields.ensures.value ∙ keep_true _ _ (c.in_ok-kept.ensures (noted_of c.args.state.now)))
