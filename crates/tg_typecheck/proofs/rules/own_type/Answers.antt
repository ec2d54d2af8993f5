use Rattle.std.proofs.Common.{refl, sym, ap, ◌∙◌}
use Rattle.std.specs.Prelude.{not}
use Rattle.tg_typecheck.proofs.Steps.{step, given, keep_is, fails_first, fails_then, ended, last_fails}
use Rattle.tg_typecheck.specs.Types.{same}
use Rattle.tg_typecheck.proofs.rules.own_type.Goals as goal

pub returns-in_err-value_needed : goal.returns-in_err-value_needed
returns-in_err-value_needed c = λ n. ended _ _ _ c.from_residual.ensures (fails_first _ _ (c.in_err-value_needed.ensures n))

pub returns-in_err-kept : goal.returns-in_err-kept
returns-in_err-kept c =
    λ n. ended _ _ _ c.from_residual-in_err-kept.ensures
    (fails_then _ _ (c.in_ok-value_needed.ensures n) (fails_first _ _
    (last_fails (keep_is _ _ refl (ap not (ap (λ w. same c.args.ty w) (sym c.nil.ensures) ∙ sym c.same.ensures))) (c.in_err-kept.ensures n))))

pub returns : goal.returns
returns c =
    λ n. step _ _ (c.in_ok-value_needed.ensures n) (step _ _
    (keep_is _ _ refl (ap not (ap (λ w. same c.args.ty w) (sym c.nil.ensures) ∙ sym c.same.ensures)) ∙ c.in_ok-kept.ensures n) given)
