use Rattle.std.proofs.Common.{refl, sym, ap, ◌∙◌}
use Rattle.std.specs.Prelude.{not}
use Rattle.tg_typecheck.proofs.Steps.{step, keep_is, fails_first, fails_then, ended, carry, last_fails}
use Rattle.tg_typecheck.proofs.operators.equal_sides.Goals as goal

pub returns-in_err-value_needed : goal.returns-in_err-value_needed
returns-in_err-value_needed c = λ n. ended _ _ _ c.from_residual.ensures (fails_first _ _ (c.in_err-value_needed.ensures n))

pub returns-in_err-kept : goal.returns-in_err-kept
returns-in_err-kept c =
    λ n. ended _ _ _ c.from_residual-in_err-kept.ensures
    (fails_then _ _ (c.in_ok-value_needed.ensures n) (fails_first _ _
    (last_fails (keep_is _ _ refl (ap not (sym c.are_nil.ensures))) (c.in_err-kept.ensures n))))

pub returns : goal.returns
returns c =
    λ n. carry c.kept-2.result _ _ (step _ _ (c.in_ok-value_needed.ensures n)
    (step _ _ (keep_is _ _ refl (ap not (sym c.are_nil.ensures)) ∙ c.in_ok-kept.ensures n) (keep_is _ _ refl (sym c.alike.ensures)))) (c.kept-2.ensures n)
