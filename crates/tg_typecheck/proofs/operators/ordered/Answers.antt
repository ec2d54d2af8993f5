use Rattle.std.proofs.Common.{refl, sym, ◌∙◌}
use Rattle.tg_typecheck.proofs.Steps.{step, given, keep_is, fails_first, fails_then, ended, last_fails}
use Rattle.tg_typecheck.proofs.operators.ordered.Goals as goal

pub returns-in_err-value_needed-clause-given : goal.returns-in_err-value_needed-clause-given
returns-in_err-value_needed-clause-given c = ended _ _ _ c.from_residual.ensures (fails_first _ _ (c.in_err-value_needed.ensures _))

pub returns-in_err-kept-clause-given : goal.returns-in_err-kept-clause-given
returns-in_err-kept-clause-given c =
    ended _ _ _ c.from_residual-in_err-kept.ensures (fails_then _ _ (c.in_ok-value_needed.ensures _)
    (fails_first _ _ (last_fails (keep_is _ _ refl (sym c.has_order.ensures)) (c.in_err-kept.ensures _))))

pub returns-in_err-compares-clause-given : goal.returns-in_err-compares-clause-given
returns-in_err-compares-clause-given c =
    ended _ _ _ c.from_residual-in_err-compares.ensures (fails_then _ _ (c.in_ok-value_needed.ensures _)
    (fails_then _ _ (keep_is _ _ refl (sym c.has_order.ensures) ∙ c.in_ok-kept.ensures _) (fails_first _ _ c.in_err-compares.ensures.given)))

pub returns-clause-given : goal.returns-clause-given
returns-clause-given c =
    step _ _ (c.in_ok-value_needed.ensures _) (step _ _ (keep_is _ _ refl (sym c.has_order.ensures) ∙ c.in_ok-kept.ensures _)
    (step _ _ c.in_ok-compares.ensures.given given))
