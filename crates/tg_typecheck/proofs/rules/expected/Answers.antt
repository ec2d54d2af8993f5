use Rattle.std.proofs.Common.{refl, sym}
use Rattle.tg_typecheck.proofs.Steps.{step, keep_is, fails_first, ended, carry}
use Rattle.tg_typecheck.proofs.rules.expected.Goals as goal

pub returns-in_err-value_needed : goal.returns-in_err-value_needed
returns-in_err-value_needed c = λ n. ended _ _ _ c.from_residual.ensures (fails_first _ _ (c.in_err-value_needed.ensures n))

pub returns : goal.returns
returns c = λ n. carry c.kept.result _ _ (step _ _ (c.in_ok-value_needed.ensures n) (keep_is _ _ refl (sym c.fits.ensures))) (c.kept.ensures n)
