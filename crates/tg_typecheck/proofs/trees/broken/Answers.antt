use Rattle.std.proofs.Common.{refl, ◌∙◌}
use Rattle.tg_typecheck.proofs.Steps.{step, given_is, keep_is, fails_first, ended, last_fails}
use Rattle.tg_typecheck.proofs.trees.broken.Goals as goal

pub returns-in_err-kept : goal.returns-in_err-kept
returns-in_err-kept c = λ scope e n. ended _ _ _ c.from_residual.ensures (fails_first _ _ (last_fails (keep_is _ _ refl e) (c.in_err-kept.ensures n)))

pub returns : goal.returns
returns c = λ scope e n. step _ _ (keep_is _ _ refl e ∙ c.in_ok-kept.ensures n) (given_is c.nothing.ensures)
