use Rattle.std.proofs.Common.{sym, ap, ◌∙◌}
use Rattle.tg_typecheck.proofs.Steps.{step, given_is, fails_first, ended, last_fails}
use Rattle.tg_typecheck.specs.Typing.{expect}
use Rattle.tg_typecheck.proofs.operators.calculated.Goals as goal

pub returns-in_err-expected : goal.returns-in_err-expected
returns-in_err-expected c =
    λ n. ended _ _ _ c.from_residual.ensures (fails_first _ _
    (last_fails (ap (λ w. expect w c.args.left c.args.left_at n) (sym c.int.ensures)) (c.in_err-expected.ensures n)))

pub returns : goal.returns
returns c = λ n. step _ _ (ap (λ w. expect w c.args.left c.args.left_at n) (sym c.int.ensures) ∙ c.in_ok-expected.ensures n) (given_is c.int-2.ensures)
