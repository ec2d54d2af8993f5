use Rattle.std.proofs.Common.{[], sym, ap, ◌∙◌}
use Rattle.tg_typecheck.proofs.Steps.{step, given_is, fails_first, fails_then, ended, last_fails}
use Rattle.tg_typecheck.specs.Groups as groups
use Rattle.tg_typecheck.proofs.headers.header.Goals as goal

pub returns-in_err-params : goal.returns-in_err-params
returns-in_err-params c = λ scope l h n.
    ended _ _ _ c.from_residual.ensures (fails_first _ _
    (last_fails (ap (λ ps. groups.param_types scope [] ps n) (sym c.as_slice.ensures)) (c.in_err-params.ensures.given scope l h n)))

pub returns-in_err-outcome : goal.returns-in_err-outcome
returns-in_err-outcome c = λ scope l h n.
    ended _ _ _ c.from_residual-in_err-outcome.ensures (fails_then _ _
    (ap (λ ps. groups.param_types scope [] ps n) (sym c.as_slice.ensures) ∙ c.in_ok-params.ensures.given scope l h n)
    (fails_first _ _ (c.in_err-outcome.ensures scope l h n)))

pub returns : goal.returns
returns c = λ scope l h n.
    step _ _ (ap (λ ps. groups.param_types scope [] ps n) (sym c.as_slice.ensures) ∙ c.in_ok-params.ensures.given scope l h n)
    (step _ _ (c.in_ok-outcome.ensures scope l h n) (given_is c.new.ensures))
