use Rattle.std.proofs.Common.{sym, ◌∙◌}
use Rattle.tg_parser.proofs.Leading.{elses_ended, elses_is, test_is}
use Rattle.tg_parser.proofs.heads.wants_else.Goals as goal

pub returns-then-is_short : goal.returns-then-is_short
returns-then-is_short c = λ j f z. test_is j (sym c.is_short.ensures ∙ c.if-is_short.true)

pub returns-in_err-token : goal.returns-in_err-token
returns-in_err-token c =
    elses_ended c.from_residual.result _ c.from_residual.ensures (sym c.is_short.ensures ∙ c.if-is_short.false) c.in_err-token.ensures.first

pub returns : goal.returns
returns c = elses_is _ _ (sym c.is_short.ensures ∙ c.if-is_short.false) c.in_ok-token.ensures.first c.is.ensures
