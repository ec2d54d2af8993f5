use Rattle.tg_parser.proofs.Leading.{skips_ended, split_is, split_not}
use Rattle.tg_parser.proofs.heads.skip.Goals as goal

pub returns-in_err-token-clause-given : goal.returns-in_err-token-clause-given
returns-in_err-token-clause-given c = skips_ended _ _ c.from_residual.result _ c.from_residual.ensures c.in_err-token.ensures.first

pub returns-then-is-clause-given : goal.returns-then-is-clause-given
returns-then-is-clause-given c = λ j f z. split_is j c.in_ok-token.ensures.first c.is.ensures c.if-is.true

pub returns-else-is-clause-given : goal.returns-else-is-clause-given
returns-else-is-clause-given c = λ j f z. split_not j c.in_ok-token.ensures.first c.is.ensures c.if-is.false
