use Rattle.tg_syntax_laws.specs.mirror.Steps.{MoreDecs}
use Rattle.tg_parser.proofs.Leading.{declares_ended, then, split_is, split_not}
use Rattle.tg_parser.proofs.heads.declared_next.Goals as goal

pub returns-in_err-token-clause-given : goal.returns-in_err-token-clause-given
returns-in_err-token-clause-given c = declares_ended _ _ c.from_residual.result c.from_residual.ensures c.in_err-token.ensures.first

pub returns-then-is-clause-given : goal.returns-then-is-clause-given
returns-then-is-clause-given c = λ ds. split_is (MoreDecs ds) c.in_ok-token.ensures.first c.is.ensures c.if-is.true

pub returns-then-is-2-clause-given : goal.returns-then-is-2-clause-given
returns-then-is-2-clause-given c = λ ds.
    then (split_not (MoreDecs ds) c.in_ok-token.ensures.first c.is.ensures c.if-is.false)
    (split_is (MoreDecs ds) c.in_ok-token.ensures.first c.is-2.ensures c.if-is-2.true)

pub returns-then-is-3-clause-given : goal.returns-then-is-3-clause-given
returns-then-is-3-clause-given c = λ ds.
    then (split_not (MoreDecs ds) c.in_ok-token.ensures.first c.is.ensures c.if-is.false)
    (then (split_not (MoreDecs ds) c.in_ok-token.ensures.first c.is-2.ensures c.if-is-2.false)
    (split_is (MoreDecs ds) c.in_ok-token.ensures.first c.is-3.ensures c.if-is-3.true))

pub returns-clause-given : goal.returns-clause-given
returns-clause-given c = λ ds.
    then (split_not (MoreDecs ds) c.in_ok-token.ensures.first c.is.ensures c.if-is.false)
    (then (split_not (MoreDecs ds) c.in_ok-token.ensures.first c.is-2.ensures c.if-is-2.false)
    (split_not (MoreDecs ds) c.in_ok-token.ensures.first c.is-3.ensures c.if-is-3.false))
