use Rattle.std.proofs.Common.{sym, ◌∙◌}
use Rattle.tg_parser.proofs.Leading.{operates_ended, then, test_is, test_not, oper_is, oper_not}
use Rattle.tg_parser.proofs.heads.operator_behind.Goals as goal

pub returns-then-ends_tail-clause-given : goal.returns-then-ends_tail-clause-given
returns-then-ends_tail-clause-given c = λ j f z. test_is j (sym c.ends_tail.ensures ∙ c.if-ends_tail.true)

pub returns-in_err-token-clause-given : goal.returns-in_err-token-clause-given
returns-in_err-token-clause-given c =
    operates_ended _ _ _ c.from_residual.result _ _ c.from_residual.ensures (sym c.ends_tail.ensures ∙ c.if-ends_tail.false) c.in_err-token.ensures.first

pub returns-in-Some-clause-given : goal.returns-in-Some-clause-given
returns-in-Some-clause-given c = λ j f z.
    then (test_not j (sym c.ends_tail.ensures ∙ c.if-ends_tail.false)) (oper_is j c.in_ok-token.ensures.first c.in-Some.ensures)

pub returns-in-None-clause-given : goal.returns-in-None-clause-given
returns-in-None-clause-given c = λ j f z.
    then (test_not j (sym c.ends_tail.ensures ∙ c.if-ends_tail.false)) (oper_not j c.in_ok-token.ensures.first c.in-None.ensures)
