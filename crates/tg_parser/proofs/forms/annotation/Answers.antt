use Rattle.tg_syntax_laws.specs.mirror.Steps.{Annotation}
use Rattle.tg_syntax_laws.specs.mirror.Reading.{give_got}
use Rattle.tg_parser.proofs.Chains.{name_on, name_stops, ended, split_on, split_then, split_off, split_none}
use Rattle.tg_parser.proofs.forms.annotation.Goals as goal

pub returns-in_err-token-clause-given : goal.returns-in_err-token-clause-given
returns-in_err-token-clause-given c = ended _ _ _ _ _ _ c.from_residual.ensures (split_none Annotation c.in_err-token.ensures.first)

pub returns-then-not-is-clause-given : goal.returns-then-not-is-clause-given
returns-then-not-is-clause-given c = split_off Annotation c.in_ok-token.ensures.first c.is.ensures c.if-not-is.true (give_got Annotation)

pub returns-in_err-kind-clause-given : goal.returns-in_err-kind-clause-given
returns-in_err-kind-clause-given c =
    ended _ _ _ _ _ _ c.from_residual-in_err-kind.ensures
    (split_then Annotation c.in_ok-token.ensures.first c.is.ensures c.if-not-is.false (name_stops Annotation c.in_err-kind.ensures.given))

pub returns-clause-given : goal.returns-clause-given
returns-clause-given c =
    split_on Annotation c.in_ok-token.ensures.first c.is.ensures c.if-not-is.false
    (name_on Annotation c.in_ok-kind.ensures.given (give_got Annotation))
