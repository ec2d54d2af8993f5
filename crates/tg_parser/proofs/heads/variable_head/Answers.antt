use Rattle.tg_syntax_laws.specs.mirror.Steps.{Annotation}
use Rattle.tg_parser.proofs.Chains.{name_stops, name_then, call_stops}
use Rattle.tg_parser.proofs.Leading.{two_ended, then, name_leads, call_leads}
use Rattle.tg_parser.proofs.heads.variable_head.Goals as goal

pub returns-in_err-name-clause-given : goal.returns-in_err-name-clause-given
returns-in_err-name-clause-given c = two_ended _ _ _ c.from_residual.result c.from_residual.ensures (λ j f. name_stops j c.in_err-name.ensures.given)

pub returns-in_err-kind-clause-given : goal.returns-in_err-kind-clause-given
returns-in_err-kind-clause-given c =
    two_ended _ _ _ c.from_residual-in_err-kind.result c.from_residual-in_err-kind.ensures
    (λ j f. name_then j c.in_ok-name.ensures.given (call_stops j Annotation c.in_err-kind.ensures.given))

pub returns-clause-given : goal.returns-clause-given
returns-clause-given c = λ j f. then (name_leads j c.in_ok-name.ensures.given) (call_leads j Annotation c.in_ok-kind.ensures.given)
