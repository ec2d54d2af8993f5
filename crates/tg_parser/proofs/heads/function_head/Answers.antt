use Rattle.tg_syntax.specs.declared.tokens.Sign.TheVariants.{RightParen}
use Rattle.tg_syntax_laws.specs.declared.marks.Mark.TheVariants.{OfSign}
use Rattle.tg_syntax_laws.specs.mirror.Steps.{Annotation, ListedParams}
use Rattle.tg_parser.proofs.Chains.{name_stops, name_then, want_stops, want_then, call_stops, call_then}
use Rattle.tg_parser.proofs.Leading.{begins_ended, then, name_leads, want_leads, call_leads}
use Rattle.tg_parser.proofs.heads.function_head.Goals as goal

pub returns-in_err-name-clause-given : goal.returns-in_err-name-clause-given
returns-in_err-name-clause-given c = begins_ended _ _ c.from_residual.result c.from_residual.ensures (λ j f. name_stops j c.in_err-name.ensures.given)

pub returns-in_err-rest-clause-given : goal.returns-in_err-rest-clause-given
returns-in_err-rest-clause-given c =
    begins_ended _ _ c.from_residual-in_err-rest.result c.from_residual-in_err-rest.ensures
    (λ j f. name_then j c.in_ok-name.ensures.given (want_stops j c.in_err-rest.ensures.given))

pub returns-in_err-params-clause-given : goal.returns-in_err-params-clause-given
returns-in_err-params-clause-given c =
    begins_ended _ _ c.from_residual-in_err-params.result c.from_residual-in_err-params.ensures
    (λ j f. name_then j c.in_ok-name.ensures.given
    (want_then j c.in_ok-rest.ensures.given (call_stops j (ListedParams (OfSign RightParen)) c.in_err-params.ensures.given)))

pub returns-in_err-result-clause-given : goal.returns-in_err-result-clause-given
returns-in_err-result-clause-given c =
    begins_ended _ _ c.from_residual-in_err-result.result c.from_residual-in_err-result.ensures
    (λ j f.
    name_then j c.in_ok-name.ensures.given (want_then j c.in_ok-rest.ensures.given
    (call_then j (ListedParams (OfSign RightParen)) c.in_ok-params.ensures.given (call_stops j Annotation c.in_err-result.ensures.given))))

pub returns-clause-given : goal.returns-clause-given
returns-clause-given c = λ j f.
    then (name_leads j c.in_ok-name.ensures.given) (then (want_leads j c.in_ok-rest.ensures.given)
    (then (call_leads j (ListedParams (OfSign RightParen)) c.in_ok-params.ensures.given) (call_leads j Annotation c.in_ok-result.ensures.given)))
