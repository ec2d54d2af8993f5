use Rattle.tg_parser.proofs.Chains.{want_stops, want_then, name_stops}
use Rattle.tg_parser.proofs.Leading.{two_ended, then, want_leads, name_leads}
use Rattle.tg_parser.proofs.heads.counter.Goals as goal

pub returns-in_err-first-clause-given : goal.returns-in_err-first-clause-given
returns-in_err-first-clause-given c = two_ended _ _ _ c.from_residual.result c.from_residual.ensures (λ j f. want_stops j c.in_err-first.ensures.given)

pub returns-in_err-variable-clause-given : goal.returns-in_err-variable-clause-given
returns-in_err-variable-clause-given c =
    two_ended _ _ _ c.from_residual-in_err-variable.result c.from_residual-in_err-variable.ensures
    (λ j f. want_then j c.in_ok-first.ensures.given (name_stops j c.in_err-variable.ensures.given))

pub returns-clause-given : goal.returns-clause-given
returns-clause-given c = λ j f. then (want_leads j c.in_ok-first.ensures.given) (name_leads j c.in_ok-variable.ensures.given)
