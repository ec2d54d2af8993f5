use Rattle.tg_syntax_laws.specs.mirror.Steps.{OneParam}
use Rattle.tg_syntax_laws.specs.mirror.Reading.{give_got}
use Rattle.tg_parser.proofs.Chains.{name_on, name_then, name_stops, want_on, want_then, want_stops, ended}
use Rattle.tg_parser.proofs.forms.one_param.Goals as goal

pub returns-in_err-name-clause-given : goal.returns-in_err-name-clause-given
returns-in_err-name-clause-given c = ended _ _ _ _ _ _ c.from_residual.ensures (name_stops OneParam c.in_err-name.ensures.given)

pub returns-in_err-rest-clause-given : goal.returns-in_err-rest-clause-given
returns-in_err-rest-clause-given c =
    ended _ _ _ _ _ _ c.from_residual-in_err-rest.ensures
    (name_then OneParam c.in_ok-name.ensures.given (want_stops OneParam c.in_err-rest.ensures.given))

pub returns-in_err-kind-clause-given : goal.returns-in_err-kind-clause-given
returns-in_err-kind-clause-given c =
    ended _ _ _ _ _ _ c.from_residual-in_err-kind.ensures
    (name_then OneParam c.in_ok-name.ensures.given (want_then OneParam c.in_ok-rest.ensures.given (name_stops OneParam c.in_err-kind.ensures.given)))

pub returns-clause-given : goal.returns-clause-given
returns-clause-given c =
    name_on OneParam c.in_ok-name.ensures.given (want_on OneParam c.in_ok-rest.ensures.given (name_on OneParam c.in_ok-kind.ensures.given (give_got OneParam)))
