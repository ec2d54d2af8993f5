use Rattle.tg_syntax_laws.specs.mirror.Steps.{TypeDec, OneForm}
use Rattle.tg_syntax_laws.specs.mirror.Reading.{give_got, call_got}
use Rattle.tg_parser.proofs.Chains.{name_on, name_then, name_stops, want_on, want_then, want_stops, call_stops, ended}
use Rattle.tg_parser.proofs.forms.type_dec.Goals as goal

pub returns-in_err-name-clause-given : goal.returns-in_err-name-clause-given
returns-in_err-name-clause-given c = ended _ _ _ _ _ _ c.from_residual.ensures (name_stops TypeDec c.in_err-name.ensures.given)

pub returns-in_err-rest-clause-given : goal.returns-in_err-rest-clause-given
returns-in_err-rest-clause-given c =
    ended _ _ _ _ _ _ c.from_residual-in_err-rest.ensures
    (name_then TypeDec c.in_ok-name.ensures.given (want_stops TypeDec c.in_err-rest.ensures.given))

pub returns-in_err-form-clause-given : goal.returns-in_err-form-clause-given
returns-in_err-form-clause-given c =
    ended _ _ _ _ _ _ c.from_residual-in_err-form.ensures
    (name_then TypeDec c.in_ok-name.ensures.given (want_then TypeDec c.in_ok-rest.ensures.given (call_stops TypeDec OneForm c.in_err-form.ensures.given)))

pub returns-clause-given : goal.returns-clause-given
returns-clause-given c =
    name_on TypeDec c.in_ok-name.ensures.given
    (want_on TypeDec c.in_ok-rest.ensures.given (call_got TypeDec OneForm c.in_ok-form.ensures.given (give_got TypeDec)))
