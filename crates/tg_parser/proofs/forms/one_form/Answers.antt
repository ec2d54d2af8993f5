use Rattle.tg_syntax.specs.declared.tokens.Sign.TheVariants.{RightBrace}
use Rattle.tg_syntax_laws.specs.declared.marks.Mark.TheVariants.{OfSign}
use Rattle.tg_syntax_laws.specs.mirror.Steps.{OneForm, ListedParams}
use Rattle.tg_syntax_laws.specs.mirror.Reading.{give_got, call_got}
use Rattle.tg_parser.proofs.Chains.{name_on, name_stops, want_on, want_then, want_stops, call_stops, ended, split_on, split_then, split_off}
use Rattle.tg_parser.proofs.Chains.{split_else, split_none}
use Rattle.tg_parser.proofs.forms.one_form.Goals as goal

pub returns-in_err-token-clause-given : goal.returns-in_err-token-clause-given
returns-in_err-token-clause-given c = ended _ _ _ _ _ _ c.from_residual.ensures (split_none OneForm c.in_err-token.ensures.first)

pub returns-in_err-fields-clause-given : goal.returns-in_err-fields-clause-given
returns-in_err-fields-clause-given c =
    ended _ _ _ _ _ _ c.from_residual-in_err-fields.ensures
    (split_then OneForm c.in_ok-token.ensures.first c.is.ensures c.if-is.true
    (call_stops OneForm (ListedParams (OfSign RightBrace)) c.in_err-fields.ensures.given))

pub returns-then-is-clause-given : goal.returns-then-is-clause-given
returns-then-is-clause-given c =
    split_on OneForm c.in_ok-token.ensures.first c.is.ensures c.if-is.true
    (call_got OneForm (ListedParams (OfSign RightBrace)) c.in_ok-fields.ensures.given (give_got OneForm))

pub returns-in_err-rest-clause-given : goal.returns-in_err-rest-clause-given
returns-in_err-rest-clause-given c =
    ended _ _ _ _ _ _ c.from_residual-in_err-rest.ensures
    (split_else OneForm c.in_ok-token.ensures.first c.is.ensures c.if-is.false
    (split_then OneForm c.in_ok-token.ensures.first c.is-2.ensures c.if-is-2.true (want_stops OneForm c.in_err-rest.ensures.given)))

pub returns-in_err-name-clause-given : goal.returns-in_err-name-clause-given
returns-in_err-name-clause-given c =
    ended _ _ _ _ _ _ c.from_residual-in_err-name.ensures
    (split_else OneForm c.in_ok-token.ensures.first c.is.ensures c.if-is.false
    (split_then OneForm c.in_ok-token.ensures.first c.is-2.ensures c.if-is-2.true
    (want_then OneForm c.in_ok-rest.ensures.given (name_stops OneForm c.in_err-name.ensures.given))))

pub returns-then-is-2-clause-given : goal.returns-then-is-2-clause-given
returns-then-is-2-clause-given c =
    split_off OneForm c.in_ok-token.ensures.first c.is.ensures c.if-is.false
    (split_on OneForm c.in_ok-token.ensures.first c.is-2.ensures c.if-is-2.true
    (want_on OneForm c.in_ok-rest.ensures.given (name_on OneForm c.in_ok-name.ensures.given (give_got OneForm))))

pub returns-in_err-name-2-clause-given : goal.returns-in_err-name-2-clause-given
returns-in_err-name-2-clause-given c =
    ended _ _ _ _ _ _ c.from_residual-in_err-name-2.ensures
    (split_else OneForm c.in_ok-token.ensures.first c.is.ensures c.if-is.false
    (split_else OneForm c.in_ok-token.ensures.first c.is-2.ensures c.if-is-2.false (name_stops OneForm c.in_err-name-2.ensures.given)))

pub returns-clause-given : goal.returns-clause-given
returns-clause-given c =
    split_off OneForm c.in_ok-token.ensures.first c.is.ensures c.if-is.false
    (split_off OneForm c.in_ok-token.ensures.first c.is-2.ensures c.if-is-2.false (name_on OneForm c.in_ok-name-2.ensures.given (give_got OneForm)))
