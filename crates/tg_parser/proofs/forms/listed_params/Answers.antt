use Rattle.std.proofs.Common.{subst, sym, ◌∙◌}
use Rattle.tg_syntax_laws.specs.mirror.Steps.{ListedParams, MoreParams, OneParam, Got}
use Rattle.tg_syntax_laws.specs.mirror.Reading.{Does, listed_params, give_got, call_got}
use Rattle.tg_parser.proofs.Chains.{call_then, call_stops, want_on, want_stops, ended, split_on, split_off, split_else, split_none}
use Rattle.tg_parser.proofs.forms.listed_params.Goals as goal

pub returns-in_err-token-clause-given : goal.returns-in_err-token-clause-given
returns-in_err-token-clause-given c = ended _ _ _ _ _ _ c.from_residual.ensures (split_none (ListedParams _) c.in_err-token.ensures.first)

pub returns-then-is-clause-given : goal.returns-then-is-clause-given
returns-then-is-clause-given c =
    subst (λ ps. Does (ListedParams c.args.close) (listed_params c.args.close) c.args.tokens.now (Got ps c.in_ok-token.after.now))
    (sym (c.from_vec.ensures ∙ c.new.ensures.items))
    (split_on (ListedParams _) c.in_ok-token.ensures.first c.is.ensures c.if-is.true (give_got (ListedParams _)))

pub returns-in_err-first-clause-given : goal.returns-in_err-first-clause-given
returns-in_err-first-clause-given c =
    ended _ _ _ _ _ _ c.from_residual-in_err-first.ensures
    (split_else (ListedParams _) c.in_ok-token.ensures.first c.is.ensures c.if-is.false (call_stops (ListedParams _) OneParam c.in_err-first.ensures.given))

pub returns-in_err-params-clause-given : goal.returns-in_err-params-clause-given
returns-in_err-params-clause-given c =
    ended _ _ _ _ _ _ c.from_residual-in_err-params.ensures
    (split_else (ListedParams _) c.in_ok-token.ensures.first c.is.ensures c.if-is.false
    (call_then (ListedParams _) OneParam c.in_ok-first.ensures.given
    (call_stops (ListedParams _) (MoreParams _) c.in_err-params.ensures.given)))

pub returns-in_err-rest-clause-given : goal.returns-in_err-rest-clause-given
returns-in_err-rest-clause-given c =
    ended _ _ _ _ _ _ c.from_residual-in_err-rest.ensures
    (split_else (ListedParams _) c.in_ok-token.ensures.first c.is.ensures c.if-is.false
    (call_then (ListedParams _) OneParam c.in_ok-first.ensures.given
    (call_then (ListedParams _) (MoreParams _) c.in_ok-params.ensures.given
    (want_stops (ListedParams _) c.in_err-rest.ensures.given))))

pub returns-clause-given : goal.returns-clause-given
returns-clause-given c =
    subst (λ ps. Does (ListedParams c.args.close) (listed_params c.args.close) c.args.tokens.now (Got ps c.in_ok-rest.rest.now)) (sym c.from_vec-2.ensures)
    (split_off (ListedParams _) c.in_ok-token.ensures.first c.is.ensures c.if-is.false
    (call_got (ListedParams _) OneParam c.in_ok-first.ensures.given
    (call_got (ListedParams _) (MoreParams _) c.in_ok-params.ensures.given
    (want_on (ListedParams _) c.in_ok-rest.ensures.given (give_got (ListedParams _))))))
