use Rattle.std.proofs.Common.{arith}
use Rattle.tg_syntax_laws.specs.mirror.Steps.{MoreParams, OneParam, Got}
use Rattle.tg_syntax_laws.specs.mirror.Reading.{give_got}
use Rattle.tg_parser.specs.glue.Given.{no_memory}
use Rattle.tg_parser.proofs.Chains.{call_stops, ended, split_then, split_off, split_none}
use Rattle.tg_parser.proofs.Params.{onward_more, onward_stops}
use Rattle.tg_parser.proofs.forms.more_params.Goals as goal

pub returns-in_err-push-clause-given : goal.returns-in_err-push-clause-given
returns-in_err-push-clause-given c = ended _ _ _ _ _ _ c.from_residual.ensures (no_memory (MoreParams _))

pub returns-in_err-token-clause-given : goal.returns-in_err-token-clause-given
returns-in_err-token-clause-given c =
    ended _ _ _ _ _ _ c.from_residual-in_err-token.ensures (onward_stops c.params.invariant.onward (split_none (MoreParams _) c.in_err-token.ensures.first))

pub returns-then-not-is-clause-given : goal.returns-then-not-is-clause-given
returns-then-not-is-clause-given c =
    c.params.invariant.onward.reaches (Got _ _) (split_off (MoreParams _) c.in_ok-token.ensures.first c.is.ensures c.if-not-is.true (give_got (MoreParams _)))

pub returns-in_err-param-clause-given : goal.returns-in_err-param-clause-given
returns-in_err-param-clause-given c =
    ended _ _ _ _ _ _ c.from_residual-in_err-param.ensures
    (onward_stops c.params.invariant.onward (split_then (MoreParams _) c.in_ok-token.ensures.first c.is.ensures
    c.if-not-is.false (call_stops (MoreParams _) OneParam c.in_err-param.ensures.given)))

pub returns-in_err-push-2-clause-given : goal.returns-in_err-push-2-clause-given
returns-in_err-push-2-clause-given c = ended _ _ _ _ _ _ c.from_residual-in_err-push-2.ensures (no_memory (MoreParams _))

pub params-preserved : goal.params-preserved
params-preserved c = record {
  onward = onward_more c.params.invariant.onward c.in_ok-token.ensures.first c.is.ensures c.if-not-is.false
      c.in_ok-param.ensures.given c.in_ok-push-2.ensures.items;
  shorter = omega (arith, c.in_ok-token.ensures.shorter, c.in_ok-param.ensures.shorter);
}
