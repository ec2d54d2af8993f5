use Rattle.std.proofs.Common.{sym, ap}
use Rattle.tg_syntax_laws.specs.mirror.Steps.{TypeDec}
use Rattle.tg_parser.specs.glue.Given.{no_memory}
use Rattle.tg_parser.proofs.Chains.{call_stops}
use Rattle.tg_parser.proofs.Leading.{begins_ended, then, call_leads}
use Rattle.tg_parser.proofs.Descents.{same_leads}
use Rattle.tg_parser.proofs.reading.with_type.Goals as goal

pub returns-in_err-dec-clause-given : goal.returns-in_err-dec-clause-given
returns-in_err-dec-clause-given c = begins_ended _ _ c.from_residual.result c.from_residual.ensures (λ j f. call_stops j TypeDec c.in_err-dec.ensures.given)

pub returns-in_err-push_type-clause-given : goal.returns-in_err-push_type-clause-given
returns-in_err-push_type-clause-given c = begins_ended _ _ c.from_residual-in_err-push_type.result c.from_residual-in_err-push_type.ensures (λ j f. no_memory j)

pub returns-clause-given : goal.returns-clause-given
returns-clause-given c = λ j f. then (call_leads j TypeDec c.in_ok-dec.ensures.given) (same_leads j (ap f (sym c.in_ok-push_type.ensures)))
