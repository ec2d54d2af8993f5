use Rattle.std.proofs.Common.{sym, subst, ap, ◌∙◌, arith, length, get_or}
use Rattle.tg_syntax.specs.glue.Lists.{functions_of}
use Rattle.tg_syntax.proofs.ListLaws.{plain_functions-items}
use Rattle.tg_typecheck.specs.glue.States.{no_memory}
use Rattle.tg_typecheck.specs.Groups as groups
use Rattle.tg_typecheck.proofs.Steps.{ended, last_fails}
use Rattle.tg_typecheck.proofs.TreeSteps.{function_count_is}
use Rattle.tg_typecheck.proofs.HeaderChecks.{HeadersOn, headers_none, headers_one, headers_fail, headers_all, header_within}
use Rattle.tg_typecheck.proofs.headers.headers.Goals as goal

pub loop-function-init : goal.loop-function-init
loop-function-init c =
    subst (λ ss. HeadersOn c.args.names.now c.args.state.now c.deref-function-items.result.now ss 0) (sym c.new-signatures.ensures.items) headers_none

pub header-requires-clause-params : goal.header-requires-clause-params
header-requires-clause-params c =
    (header_within _ c.args.functions.now c.loop-function.function-index c.function-item.result c.requires
    (omega (arith, c.loop-function-test.true, ap length c.deref-function-items.ensures.value))
    (c.function-item.is ∙ ap (λ fs. get_or fs c.loop-function.function-index c.function-item.result) c.deref-function-items.ensures.value)).0

pub header-requires-clause-kind : goal.header-requires-clause-kind
header-requires-clause-kind c =
    (header_within _ c.args.functions.now c.loop-function.function-index c.function-item.result c.requires
    (omega (arith, c.loop-function-test.true, ap length c.deref-function-items.ensures.value))
    (c.function-item.is ∙ ap (λ fs. get_or fs c.loop-function.function-index c.function-item.result) c.deref-function-items.ensures.value)).1

pub returns-in_err-header-clause-given : goal.returns-in_err-header-clause-given
returns-in_err-header-clause-given c = λ scope in_loop h n.
    ended _ _ _ c.from_residual.ensures (last_fails (ap (λ fs. groups.headers fs scope n)
    (plain_functions-items c.args.functions.now ∙ ap functions_of (sym c.deref-function-items.ensures.value)))
    (headers_fail c.function-item.result c.loop-function.invariant c.loop-function-test.true c.function-item.is c.in_err-header.ensures scope in_loop h
    n))

pub returns-in_err-push-clause-given : goal.returns-in_err-push-clause-given
returns-in_err-push-clause-given c = λ scope in_loop h n. ended _ _ _ c.from_residual-in_err-push.ensures no_memory

pub loop-function-preserved : goal.loop-function-preserved
loop-function-preserved c =
    headers_one c.function-item.result c.in_ok-header.field-0 c.loop-function.invariant c.loop-function-test.true c.function-item.is c.in_ok-header.ensures
    c.in_ok-push.ensures.items

pub returns-clause-given : goal.returns-clause-given
returns-clause-given c = λ scope in_loop h n.
    ap (λ fs. groups.headers fs scope n) (plain_functions-items c.args.functions.now ∙ ap functions_of (sym c.deref-function-items.ensures.value))
    ∙ headers_all c.loop-function.invariant (omega (arith, c.loop-function.auto.function-index-end, c.loop-function-test.false)) scope in_loop h n

pub returns-clause-as_many : goal.returns-clause-as_many
returns-clause-as_many c =
    omega (
      arith,
      function_count_is c.args.functions.now,
      ap length c.deref-function-items.ensures.value,
      c.loop-function.auto.function-index-end,
      c.loop-function-test.false,
      c.loop-function.invariant.count,
    )
