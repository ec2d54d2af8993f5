use Rattle.std.proofs.Common.{sym, [], ap, ◌∙◌, arith}
use Rattle.tg_syntax.specs.glue.Lists.{functions_of}
use Rattle.tg_syntax.proofs.ListLaws.{plain_functions-items}
use Rattle.tg_typecheck.specs.declared.faults.TypeRule.TheVariants.{T17}
use Rattle.tg_typecheck.specs.Groups.{no_repeats, function_names}
use Rattle.tg_typecheck.proofs.Steps.{ended, last_fails}
use Rattle.tg_typecheck.proofs.HeaderChecks.{none_seen, fresh_none, fresh_one, fresh_fails, fresh_all}
use Rattle.tg_typecheck.proofs.headers.all_fresh.Goals as goal

pub loop-function-init : goal.loop-function-init
loop-function-init c = fresh_none (none_seen c.new-earlier.result c.new-earlier.ensures.empty)

pub loop-function-preserved : goal.loop-function-preserved
loop-function-preserved c =
    let a = c.loop-function.invariant in
    fresh_one c.function-item.result a c.loop-function-test.true c.function-item.is (λ n. c.in_ok-fresh.ensures.given a.earlier a.has n)
    (c.in_ok-fresh.ensures.seen a.earlier a.has)

pub returns-in_err-fresh : goal.returns-in_err-fresh
returns-in_err-fresh c = λ n.
    let a = c.loop-function.invariant in
    ended _ _ _ c.from_residual.ensures (last_fails (ap (λ x. no_repeats T17 [] (function_names x) n)
    (plain_functions-items c.args.functions.now ∙ ap functions_of (sym c.deref-function-items.ensures.value)))
    (fresh_fails c.function-item.result a c.loop-function-test.true c.function-item.is (λ m. c.in_err-fresh.ensures.given a.earlier a.has m) n))

pub returns : goal.returns
returns c = λ n.
    ap (λ x. no_repeats T17 [] (function_names x) n) (plain_functions-items c.args.functions.now ∙ ap functions_of (sym c.deref-function-items.ensures.value))
    ∙ fresh_all c.loop-function.invariant (omega (arith, c.loop-function.auto.function-index-end, c.loop-function-test.false)) n
