use Rattle.std.proofs.Common.{sym, subst, arith}
use Rattle.tg_typecheck.specs.glue.States.{no_memory}
use Rattle.tg_typecheck.proofs.Steps.{ended}
use Rattle.tg_typecheck.proofs.HeaderChecks.{none_seen, param_at, param_is, kind_below, TypesOn, types_none, types_one, types_repeat, types_unknown, types_all}
use Rattle.tg_typecheck.proofs.headers.param_types.Goals as goal

pub loop-param-init : goal.loop-param-init
loop-param-init c =
    subst (λ ts. TypesOn c.args.names.now c.args.state.now c.new-earlier.result c.args.params.now ts 0) (sym c.new-types.ensures.items)
    (types_none (none_seen c.new-earlier.result c.new-earlier.ensures.empty))

pub type_named-requires : goal.type_named-requires
type_named-requires c =
    let ps = c.args.params.now in
    let k = c.loop-param.param-index in
    kind_below _ ps k (param_at ps k) c.requires c.loop-param-test.true (param_is ps k c.loop-param-test.true)

pub loop-param-preserved : goal.loop-param-preserved
loop-param-preserved c =
    let ps = c.args.params.now in
    let k = c.loop-param.param-index in
    let a = c.loop-param.invariant in
    types_one (param_at ps k) c.in_ok-type_named.field-0 a c.loop-param-test.true (param_is ps k c.loop-param-test.true)
    (λ n. c.in_ok-fresh.ensures.given a.earlier a.has n) c.in_ok-type_named.ensures
    (c.in_ok-fresh.ensures.seen a.earlier a.has) c.in_ok-push.ensures.items

pub returns-in_err-fresh : goal.returns-in_err-fresh
returns-in_err-fresh c = record {
  given = λ scope in_loop h n.
      let ps = c.args.params.now in
      let k = c.loop-param.param-index in
      let a = c.loop-param.invariant in
      ended _ _ _ c.from_residual.ensures (types_repeat (param_at ps k) a c.loop-param-test.true (param_is ps k c.loop-param-test.true)
      (λ m. c.in_err-fresh.ensures.given a.earlier a.has m) scope in_loop h n);
}

pub returns-in_err-type_named : goal.returns-in_err-type_named
returns-in_err-type_named c = record {
  given = λ scope in_loop h n.
      let ps = c.args.params.now in
      let k = c.loop-param.param-index in
      let a = c.loop-param.invariant in
      ended _ _ _ c.from_residual-in_err-type_named.ensures
      (types_unknown (param_at ps k) a c.loop-param-test.true (param_is ps k c.loop-param-test.true)
      (λ m. c.in_ok-fresh.ensures.given a.earlier a.has m) c.in_err-type_named.ensures scope in_loop h n);
}

pub returns-in_err-push : goal.returns-in_err-push
returns-in_err-push c = record { given = λ scope in_loop h n. ended _ _ _ c.from_residual-in_err-push.ensures no_memory }

pub returns : goal.returns
returns c = record {
  given = λ scope in_loop h n.
      types_all c.loop-param.invariant (omega (arith, c.loop-param.auto.param-index-end, c.loop-param-test.false)) scope in_loop h n;
}
