use Rattle.std.proofs.Common.{refl, ap, ◌∙◌, ◌∷◌, ◌+◌, arith, get_or}
use Rattle.tg_typecheck.proofs.HeaderChecks.{param_at, param_is}
use Rattle.tg_typecheck.proofs.HeaderSteps.{params_none, params_one, params_all, params_short, past}
use Rattle.tg_typecheck.proofs.headers.open_params.Goals as goal

pub loop-param-init : goal.loop-param-init
loop-param-init c = record { at_index = refl; onward = params_none _ _ _ }

pub returns-then-at-types-clause-given : goal.returns-then-at-types-clause-given
returns-then-at-types-clause-given c = λ names in_loop scope h.
    params_short _ _ _ _ _ c.loop-param.invariant.onward
    (past c.args.types.now c.loop-param.param-index (omega (arith, c.if-at-types.true, c.loop-param.invariant.at_index))) names in_loop scope h

pub loop-param-preserved : goal.loop-param-preserved
loop-param-preserved c =
    let ps = c.args.params.now in
    let k = c.loop-param.param-index in
    record {
      at_index = ap (λ k. k + 1) c.loop-param.invariant.at_index;
      onward =
          params_one c.args.state.now c.loop-param.state _ ps c.args.types.now k
          (param_at ps k) c.index-types-at.result c.loop-param.invariant.onward c.loop-param-test.true
          (omega (arith, c.if-at-types.false, c.loop-param.invariant.at_index)) (param_is ps k c.loop-param-test.true)
          (c.index-types-at.is ∙ ap (λ k. get_or c.args.types.now k c.index-types-at.result) c.loop-param.invariant.at_index)
          (c.in_ok-push.ensures.ok ∙ ap (λ b. ((param_at ps k).name.name.0, b) ∷ c.loop-param.state.bindings) c.variable-binding.ensures) refl refl;
    }

pub returns-clause-given : goal.returns-clause-given
returns-clause-given c = λ names in_loop scope h.
    params_all _ _ _ _ _ c.loop-param.invariant.onward (omega (arith, c.loop-param.auto.param-index-end, c.loop-param-test.false)) names in_loop scope h
