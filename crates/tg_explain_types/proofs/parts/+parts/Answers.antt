use Rattle.std.proofs.Common.{◌≡◌, List, OnOk, subst, sym, ap, ◌∙◌, arith}
use Rattle.std.specs.Prelude.{fold}
use Rattle.tg_explain_types.specs.declared.declarations.Part.{Part}
use Rattle.tg_explain_types.proofs.Lists.{with_exp, with_init, with_dec, with_body, exps_fold, inits_fold, bodies_fold, decs_fold, fold_end, call_parts, let_parts}
use Rattle.tg_explain_types.proofs.parts.+parts.Goals as goal

pub put_list-returns : goal.put_list-returns
put_list-returns t c =
    let before = c.args.all.now.items in
    fold_end with_exp c.deref-e-items.result.now c.loop-e.e-index before c.loop-e.all.items c.loop-e.invariant
    (omega (arith, c.loop-e.auto.e-index-end, c.loop-e-test.false))
    ∙ ap (fold with_exp before) c.deref-e-items.ensures.value ∙ sym (exps_fold c.args.exps.now before)

pub put_inits-returns : goal.put_inits-returns
put_inits-returns t c =
    let before = c.args.all.now.items in
    fold_end with_init c.deref-init-items.result.now c.loop-init.init-index before c.loop-init.all.items c.loop-init.invariant
    (omega (arith, c.loop-init.auto.init-index-end, c.loop-init-test.false))
    ∙ ap (fold with_init before) c.deref-init-items.ensures.value ∙ sym (inits_fold c.args.inits.now before)

pub put_decs-returns : goal.put_decs-returns
put_decs-returns t c =
    let before = c.args.all.now.items in
    fold_end (with_dec c.args.end) c.deref-dec-items.result.now c.loop-dec.dec-index before c.loop-dec.all.items c.loop-dec.invariant
    (omega (arith, c.loop-dec.auto.dec-index-end, c.loop-dec-test.false))
    ∙ ap (fold (with_dec c.args.end) before) c.deref-dec-items.ensures.value ∙ sym (decs_fold c.args.decs.now.items.items c.args.end before)

pub put_bodies-returns : goal.put_bodies-returns
put_bodies-returns t c =
    let before = c.args.all.now.items in
    fold_end with_body c.deref-function-items.result.now c.loop-function.function-index before c.loop-function.all.items c.loop-function.invariant
    (omega (arith, c.loop-function.auto.function-index-end, c.loop-function-test.false))
    ∙ ap (fold with_body before) c.deref-function-items.ensures.value ∙ sym (bodies_fold c.args.group.now before)

pub put_exp-returns-in_ok-push-in-Call : goal.put_exp-returns-in_ok-push-in-Call
put_exp-returns-in_ok-push-in-Call t c =
    let P : List Part → Type 0 = λ w. OnOk c.put_list.result (c.put_list.new.all.items ≡ w) in
    subst P
    (call_parts c.args.e.now.kind c.in-Call.name c.in-Call.arguments c.args.e.now.span c.count_of.result c.args.all.now.items c.push.new.self.items c.in-Call.is
    c.count_of.ensures c.in_ok-push-in-Call.ensures.items) c.put_list.ensures

pub put_exp-returns-in_ok-put_decs-in-Let : goal.put_exp-returns-in_ok-put_decs-in-Let
put_exp-returns-in_ok-put_decs-in-Let t c =
    let P : List Part → Type 0 = λ w. OnOk c.put_list-in-Let.result (c.put_list-in-Let.new.all.items ≡ w) in
    subst P
    (let_parts c.args.e.now.kind c.in-Let.decs c.in-Let.body c.args.e.now.span c.args.all.now.items c.put_decs.new.all.items c.in-Let.is
    c.in_ok-put_decs-in-Let.ensures) c.put_list-in-Let.ensures
