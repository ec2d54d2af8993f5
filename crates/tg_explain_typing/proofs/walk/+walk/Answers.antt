use Rattle.std.proofs.Common.{◌≡◌, List, OnOk, subst, sym, ap, ◌∙◌, arith}
use Rattle.std.specs.Prelude.{fold}
use Rattle.tg_syntax.specs.declared.trees.FunDec.{FunDec}
use Rattle.tg_explain_typing.specs.glue.Bodies.{body_facts}
use Rattle.tg_explain_typing.specs.declared.facts.Fact.{Fact}
use Rattle.tg_explain_typing.proofs.Lists.{with_exp, with_init, with_dec, exps_fold, inits_fold, bodies_fold, decs_fold, fold_end}
use Rattle.tg_explain_typing.proofs.Lists.{let_facts}
use Rattle.tg_explain_typing.proofs.Arguments.{args_end}
use Rattle.tg_explain_typing.proofs.walk.+walk.Goals as goal

pub put_list-returns : goal.put_list-returns
put_list-returns t c =
    let before = c.args.all.now.items in
    let step = with_exp c.args.text.now c.args.at in
    fold_end step c.deref-e-items.result.now c.loop-e.e-index before c.loop-e.all.items c.loop-e.invariant
    (omega (arith, c.loop-e.auto.e-index-end, c.loop-e-test.false))
    ∙ ap (fold step before) c.deref-e-items.ensures.value ∙ sym (exps_fold c.args.text.now c.args.at c.args.exps.now before)

pub put_inits-returns : goal.put_inits-returns
put_inits-returns t c =
    let before = c.args.all.now.items in
    let step = with_init c.args.text.now c.args.at c.args.x in
    fold_end step c.deref-init-items.result.now c.loop-init.init-index before c.loop-init.all.items c.loop-init.invariant
    (omega (arith, c.loop-init.auto.init-index-end, c.loop-init-test.false))
    ∙ ap (fold step before) c.deref-init-items.ensures.value ∙ sym (inits_fold c.args.text.now c.args.at c.args.x c.args.inits.now before)

pub put_decs-returns : goal.put_decs-returns
put_decs-returns t c =
    let before = c.args.all.now.items in
    let step = with_dec c.args.text.now c.args.at c.args.end in
    fold_end step c.deref-dec-items.result.now c.loop-dec.dec-index before c.loop-dec.all.items c.loop-dec.invariant
    (omega (arith, c.loop-dec.auto.dec-index-end, c.loop-dec-test.false))
    ∙ ap (fold step before) c.deref-dec-items.ensures.value ∙ sym (decs_fold c.args.text.now c.args.at c.args.decs.now.items.items c.args.end before)

pub put_bodies-returns : goal.put_bodies-returns
put_bodies-returns t c =
    let before = c.args.all.now.items in
    let step = λ (w : List Fact) (f : FunDec). body_facts c.args.text.now c.args.at f w in
    fold_end step c.deref-function-items.result.now c.loop-function.function-index before c.loop-function.all.items c.loop-function.invariant
    (omega (arith, c.loop-function.auto.function-index-end, c.loop-function-test.false))
    ∙ ap (fold step before) c.deref-function-items.ensures.value ∙ sym (bodies_fold c.args.text.now c.args.at c.args.group.now before)

pub put_exp-returns-in_ok-put_decs-in-Let : goal.put_exp-returns-in_ok-put_decs-in-Let
put_exp-returns-in_ok-put_decs-in-Let t c =
    let P : List Fact → Type 0 = λ w. OnOk c.put_list.result (c.put_list.new.all.items ≡ w) in
    subst P
    (let_facts c.args.text.now c.args.at c.args.e.now.kind c.in-Let.decs c.in-Let.body c.args.e.now.span c.args.all.now.items c.put_decs.new.all.items c.in-Let.is
    c.in_ok-put_decs-in-Let.ensures) c.put_list.ensures

pub put_arguments-returns : goal.put_arguments-returns
put_arguments-returns t c =
    args_end c.args.text.now c.args.at c.args.f c.deref-e-items.result.now c.args.arguments.now c.loop-e.e-index c.args.all.now.items c.loop-e.all.items
    c.deref-e-items.ensures.value
    (omega (arith, c.loop-e.auto.e-index-end, c.loop-e-test.false)) c.loop-e.invariant.onward
