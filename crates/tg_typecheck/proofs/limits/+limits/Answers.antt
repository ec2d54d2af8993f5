use Rattle.std.proofs.Common.{[], ◌++◌, sym, ap, ◌∙◌, arith}
use Rattle.tg_syntax.specs.glue.Plain.{plain, plain_kind, plain_exps, plain_dec, plain_functions}
use Rattle.tg_syntax.specs.Tree.{For, no_decs}
use Rattle.tg_syntax.specs.glue.Lists.{decs_of}
use Rattle.tg_syntax.proofs.ListLaws.{plain_kind-Let}
use Rattle.tg_syntax.specs.Functions.{declared, declared_decs, declared_exps}
use Rattle.tg_typecheck.specs.Limits.{first_above}
use Rattle.tg_typecheck.proofs.LimitSteps.{exp_limit, init_limit, dec_limit, function_limit, first_in, one_here, none_in, exps_are, inits_are, decs_are}
use Rattle.tg_typecheck.proofs.LimitSteps.{functions_are, one_level_up, let_limit, for_limit, group_limit}
use Rattle.tg_typecheck.proofs.limits.+limits.Goals as goal

pub first_above-returns-in-Let : goal.first_above-returns-in-Let
first_above-returns-in-Let t c =
    let ds = decs_of c.in-Let.decs.items.items in
    let es = plain_exps c.in-Let.body in
    c.first_of-in-Let.ensures (declared_decs c.args.level [] ds) (declared_exps c.args.level [] es) c.decs_above.ensures c.list_above-in-Let.ensures
    ∙ (let_limit c.args.level ds es ∙ ap (λ e. first_above (declared c.args.level [] e))
    (sym (ap (λ k. plain_kind k c.args.e.now.span) c.in-Let.is ∙ plain_kind-Let c.in-Let.decs c.in-Let.body c.args.e.now.span)))

pub list_above-returns-then-is_some : goal.list_above-returns-then-is_some
list_above-returns-then-is_some t c =
    one_here (exp_limit c.args.level) c.deref-e-items.result.now c.loop-e.e-index c.e-item.result c.first_above-limit.result c.loop-e.invariant
    c.loop-e-test.true c.e-item.is (sym c.is_some.ensures ∙ c.if-is_some.true) c.first_above-limit.ensures ∙ sym
    (exps_are c.args.level c.args.exps.now ∙ ap (λ xs. first_in (exp_limit c.args.level) xs) (sym c.deref-e-items.ensures.value))

pub list_above-returns : goal.list_above-returns
list_above-returns t c =
    none_in (exp_limit c.args.level) c.deref-e-items.result.now c.loop-e.e-index c.loop-e.invariant
    (omega (arith, c.loop-e.auto.e-index-end, c.loop-e-test.false)) ∙ sym
    (exps_are c.args.level c.args.exps.now ∙ ap (λ xs. first_in (exp_limit c.args.level) xs) (sym c.deref-e-items.ensures.value))

pub inits_above-returns-then-is_some : goal.inits_above-returns-then-is_some
inits_above-returns-then-is_some t c =
    one_here (init_limit c.args.level) c.deref-init-items.result.now c.loop-init.init-index c.init-item.result c.first_above-limit.result
    c.loop-init.invariant c.loop-init-test.true c.init-item.is (sym c.is_some.ensures ∙ c.if-is_some.true) c.first_above-limit.ensures ∙ sym
    (inits_are c.args.level c.args.inits.now ∙ ap (λ xs. first_in (init_limit c.args.level) xs) (sym c.deref-init-items.ensures.value))

pub inits_above-returns : goal.inits_above-returns
inits_above-returns t c =
    none_in (init_limit c.args.level) c.deref-init-items.result.now c.loop-init.init-index c.loop-init.invariant
    (omega (arith, c.loop-init.auto.init-index-end, c.loop-init-test.false)) ∙ sym
    (inits_are c.args.level c.args.inits.now ∙ ap (λ xs. first_in (init_limit c.args.level) xs) (sym c.deref-init-items.ensures.value))

pub decs_above-returns-then-is_some : goal.decs_above-returns-then-is_some
decs_above-returns-then-is_some t c =
    one_here (dec_limit c.args.level) c.deref-dec-items.result.now c.loop-dec.dec-index c.dec-item.result c.dec_above-limit.result c.loop-dec.invariant
    c.loop-dec-test.true c.dec-item.is (sym c.is_some.ensures ∙ c.if-is_some.true) c.dec_above-limit.ensures ∙ sym
    (decs_are c.args.level c.args.decs.now.items.items ∙ ap (λ xs. first_in (dec_limit c.args.level) xs) (sym c.deref-dec-items.ensures.value))

pub decs_above-returns : goal.decs_above-returns
decs_above-returns t c =
    none_in (dec_limit c.args.level) c.deref-dec-items.result.now c.loop-dec.dec-index c.loop-dec.invariant
    (omega (arith, c.loop-dec.auto.dec-index-end, c.loop-dec-test.false)) ∙ sym
    (decs_are c.args.level c.args.decs.now.items.items ∙ ap (λ xs. first_in (dec_limit c.args.level) xs) (sym c.deref-dec-items.ensures.value))

pub functions_above-returns-then-is_some : goal.functions_above-returns-then-is_some
functions_above-returns-then-is_some t c =
    one_here (function_limit c.args.level) c.deref-function-items.result.now c.loop-function.function-index c.function-item.result
    c.function_above-limit.result c.loop-function.invariant c.loop-function-test.true c.function-item.is (sym c.is_some.ensures ∙ c.if-is_some.true)
    (c.function_above-limit.ensures ∙ one_level_up c.args.level c.function-item.result) ∙ sym
    (functions_are c.args.level c.args.group.now ∙ ap (λ xs. first_in (function_limit c.args.level) xs) (sym c.deref-function-items.ensures.value))

pub functions_above-returns : goal.functions_above-returns
functions_above-returns t c =
    none_in (function_limit c.args.level) c.deref-function-items.result.now c.loop-function.function-index c.loop-function.invariant
    (omega (arith, c.loop-function.auto.function-index-end, c.loop-function-test.false)) ∙ sym
    (functions_are c.args.level c.args.group.now ∙ ap (λ xs. first_in (function_limit c.args.level) xs) (sym c.deref-function-items.ensures.value))

pub dec_above-returns-in-Functions : goal.dec_above-returns-in-Functions
dec_above-returns-in-Functions t c =
    c.functions_above.ensures ∙ (group_limit c.args.level (plain_functions c.in-Functions.group) ∙ ap
    (λ d. first_above (declared_decs c.args.level [] (plain_dec d no_decs))) (sym c.in-Functions.is))

pub first_above-returns-in-For : goal.first_above-returns-in-For
first_above-returns-in-For t c =
    let n = c.args.level in
    let x = c.in-For.field-0 in
    let low = c.deref-in-For-3.result.now in
    let high = c.deref-in-For.result.now in
    let body = c.deref-in-For-2.result.now in
    c.first_of-in-For.ensures (declared n [] (plain low)) (declared n [] (plain high) ++ declared n [] (plain body)) c.first_above-in-For-3.ensures
    (c.first_of-rest.ensures (declared n [] (plain high)) (declared n [] (plain body)) c.first_above-in-For.ensures c.first_above-in-For-2.ensures)
    ∙ (for_limit n x (plain low) (plain high) (plain body)
    ∙ (ap (λ y. first_above (declared n [] (For c.args.e.now.span x (plain y) (plain high) (plain body)))) c.deref-in-For-3.ensures
    ∙ (ap (λ y. first_above (declared n [] (For c.args.e.now.span x (plain c.in-For.low.value) (plain y) (plain body)))) c.deref-in-For.ensures
    ∙ (ap (λ y. first_above (declared n [] (For c.args.e.now.span x (plain c.in-For.low.value) (plain c.in-For.high.value) (plain y))))
    c.deref-in-For-2.ensures
    ∙ sym (ap (λ k. first_above (declared n [] (plain_kind k c.args.e.now.span))) c.in-For.is)))))
