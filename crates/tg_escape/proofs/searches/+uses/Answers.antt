use Rattle.std.proofs.Common.{sym, ap, ◌∙◌, [], ◌∷◌, arith, refl, subst, length}
use Rattle.tg_syntax.specs.glue.Plain.{plain, plain_kind, plain_exps}
use Rattle.tg_syntax.specs.glue.Lists.{decs_of}
use Rattle.tg_syntax.proofs.ListLaws.{plain_kind-Let}
use Rattle.tg_escape.specs.declared.searches.Search.{Search}
use Rattle.tg_escape.specs.Uses.{uses, exps_uses, declare_params}
use Rattle.tg_escape.specs.glue.Searches.{FindsUses, FindsDeclared, Declares}
use Rattle.tg_escape.proofs.SearchSteps.{behind, closed, walk_begins, walk_on, walk_ends, uses_are, uses_in_exp, uses_in_init, uses_in_function}
use Rattle.tg_escape.proofs.SearchSteps.{exps_are, inits_are, functions_are, decs_begin, dec_more, decs_end, decs_open, params_open, still_open}
use Rattle.tg_escape.proofs.SearchSteps.{in_order, body_closed, left_of}
use Rattle.tg_escape.proofs.searches.+uses.Goals as goal

pub in_turn-returns : goal.in_turn-returns
in_turn-returns t c =
    closed (_ ∷ []) (behind (λ within seen. seen) (uses (plain c.args.body.now)) c.in_ok-declare_variable.ensures c.in_ok-in_exp.ensures) refl
    c.cut_to.ensures c.len-open.ensures refl refl

pub in_exp-returns-in_ok-in_exps-in-Let : goal.in_exp-returns-in_ok-in_exps-in-Let
in_exp-returns-in_ok-in_exps-in-Let t c =
    let o = decs_open (length c.args.search.now.within.items) (decs_of c.in-Let.decs.items.items) c.args.search.now.table in
    subst (λ x. FindsUses c.args.search.now (record {
      table = c.cut_to.new.self;
      within = c.in_exps-in-Let.new.search.within;
      found = c.in_exps-in-Let.new.search.found;
    })
    (uses x))
    (sym (ap (λ k. plain_kind k c.args.e.now.span) c.in-Let.is ∙ plain_kind-Let c.in-Let.decs c.in-Let.body c.args.e.now.span))
    (closed o.0 (behind (λ within seen. seen) (exps_uses (plain_exps c.in-Let.body)) c.in_ok-in_decs-in-Let.ensures c.in_ok-in_exps-in-Let.ensures) o.1
    c.cut_to.ensures c.len-open.ensures refl refl)

pub in_exp-cut_to-requires : goal.in_exp-cut_to-requires
in_exp-cut_to-requires t c =
    let o = decs_open (length c.args.search.now.within.items) (decs_of c.in-Let.decs.items.items) c.args.search.now.table in
    still_open o.0 (behind (λ within seen. seen) (exps_uses (plain_exps c.in-Let.body)) c.in_ok-in_decs-in-Let.ensures c.in_ok-in_exps-in-Let.ensures) o.1
    c.len-open.ensures

pub in_exps-loop-e-init : goal.in_exps-loop-e-init
in_exps-loop-e-init t c = walk_begins

pub in_exps-loop-e-preserved : goal.in_exps-loop-e-preserved
in_exps-loop-e-preserved t c = walk_on uses_in_exp c.e-item.result c.loop-e.invariant c.loop-e-test.true c.e-item.is c.in_ok-in_exp.ensures

pub in_exps-returns : goal.in_exps-returns
in_exps-returns t c =
    uses_are (λ after. exps_are c.args.search.now.within.items c.args.search.now.table c.args.exps.now after ∙ ap
    (λ xs. in_order (uses_in_exp c.args.search.now.within.items c.args.search.now.table) xs after) (sym c.deref-e-items.ensures.value))
    (walk_ends c.loop-e.invariant (omega (arith, c.loop-e.auto.e-index-end, c.loop-e-test.false)))

pub in_inits-loop-init-init : goal.in_inits-loop-init-init
in_inits-loop-init-init t c = walk_begins

pub in_inits-loop-init-preserved : goal.in_inits-loop-init-preserved
in_inits-loop-init-preserved t c =
    walk_on uses_in_init c.init-item.result c.loop-init.invariant c.loop-init-test.true c.init-item.is c.in_ok-in_exp.ensures

pub in_inits-returns : goal.in_inits-returns
in_inits-returns t c =
    uses_are (λ after. inits_are c.args.search.now.within.items c.args.search.now.table c.args.inits.now after ∙ ap
    (λ xs. in_order (uses_in_init c.args.search.now.within.items c.args.search.now.table) xs after) (sym c.deref-init-items.ensures.value))
    (walk_ends c.loop-init.invariant (omega (arith, c.loop-init.auto.init-index-end, c.loop-init-test.false)))

pub in_decs-loop-dec-init : goal.in_decs-loop-dec-init
in_decs-loop-dec-init t c = decs_begin

pub in_decs-loop-dec-preserved : goal.in_decs-loop-dec-preserved
in_decs-loop-dec-preserved t c = dec_more c.dec-item.result c.loop-dec.invariant c.loop-dec-test.true c.dec-item.is c.in_ok-in_dec.ensures

pub in_decs-returns : goal.in_decs-returns
in_decs-returns t c =
    subst (λ ds. FindsDeclared c.args.search.now c.loop-dec.search (decs_of ds)) c.deref-dec-items.ensures.value
    (decs_end c.loop-dec.invariant (omega (arith, c.loop-dec.auto.dec-index-end, c.loop-dec-test.false)))

pub in_functions-loop-function-init : goal.in_functions-loop-function-init
in_functions-loop-function-init t c = walk_begins

pub in_functions-loop-function-preserved : goal.in_functions-loop-function-preserved
in_functions-loop-function-preserved t c =
    walk_on uses_in_function c.function-item.result c.loop-function.invariant c.loop-function-test.true c.function-item.is c.in_ok-in_function.ensures

pub in_functions-returns : goal.in_functions-returns
in_functions-returns t c =
    uses_are (λ after. functions_are c.args.search.now.within.items c.args.search.now.table c.args.group.now after ∙ ap
    (λ xs. in_order (uses_in_function c.args.search.now.within.items c.args.search.now.table) xs after) (sym c.deref-function-items.ensures.value))
    (walk_ends c.loop-function.invariant (omega (arith, c.loop-function.auto.function-index-end, c.loop-function-test.false)))

pub in_function-returns : goal.in_function-returns
in_function-returns t c =
    let o : Search = record { table = c.args.search.now.table; within = c.push.new.self; found = c.args.search.now.found } in
    body_closed {o = o} c.args.function.now.name c.args.function.now.params (plain c.args.function.now.body) refl c.in_ok-push.ensures.items refl
    (subst (λ ps. Declares o c.declare_params.new.search (λ level. declare_params level ps)) c.as_slice.ensures c.in_ok-declare_params.ensures)
    c.in_ok-in_exp.ensures c.cut_to.ensures c.len-open.ensures (left_of _ _ _ _ c.in_exp.new.search.within.len c.pop.result
    c.pop.ensures.items (omega (arith, c.in_exp.new.search.within.ok)) c.pop.ensures.variant) refl

pub in_function-cut_to-requires : goal.in_function-cut_to-requires
in_function-cut_to-requires t c =
    let o = params_open (length c.push.new.self.items) c.as_slice.result.now c.args.search.now.table in
    still_open o.0 (behind (λ within seen. seen) (uses (plain c.args.function.now.body)) c.in_ok-declare_params.ensures c.in_ok-in_exp.ensures) o.1
    c.len-open.ensures
