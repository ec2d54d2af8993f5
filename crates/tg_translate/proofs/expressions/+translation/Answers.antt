use Rattle.std.proofs.Common.{◌≡◌, ◌+◌, [], length, drop, refl, sym, ap, ◌∙◌, arith}
use Rattle.tg_syntax.specs.Tree.{no_decs}
use Rattle.tg_syntax.specs.glue.Plain.{plain, plain_kind, plain_lvalue, plain_exps, plain_dec}
use Rattle.tg_syntax.proofs.ListLaws.{plain_kind-Let}
use Rattle.tg_tree.specs.Tree.{Const, Tx, no_txs, no_stms}
use Rattle.tg_tree.specs.glue.Lists.{txs_of, stms_of}
use Rattle.tg_tree.specs.glue.Plain.{plain_tx}
use Rattle.tg_translate.specs.mirror.States.{Translates, drawn, after, give, state_of}
use Rattle.tg_translate.specs.declared.wants.Want.TheVariants.{Value}
use Rattle.tg_translate.specs.mirror.Wants.{Made, value, value_of, dropped, plain_made, behind}
use Rattle.tg_translate.specs.mirror.Constructs.{hold_next, plain_storage as place_of}
use Rattle.tg_translate.specs.mirror.Scopes.{findings_of}
use Rattle.tg_syntax.specs.glue.Lists.{exps_of}
use Rattle.tg_translate.specs.mirror.Translate.{expression, behind_read, sequence, declarations}
use Rattle.tg_translate.specs.mirror.Updates.{begins_with}
use Rattle.tg_translate.specs.glue.Parts.{with_left_in, sequence_in, after_values, counted}
use Rattle.tg_translate.proofs.Steps.{step, step_on, bounds_made}
use Rattle.tg_translate.proofs.Assigning.{assigned_by, updates, assigns}
use Rattle.tg_translate.proofs.Walks.{
  in_turn,
  walk_on,
  walk_ends,
  value_step,
  field_step,
  declaration_step,
  body_step,
  left_of,
  values_are,
  fields_are,
  declarations_are,
  bodies_are,
  one_dropped,
  last_done,
  sequence_ends,
  sequence_of,
}
use Rattle.tg_translate.proofs.expressions.+translation.Goals as goal

pub values-loop-e-preserved : goal.values-loop-e-preserved
values-loop-e-preserved t c =
    walk_on (value_step (findings_of c.args.findings.now) c.args.within.now) c.deref-e-items.result.now c.loop-e.e-index no_txs
    (txs_of c.loop-e.values.items) (txs_of c.push_value.new.before.items) (state_of c.args.state.now) (state_of c.loop-e.state)
    (state_of c.push_value.new.state) c.e-item.result c.loop-e.invariant c.loop-e-test.true c.e-item.is
    (step_on value_of (after_values (txs_of c.loop-e.values.items)) c.in_ok-expression.ensures c.in_ok-push_value.ensures)

pub values-returns : goal.values-returns
values-returns t c =
    values_are (findings_of c.args.findings.now) c.args.within.now c.args.exps.now (state_of c.args.state.now)
    ∙ (ap (λ es. in_turn (value_step (findings_of c.args.findings.now) c.args.within.now) es no_txs (state_of c.args.state.now))
    (sym c.deref-e-items.ensures.value)
    ∙ walk_ends (value_step (findings_of c.args.findings.now) c.args.within.now) c.deref-e-items.result.now c.loop-e.e-index no_txs
    (txs_of c.loop-e.values.items) (state_of c.args.state.now) (state_of c.loop-e.state) c.loop-e.invariant
    (omega (arith, c.loop-e.auto.e-index-end, c.loop-e-test.false)))

pub fields-loop-init-preserved : goal.fields-loop-init-preserved
fields-loop-init-preserved t c =
    walk_on (field_step (findings_of c.args.findings.now) c.args.within.now c.args.direct) c.deref-init-items.result.now c.loop-init.init-index
    (record { before = stms_of c.args.before.now.items; operands = [] })
    (record { before = stms_of c.loop-init.before.items; operands = c.loop-init.operands.items })
    (record { before = stms_of c.push_field.new.before.items; operands = c.push_field.new.operands.items })
    (state_of c.args.state.now) (state_of c.loop-init.state) (state_of c.push_field.new.state) c.init-item.result
    c.loop-init.invariant c.loop-init-test.true c.init-item.is
    (step_on value_of (hold_next c.args.direct (record { before = stms_of c.loop-init.before.items; operands = c.loop-init.operands.items }))
    c.in_ok-expression.ensures c.in_ok-push_field.ensures)

pub fields-returns : goal.fields-returns
fields-returns t c =
    fields_are (findings_of c.args.findings.now) c.args.within.now c.args.inits.now c.args.direct
    (record { before = stms_of c.args.before.now.items; operands = [] }) (state_of c.args.state.now)
    ∙ (ap (λ is. in_turn (field_step (findings_of c.args.findings.now) c.args.within.now c.args.direct) is
    (record { before = stms_of c.args.before.now.items; operands = [] }) (state_of c.args.state.now)) (sym c.deref-init-items.ensures.value)
    ∙ walk_ends (field_step (findings_of c.args.findings.now) c.args.within.now c.args.direct) c.deref-init-items.result.now c.loop-init.init-index
    (record { before = stms_of c.args.before.now.items; operands = [] })
    (record { before = stms_of c.loop-init.before.items; operands = c.loop-init.operands.items }) (state_of c.args.state.now) (state_of c.loop-init.state)
    c.loop-init.invariant (omega (arith, c.loop-init.auto.init-index-end, c.loop-init-test.false)))

pub bodies-loop-function-preserved : goal.bodies-loop-function-preserved
bodies-loop-function-preserved t c =
    walk_on (body_step (findings_of c.args.findings.now) c.args.within.now) c.deref-function-items.result.now c.loop-function.function-index
    c.args.first c.loop-function.label c.in_ok-label.label (state_of c.args.state.now) (state_of c.loop-function.state) (state_of c.body.new.state)
    c.function-item.result c.loop-function.invariant c.loop-function-test.true c.function-item.is
    (step (λ _. give (c.loop-function.label + 1)) c.in_ok-body.ensures (ap (λ n. drawn n (state_of c.body.new.state)) (sym c.in_ok-label.ensures)))

pub bodies-returns : goal.bodies-returns
bodies-returns t c =
    bodies_are (findings_of c.args.findings.now) c.args.within.now c.args.group.now c.args.first (state_of c.args.state.now)
    ∙ ap (λ d. after d (λ _. give tt))
    (ap (λ fs. in_turn (body_step (findings_of c.args.findings.now) c.args.within.now) fs c.args.first (state_of c.args.state.now))
    (sym c.deref-function-items.ensures.value)
    ∙ walk_ends (body_step (findings_of c.args.findings.now) c.args.within.now) c.deref-function-items.result.now c.loop-function.function-index
    c.args.first c.loop-function.label (state_of c.args.state.now) (state_of c.loop-function.state) c.loop-function.invariant
    (omega (arith, c.loop-function.auto.function-index-end, c.loop-function-test.false)))

pub sequence-loop-e-preserved : goal.sequence-loop-e-preserved
sequence-loop-e-preserved t c = record {
  count = omega (arith, c.loop-e.invariant.count, c.if-left-eq0.false);
  so_far =
      one_dropped (findings_of c.args.findings.now) c.args.within.now c.deref-e-items.result.now c.args.want c.loop-e.e-index
      (stms_of c.args.before.now.items) (stms_of c.loop-e.before.items) (state_of c.args.state.now) (state_of c.loop-e.state)
      (state_of c.expression-in-loop-e.new.state) (value (Const 0)) c.e-item.result (dropped (plain_made c.expression-in-loop-e.new.made)) c.loop-e.invariant.so_far
      (omega (arith, c.loop-e.invariant.count, c.if-left-eq0.false)) c.e-item.is
      (step (λ m. give (dropped m)) c.in_ok-expression-2.ensures refl)
      ∙ ap (λ ss. left_of (findings_of c.args.findings.now) c.args.within.now (exps_of (drop (c.loop-e.e-index + 1) c.deref-e-items.result.now))
      c.args.want ss (value (Const 0)) (state_of c.expression-in-loop-e.new.state)) (sym c.in_ok-push_dropped.ensures);
}

pub sequence-returns-then-left-eq0 : goal.sequence-returns-then-left-eq0
sequence-returns-then-left-eq0 t c =
    let at_end : c.loop-e.e-index + 1 ≡ length c.deref-e-items.result.now =
    omega (arith, c.loop-e.invariant.count, c.if-left-eq0.true, c.loop-e-test.true) in
    step (λ begun. behind c.args.want begun.before begun.last)
    (sequence_of (findings_of c.args.findings.now) c.args.within.now c.args.exps.now c.args.want (stms_of c.args.before.now.items) (state_of c.args.state.now)
    ∙ (ap (λ es. sequence (findings_of c.args.findings.now) (exps_of es) c.args.want (stms_of c.args.before.now.items) c.args.within.now
    (state_of c.args.state.now))
    (sym c.deref-e-items.ensures.value)
    ∙ sequence_ends (findings_of c.args.findings.now) c.args.within.now c.deref-e-items.result.now c.args.want (c.loop-e.e-index + 1)
    (stms_of c.args.before.now.items) (stms_of c.loop-e.before.items) (state_of c.args.state.now) (state_of c.expression.new.state)
    (plain_made c.expression.new.made)
    (last_done (findings_of c.args.findings.now) c.args.within.now c.deref-e-items.result.now c.args.want c.loop-e.e-index (stms_of c.args.before.now.items)
    (stms_of c.loop-e.before.items) (state_of c.args.state.now) (state_of c.loop-e.state) (state_of c.expression.new.state) (value (Const 0))
    c.e-item.result (plain_made c.expression.new.made) c.loop-e.invariant.so_far at_end c.e-item.is c.in_ok-expression.ensures) at_end))
    c.in_ok-stand_behind.ensures

pub sequence-returns : goal.sequence-returns
sequence-returns t c =
    step (λ begun. behind c.args.want begun.before begun.last)
    (sequence_of (findings_of c.args.findings.now) c.args.within.now c.args.exps.now c.args.want (stms_of c.args.before.now.items) (state_of c.args.state.now)
    ∙ (ap (λ es. sequence (findings_of c.args.findings.now) (exps_of es) c.args.want (stms_of c.args.before.now.items) c.args.within.now
    (state_of c.args.state.now)) (sym c.deref-e-items.ensures.value)
    ∙ sequence_ends (findings_of c.args.findings.now) c.args.within.now c.deref-e-items.result.now c.args.want c.loop-e.e-index
    (stms_of c.args.before.now.items) (stms_of c.loop-e.before.items) (state_of c.args.state.now) (state_of c.loop-e.state) (value (Const 0))
    c.loop-e.invariant.so_far (omega (arith, c.loop-e.auto.e-index-end, c.loop-e-test.false))))
    (ap (λ m. behind c.args.want (stms_of c.loop-e.before.items) m (state_of c.loop-e.state)) (sym c.put_number.ensures)
    ∙ c.in_ok-stand_behind-2.ensures)

pub behind_read-returns-in_ok-with_left-in-Binary : goal.behind_read-returns-in_ok-with_left-in-Binary
behind_read-returns-in_ok-with_left-in-Binary t c =
    ap (λ k. behind_read (findings_of c.args.findings.now) (plain_kind k c.args.e.now.span) (plain_tx c.args.read.value) c.args.want c.args.within.now
    (state_of c.args.state.now)) c.in-Binary.is
    ∙ step (λ left. with_left_in (findings_of c.args.findings.now) c.in-Binary.op c.in-Binary.at left (plain c.in-Binary.b.value) c.args.want c.args.within.now)
    (rw (c.deref.ensures, c.left_want.ensures) at c.in_ok-behind_read-in-Binary.ensures)
    (rw c.deref-in-Binary.ensures at c.in_ok-with_left-in-Binary.ensures)

pub declarations-returns : goal.declarations-returns
declarations-returns t c =
    declarations_are (findings_of c.args.findings.now) c.args.within.now c.args.decs.now.items.items no_stms (state_of c.args.state.now)
    ∙ (ap (λ ds. in_turn (declaration_step (findings_of c.args.findings.now) c.args.within.now) ds no_stms (state_of c.args.state.now))
    (sym c.deref-dec-items.ensures.value)
    ∙ walk_ends (declaration_step (findings_of c.args.findings.now) c.args.within.now) c.deref-dec-items.result.now c.loop-dec.dec-index
    no_stms (stms_of c.loop-dec.before.items) (state_of c.args.state.now) (state_of c.loop-dec.state) c.loop-dec.invariant
    (omega (arith, c.loop-dec.auto.dec-index-end, c.loop-dec-test.false))
    ∙ ap (λ b. drawn (stms_of b.items) (state_of c.loop-dec.state)) (sym c.in_ok-new.ensures.ok))

pub expression-returns-in_ok-scope-in-Let : goal.expression-returns-in_ok-scope-in-Let
expression-returns-in_ok-scope-in-Let t c =
    ap (λ x. expression (findings_of c.args.findings.now) x c.args.want c.args.within.now (state_of c.args.state.now))
    (ap (λ k. plain_kind k c.args.e.now.span) c.in-Let.is ∙ plain_kind-Let c.in-Let.decs c.in-Let.body c.args.e.now.span)
    ∙ step (λ b. sequence_in (findings_of c.args.findings.now) (plain_exps c.in-Let.body) c.args.want b c.args.within.now)
    c.in_ok-before-in-Let.ensures c.in_ok-scope-in-Let.ensures

pub expression-returns-in_ok-with_left-in-Binary : goal.expression-returns-in_ok-with_left-in-Binary
expression-returns-in_ok-with_left-in-Binary t c =
    ap (λ k. expression (findings_of c.args.findings.now) (plain_kind k c.args.e.now.span) c.args.want c.args.within.now (state_of c.args.state.now))
    c.in-Binary.is
    ∙ step (λ left. with_left_in (findings_of c.args.findings.now) c.in-Binary.op c.in-Binary.at left (plain c.in-Binary.b.value) c.args.want
    c.args.within.now)
    (rw (c.deref-in-Binary.ensures, c.left_want.ensures) at c.in_ok-expression-in-Binary.ensures)
    (rw c.deref-in-Binary-2.ensures at c.in_ok-with_left-in-Binary.ensures)

pub expression-returns-in_ok-update-in-Assign : goal.expression-returns-in_ok-update-in-Assign
expression-returns-in_ok-update-in-Assign t c =
    ap (λ k. expression (findings_of c.args.findings.now) (plain_kind k c.args.e.now.span) c.args.want c.args.within.now (state_of c.args.state.now))
    c.in-Assign.is
    ∙ step (assigned_by (findings_of c.args.findings.now) (plain_lvalue c.in-Assign.v) (plain c.in-Assign.a.value) c.args.within.now)
    c.in_ok-place-in-Assign.ensures
    (updates (findings_of c.args.findings.now) (plain_lvalue c.in-Assign.v) (plain c.in-Assign.a.value) c.args.within.now
    (place_of c.in_ok-place-in-Assign.place.value) (state_of c.locate.new.state)
    (drawn (plain_made c.update.new.made) (state_of c.update.new.state))
    (ap (λ e. begins_with (findings_of c.args.findings.now).meaning (plain e) (plain_lvalue c.in-Assign.v)) (sym c.deref-in-Assign.ensures)
    ∙ (sym c.begins_with.ensures ∙ c.if-begins_with.true))
    (rw c.deref-then-begins_with.ensures at c.in_ok-update-in-Assign.ensures))

pub expression-returns-in_ok-assign-in-Assign : goal.expression-returns-in_ok-assign-in-Assign
expression-returns-in_ok-assign-in-Assign t c =
    ap (λ k. expression (findings_of c.args.findings.now) (plain_kind k c.args.e.now.span) c.args.want c.args.within.now (state_of c.args.state.now))
    c.in-Assign.is
    ∙ step (assigned_by (findings_of c.args.findings.now) (plain_lvalue c.in-Assign.v) (plain c.in-Assign.a.value) c.args.within.now)
    c.in_ok-place-in-Assign.ensures
    (assigns (findings_of c.args.findings.now) (plain_lvalue c.in-Assign.v) (plain c.in-Assign.a.value) c.args.within.now
    (place_of c.in_ok-place-in-Assign.place.value) (state_of c.locate.new.state)
    (drawn (plain_made c.assign.new.made) (state_of c.assign.new.state))
    (ap (λ e. begins_with (findings_of c.args.findings.now).meaning (plain e) (plain_lvalue c.in-Assign.v)) (sym c.deref-in-Assign.ensures)
    ∙ (sym c.begins_with.ensures ∙ c.if-begins_with.false))
    (rw c.deref-else-begins_with.ensures at c.in_ok-assign-in-Assign.ensures))

pub expression-returns-in_ok-for_loop-in-For : goal.expression-returns-in_ok-for_loop-in-For
expression-returns-in_ok-for_loop-in-For t c =
    let rest : Tx → Tx → Translates Made =
    (λ x y. counted (findings_of c.args.findings.now) c.in-For.x x y (plain c.in-For.body.value) c.args.within.now) in
    let high : Translates Made = expression (findings_of c.args.findings.now) (plain c.in-For.high.value) Value c.args.within.now in
    ap (λ k. expression (findings_of c.args.findings.now) (plain_kind k c.args.e.now.span) c.args.want c.args.within.now (state_of c.args.state.now))
    c.in-For.is
    ∙ step_on value_of (λ x s. after (after (high s) value_of) (rest x)) (rw c.deref-in-For.ensures at c.in_ok-expression-in-For.ensures)
    (bounds_made (value_of (plain_made c.expression-in-For.new.made) (state_of c.expression-in-For.new.state)) high rest
    ∙ step (λ b s. after (value_of b.high s) (rest b.low)) (rw c.deref-in-For-2.ensures at c.in_ok-low-in-For.ensures)
    (rw c.deref-in-For-3.ensures at c.in_ok-for_loop-in-For.ensures))

pub declaration-returns-in_ok-variable-in-Variable : goal.declaration-returns-in_ok-variable-in-Variable
declaration-returns-in_ok-variable-in-Variable t c =
    ap (λ d. declarations (findings_of c.args.findings.now) (plain_dec d no_decs) (stms_of c.args.before.now.items) c.args.within.now
    (state_of c.args.state.now)) c.in-Variable.is
    ∙ c.in_ok-variable-in-Variable.ensures
