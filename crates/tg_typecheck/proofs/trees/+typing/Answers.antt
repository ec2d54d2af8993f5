use Rattle.std.proofs.Common.{refl, sym, ap, ◌∙◌, ◌≡◌, arith, rules, length, map, get_or, ◌+◌, true, false, [], ◌∷◌}
use Rattle.std.proofs.lemmas.Bool.{eqb-true}
use Rattle.std.specs.Prelude.{◌==◌, box_value}
use Rattle.std.specs.Option.{option_map}
use Rattle.tg_syntax.specs.Tree as tree
use Rattle.tg_syntax.specs.glue.Plain.{plain, plain_kind, plain_lvalue, plain_exps, plain_inits, plain_functions, plain_dec, plain_type}
use Rattle.tg_typecheck.specs.Scopes.{in_a_loop, in_no_loop, binding, variable_at}
use Rattle.tg_typecheck.specs.Types.{int_type, none_type}
use Rattle.tg_typecheck.specs.glue.Selections.{selected_of}
use Rattle.tg_typecheck.specs.Groups as groups
use Rattle.tg_typecheck.specs.Typing as typing
use Rattle.tg_typecheck.specs.glue.Trees.{fitting, filled, second_way, choice, idle}
use Rattle.tg_typecheck.specs.glue.States.{no_memory, scope_of, noted_of}
use Rattle.tg_syntax.proofs.ListLaws.{plain_kind-Let, plain_exps-items, plain_inits-items, plain_functions-items}
use Rattle.tg_syntax.specs.glue.Lists.{exps_of, inits_of, decs_of, functions_of}
use Rattle.tg_typecheck.proofs.Steps.{step, two_steps, given, fails_first, fails_then, two_fail_first, two_fail_then, ended, leads_ended, carry}
use Rattle.tg_typecheck.proofs.Steps.{last_fails, same_scope, no_loop_scope, opens_both, opens_keep, given_is, keep_is, keep_true, kept_steps, kept_fail}
use Rattle.tg_typecheck.proofs.Steps.{kept_then, cut_back, opened_state, keeps_both}
use Rattle.tg_typecheck.proofs.HeaderSteps.{open_one}
use Rattle.tg_typecheck.proofs.TreeSteps.{start_is, count_is, init_count_is, function_count_is, among, index_at, typed_at, params_at, fits_at}
use Rattle.tg_typecheck.proofs.TreeSteps.{arguments_none, arguments_one, arguments_fail, arguments_all, fields_none, fields_one, fields_fail, fields_all}
use Rattle.tg_typecheck.proofs.TreeSteps.{order_none, order_one, order_fails, order_all, decs_none, decs_one, decs_fail, decs_all, bodies_none}
use Rattle.tg_typecheck.proofs.TreeSteps.{bodies_one, bodies_fail, bodies_all, leads_carry, leads_on, leads_kept, choice_fails, choice_first_fails}
use Rattle.tg_typecheck.proofs.TreeSteps.{choice_both, choice_one}
use Rattle.tg_typecheck.proofs.trees.+typing.Goals as goal

pub fitting-returns-in_err-got-clause-given : goal.fitting-returns-in_err-got-clause-given
fitting-returns-in_err-got-clause-given t c = λ scope h. ended _ _ _ c.from_residual.ensures (fails_first _ _ (c.in_err-got.ensures.given scope h))

pub fitting-returns-clause-given : goal.fitting-returns-clause-given
fitting-returns-clause-given t c =
    λ scope h. carry c.expected.result _ _ (step _ _ (c.in_ok-got.ensures.given scope h)
    (ap (λ at. typing.expect c.args.wanted c.in_ok-got.got at (noted_of c.typed.new.state)) (start_is c.args.e.now))) (c.expected.ensures _)

pub without_value-returns-in_err-got-clause-given : goal.without_value-returns-in_err-got-clause-given
without_value-returns-in_err-got-clause-given t c = λ scope h. ended _ _ _ c.from_residual.ensures (fails_first _ _ (c.in_err-got.ensures.given scope h))

pub without_value-returns-clause-given : goal.without_value-returns-clause-given
without_value-returns-clause-given t c =
    λ scope h. carry c.nothing_expected.result _ _ (step _ _ (c.in_ok-got.ensures.given scope h)
    (ap (λ at. typing.expect_none c.in_ok-got.got at (noted_of c.typed.new.state)) (start_is c.args.e.now))) (c.nothing_expected.ensures _)

pub negated-returns-in_err-fitting_int-clause-given : goal.negated-returns-in_err-fitting_int-clause-given
negated-returns-in_err-fitting_int-clause-given t c =
    λ scope h. ended _ _ _ c.from_residual.ensures (two_fail_first _ _ _ _ (c.in_err-fitting_int.ensures.given scope h))

pub negated-returns-clause-given : goal.negated-returns-clause-given
negated-returns-clause-given t c = λ scope h. two_steps _ _ _ _ (c.in_ok-fitting_int.ensures.given scope h) (given_is c.int.ensures)

pub made_record-returns-in_err-ty-clause-given : goal.made_record-returns-in_err-ty-clause-given
made_record-returns-in_err-ty-clause-given t c =
    λ scope h. ended _ _ _ c.from_residual.ensures (fails_first _ _ (c.in_err-ty.ensures scope c.args.in_loop h _))

pub made_record-returns-in_err-fields-clause-given : goal.made_record-returns-in_err-fields-clause-given
made_record-returns-in_err-fields-clause-given t c =
    λ scope h. ended _ _ _ c.from_residual-in_err-fields.ensures
    (fails_then _ _ (c.in_ok-ty.ensures scope c.args.in_loop h _) (kept_fail _ _ _ _ c.in_err-fields.ensures.given))

pub made_record-returns-in_err-typed_fields-clause-given : goal.made_record-returns-in_err-typed_fields-clause-given
made_record-returns-in_err-typed_fields-clause-given t c =
    λ scope h. ended _ _ _ c.from_residual-in_err-typed_fields.ensures
    (fails_then _ _ (c.in_ok-ty.ensures scope c.args.in_loop h _)
    (kept_then _ _ _ _ c.in_ok-fields.ensures.given (fails_first _ _
    (last_fails (ap (λ fs. typing.expect_fields (plain_inits c.args.inits.now) fs scope (noted_of c.args.state.now)) (sym c.deref.ensures.value))
    (c.in_err-typed_fields.ensures.given scope h)))))

pub made_record-returns-clause-given : goal.made_record-returns-clause-given
made_record-returns-clause-given t c =
    λ scope h. step _ _ (c.in_ok-ty.ensures scope c.args.in_loop h _)
    (kept_steps _ _ _ _ c.in_ok-fields.ensures.given (step _ _
    (ap (λ fs. typing.expect_fields (plain_inits c.args.inits.now) fs scope (noted_of c.args.state.now)) (sym c.deref.ensures.value)
    ∙ c.in_ok-typed_fields.ensures.given scope h) given))

pub called-returns-in_err-signature-clause-given : goal.called-returns-in_err-signature-clause-given
called-returns-in_err-signature-clause-given t c =
    λ scope h. ended _ _ _ c.from_residual.ensures (fails_first _ _ (c.in_err-signature.ensures.given c.args.in_loop scope h))

pub called-returns-in_err-kept-clause-given : goal.called-returns-in_err-kept-clause-given
called-returns-in_err-kept-clause-given t c =
    λ scope h. ended _ _ _ c.from_residual-in_err-kept.ensures
    (fails_then _ _ (c.in_ok-signature.ensures.given c.args.in_loop scope h)
    (fails_first _ _ (last_fails (keep_is _ _ refl (ap (λ ps. typing.expression_count (plain_exps c.args.arguments.now) == length ps) (sym c.params-params.ensures)
    ∙ sym c.are_as_many.ensures)) (c.in_err-kept.ensures _))))

pub called-returns-in_err-typed_all-clause-given : goal.called-returns-in_err-typed_all-clause-given
called-returns-in_err-typed_all-clause-given t c =
    λ scope h. ended _ _ _ c.from_residual-in_err-typed_all.ensures
    (fails_then _ _ (c.in_ok-signature.ensures.given c.args.in_loop scope h)
    (fails_then _ _ (keep_is _ _ refl (ap (λ ps. typing.expression_count (plain_exps c.args.arguments.now) == length ps) (sym c.params-params.ensures)
    ∙ sym c.are_as_many.ensures)
    ∙ c.in_ok-kept.ensures _) (fails_first _ _ (last_fails (ap (λ ps. typing.expect_all (plain_exps c.args.arguments.now) ps scope
    (noted_of c.function.new.state)) (sym c.params-params.ensures))
    (c.in_err-typed_all.ensures.given scope (same_scope c.args.names.now c.in_ok-signature.ensures.kept h))))))

pub called-returns-clause-given : goal.called-returns-clause-given
called-returns-clause-given t c =
    λ scope h. step _ _ (c.in_ok-signature.ensures.given c.args.in_loop scope h)
    (step _ _ (keep_is _ _ refl (ap (λ ps. typing.expression_count (plain_exps c.args.arguments.now) == length ps) (sym c.params-params.ensures)
    ∙ sym c.are_as_many.ensures)
    ∙ c.in_ok-kept.ensures _) (step _ _ (ap (λ ps. typing.expect_all (plain_exps c.args.arguments.now) ps scope (noted_of c.function.new.state))
    (sym c.params-params.ensures)
    ∙ c.in_ok-typed_all.ensures.given scope (same_scope c.args.names.now c.in_ok-signature.ensures.kept h)) (given_is c.outcome.ensures)))

pub fitting_int-returns-clause-given : goal.fitting_int-returns-clause-given
fitting_int-returns-clause-given t c =
    λ scope h. carry c.fitting.result _ _ (ap (λ w. fitting (plain c.args.e.now) w scope (noted_of c.args.state.now)) (sym c.int.ensures))
    (c.fitting.ensures.given scope h)

pub typed_last-returns-in_err-last-clause-given : goal.typed_last-returns-in_err-last-clause-given
typed_last-returns-in_err-last-clause-given t c =
    λ scope h. ended _ _ _ c.from_residual.ensures (last_fails
    (ap (λ x. typing.typed_last none_type x scope (noted_of c.args.state.now))
    (plain_exps-items c.args.items.now ∙ ap exps_of (sym c.deref-e-items.ensures.value)))
    (order_fails c.e-item.result c.loop-e.invariant c.loop-e-test.true c.e-item.is c.in_err-last.ensures.given scope h))

pub typed_last-loop-e-preserved : goal.typed_last-loop-e-preserved
typed_last-loop-e-preserved t c =
    order_one c.e-item.result c.loop-e.invariant c.loop-e-test.true c.e-item.is c.in_ok-last.ensures.given c.in_ok-last.ensures.kept

pub typed_last-returns-clause-given : goal.typed_last-returns-clause-given
typed_last-returns-clause-given t c =
    λ scope h. ap (λ x. typing.typed_last none_type x scope (noted_of c.args.state.now))
    (plain_exps-items c.args.items.now ∙ ap exps_of (sym c.deref-e-items.ensures.value)) ∙ order_all c.loop-e.invariant
    (omega (arith, c.loop-e.auto.e-index-end, c.loop-e-test.false)) scope h

pub typed_all-loop-e-preserved : goal.typed_all-loop-e-preserved
typed_all-loop-e-preserved t c =
    record {
      at_index = ap (λ k. k + 1) c.loop-e.invariant.at_index;
      onward =
          arguments_one c.e-item.result c.index-params-at.result c.loop-e.invariant.onward c.loop-e-test.true
          (ap length c.deref-e-items.ensures.value ∙ (sym (count_is c.args.arguments.now) ∙ c.requires.as_many)) c.e-item.is
          (index_at c.args.params.now c.index-params-at.is c.loop-e.invariant.at_index)
          c.in_ok-fitting.ensures.given c.in_ok-fitting.ensures.kept;
    }

pub typed_all-returns-in_err-fitting-clause-given : goal.typed_all-returns-in_err-fitting-clause-given
typed_all-returns-in_err-fitting-clause-given t c =
    λ scope h. ended _ _ _ c.from_residual.ensures (last_fails
    (ap (λ x. typing.expect_all x c.args.params.now scope (noted_of c.args.state.now))
    (plain_exps-items c.args.arguments.now ∙ ap exps_of (sym c.deref-e-items.ensures.value)))
    (arguments_fail c.e-item.result c.index-params-at.result c.loop-e.invariant.onward c.loop-e-test.true
    (ap length c.deref-e-items.ensures.value ∙ (sym (count_is c.args.arguments.now) ∙ c.requires.as_many)) c.e-item.is
    (index_at c.args.params.now c.index-params-at.is c.loop-e.invariant.at_index) c.in_err-fitting.ensures.given scope
    h))

pub typed_all-returns-clause-given : goal.typed_all-returns-clause-given
typed_all-returns-clause-given t c =
    λ scope h. ap (λ x. typing.expect_all x c.args.params.now scope (noted_of c.args.state.now))
    (plain_exps-items c.args.arguments.now ∙ ap exps_of (sym c.deref-e-items.ensures.value)) ∙ arguments_all c.loop-e.invariant.onward
    (omega (arith, c.loop-e.auto.e-index-end, c.loop-e-test.false)) scope h

pub typed_whole-returns-in-Nil-clause-given : goal.typed_whole-returns-in-Nil-clause-given
typed_whole-returns-in-Nil-clause-given t c =
    λ scope h. ap (λ k. typing.typed (plain_kind k c.args.e.now.span) scope (noted_of c.args.state.now)) c.in-Nil.is ∙ given_is c.nil.ensures

pub typed_whole-returns-in-Int-clause-given : goal.typed_whole-returns-in-Int-clause-given
typed_whole-returns-in-Int-clause-given t c =
    λ scope h. ap (λ k. typing.typed (plain_kind k c.args.e.now.span) scope (noted_of c.args.state.now)) c.in-Int.is ∙ given_is c.int.ensures

pub typed_whole-returns-in-Text-clause-given : goal.typed_whole-returns-in-Text-clause-given
typed_whole-returns-in-Text-clause-given t c =
    λ scope h. ap (λ k. typing.typed (plain_kind k c.args.e.now.span) scope (noted_of c.args.state.now)) c.in-Text.is ∙ given_is c.text.ensures

pub typed_whole-returns-in-Break-clause-given : goal.typed_whole-returns-in-Break-clause-given
typed_whole-returns-in-Break-clause-given t c =
    λ scope h. carry c.broken.result _ _ (ap (λ k. typing.typed (plain_kind k c.args.e.now.span) scope (noted_of c.args.state.now)) c.in-Break.is)
    (c.broken.ensures scope (ap (λ s. s.in_loop) h) (noted_of c.args.state.now))

pub typed_whole-returns-in-Read-clause-given : goal.typed_whole-returns-in-Read-clause-given
typed_whole-returns-in-Read-clause-given t c =
    λ scope h. carry c.typed_place.result _ _ (ap (λ k. typing.typed (plain_kind k c.args.e.now.span) scope (noted_of c.args.state.now)) c.in-Read.is)
    (c.typed_place.ensures.given scope h)

pub typed_whole-returns-in-Call-clause-given : goal.typed_whole-returns-in-Call-clause-given
typed_whole-returns-in-Call-clause-given t c =
    λ scope h. carry c.called.result _ _ (ap (λ k. typing.typed (plain_kind k c.args.e.now.span) scope (noted_of c.args.state.now)) c.in-Call.is)
    (c.called.ensures.given scope h)

pub typed_whole-returns-in-Make-clause-given : goal.typed_whole-returns-in-Make-clause-given
typed_whole-returns-in-Make-clause-given t c =
    λ scope h. carry c.made_record.result _ _ (ap (λ k. typing.typed (plain_kind k c.args.e.now.span) scope (noted_of c.args.state.now)) c.in-Make.is)
    (c.made_record.ensures.given scope h)

pub typed_whole-returns-in-Seq-clause-given : goal.typed_whole-returns-in-Seq-clause-given
typed_whole-returns-in-Seq-clause-given t c =
    λ scope h. carry c.typed_last-in-Seq.result _ _ (ap (λ k. typing.typed (plain_kind k c.args.e.now.span) scope (noted_of c.args.state.now)) c.in-Seq.is)
    (c.typed_last-in-Seq.ensures.given scope h)

pub typed_last-loop-e-init : goal.typed_last-loop-e-init
typed_last-loop-e-init t c = order_none c.nothing-last.ensures

pub typed_last-returns-clause-kept : goal.typed_last-returns-clause-kept
typed_last-returns-clause-kept t c = c.loop-e.invariant.kept

pub typed_all-loop-e-init : goal.typed_all-loop-e-init
typed_all-loop-e-init t c = record { at_index = refl; onward = arguments_none }

pub typed_all-returns-clause-kept : goal.typed_all-returns-clause-kept
typed_all-returns-clause-kept t c = c.loop-e.invariant.onward.kept

pub typed_fields-loop-init-init : goal.typed_fields-loop-init-init
typed_fields-loop-init-init t c = record { at_index = refl; onward = fields_none }

pub typed_fields-returns-clause-given : goal.typed_fields-returns-clause-given
typed_fields-returns-clause-given t c =
    λ scope h. ap (λ x. typing.expect_fields x c.args.fields.now scope (noted_of c.args.state.now))
    (plain_inits-items c.args.inits.now ∙ ap inits_of (sym c.deref-init-items.ensures.value)) ∙ fields_all c.loop-init.invariant.onward
    (omega (arith, c.loop-init.auto.init-index-end, c.loop-init-test.false)) scope h

pub typed_fields-returns-clause-kept : goal.typed_fields-returns-clause-kept
typed_fields-returns-clause-kept t c = c.loop-init.invariant.onward.kept

pub left_operand-returns-in_err-ty-clause-given : goal.left_operand-returns-in_err-ty-clause-given
left_operand-returns-in_err-ty-clause-given t c = λ scope h. ended _ _ _ c.from_residual.ensures (fails_first _ _ (c.in_err-ty.ensures.given scope h))

pub left_operand-returns-clause-given : goal.left_operand-returns-clause-given
left_operand-returns-clause-given t c =
    λ scope h. carry c.left_side.result _ _ (step _ _ (c.in_ok-ty.ensures.given scope h)
    (ap (λ at. typing.left_side c.args.op c.in_ok-ty.ty c.args.at at (noted_of c.typed.new.state)) (start_is c.args.a.now))) c.left_side.ensures.given

pub right_operand-returns-in_err-right-clause-given : goal.right_operand-returns-in_err-right-clause-given
right_operand-returns-in_err-right-clause-given t c = λ scope h. ended _ _ _ c.from_residual.ensures (fails_first _ _ (c.in_err-right.ensures.given scope h))

pub right_operand-returns-in_err-right_side-clause-given : goal.right_operand-returns-in_err-right_side-clause-given
right_operand-returns-in_err-right_side-clause-given t c =
    λ scope h. ended _ _ _ c.from_residual-in_err-right_side.ensures
    (fails_then _ _ (c.in_ok-right.ensures.given scope h)
    (fails_first _ _ (last_fails (ap (λ at. typing.right_side c.args.op c.args.left c.in_ok-right.right at c.args.whole (noted_of c.typed.new.state))
    (start_is c.args.b.now)) (c.in_err-right_side.ensures _))))

pub right_operand-returns-clause-given : goal.right_operand-returns-clause-given
right_operand-returns-clause-given t c =
    λ scope h. step _ _ (c.in_ok-right.ensures.given scope h)
    (step _ _ (ap (λ at. typing.right_side c.args.op c.args.left c.in_ok-right.right at c.args.whole (noted_of c.typed.new.state)) (start_is c.args.b.now)
    ∙ c.in_ok-right_side.ensures _) (given_is c.int.ensures))

pub filled-returns-in_err-fitting-clause-given : goal.filled-returns-in_err-fitting-clause-given
filled-returns-in_err-fitting-clause-given t c =
    λ scope h. ended _ _ _ c.from_residual.ensures (two_fail_first _ _ _ _ (c.in_err-fitting.ensures.given scope h))

pub filled-returns-clause-given : goal.filled-returns-clause-given
filled-returns-clause-given t c = λ scope h. two_steps _ _ _ _ (c.in_ok-fitting.ensures.given scope h) given

pub joined-returns-in_err-also-clause-given : goal.joined-returns-in_err-also-clause-given
joined-returns-in_err-also-clause-given t c = λ scope h. ended _ _ _ c.from_residual.ensures (fails_first _ _ (c.in_err-also.ensures.given scope h))

pub joined-returns-in_err-kept-clause-given : goal.joined-returns-in_err-kept-clause-given
joined-returns-in_err-kept-clause-given t c =
    λ scope h. ended _ _ _ c.from_residual-in_err-kept.ensures
    (fails_then _ _ (c.in_ok-also.ensures.given scope h)
    (fails_first _ _ (last_fails (keep_is _ _ (start_is c.args.other.now) (sym c.alike.ensures)) (c.in_err-kept.ensures _))))

pub joined-returns-clause-given : goal.joined-returns-clause-given
joined-returns-clause-given t c =
    λ scope h. step _ _ (c.in_ok-also.ensures.given scope h)
    (step _ _ (keep_is _ _ (start_is c.args.other.now) (sym c.alike.ensures) ∙ c.in_ok-kept.ensures _) (given_is c.joined.ensures))

pub idle-returns-in_err-without_value-clause-given : goal.idle-returns-in_err-without_value-clause-given
idle-returns-in_err-without_value-clause-given t c =
    λ scope h. ended _ _ _ c.from_residual.ensures (two_fail_first _ _ _ _ (c.in_err-without_value.ensures.given scope h))

pub idle-returns-clause-given : goal.idle-returns-clause-given
idle-returns-clause-given t c = λ scope h. two_steps _ _ _ _ (c.in_ok-without_value.ensures.given scope h) (given_is c.nothing.ensures)

pub counted-returns-in_err-open_counter-clause-given : goal.counted-returns-in_err-open_counter-clause-given
counted-returns-in_err-open_counter-clause-given t c = λ scope h. ended _ _ _ c.from_residual.ensures no_memory

pub counted-returns-in_err-ty-clause-given : goal.counted-returns-in_err-ty-clause-given
counted-returns-in_err-ty-clause-given t c =
    λ scope h. ended _ _ _ c.from_residual-in_err-ty.ensures
    (last_fails (ap (λ n. idle (plain c.args.body.now) (in_a_loop (binding c.args.x (variable_at c.args.x.span.from int_type true) scope)) n)
    (sym c.in_ok-open_counter.ensures.noted)) (c.in_err-ty.ensures.given (in_a_loop (binding c.args.x (variable_at c.args.x.span.from int_type true) scope))
    (ap in_a_loop (opened_state c.args.x (variable_at c.args.x.span.from int_type true) c.args.names.now c.args.in_loop c.args.state.now
    c.open_counter.new.state c.in_ok-open_counter.ensures.bindings c.in_ok-open_counter.ensures.types h))))

pub counted-returns-clause-given : goal.counted-returns-clause-given
counted-returns-clause-given t c =
    λ scope h. ap (λ n. idle (plain c.args.body.now) (in_a_loop (binding c.args.x (variable_at c.args.x.span.from int_type true) scope)) n)
    (sym c.in_ok-open_counter.ensures.noted) ∙ c.in_ok-ty.ensures.given (in_a_loop (binding c.args.x (variable_at c.args.x.span.from int_type true) scope))
    (ap in_a_loop (opened_state c.args.x (variable_at c.args.x.span.from int_type true) c.args.names.now c.args.in_loop c.args.state.now
    c.open_counter.new.state c.in_ok-open_counter.ensures.bindings c.in_ok-open_counter.ensures.types h))

pub counted-returns-clause-kept : goal.counted-returns-clause-kept
counted-returns-clause-kept t c =
    record {
      bindings = cut_back ((c.args.x.name.0, (variable_at c.args.x.span.from int_type true)) ∷ []) c.cut_to.ensures (c.in_ok-ty.ensures.kept.bindings
          ∙ c.in_ok-open_counter.ensures.bindings) c.len-count.ensures;
      types = c.in_ok-ty.ensures.kept.types ∙ c.in_ok-open_counter.ensures.types;
    }

pub typed_place-returns-in-Simple-clause-given : goal.typed_place-returns-in-Simple-clause-given
typed_place-returns-in-Simple-clause-given t c =
    λ scope h. carry c.variable.result _ _ (ap (λ v. typing.typed_place (plain_lvalue v) scope (noted_of c.args.state.now)) c.in-Simple.is)
    (c.variable.ensures.given c.args.in_loop scope h)

pub typed_place-returns-in_err-ty-in-Index-clause-given : goal.typed_place-returns-in_err-ty-in-Index-clause-given
typed_place-returns-in_err-ty-in-Index-clause-given t c =
    λ scope h. ended _ _ _ c.from_residual.ensures
    (last_fails (ap (λ v. typing.typed_place (plain_lvalue v) scope (noted_of c.args.state.now)) c.in-Index.is ∙ ap
    (λ v. typing.typed_place (tree.Index (plain_lvalue v) (plain c.in-Index.index.value)) scope (noted_of c.args.state.now)) (sym c.deref-in-Index.ensures))
    (fails_first _ _ (c.in_err-ty-in-Index.ensures.given scope h)))

pub typed_place-returns-in_err-element-in-Index-clause-given : goal.typed_place-returns-in_err-element-in-Index-clause-given
typed_place-returns-in_err-element-in-Index-clause-given t c =
    λ scope h. ended _ _ _ c.from_residual-in_err-element-in-Index.ensures
    (last_fails (ap (λ v. typing.typed_place (plain_lvalue v) scope (noted_of c.args.state.now)) c.in-Index.is ∙ ap
    (λ v. typing.typed_place (tree.Index (plain_lvalue v) (plain c.in-Index.index.value)) scope (noted_of c.args.state.now)) (sym c.deref-in-Index.ensures))
    (fails_then _ _ (c.in_ok-ty-in-Index.ensures.given scope h)
    (fails_first _ _ (last_fails (ap (λ at. typing.element_of c.in_ok-ty-in-Index.ty at (noted_of c.typed_place.new.state))
    (ap (λ v. typing.place_start (plain_lvalue v)) (c.deref-in-Index.ensures ∙ sym c.deref-in-Index-2.ensures)
    ∙ sym c.start_of.ensures)) c.in_err-element-in-Index.ensures))))

pub typed_place-returns-in_err-fitting_int-in-Index-clause-given : goal.typed_place-returns-in_err-fitting_int-in-Index-clause-given
typed_place-returns-in_err-fitting_int-in-Index-clause-given t c =
    λ scope h. ended _ _ _ c.from_residual-in_err-fitting_int-in-Index.ensures
    (last_fails (ap (λ v. typing.typed_place (plain_lvalue v) scope (noted_of c.args.state.now)) c.in-Index.is ∙ ap
    (λ v. typing.typed_place (tree.Index (plain_lvalue v) (plain c.in-Index.index.value)) scope (noted_of c.args.state.now)) (sym c.deref-in-Index.ensures)
    ∙ ap (λ e. typing.typed_place (tree.Index (plain_lvalue c.deref-in-Index.result.now) (plain e)) scope (noted_of c.args.state.now))
    (sym c.deref-in-Index-3.ensures)) (fails_then _ _ (c.in_ok-ty-in-Index.ensures.given scope h)
    (fails_then _ _ (ap (λ at. typing.element_of c.in_ok-ty-in-Index.ty at (noted_of c.typed_place.new.state))
    (ap (λ v. typing.place_start (plain_lvalue v)) (c.deref-in-Index.ensures ∙ sym c.deref-in-Index-2.ensures) ∙ sym c.start_of.ensures)
    ∙ c.in_ok-element-in-Index.ensures) (two_fail_first _ _ _ _
    (c.in_err-fitting_int-in-Index.ensures.given scope (same_scope c.args.names.now c.in_ok-ty-in-Index.ensures.kept h))))))

pub typed_place-returns-in_ok-fitting_int-in-Index-clause-given : goal.typed_place-returns-in_ok-fitting_int-in-Index-clause-given
typed_place-returns-in_ok-fitting_int-in-Index-clause-given t c =
    λ scope h. ap (λ v. typing.typed_place (plain_lvalue v) scope (noted_of c.args.state.now)) c.in-Index.is ∙ ap
    (λ v. typing.typed_place (tree.Index (plain_lvalue v) (plain c.in-Index.index.value)) scope (noted_of c.args.state.now)) (sym c.deref-in-Index.ensures)
    ∙ ap (λ e. typing.typed_place (tree.Index (plain_lvalue c.deref-in-Index.result.now) (plain e)) scope (noted_of c.args.state.now))
    (sym c.deref-in-Index-3.ensures) ∙ step _ _ (c.in_ok-ty-in-Index.ensures.given scope h)
    (step _ _ (ap (λ at. typing.element_of c.in_ok-ty-in-Index.ty at (noted_of c.typed_place.new.state))
    (ap (λ v. typing.place_start (plain_lvalue v)) (c.deref-in-Index.ensures ∙ sym c.deref-in-Index-2.ensures) ∙ sym c.start_of.ensures)
    ∙ c.in_ok-element-in-Index.ensures) (two_steps _ _ _ _
    (c.in_ok-fitting_int-in-Index.ensures.given scope (same_scope c.args.names.now c.in_ok-ty-in-Index.ensures.kept h)) given))

pub declared-loop-dec-init : goal.declared-loop-dec-init
declared-loop-dec-init t c = decs_none

pub declared-loop-dec-preserved : goal.declared-loop-dec-preserved
declared-loop-dec-preserved t c =
    decs_one c.dec-item.result c.loop-dec.invariant c.loop-dec-test.true c.dec-item.is c.in_ok-declaration.ensures.given c.in_ok-declaration.ensures.opens

pub declared-returns-in_err-declaration-clause-given : goal.declared-returns-in_err-declaration-clause-given
declared-returns-in_err-declaration-clause-given t c =
    λ scope h. ended _ _ _ c.from_residual.ensures (last_fails
    (ap (λ ds. typing.declare (decs_of ds) scope (noted_of c.args.state.now)) (sym c.deref-dec-items.ensures.value))
    (decs_fail c.dec-item.result c.loop-dec.invariant c.loop-dec-test.true c.dec-item.is c.in_err-declaration.ensures.given scope h))

pub declared-returns-clause-given : goal.declared-returns-clause-given
declared-returns-clause-given t c =
    λ scope h. ap (λ ds. typing.declare (decs_of ds) scope (noted_of c.args.state.now)) (sym c.deref-dec-items.ensures.value) ∙ decs_all c.loop-dec.invariant
    (omega (arith, c.loop-dec.auto.dec-index-end, c.loop-dec-test.false)) scope h

pub declared-returns-clause-opens : goal.declared-returns-clause-opens
declared-returns-clause-opens t c = c.loop-dec.invariant.opens

pub own_variable-returns-in_err-ty-clause-given : goal.own_variable-returns-in_err-ty-clause-given
own_variable-returns-in_err-ty-clause-given t c =
    λ rest scope h. leads_ended _ _ _ _ c.from_residual.ensures (fails_first _ _ (c.in_err-ty.ensures.given scope h))

pub own_variable-returns-in_err-ty-2-clause-given : goal.own_variable-returns-in_err-ty-2-clause-given
own_variable-returns-in_err-ty-2-clause-given t c =
    λ rest scope h. leads_ended _ _ _ _ c.from_residual-in_err-ty-2.ensures
    (fails_then _ _ (c.in_ok-ty.ensures.given scope h) (fails_first _ _
    (last_fails (ap (λ at. typing.own_type c.in_ok-ty.ty at (noted_of c.typed.new.state)) (start_is c.args.value.now)) (c.in_err-ty-2.ensures _))))

pub own_variable-returns-in_err-open_variable-clause-given : goal.own_variable-returns-in_err-open_variable-clause-given
own_variable-returns-in_err-open_variable-clause-given t c = λ rest scope h. leads_ended _ _ _ _ c.from_residual-in_err-open_variable.ensures no_memory

pub own_variable-returns-clause-given : goal.own_variable-returns-clause-given
own_variable-returns-clause-given t c =
    λ rest scope h. step _ _ (c.in_ok-ty.ensures.given scope h)
    (step _ _ (ap (λ at. typing.own_type c.in_ok-ty.ty at (noted_of c.typed.new.state)) (start_is c.args.value.now) ∙ c.in_ok-ty-2.ensures _)
    (ap (λ s. typing.declare rest s (noted_of c.typed.new.state))
    (opened_state c.args.x (variable_at c.args.x.span.from c.in_ok-ty-2.ty false) c.args.names.now c.args.in_loop c.typed.new.state c.open_variable.new.state
    c.in_ok-open_variable.ensures.bindings c.in_ok-open_variable.ensures.types (same_scope c.args.names.now c.in_ok-ty.ensures.kept h)) ∙ ap
    (λ n. typing.declare rest (scope_of c.args.names.now c.open_variable.new.state c.args.in_loop) n) (sym c.in_ok-open_variable.ensures.noted)))

pub own_variable-returns-clause-opens : goal.own_variable-returns-clause-opens
own_variable-returns-clause-opens t c =
    opens_both (opens_keep c.in_ok-ty.ensures.kept) (open_one c.args.x
    (variable_at c.args.x.span.from c.in_ok-ty-2.ty false) c.typed.new.state c.open_variable.new.state c.in_ok-open_variable.ensures.bindings
    c.in_ok-open_variable.ensures.types)

pub typed_variable-returns-in_err-ty-clause-given : goal.typed_variable-returns-in_err-ty-clause-given
typed_variable-returns-in_err-ty-clause-given t c =
    λ rest scope h. leads_ended _ _ _ _ c.from_residual.ensures (fails_first _ _ (c.in_err-ty.ensures scope c.args.in_loop h _))

pub typed_variable-returns-in_err-fitting-clause-given : goal.typed_variable-returns-in_err-fitting-clause-given
typed_variable-returns-in_err-fitting-clause-given t c =
    λ rest scope h. leads_ended _ _ _ _ c.from_residual-in_err-fitting.ensures
    (fails_then _ _ (c.in_ok-ty.ensures scope c.args.in_loop h _) (two_fail_first _ _ _ _ (c.in_err-fitting.ensures.given scope h)))

pub typed_variable-returns-in_err-open_variable-clause-given : goal.typed_variable-returns-in_err-open_variable-clause-given
typed_variable-returns-in_err-open_variable-clause-given t c = λ rest scope h. leads_ended _ _ _ _ c.from_residual-in_err-open_variable.ensures no_memory

pub typed_variable-returns-clause-given : goal.typed_variable-returns-clause-given
typed_variable-returns-clause-given t c =
    λ rest scope h. step _ _ (c.in_ok-ty.ensures scope c.args.in_loop h _)
    (two_steps _ _ _ _ (c.in_ok-fitting.ensures.given scope h)
    (ap (λ s. typing.declare rest s (noted_of c.fitting.new.state))
    (opened_state c.args.x (variable_at c.args.x.span.from c.in_ok-ty.ty false) c.args.names.now c.args.in_loop c.fitting.new.state c.open_variable.new.state
    c.in_ok-open_variable.ensures.bindings c.in_ok-open_variable.ensures.types (same_scope c.args.names.now c.in_ok-fitting.ensures.kept h)) ∙ ap
    (λ n. typing.declare rest (scope_of c.args.names.now c.open_variable.new.state c.args.in_loop) n) (sym c.in_ok-open_variable.ensures.noted)))

pub typed_variable-returns-clause-opens : goal.typed_variable-returns-clause-opens
typed_variable-returns-clause-opens t c =
    opens_both (opens_keep c.in_ok-fitting.ensures.kept)
    (open_one c.args.x (variable_at c.args.x.span.from c.in_ok-ty.ty false) c.fitting.new.state c.open_variable.new.state
    c.in_ok-open_variable.ensures.bindings c.in_ok-open_variable.ensures.types)

pub declaration-returns-in-Types-clause-given : goal.declaration-returns-in-Types-clause-given
declaration-returns-in-Types-clause-given t c =
    λ rest scope h. leads_carry c.declare_types.result _ _ (typing.declare rest)
    (ap (λ d. typing.declare (plain_dec d rest) scope (noted_of c.args.state.now)) c.in-Types.is ∙ ap
    (λ ds. typing.declare (tree.types (map plain_type ds) rest) scope (noted_of c.args.state.now)) (sym c.as_slice.ensures))
    (leads_on c.declare_types.result _ _ (groups.declare_types (map plain_type c.as_slice.result.now) scope) (typing.declare rest) _
    (c.declare_types.ensures.given c.args.in_loop scope h))

pub declare_functions-returns-in_err-all_fresh-clause-given : goal.declare_functions-returns-in_err-all_fresh-clause-given
declare_functions-returns-in_err-all_fresh-clause-given t c =
    λ in_loop rest scope h. leads_ended _ _ _ _ c.from_residual.ensures (fails_first _ _ (c.in_err-all_fresh.ensures _))

pub declare_functions-returns-in_err-signatures-clause-given : goal.declare_functions-returns-in_err-signatures-clause-given
declare_functions-returns-in_err-signatures-clause-given t c =
    λ in_loop rest scope h. leads_ended _ _ _ _ c.from_residual-in_err-signatures.ensures
    (fails_then _ _ (c.in_ok-all_fresh.ensures _) (fails_first _ _ (c.in_err-signatures.ensures.given scope in_loop h _)))

pub declare_functions-returns-in_err-open_functions-clause-given : goal.declare_functions-returns-in_err-open_functions-clause-given
declare_functions-returns-in_err-open_functions-clause-given t c =
    λ in_loop rest scope h. leads_ended _ _ _ _ c.from_residual-in_err-open_functions.ensures no_memory

pub declare_functions-returns-clause-given : goal.declare_functions-returns-clause-given
declare_functions-returns-clause-given t c = λ in_loop rest scope h.
    let inside : (groups.with_functions (plain_functions c.args.group.now) c.in_ok-signatures.signatures.items scope)
    ≡ scope_of c.args.names.now c.open_functions.new.state in_loop = ap (λ ss. groups.with_functions (plain_functions c.args.group.now) ss scope)
    (sym c.deref.ensures.value) ∙ c.in_ok-open_functions.ensures.given c.args.names.now in_loop scope h in
    let below : typing.bodies (plain_functions c.args.group.now) c.in_ok-signatures.signatures.items
    (in_no_loop (groups.with_functions (plain_functions c.args.group.now) c.in_ok-signatures.signatures.items scope)) (noted_of c.args.state.now)
    ≡ typing.bodies (plain_functions c.args.group.now) c.deref-2.result.now
    (in_no_loop (groups.with_functions (plain_functions c.args.group.now) c.in_ok-signatures.signatures.items scope))
    (noted_of c.open_functions.new.state) = ap (λ ss. typing.bodies (plain_functions c.args.group.now) ss
    (in_no_loop (groups.with_functions (plain_functions c.args.group.now) c.in_ok-signatures.signatures.items scope)) (noted_of c.args.state.now))
    (sym c.deref-2.ensures.value) ∙ ap (λ n. typing.bodies (plain_functions c.args.group.now) c.deref-2.result.now
    (in_no_loop (groups.with_functions (plain_functions c.args.group.now) c.in_ok-signatures.signatures.items scope)) n)
    (sym c.in_ok-open_functions.ensures.noted) in
    leads_carry c.bodies.result _ _ (typing.declare rest)
    (step _ _ (c.in_ok-all_fresh.ensures _) (step _ _ (c.in_ok-signatures.ensures.given scope in_loop h _) refl))
    (leads_kept c.bodies.result c.args.names.now in_loop c.open_functions.new.state c.bodies.new.state
    (typing.bodies (plain_functions c.args.group.now) c.in_ok-signatures.signatures.items
    (in_no_loop (groups.with_functions (plain_functions c.args.group.now) c.in_ok-signatures.signatures.items scope))) (typing.declare rest)
    (noted_of c.args.state.now) (groups.with_functions (plain_functions c.args.group.now) c.in_ok-signatures.signatures.items scope) inside
    c.bodies.ensures.kept (carry c.bodies.result _ _ below
    (c.bodies.ensures.given (in_no_loop (groups.with_functions (plain_functions c.args.group.now) c.in_ok-signatures.signatures.items scope))
    (no_loop_scope c.open_functions.new.state c.args.names.now inside))))

pub bodies-loop-function-init : goal.bodies-loop-function-init
bodies-loop-function-init t c = record { at_index = refl; onward = bodies_none }

pub bodies-bounds-signatures-at : goal.bodies-bounds-signatures-at
bodies-bounds-signatures-at t c =
    omega (
      arith,
      c.loop-function-test.true,
      ap length c.deref-function-items.ensures.value,
      function_count_is c.args.group.now,
      c.requires.as_many,
      c.loop-function.invariant.at_index,
    )

pub bodies-loop-function-preserved : goal.bodies-loop-function-preserved
bodies-loop-function-preserved t c =
    record {
      at_index = ap (λ k. k + 1) c.loop-function.invariant.at_index;
      onward =
          bodies_one c.function-item.result c.index-signatures-at.result c.loop-function.invariant.onward c.loop-function-test.true
          (ap length c.deref-function-items.ensures.value ∙ (sym (function_count_is c.args.group.now) ∙ c.requires.as_many)) c.function-item.is
          (index_at c.args.signatures.now c.index-signatures-at.is c.loop-function.invariant.at_index)
          c.in_ok-body.ensures.given c.in_ok-body.ensures.kept;
    }

pub bodies-returns-in_err-body-clause-given : goal.bodies-returns-in_err-body-clause-given
bodies-returns-in_err-body-clause-given t c =
    λ scope h. ended _ _ _ c.from_residual.ensures (last_fails
    (ap (λ x. typing.bodies x c.args.signatures.now scope (noted_of c.args.state.now))
    (plain_functions-items c.args.group.now ∙ ap functions_of (sym c.deref-function-items.ensures.value)))
    (bodies_fail c.function-item.result c.index-signatures-at.result c.loop-function.invariant.onward c.loop-function-test.true
    (ap length c.deref-function-items.ensures.value ∙ (sym (function_count_is c.args.group.now) ∙ c.requires.as_many)) c.function-item.is
    (index_at c.args.signatures.now c.index-signatures-at.is c.loop-function.invariant.at_index)
    c.in_err-body.ensures.given scope h))

pub bodies-returns-clause-given : goal.bodies-returns-clause-given
bodies-returns-clause-given t c =
    λ scope h. ap (λ x. typing.bodies x c.args.signatures.now scope (noted_of c.args.state.now))
    (plain_functions-items c.args.group.now ∙ ap functions_of (sym c.deref-function-items.ensures.value)) ∙ bodies_all c.loop-function.invariant.onward
    (omega (arith, c.loop-function.auto.function-index-end, c.loop-function-test.false)) scope h

pub bodies-returns-clause-kept : goal.bodies-returns-clause-kept
bodies-returns-clause-kept t c = c.loop-function.invariant.onward.kept

pub body-returns-in_err-open_params-clause-given : goal.body-returns-in_err-open_params-clause-given
body-returns-in_err-open_params-clause-given t c = λ scope h. ended _ _ _ c.from_residual.ensures no_memory

pub body-returns-in_err-got-clause-given : goal.body-returns-in_err-got-clause-given
body-returns-in_err-got-clause-given t c =
    λ scope h. ended _ _ _ c.from_residual-in_err-got.ensures
    (fails_first _ _ (last_fails (typed_at (plain c.args.function.now.body)
    (params_at scope c.as_slice.ensures c.params.ensures ∙ c.in_ok-open_params.ensures.given c.args.names.now false scope h)
    c.in_ok-open_params.ensures.noted) (c.in_err-got.ensures.given (scope_of c.args.names.now c.open_params.new.state false) refl)))

pub body-returns-in_err-body_fits-clause-given : goal.body-returns-in_err-body_fits-clause-given
body-returns-in_err-body_fits-clause-given t c =
    λ scope h. ended _ _ _ c.from_residual-in_err-body_fits.ensures
    (fails_then _ _ ((typed_at (plain c.args.function.now.body)
    (params_at scope c.as_slice.ensures c.params.ensures ∙ c.in_ok-open_params.ensures.given c.args.names.now false scope h)
    c.in_ok-open_params.ensures.noted) ∙ c.in_ok-got.ensures.given (scope_of c.args.names.now c.open_params.new.state false) refl) (last_fails
    (fits_at c.args.function.now.result c.in_ok-got.got (noted_of c.typed.new.state) c.outcome.ensures (start_is c.args.function.now.body))
    (c.in_err-body_fits.ensures _)))

pub body-returns-clause-given : goal.body-returns-clause-given
body-returns-clause-given t c =
    λ scope h. step _ _ ((typed_at (plain c.args.function.now.body)
    (params_at scope c.as_slice.ensures c.params.ensures ∙ c.in_ok-open_params.ensures.given c.args.names.now false scope h)
    c.in_ok-open_params.ensures.noted)
    ∙ c.in_ok-got.ensures.given (scope_of c.args.names.now c.open_params.new.state false) refl)
    ((fits_at c.args.function.now.result c.in_ok-got.got (noted_of c.typed.new.state) c.outcome.ensures (start_is c.args.function.now.body))
    ∙ c.in_ok-body_fits.ensures _)

pub called-typed_all-requires : goal.called-typed_all-requires
called-typed_all-requires t c =
    (search rules, (c.requires.arguments, eqb-true _ _ (sym c.are_as_many.ensures ∙ keep_true _ _ (c.in_ok-kept.ensures (noted_of c.function.new.state)))))

pub typed_all-bounds-params-at : goal.typed_all-bounds-params-at
typed_all-bounds-params-at t c =
    omega (arith, c.loop-e-test.true, ap length c.deref-e-items.ensures.value, count_is c.args.arguments.now, c.requires.as_many, c.loop-e.invariant.at_index)

pub typed_fields-bounds-fields-at : goal.typed_fields-bounds-fields-at
typed_fields-bounds-fields-at t c =
    omega (
      arith,
      c.loop-init-test.true,
      ap length c.deref-init-items.ensures.value,
      init_count_is c.args.inits.now,
      c.requires.as_many,
      c.loop-init.invariant.at_index,
    )

pub typed_fields-loop-init-preserved : goal.typed_fields-loop-init-preserved
typed_fields-loop-init-preserved t c =
    record {
      at_index = ap (λ k. k + 1) c.loop-init.invariant.at_index;
      onward =
          fields_one c.init-item.result c.index-fields-at.result c.loop-init.invariant.onward c.loop-init-test.true
          (ap length c.deref-init-items.ensures.value ∙ (sym (init_count_is c.args.inits.now) ∙ c.requires.as_many)) c.init-item.is
          (index_at c.args.fields.now c.index-fields-at.is c.loop-init.invariant.at_index)
          c.in_ok-fitting.ensures.given c.in_ok-fitting.ensures.kept;
    }

pub typed_fields-returns-in_err-fitting-clause-given : goal.typed_fields-returns-in_err-fitting-clause-given
typed_fields-returns-in_err-fitting-clause-given t c =
    λ scope h. ended _ _ _ c.from_residual.ensures (last_fails
    (ap (λ x. typing.expect_fields x c.args.fields.now scope (noted_of c.args.state.now))
    (plain_inits-items c.args.inits.now ∙ ap inits_of (sym c.deref-init-items.ensures.value)))
    (fields_fail c.init-item.result c.index-fields-at.result c.loop-init.invariant.onward c.loop-init-test.true
    (ap length c.deref-init-items.ensures.value ∙ (sym (init_count_is c.args.inits.now) ∙ c.requires.as_many)) c.init-item.is
    (index_at c.args.fields.now c.index-fields-at.is c.loop-init.invariant.at_index) c.in_err-fitting.ensures.given scope
    h))

pub typed_whole-returns-in_err-left-in-Binary-clause-given : goal.typed_whole-returns-in_err-left-in-Binary-clause-given
typed_whole-returns-in_err-left-in-Binary-clause-given t c =
    λ scope h. ended _ _ _ c.from_residual.ensures (last_fails
    (ap (λ k. typing.typed (plain_kind k c.args.e.now.span) scope (noted_of c.args.state.now)) c.in-Binary.is ∙ ap
    (λ x. typing.typed (tree.Binary c.args.e.now.span c.in-Binary.op c.in-Binary.at (plain x) (plain c.in-Binary.b.value)) scope (noted_of c.args.state.now))
    (sym c.deref-in-Binary.ensures)) (two_fail_first _ _ _ _ (c.in_err-left-in-Binary.ensures.given scope h)))

pub typed_whole-returns-in_ok-left-in-Binary-clause-given : goal.typed_whole-returns-in_ok-left-in-Binary-clause-given
typed_whole-returns-in_ok-left-in-Binary-clause-given t c =
    λ scope h. carry c.right_operand.result _ _ (ap (λ k. typing.typed (plain_kind k c.args.e.now.span) scope (noted_of c.args.state.now)) c.in-Binary.is ∙ ap
    (λ x. typing.typed (tree.Binary c.args.e.now.span c.in-Binary.op c.in-Binary.at (plain x) (plain c.in-Binary.b.value)) scope (noted_of c.args.state.now))
    (sym c.deref-in-Binary.ensures) ∙ ap (λ x. typing.typed
    (tree.Binary c.args.e.now.span c.in-Binary.op c.in-Binary.at (plain c.deref-in-Binary.result.now) (plain x)) scope (noted_of c.args.state.now))
    (sym c.deref-in-Binary-2.ensures) ∙ two_steps _ _ _ _ (c.in_ok-left-in-Binary.ensures.given scope h) refl)
    (c.right_operand.ensures.given scope (same_scope c.args.names.now c.in_ok-left-in-Binary.ensures.kept h))

pub typed_whole-returns-in_err-ty-in-Fill-clause-given : goal.typed_whole-returns-in_err-ty-in-Fill-clause-given
typed_whole-returns-in_err-ty-in-Fill-clause-given t c =
    λ scope h. ended _ _ _ c.from_residual-in_err-ty-in-Fill.ensures
    (last_fails (ap (λ k. typing.typed (plain_kind k c.args.e.now.span) scope (noted_of c.args.state.now)) c.in-Fill.is)
    (fails_first _ _ (c.in_err-ty-in-Fill.ensures scope c.args.in_loop h _)))

pub typed_whole-returns-in_err-element-in-Fill-clause-given : goal.typed_whole-returns-in_err-element-in-Fill-clause-given
typed_whole-returns-in_err-element-in-Fill-clause-given t c =
    λ scope h. ended _ _ _ c.from_residual-in_err-element-in-Fill.ensures
    (last_fails (ap (λ k. typing.typed (plain_kind k c.args.e.now.span) scope (noted_of c.args.state.now)) c.in-Fill.is)
    (fails_then _ _ (c.in_ok-ty-in-Fill.ensures scope c.args.in_loop h _) (fails_first _ _ c.in_err-element-in-Fill.ensures)))

pub typed_whole-returns-in_err-fitting_int-in-Fill-clause-given : goal.typed_whole-returns-in_err-fitting_int-in-Fill-clause-given
typed_whole-returns-in_err-fitting_int-in-Fill-clause-given t c =
    λ scope h. ended _ _ _ c.from_residual-in_err-fitting_int-in-Fill.ensures
    (last_fails (ap (λ k. typing.typed (plain_kind k c.args.e.now.span) scope (noted_of c.args.state.now)) c.in-Fill.is ∙ ap
    (λ x. typing.typed (tree.Fill c.args.e.now.span c.in-Fill.x (plain x) (plain c.in-Fill.value.value)) scope (noted_of c.args.state.now))
    (sym c.deref-in-Fill.ensures)) (fails_then _ _ (c.in_ok-ty-in-Fill.ensures scope c.args.in_loop h _)
    (fails_then _ _ c.in_ok-element-in-Fill.ensures (two_fail_first _ _ _ _ (c.in_err-fitting_int-in-Fill.ensures.given scope h)))))

pub typed_whole-returns-in_ok-fitting_int-in-Fill-clause-given : goal.typed_whole-returns-in_ok-fitting_int-in-Fill-clause-given
typed_whole-returns-in_ok-fitting_int-in-Fill-clause-given t c =
    λ scope h. carry c.filled.result _ _ (ap (λ k. typing.typed (plain_kind k c.args.e.now.span) scope (noted_of c.args.state.now)) c.in-Fill.is ∙ ap
    (λ x. typing.typed (tree.Fill c.args.e.now.span c.in-Fill.x (plain x) (plain c.in-Fill.value.value)) scope (noted_of c.args.state.now))
    (sym c.deref-in-Fill.ensures) ∙ ap (λ x. typing.typed (tree.Fill c.args.e.now.span c.in-Fill.x (plain c.deref-in-Fill.result.now) (plain x)) scope
    (noted_of c.args.state.now)) (sym c.deref-in-Fill-2.ensures) ∙ step _ _ (c.in_ok-ty-in-Fill.ensures scope c.args.in_loop h _)
    (step _ _ c.in_ok-element-in-Fill.ensures (two_steps _ _ _ _ (c.in_ok-fitting_int-in-Fill.ensures.given scope h) refl)))
    (c.filled.ensures.given scope (same_scope c.args.names.now c.in_ok-fitting_int-in-Fill.ensures.kept h))

pub typed_whole-returns-in_err-ty-in-Assign-clause-given : goal.typed_whole-returns-in_err-ty-in-Assign-clause-given
typed_whole-returns-in_err-ty-in-Assign-clause-given t c =
    λ scope h. ended _ _ _ c.from_residual-in_err-ty-in-Assign.ensures
    (last_fails (ap (λ k. typing.typed (plain_kind k c.args.e.now.span) scope (noted_of c.args.state.now)) c.in-Assign.is)
    (fails_first _ _ (c.in_err-ty-in-Assign.ensures.given scope h)))

pub typed_whole-returns-in_err-assignable-in-Assign-clause-given : goal.typed_whole-returns-in_err-assignable-in-Assign-clause-given
typed_whole-returns-in_err-assignable-in-Assign-clause-given t c =
    λ scope h. ended _ _ _ c.from_residual-in_err-assignable-in-Assign.ensures
    (last_fails (ap (λ k. typing.typed (plain_kind k c.args.e.now.span) scope (noted_of c.args.state.now)) c.in-Assign.is)
    (fails_then _ _ (c.in_ok-ty-in-Assign.ensures.given scope h)
    (fails_first _ _ (c.in_err-assignable-in-Assign.ensures scope c.args.in_loop (same_scope c.args.names.now c.in_ok-ty-in-Assign.ensures.kept h) _))))

pub typed_whole-returns-in_ok-assignable-in-Assign-clause-given : goal.typed_whole-returns-in_ok-assignable-in-Assign-clause-given
typed_whole-returns-in_ok-assignable-in-Assign-clause-given t c =
    λ scope h. carry c.filled-in-Assign.result _ _ (ap (λ k. typing.typed (plain_kind k c.args.e.now.span) scope (noted_of c.args.state.now)) c.in-Assign.is
    ∙ ap (λ x. typing.typed (tree.Assign c.args.e.now.span (plain_lvalue c.in-Assign.place) (plain x)) scope (noted_of c.args.state.now))
    (sym c.deref-in-Assign.ensures) ∙ (step _ _ (c.in_ok-ty-in-Assign.ensures.given scope h)
    (step _ _ (c.in_ok-assignable-in-Assign.ensures scope c.args.in_loop (same_scope c.args.names.now c.in_ok-ty-in-Assign.ensures.kept h) _) refl) ∙ ap
    (λ w. filled w c.in_ok-ty-in-Assign.ty (plain c.deref-in-Assign.result.now) scope (noted_of c.typed_place-in-Assign.new.state)) (sym c.nothing.ensures)))
    (c.filled-in-Assign.ensures.given scope (same_scope c.args.names.now c.in_ok-ty-in-Assign.ensures.kept h))

pub typed_whole-returns-in_err-fitting_int-in-While-clause-given : goal.typed_whole-returns-in_err-fitting_int-in-While-clause-given
typed_whole-returns-in_err-fitting_int-in-While-clause-given t c =
    λ scope h. ended _ _ _ c.from_residual-in_err-fitting_int-in-While.ensures
    (last_fails (ap (λ k. typing.typed (plain_kind k c.args.e.now.span) scope (noted_of c.args.state.now)) c.in-While.is ∙ ap
    (λ x. typing.typed (tree.While c.args.e.now.span (plain x) (plain c.in-While.body.value)) scope (noted_of c.args.state.now))
    (sym c.deref-in-While.ensures)) (two_fail_first _ _ _ _ (c.in_err-fitting_int-in-While.ensures.given scope h)))

pub typed_whole-returns-in_ok-fitting_int-in-While-clause-given : goal.typed_whole-returns-in_ok-fitting_int-in-While-clause-given
typed_whole-returns-in_ok-fitting_int-in-While-clause-given t c =
    λ scope h. carry c.idle-in-While.result _ _ (ap (λ k. typing.typed (plain_kind k c.args.e.now.span) scope (noted_of c.args.state.now)) c.in-While.is ∙ ap
    (λ x. typing.typed (tree.While c.args.e.now.span (plain x) (plain c.in-While.body.value)) scope (noted_of c.args.state.now))
    (sym c.deref-in-While.ensures) ∙ ap (λ x. typing.typed (tree.While c.args.e.now.span (plain c.deref-in-While.result.now) (plain x)) scope
    (noted_of c.args.state.now)) (sym c.deref-in-While-2.ensures) ∙ two_steps _ _ _ _ (c.in_ok-fitting_int-in-While.ensures.given scope h) refl)
    (c.idle-in-While.ensures.given _ (ap in_a_loop (same_scope c.args.names.now c.in_ok-fitting_int-in-While.ensures.kept h)))

pub typed_whole-returns-in_err-fitting_int-in-For-clause-given : goal.typed_whole-returns-in_err-fitting_int-in-For-clause-given
typed_whole-returns-in_err-fitting_int-in-For-clause-given t c =
    λ scope h. ended _ _ _ c.from_residual-in_err-fitting_int-in-For.ensures
    (last_fails (ap (λ k. typing.typed (plain_kind k c.args.e.now.span) scope (noted_of c.args.state.now)) c.in-For.is ∙ ap
    (λ x. typing.typed (tree.For c.args.e.now.span c.in-For.x (plain x) (plain c.in-For.high.value) (plain c.in-For.body.value)) scope
    (noted_of c.args.state.now)) (sym c.deref-in-For.ensures)) (two_fail_first _ _ _ _ (c.in_err-fitting_int-in-For.ensures.given scope h)))

pub typed_whole-returns-in_err-fitting_int-in-For-2-clause-given : goal.typed_whole-returns-in_err-fitting_int-in-For-2-clause-given
typed_whole-returns-in_err-fitting_int-in-For-2-clause-given t c =
    λ scope h. ended _ _ _ c.from_residual-in_err-fitting_int-in-For-2.ensures
    (last_fails (ap (λ k. typing.typed (plain_kind k c.args.e.now.span) scope (noted_of c.args.state.now)) c.in-For.is ∙ ap
    (λ x. typing.typed (tree.For c.args.e.now.span c.in-For.x (plain x) (plain c.in-For.high.value) (plain c.in-For.body.value)) scope
    (noted_of c.args.state.now)) (sym c.deref-in-For.ensures) ∙ ap
    (λ x. typing.typed (tree.For c.args.e.now.span c.in-For.x (plain c.deref-in-For.result.now) (plain x) (plain c.in-For.body.value)) scope
    (noted_of c.args.state.now)) (sym c.deref-in-For-2.ensures))
    (two_fail_then _ _ _ _ (c.in_ok-fitting_int-in-For.ensures.given scope h)
    (two_fail_first _ _ _ _ (c.in_err-fitting_int-in-For-2.ensures.given scope (same_scope c.args.names.now c.in_ok-fitting_int-in-For.ensures.kept h)))))

pub typed_whole-returns-in_ok-fitting_int-in-For-2-clause-given : goal.typed_whole-returns-in_ok-fitting_int-in-For-2-clause-given
typed_whole-returns-in_ok-fitting_int-in-For-2-clause-given t c =
    λ scope h. carry c.counted.result _ _ (ap (λ k. typing.typed (plain_kind k c.args.e.now.span) scope (noted_of c.args.state.now)) c.in-For.is ∙ ap
    (λ x. typing.typed (tree.For c.args.e.now.span c.in-For.x (plain x) (plain c.in-For.high.value) (plain c.in-For.body.value)) scope
    (noted_of c.args.state.now)) (sym c.deref-in-For.ensures) ∙ ap
    (λ x. typing.typed (tree.For c.args.e.now.span c.in-For.x (plain c.deref-in-For.result.now) (plain x) (plain c.in-For.body.value)) scope
    (noted_of c.args.state.now)) (sym c.deref-in-For-2.ensures) ∙ ap
    (λ x. typing.typed (tree.For c.args.e.now.span c.in-For.x (plain c.deref-in-For.result.now) (plain c.deref-in-For-2.result.now) (plain x)) scope
    (noted_of c.args.state.now)) (sym c.deref-in-For-3.ensures) ∙ two_steps _ _ _ _ (c.in_ok-fitting_int-in-For.ensures.given scope h)
    (two_steps _ _ _ _ (c.in_ok-fitting_int-in-For-2.ensures.given scope (same_scope c.args.names.now c.in_ok-fitting_int-in-For.ensures.kept h)) refl))
    (c.counted.ensures.given scope (same_scope c.args.names.now c.in_ok-fitting_int-in-For-2.ensures.kept
    (same_scope c.args.names.now c.in_ok-fitting_int-in-For.ensures.kept h)))

pub typed_whole-returns-in_err-declared-in-Let-clause-given : goal.typed_whole-returns-in_err-declared-in-Let-clause-given
typed_whole-returns-in_err-declared-in-Let-clause-given t c =
    λ scope h. ended _ _ _ c.from_residual-in_err-declared-in-Let.ensures
    (last_fails (ap (λ k. typing.typed (plain_kind k c.args.e.now.span) scope (noted_of c.args.state.now)) c.in-Let.is ∙ ap
    (λ e. typing.typed e scope (noted_of c.args.state.now)) (plain_kind-Let c.in-Let.decs c.in-Let.body c.args.e.now.span))
    (fails_first _ _ (c.in_err-declared-in-Let.ensures.given scope h)))

pub typed_whole-returns-in_err-ty-in-Let-clause-given : goal.typed_whole-returns-in_err-ty-in-Let-clause-given
typed_whole-returns-in_err-ty-in-Let-clause-given t c =
    λ scope h. ended _ _ _ c.from_residual-in_err-ty-in-Let.ensures
    (last_fails (ap (λ k. typing.typed (plain_kind k c.args.e.now.span) scope (noted_of c.args.state.now)) c.in-Let.is ∙ ap
    (λ e. typing.typed e scope (noted_of c.args.state.now)) (plain_kind-Let c.in-Let.decs c.in-Let.body c.args.e.now.span))
    (fails_then _ _ (c.in_ok-declared-in-Let.ensures.given scope h) (c.in_err-ty-in-Let.ensures.given _ refl)))

pub typed_whole-returns-in_ok-ty-in-Let-clause-given : goal.typed_whole-returns-in_ok-ty-in-Let-clause-given
typed_whole-returns-in_ok-ty-in-Let-clause-given t c =
    λ scope h. ap (λ k. typing.typed (plain_kind k c.args.e.now.span) scope (noted_of c.args.state.now)) c.in-Let.is ∙ ap
    (λ e. typing.typed e scope (noted_of c.args.state.now)) (plain_kind-Let c.in-Let.decs c.in-Let.body c.args.e.now.span) ∙ step _ _
    (c.in_ok-declared-in-Let.ensures.given scope h) (c.in_ok-ty-in-Let.ensures.given _ refl)

pub typed_whole-returns-in_ok-ty-in-Let-clause-kept : goal.typed_whole-returns-in_ok-ty-in-Let-clause-kept
typed_whole-returns-in_ok-ty-in-Let-clause-kept t c =
    record {
      bindings = cut_back _ c.cut_to.ensures (c.in_ok-ty-in-Let.ensures.kept.bindings ∙ c.in_ok-declared-in-Let.ensures.opens.bindings) c.len-bindings.ensures;
      types = cut_back _ c.cut_to-in-Let.ensures (c.in_ok-ty-in-Let.ensures.kept.types ∙ c.in_ok-declared-in-Let.ensures.opens.types) c.len-types.ensures;
    }

pub typed_last-exp_named-requires : goal.typed_last-exp_named-requires
typed_last-exp_named-requires t c =
    record { all = c.requires; among = among c.loop-e.e-index c.loop-e-test.true c.e-item.is c.deref-e-items.ensures.value }

pub typed_all-exp_named-requires : goal.typed_all-exp_named-requires
typed_all-exp_named-requires t c =
    record { all = c.requires.names; among = among c.loop-e.e-index c.loop-e-test.true c.e-item.is c.deref-e-items.ensures.value }

pub typed_fields-init_named-requires : goal.typed_fields-init_named-requires
typed_fields-init_named-requires t c =
    record { all = c.requires.names; among = among c.loop-init.init-index c.loop-init-test.true c.init-item.is c.deref-init-items.ensures.value }

pub declared-dec_named-requires : goal.declared-dec_named-requires
declared-dec_named-requires t c =
    record { all = c.requires; among = among c.loop-dec.dec-index c.loop-dec-test.true c.dec-item.is c.deref-dec-items.ensures.value }

pub bodies-function_named-requires : goal.bodies-function_named-requires
bodies-function_named-requires t c =
    record {
      all = c.requires.names;
      among = among c.loop-function.function-index c.loop-function-test.true c.function-item.is c.deref-function-items.ensures.value;
    }

pub typed_whole-let_named-requires : goal.typed_whole-let_named-requires
typed_whole-let_named-requires t c = record { all = c.requires; parts = c.in-Let.is }

pub typed_whole-returns-in_err-fitting_int-in-If-clause-given : goal.typed_whole-returns-in_err-fitting_int-in-If-clause-given
typed_whole-returns-in_err-fitting_int-in-If-clause-given t c =
    λ scope h. ended _ _ _ c.from_residual-in_err-fitting_int-in-If.ensures
    (last_fails (ap (λ x. typing.typed x scope (noted_of c.args.state.now)) c.choice_named.ensures.whole ∙ ap
    (λ x. typing.typed (choice c.args.e.now.span (plain x) (plain (box_value c.in-If.this)) (option_map (λ b. plain (box_value b)) c.in-If.other)) scope
    (noted_of c.args.state.now)) (sym c.deref-in-If.ensures)) (choice_fails c.args.e.now.span _ _ _ _ _ (c.in_err-fitting_int-in-If.ensures.given scope h)))

pub typed_whole-returns-in_err-ty-in-Some-clause-given : goal.typed_whole-returns-in_err-ty-in-Some-clause-given
typed_whole-returns-in_err-ty-in-Some-clause-given t c =
    λ scope h. ended _ _ _ c.from_residual-in_err-ty-in-Some.ensures
    (last_fails (ap (λ x. typing.typed x scope (noted_of c.args.state.now)) c.choice_named.ensures.whole ∙ ap
    (λ x. typing.typed (choice c.args.e.now.span (plain x) (plain (box_value c.in-If.this)) (option_map (λ b. plain (box_value b)) c.in-If.other)) scope
    (noted_of c.args.state.now)) (sym c.deref-in-If.ensures) ∙ ap
    (λ x. typing.typed (choice c.args.e.now.span (plain c.deref-in-If.result.now) (plain x) (option_map (λ b. plain (box_value b)) c.in-If.other)) scope
    (noted_of c.args.state.now)) (sym c.deref-in-Some.ensures))
    (choice_first_fails c.args.e.now.span _ _ _ _ scope _ (ap (option_map (λ b. plain (box_value b))) c.in-Some.is)
    (c.in_ok-fitting_int-in-If.ensures.given scope h) (c.in_err-ty-in-Some.ensures.given scope
    (same_scope c.args.names.now c.in_ok-fitting_int-in-If.ensures.kept h))))

pub typed_whole-returns-in_ok-ty-in-Some-clause-given : goal.typed_whole-returns-in_ok-ty-in-Some-clause-given
typed_whole-returns-in_ok-ty-in-Some-clause-given t c =
    λ scope h. carry c.joined.result _ _ (ap (λ x. typing.typed x scope (noted_of c.args.state.now)) c.choice_named.ensures.whole ∙ ap
    (λ x. typing.typed (choice c.args.e.now.span (plain x) (plain (box_value c.in-If.this)) (option_map (λ b. plain (box_value b)) c.in-If.other)) scope
    (noted_of c.args.state.now)) (sym c.deref-in-If.ensures) ∙ ap
    (λ x. typing.typed (choice c.args.e.now.span (plain c.deref-in-If.result.now) (plain x) (option_map (λ b. plain (box_value b)) c.in-If.other)) scope
    (noted_of c.args.state.now)) (sym c.deref-in-Some.ensures) ∙ choice_both c.args.e.now.span _ _ _ _ scope _
    (ap (option_map (λ b. plain (box_value b))) c.in-Some.is) (c.in_ok-fitting_int-in-If.ensures.given scope h)
    (c.in_ok-ty-in-Some.ensures.given scope (same_scope c.args.names.now c.in_ok-fitting_int-in-If.ensures.kept h)) ∙ ap
    (λ e. second_way c.in_ok-ty-in-Some.ty (plain e) scope (noted_of c.typed.new.state)) (sym c.deref-in-Some-2.ensures))
    (c.joined.ensures.given scope (same_scope c.args.names.now (keeps_both c.in_ok-fitting_int-in-If.ensures.kept c.in_ok-ty-in-Some.ensures.kept) h))

pub typed_whole-returns-in-None-clause-given : goal.typed_whole-returns-in-None-clause-given
typed_whole-returns-in-None-clause-given t c =
    λ scope h. carry c.idle.result _ _ (ap (λ x. typing.typed x scope (noted_of c.args.state.now)) c.choice_named.ensures.whole ∙ ap
    (λ x. typing.typed (choice c.args.e.now.span (plain x) (plain (box_value c.in-If.this)) (option_map (λ b. plain (box_value b)) c.in-If.other)) scope
    (noted_of c.args.state.now)) (sym c.deref-in-If.ensures) ∙ ap
    (λ x. typing.typed (choice c.args.e.now.span (plain c.deref-in-If.result.now) (plain x) (option_map (λ b. plain (box_value b)) c.in-If.other)) scope
    (noted_of c.args.state.now)) (sym c.deref-in-None.ensures) ∙ choice_one c.args.e.now.span _ _ _ scope _
    (ap (option_map (λ b. plain (box_value b))) c.in-None.is) (c.in_ok-fitting_int-in-If.ensures.given scope h))
    (c.idle.ensures.given scope (same_scope c.args.names.now c.in_ok-fitting_int-in-If.ensures.kept h))

pub typed-returns-in_err-left-in-Binary-clause-given : goal.typed-returns-in_err-left-in-Binary-clause-given
typed-returns-in_err-left-in-Binary-clause-given t c =
    λ scope h. ended _ _ _ c.from_residual.ensures (last_fails
    (ap (λ k. typing.typed (plain_kind k c.args.e.now.span) scope (noted_of c.args.state.now)) c.in-Binary.is ∙ ap
    (λ x. typing.typed (tree.Binary c.args.e.now.span c.in-Binary.op c.in-Binary.at (plain x) (plain c.in-Binary.b.value)) scope (noted_of c.args.state.now))
    (sym c.deref.ensures)) (two_fail_first _ _ _ _ (c.in_err-left-in-Binary.ensures.given scope h)))

pub typed-returns-in_ok-left-in-Binary-clause-given : goal.typed-returns-in_ok-left-in-Binary-clause-given
typed-returns-in_ok-left-in-Binary-clause-given t c =
    λ scope h. carry c.right_operand.result _ _ (ap (λ k. typing.typed (plain_kind k c.args.e.now.span) scope (noted_of c.args.state.now)) c.in-Binary.is ∙ ap
    (λ x. typing.typed (tree.Binary c.args.e.now.span c.in-Binary.op c.in-Binary.at (plain x) (plain c.in-Binary.b.value)) scope (noted_of c.args.state.now))
    (sym c.deref.ensures) ∙ ap (λ x. typing.typed
    (tree.Binary c.args.e.now.span c.in-Binary.op c.in-Binary.at (plain c.deref.result.now) (plain x)) scope (noted_of c.args.state.now))
    (sym c.deref-in-Binary.ensures) ∙ two_steps _ _ _ _ (c.in_ok-left-in-Binary.ensures.given scope h) refl)
    (c.right_operand.ensures.given scope (same_scope c.args.names.now c.in_ok-left-in-Binary.ensures.kept h))

pub typed_place-returns-in-Field-clause-given : goal.typed_place-returns-in-Field-clause-given
typed_place-returns-in-Field-clause-given t c =
    λ scope h. carry c.type_field.result _ _ (ap (λ v. typing.typed_place (plain_lvalue v) scope (noted_of c.args.state.now)) c.in-Field.is ∙ ap
    (λ v. typing.typed_place (tree.Field (plain_lvalue v) c.in-Field.field) scope (noted_of c.args.state.now)) (sym c.deref.ensures)) (c.type_field.ensures.given scope h)

pub type_field-returns-in_err-ty-clause-given : goal.type_field-returns-in_err-ty-clause-given
type_field-returns-in_err-ty-clause-given t c =
    λ scope h. ended _ _ _ c.from_residual.ensures (fails_first _ _ (c.in_err-ty.ensures.given scope h))

pub type_field-returns-clause-given : goal.type_field-returns-clause-given
type_field-returns-clause-given t c =
    λ scope h. carry c.selected.result _ _ (step _ _ (c.in_ok-ty.ensures.given scope h)
    (ap (λ at. selected_of c.in_ok-ty.ty at c.args.field (noted_of c.typed_place.new.state)) (sym c.start_of.ensures))) c.selected.ensures.given
