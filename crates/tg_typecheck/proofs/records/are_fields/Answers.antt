use Rattle.std.specs.Prelude.{◌==◌}
use Rattle.std.proofs.Common.{◌≡◌, ℕ, ◌+◌, false, refl, sym, ap, ◌∙◌, arith, length, get_or, eq-eqb}
use Rattle.tg_syntax.specs.glue.Lists.{inits_of}
use Rattle.tg_syntax.proofs.ListLaws.{plain_inits-items}
use Rattle.tg_typecheck.specs.Typing as typing
use Rattle.tg_typecheck.proofs.TreeSteps.{init_count_is}
use Rattle.tg_typecheck.proofs.FieldSteps.{lengths_differ, left_none, left_one, left_differs, left_all}
use Rattle.tg_typecheck.proofs.records.are_fields.Goals as goal

differs : (a b : ℕ) → (a ≡ b → ⊥) → (a == b) ≡ false
differs a b d = grind arith

pub returns-then-as_slice-fields : goal.returns-then-as_slice-fields
returns-then-as_slice-fields c = record {
  value =
      lengths_differ _ c.args.fields.now (λ e. c.if-as_slice-fields.true (ap length c.as_slice.ensures.value ∙ (sym (init_count_is c.args.inits.now) ∙ e)));
}

pub loop-init-init : goal.loop-init-init
loop-init-init c = record {
  at_index = refl;
  left = left_none _ _ (ap length c.deref-init-items.ensures.value ∙ (sym (ap length c.as_slice.ensures.value) ∙ c.if-as_slice-fields.false));
}

pub returns-then-init-name : goal.returns-then-init-name
returns-then-init-name c = record {
  value =
      left_differs c.deref-init-items.result.now c.args.fields.now c.loop-init.init-index c.init-item.result c.index-fields-at.result
      c.loop-init.invariant.left c.loop-init-test.true c.init-item.is
      (c.index-fields-at.is ∙ ap (λ k. get_or c.args.fields.now k c.index-fields-at.result) c.loop-init.invariant.at_index)
      (differs _ _ (λ e. c.if-init-name.true (e ∙ ap (λ p. p.0) c.index-fields-at.is))) ∙ sym
      (ap (λ x. typing.are_fields x c.args.fields.now) (plain_inits-items c.args.inits.now ∙ ap inits_of (sym c.deref-init-items.ensures.value)));
}

pub loop-init-preserved : goal.loop-init-preserved
loop-init-preserved c = record {
  at_index = ap (λ k. k + 1) c.loop-init.invariant.at_index;
  left =
      left_one c.deref-init-items.result.now c.args.fields.now c.loop-init.init-index c.init-item.result c.index-fields-at.result c.loop-init.invariant.left
      c.loop-init-test.true c.init-item.is (c.index-fields-at.is ∙ ap
      (λ k. get_or c.args.fields.now k c.index-fields-at.result) c.loop-init.invariant.at_index)
      (eq-eqb _ _ (c.if-init-name.false ∙ ap (λ p. p.0) (sym c.index-fields-at.is)));
}

pub returns : goal.returns
returns c = record {
  value =
      left_all c.deref-init-items.result.now c.args.fields.now c.loop-init.init-index c.loop-init.invariant.left
      (omega (arith, c.loop-init.auto.init-index-end, c.loop-init-test.false)) ∙ sym
      (ap (λ x. typing.are_fields x c.args.fields.now) (plain_inits-items c.args.inits.now ∙ ap inits_of (sym c.deref-init-items.ensures.value)));
}
