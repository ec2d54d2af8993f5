use Rattle.std.proofs.Common.{◌∙◌, ap, arith}
use Rattle.tg_syntax.specs.glue.Plain.{plain}
use Rattle.tg_explain_typing.specs.Synthesis.{exp_type}
use Rattle.tg_explain_typing.proofs.Lists.{last_one, last_step, last_end, last_of_items}
use Rattle.tg_explain_typing.proofs.synthesis.+synthesis.Goals as goal

pub last_type-returns-then-left-eq1 : goal.last_type-returns-then-left-eq1
last_type-returns-then-left-eq1 t c =
    let xs = c.deref-e-items.result.now in
    let i = c.loop-e.e-index in
    c.exp_type.ensures ∙ ap (λ e. exp_type c.args.text.now c.args.facts.now (plain e)) c.e-item.is
    ∙ last_one c.args.text.now c.args.facts.now xs i c.e-item.result
    (omega (arith, c.loop-e.invariant.count, c.if-left-eq1.true, c.loop-e-test.true, c.loop-e.auto.e-index-end))
    ∙ c.loop-e.invariant.last ∙ last_of_items c.args.text.now c.args.facts.now c.args.exps.now xs c.deref-e-items.ensures.value

pub last_type-loop-e-preserved : goal.last_type-loop-e-preserved
last_type-loop-e-preserved t c = record {
  count = omega (arith, c.loop-e.invariant.count, c.saturating_sub-left.ensures);
  last =
      last_step c.args.text.now c.args.facts.now c.deref-e-items.result.now c.loop-e.e-index
      (omega (arith, c.loop-e.invariant.count, c.if-left-eq1.false, c.loop-e-test.true, c.loop-e.auto.e-index-end))
      ∙ c.loop-e.invariant.last;
}

pub last_type-returns : goal.last_type-returns
last_type-returns t c =
    last_end c.args.text.now c.args.facts.now c.deref-e-items.result.now c.loop-e.e-index (omega (arith, c.loop-e.auto.e-index-end, c.loop-e-test.false))
    ∙ c.loop-e.invariant.last ∙ last_of_items c.args.text.now c.args.facts.now c.args.exps.now c.deref-e-items.result.now c.deref-e-items.ensures.value
