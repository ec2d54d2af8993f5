use Rattle.std.proofs.Common.{◌+◌, sym, ap, ◌∙◌, map, arith}
use Rattle.tg_syntax.specs.glue.Plain.{plain_type}
use Rattle.tg_typecheck.specs.Checks.{keep}
use Rattle.tg_typecheck.specs.declared.faults.TypeRule.TheVariants.{T19}
use Rattle.tg_typecheck.proofs.Steps.{ended, last_fails}
use Rattle.tg_typecheck.proofs.GroupSteps.{ends_one, ends_fail, ends_all, end_has}
use Rattle.tg_typecheck.proofs.groups.chains_end.Goals as goal

pub returns-in_err-kept : goal.returns-in_err-kept
returns-in_err-kept c = λ h n.
    let group = c.args.group.now in
    let is = end_has (map plain_type group) group c.args.ends.now c.loop-dec.dec-index c.loop-dec.at c.dec-item.result _ _ h c.requires.as_many
    c.requires.within c.loop-dec-test.true c.dec-item.is c.loop-dec.invariant.at_index c.has_end.ensures in
    ended _ _ _ c.from_residual.ensures (ends_fail group c.dec-item.result (c.loop-dec.invariant.onward h) c.loop-dec-test.true c.dec-item.is
    (λ m. last_fails (ap (λ b. keep T19 c.dec-item.result.name.span.from b m) (sym is)) (c.in_err-kept.ensures m)) n)

pub loop-dec-preserved : goal.loop-dec-preserved
loop-dec-preserved c = record {
  at_index = ap (λ k. k + 1) c.loop-dec.invariant.at_index;
  onward = λ h.
      let group = c.args.group.now in
      let is = end_has (map plain_type group) group c.args.ends.now c.loop-dec.dec-index c.loop-dec.at c.dec-item.result _ _ h c.requires.as_many
      c.requires.within c.loop-dec-test.true c.dec-item.is c.loop-dec.invariant.at_index c.has_end.ensures in
      ends_one group c.dec-item.result (c.loop-dec.invariant.onward h) c.loop-dec-test.true c.dec-item.is
      (λ m. ap (λ b. keep T19 c.dec-item.result.name.span.from b m) (sym is) ∙ c.in_ok-kept.ensures m);
}

pub returns : goal.returns
returns c = λ h n. ends_all c.args.group.now (c.loop-dec.invariant.onward h) (omega (arith, c.loop-dec.auto.dec-index-end, c.loop-dec-test.false)) n
