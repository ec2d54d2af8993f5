use Rattle.std.proofs.Common.{arith, ap, sym, ◌∙◌}
use Rattle.tg_syntax.specs.glue.Lists.{exps_of, inits_of}
use Rattle.tg_syntax.proofs.ListLaws.{plain_exps-items, plain_inits-items}
use Rattle.tg_translate.specs.mirror.Purity.{all_assign_nothing, inits_assign_nothing}
use Rattle.tg_translate.proofs.Purities.{exps_end, inits_end}
use Rattle.tg_translate.proofs.purity.+purity.Goals as goal

pub all_assign_nothing-returns : goal.all_assign_nothing-returns
all_assign_nothing-returns t c =
    exps_end c.deref-e-items.result.now c.loop-e.e-index c.loop-e.all (all_assign_nothing (exps_of c.deref-e-items.result.now)) c.loop-e.invariant
    (omega (arith, c.loop-e.auto.e-index-end, c.loop-e-test.false))
    ∙ sym (ap all_assign_nothing (plain_exps-items c.args.exps.now ∙ ap exps_of (sym c.deref-e-items.ensures.value)))

pub inits_assign_nothing-returns : goal.inits_assign_nothing-returns
inits_assign_nothing-returns t c =
    inits_end c.deref-init-items.result.now c.loop-init.init-index c.loop-init.all (inits_assign_nothing (inits_of c.deref-init-items.result.now))
    c.loop-init.invariant (omega (arith, c.loop-init.auto.init-index-end, c.loop-init-test.false))
    ∙ sym (ap inits_assign_nothing (plain_inits-items c.args.inits.now ∙ ap inits_of (sym c.deref-init-items.ensures.value)))
