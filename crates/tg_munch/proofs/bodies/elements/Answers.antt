use Rattle.std.proofs.Common.{None, arith}
use Rattle.std.specs.Prelude.{option_map}
use Rattle.tg_tree.specs.glue.Plain.{plain_linear}
use Rattle.tg_munch.proofs.Walking.{leads_on, leads_end, element_each}
use Rattle.tg_munch.proofs.bodies.elements.Goals as goal

pub loop-one-preserved : goal.loop-one-preserved
loop-one-preserved c =
    let before = option_map (λ e. plain_linear e.now) c.loop-one.before in
    leads_on (element_each c.args.slots c.args.keeps) c.args.code.now None before c.loop-one.one-index c.loop-one-test.true c.one-item.is
    c.loop-one.invariant c.in_ok-element.ensures

pub returns : goal.returns
returns c =
    let before = option_map (λ e. plain_linear e.now) c.loop-one.before in
    let i = c.loop-one.one-index in
    leads_end (element_each c.args.slots c.args.keeps) c.args.code.now None before i
    (omega (arith, c.loop-one.auto.one-index-end, c.loop-one-test.false)) c.loop-one.invariant
