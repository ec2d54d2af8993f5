use Rattle.std.proofs.Common.{arith, ◌∙◌}
use Rattle.std.proofs.lemmas.List.{get_or_default}
use Rattle.tg_munch.proofs.Walking.{leads_on, leads_end, given_each}
use Rattle.tg_munch.proofs.bodies.give_back.Goals as goal

pub loop-register-preserved : goal.loop-register-preserved
loop-register-preserved c =
    let xs = c.args.registers.now in
    let i = c.loop-register.register-index in
    record {
      from = omega (arith, c.loop-register.invariant.from);
      leads =
          leads_on given_each xs c.args.keeps c.loop-register.from i c.loop-register-test.true
          (c.new.ensures ∙ get_or_default xs i 0 c.new.result c.loop-register-test.true)
          c.loop-register.invariant.leads c.in_ok-put.ensures;
    }

pub returns : goal.returns
returns c =
    let i = c.loop-register.register-index in
    leads_end given_each c.args.registers.now c.args.keeps c.loop-register.from i
    (omega (arith, c.loop-register.auto.register-index-end, c.loop-register-test.false)) c.loop-register.invariant.leads
