use Rattle.std.proofs.Common.{arith, ◌∙◌}
use Rattle.std.proofs.lemmas.List.{get_or_default}
use Rattle.tg_munch.proofs.Walking.{leads_on, leads_end, kept_each}
use Rattle.tg_munch.proofs.bodies.keep.Goals as goal

pub loop-register-preserved : goal.loop-register-preserved
loop-register-preserved c =
    let xs = c.args.registers.now in
    let i = c.loop-register.register-index in
    leads_on kept_each xs 0 i i c.loop-register-test.true
    (c.new.ensures ∙ get_or_default xs i 0 c.new.result c.loop-register-test.true)
    c.loop-register.invariant c.in_ok-keep_register.ensures

pub returns : goal.returns
returns c =
    let i = c.loop-register.register-index in
    leads_end kept_each c.args.registers.now 0 i i
    (omega (arith, c.loop-register.auto.register-index-end, c.loop-register-test.false)) c.loop-register.invariant
