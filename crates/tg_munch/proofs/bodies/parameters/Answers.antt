use Rattle.std.proofs.Common.{◌+◌, drop, arith, refl, sym, subst}
use Rattle.std.proofs.lemmas.List.{get_or_default, take_rest}
use Rattle.tg_munch.specs.glue.Drafts.{Writes}
use Rattle.tg_munch.specs.mirror.Bodies.{parameters, by_frame_address}
use Rattle.tg_munch.proofs.Walking.{leads_by, leads_over, low_first, rest_by_address}
use Rattle.tg_munch.proofs.bodies.parameters.Goals as goal

pub returns-then-i-ge4 : goal.returns-then-i-ge4
returns-then-i-ge4 c =
    let homes = c.args.homes.now in
    let i = c.loop-i.i in
    let last = c.by_frame_address.new.draft in
    c.loop-i.invariant last
    (subst (λ q. Writes q c.loop-i.draft last tt) (sym (rest_by_address homes i c.loop-i-test.true c.if-i-ge4.true))
    (subst (λ hs. Writes (by_frame_address i hs) c.loop-i.draft last tt) (take_rest homes i) c.in_ok-by_frame_address.ensures))

pub loop-i-preserved : goal.loop-i-preserved
loop-i-preserved c =
    let homes = c.args.homes.now in
    let i = c.loop-i.i in
    leads_by parameters _ homes 0 i (i + 1) i (low_first i _ (drop (i + 1) homes) c.if-i-ge4.false) c.loop-i-test.true
    (get_or_default _ _ _ _ c.loop-i-test.true) c.loop-i.invariant c.in_ok-from_register.ensures

pub returns : goal.returns
returns c =
    let i = c.loop-i.i in
    leads_over parameters c.args.homes.now 0 i i refl (omega (arith, c.loop-i.auto.i-end, c.loop-i-test.false)) c.loop-i.invariant
