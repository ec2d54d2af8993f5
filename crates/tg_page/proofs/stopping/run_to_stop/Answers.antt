use Rattle.std.proofs.Common.{arith, sym, ◌∙◌, ◌≡◌, ◌<◌, ◌^◌, get_or, refl}
use Rattle.tg_page.proofs.StopLemmas.{begun, went_on, came_to_end, came_to_stop}
use Rattle.tg_page.specs.Stops.{all_made}
use Rattle.tg_page.proofs.stopping.run_to_stop.Goals as goal

pub loop-made-init : goal.loop-made-init
loop-made-init g c =
    begun _ _ _ _ _ _ _ _ _ c.args.counts.now c.requires.begun c.requires.fresh
    (λ k lt. let small : get_or c.args.counts.now k 0 < 2 ^ 32 = omega (arith, c.type_inv.counts k) in small)

pub loop-made-preserved : goal.loop-made-preserved
loop-made-preserved g c =
    went_on _ _ _ _ _ _ _ _ _ _ _ _ _ _ _ _ _ _ _ _ c.loop-made.invariant _ c.fetch-next.ensures
    (sym c.stops_here.ensures ∙ c.if-stops_here.false) c.count.ensures c.step.ensures.step c.in_default.is

pub returns-in-Ended : goal.returns-in-Ended
returns-in-Ended g c =
    came_to_end _ _ _ _ _ _ _ _ _ _ _ _ _ _ _ _ _ _ _ _ _ _ c.loop-made-test.true c.loop-made.invariant _ c.fetch-next.ensures
    (sym c.stops_here.ensures ∙ c.if-stops_here.false) c.count.ensures c.step.ensures.apart c.step.ensures.step c.in-Ended.is

pub returns : goal.returns
returns g c =
    let over : c.args.stops.steps ≡ c.loop-made.made = omega (arith, c.loop-made-test.false, c.loop-made.auto.made-end) in
    rw over (came_to_stop _ _ _ _ _ _ _ _ _ _ _ _ _ _ _ _ c.loop-made.invariant (all_made refl))
