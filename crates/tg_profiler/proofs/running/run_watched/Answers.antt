use Rattle.std.proofs.Common.{◌≡◌, ◌<◌, ◌^◌, arith}
use Rattle.tg_profiler.proofs.WatchedRuns.{may_all_see, out_run, went_on, all_run}
use Rattle.tg_profiler.proofs.running.run_watched.Goals as goal

pub show_next-requires : goal.show_next-requires
show_next-requires g c =
    let small : c.loop.counter < 2 ^ 62 = omega (arith, c.loop-test.true, c.requires.few) in
    may_all_see _ _ _ _ _ _ _ _ _ _ _ _ _ _ _ small c.requires.empty c.loop.invariant

pub returns-in-Ended-clause-run : goal.returns-in-Ended-clause-run
returns-in-Ended-clause-run g c =
    out_run _ _ _ _ _ _ _ _ _ _ _ _ _ _ _ _ _ _ _ _ _ _ c.loop-test.true c.requires.few c.requires.empty c.loop.invariant
    (record { apart = c.step.ensures.apart; step = c.step.ensures.step; again = c.step.ensures.again }) c.in-Ended.is c.show_next.ensures

pub loop-preserved : goal.loop-preserved
loop-preserved g c =
    let small : c.loop.counter < 2 ^ 62 = omega (arith, c.loop-test.true, c.requires.few) in
    went_on _ _ _ _ _ _ _ _ _ _ _ _ _ _ _ _ _ _ _ _ small c.requires.empty c.loop.invariant
    (record { apart = c.step.ensures.apart; step = c.step.ensures.step; again = c.step.ensures.again }) c.in_default.is c.show_next.ensures

pub returns-clause-run : goal.returns-clause-run
returns-clause-run g c =
    let over : c.args.steps ≡ c.loop.counter = omega (arith, c.loop-test.false, c.loop.auto.counter-end) in
    let some : 0 < c.loop.counter = omega (arith, over, c.requires.some) in
    rw over (all_run _ _ _ _ _ _ _ _ _ _ _ _ _ _ _ some c.loop.invariant)
