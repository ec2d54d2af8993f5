use Rattle.std.proofs.Common.{◌≡◌, ◌<◌, ◌≤◌, length, arith}
use Rattle.tg_profiler.proofs.Seeing.{first_none, may_see, first_more, first_all}
use Rattle.tg_profiler.proofs.Vectors.{whole}
use Rattle.tg_profiler.proofs.running.see_all.Goals as goal

pub loop-watcher-init : goal.loop-watcher-init
loop-watcher-init g c = first_none _ _ _ _ _ c.deref_mut-watcher-items.ensures.value

pub see_one-requires : goal.see_one-requires
see_one-requires g c =
    let lt : c.loop-watcher.watcher-index < length c.loop-watcher.watcher-items =
    omega (arith, c.loop-watcher.auto.watcher-items, c.loop-watcher-test.true) in
    may_see _ _ _ _ _ _ _ c.loop-watcher.invariant c.requires lt

pub loop-watcher-preserved : goal.loop-watcher-preserved
loop-watcher-preserved g c =
    let lt : c.loop-watcher.watcher-index < length c.loop-watcher.watcher-items =
    omega (arith, c.loop-watcher.auto.watcher-items, c.loop-watcher-test.true) in
    first_more _ _ _ _ _ _ _ _ c.loop-watcher.invariant lt c.see_one.ensures.seen c.see_one.ensures.same

pub returns : goal.returns
returns g c =
    let le : length c.loop-watcher.watcher-items ≤ c.loop-watcher.watcher-index =
    omega (arith, c.loop-watcher.auto.watcher-items, c.loop-watcher-test.false) in
    let size : c.args.watchers.now.len ≡ length c.loop-watcher.watcher-items =
    omega (arith, c.loop-watcher.auto.watcher-items, c.deref_mut-watcher-items.ensures.len) in
    first_all _ _ _ _ _ _ _ c.loop-watcher.invariant le (whole _ _ _ size)
