use Rattle.std.proofs.Common.{◌≡◌, ◌<◌, length, slice_set, arith}
use Rattle.std.proofs.lemmas.List.{length-set}
use Rattle.tg_profiler.proofs.Seeing.{refused_same, begun_same}
use Rattle.tg_profiler.proofs.Vectors.{whole}
use Rattle.tg_profiler.proofs.running.begin_all.Goals as goal

pub returns-in_err-begin_one-clause-same : goal.returns-in_err-begin_one-clause-same
returns-in_err-begin_one-clause-same g c =
    let lt : c.loop-watcher.watcher-index < length c.loop-watcher.watcher-items =
    omega (arith, c.loop-watcher.auto.watcher-items, c.loop-watcher-test.true) in
    let size = length-set c.loop-watcher.watcher-items c.loop-watcher.watcher-index c.begin_one.new.watcher in
    let all : c.args.watchers.now.len ≡ length (slice_set c.loop-watcher.watcher-items c.loop-watcher.watcher-index c.begin_one.new.watcher) =
    omega (arith, size, c.loop-watcher.auto.watcher-items, c.deref_mut-watcher-items.ensures.len) in
    refused_same _ _ _ _ _ _ _ _ _ c.loop-watcher.invariant lt c.begin_one.ensures.same (whole _ _ _ all)

pub returns-clause-same : goal.returns-clause-same
returns-clause-same g c =
    let all : c.args.watchers.now.len ≡ length c.loop-watcher.watcher-items =
    omega (arith, c.loop-watcher.auto.watcher-items, c.deref_mut-watcher-items.ensures.len) in
    begun_same _ _ _ _ _ _ _ c.loop-watcher.invariant (whole _ _ _ all)
