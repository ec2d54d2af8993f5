use Rattle.std.proofs.Common.{arith}
use Rattle.tg_coalescing_round.proofs.Tabling.{counts_sized, first_counted, second_counted, counted_ends, end_of}
use Rattle.tg_coalescing_round.proofs.tables.count_ends.Goals as goal

pub index_mut-requires : goal.index_mut-requires
index_mut-requires c =
    let k = c.loop-one in
    let size = counts_sized c.args.moves.now c.args.nodes k.counts.items k.one-index k.invariant in
    let ends = end_of c.args.moves.now c.args.nodes k.one-index c.loop-one-test.true c.requires.ends in
    omega (arith, size, ends.0, k.counts.ok.0)

pub overflow_add-index_mut : goal.overflow_add-index_mut
overflow_add-index_mut c =
    let k = c.loop-one in
    let size = counts_sized c.args.moves.now c.args.nodes k.counts.items k.one-index k.invariant in
    let ends = end_of c.args.moves.now c.args.nodes k.one-index c.loop-one-test.true c.requires.ends in
    let first = first_counted c.args.moves.now c.args.nodes k.counts.items k.one-index k.invariant
    c.index_mut.result.now (omega (arith, size, ends.0)) c.index_mut.ensures.value in
    omega (arith, first, c.requires.few)

pub index_mut-requires-in-loop-one : goal.index_mut-requires-in-loop-one
index_mut-requires-in-loop-one c =
    let k = c.loop-one in
    let size = counts_sized c.args.moves.now c.args.nodes k.counts.items k.one-index k.invariant in
    let ends = end_of c.args.moves.now c.args.nodes k.one-index c.loop-one-test.true c.requires.ends in
    omega (arith, size, ends.1, k.counts.ok.0)

pub overflow_add-index_mut-in-loop-one : goal.overflow_add-index_mut-in-loop-one
overflow_add-index_mut-in-loop-one c =
    let k = c.loop-one in
    let size = counts_sized c.args.moves.now c.args.nodes k.counts.items k.one-index k.invariant in
    let ends = end_of c.args.moves.now c.args.nodes k.one-index c.loop-one-test.true c.requires.ends in
    let second = second_counted c.args.moves.now c.args.nodes k.counts.items k.one-index k.invariant
    c.index_mut.result.now c.index_mut-in-loop-one.result.now (omega (arith, size, ends.0))
    (omega (arith, size, ends.1)) c.index_mut.ensures.value c.index_mut-in-loop-one.ensures.value in
    omega (arith, second, c.requires.few)

pub loop-one-preserved : goal.loop-one-preserved
loop-one-preserved c =
    let k = c.loop-one in
    let size = counts_sized c.args.moves.now c.args.nodes k.counts.items k.one-index k.invariant in
    let ends = end_of c.args.moves.now c.args.nodes k.one-index c.loop-one-test.true c.requires.ends in
    counted_ends c.args.moves.now c.args.nodes k.counts.items k.one-index k.invariant c.index_mut.result.now
    c.index_mut-in-loop-one.result.now (omega (arith, size, ends.0)) (omega (arith, size, ends.1))
    c.index_mut.ensures.value c.index_mut-in-loop-one.ensures.value
