use Rattle.std.proofs.Common.{◌∙◌, length, sym, ap, arith}
use Rattle.tg_graph.proofs.Vectors.{lists_sized}
use Rattle.tg_coalescing_round.specs.glue.Lists.{pushed}
use Rattle.tg_coalescing_round.specs.glue.Tables.{move_at, ends_listed}
use Rattle.tg_coalescing_round.proofs.Listing.{length_pushed}
use Rattle.tg_coalescing_round.proofs.Tabling.{end_of, length_listed, listed_more}
use Rattle.tg_coalescing_round.proofs.Vectors.{items_of}
use Rattle.tg_coalescing_round.proofs.tables.list_ends.Goals as goal

pub push_to-requires : goal.push_to-requires
push_to-requires c =
    let k = c.loop-index in
    let size = lists_sized items_of k.touching.items _ (ap length k.invariant) in
    let ends = end_of c.args.moves.now c.args.nodes k.index c.loop-index-test.true c.requires.ends in
    omega (arith, size, length_listed c.args.moves.now c.args.nodes k.index, ends.0)

pub push_to-requires-in-loop-index : goal.push_to-requires-in-loop-index
push_to-requires-in-loop-index c =
    let k = c.loop-index in
    let to = (move_at c.args.moves.now k.index).to in
    let same = c.in_ok-push_to.ensures.ok ∙ ap (pushed to k.index) k.invariant in
    let size = lists_sized items_of c.push_to.new.lists.items _ (ap length same) in
    let ends = end_of c.args.moves.now c.args.nodes k.index c.loop-index-test.true c.requires.ends in
    let more = length_pushed to k.index (ends_listed c.args.moves.now c.args.nodes k.index) in
    omega (arith, size, more, length_listed c.args.moves.now c.args.nodes k.index, ends.1)

pub loop-index-preserved : goal.loop-index-preserved
loop-index-preserved c =
    let k = c.loop-index in
    let one = move_at c.args.moves.now k.index in
    c.in_ok-push_to-2.ensures.ok
    ∙ (ap (pushed one.from k.index) (c.in_ok-push_to.ensures.ok ∙ ap (pushed one.to k.index) k.invariant)
    ∙ sym (listed_more c.args.moves.now c.args.nodes k.index))
