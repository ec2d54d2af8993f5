use Rattle.std.proofs.Common.{◌≡◌, ◌<◌, length, get_or, ap, ◌∙◌, arith}
use Rattle.tg_graph.specs.Interference.{neighbours}
use Rattle.tg_coalescing_round.specs.glue.Works.{Work, awake, relisted}
use Rattle.tg_coalescing_round.specs.mirror.Steps.{merged, passed_on}
use Rattle.tg_coalescing_round.proofs.Edges.{passed_nodes}
use Rattle.tg_coalescing_round.proofs.Folds.{fold_end, fold_next}
use Rattle.tg_coalescing_round.proofs.Uniting.{as_one, awake_as, counted_there, list_there, nodes_there, others_differ, room_there}
use Rattle.tg_coalescing_round.proofs.states.Coalescer.merge.Goals as goal
use Rattle.tg_coalescing_round.proofs.states.Coalescer.merge.Goals.{After-neighbours}

-- the neighbours that are read are those of the start
neighbours_read : (c : After-neighbours) → c.neighbours.result.now ≡ neighbours c.args.self.now.graph c.args.gone
neighbours_read c =
    list_there c.args.kept c.args.gone c.args.self.now c.loop-place.invariant.merges c.loop-place.place _
    (c.self-in-loop-place.view_is ∙ c.loop-place.invariant.so_far) c.neighbours.result.now c.neighbours.ensures.value

-- and the next of them is a node
other_below : (c : After-neighbours) →
    get_or c.neighbours.result.now c.loop-place.place 0 < c.self-in-loop-place.inside.graph.nodes
other_below c =
    c.neighbours.ensures.within c.loop-place.place 0
    (omega (arith, ap length (neighbours_read c), c.loop-place.invariant.size, c.loop-place-test.true))

pub neighbours-requires-clause-node : goal.neighbours-requires-clause-node
neighbours-requires-clause-node c =
    let same = nodes_there c.args.kept c.args.gone c.args.self.now c.loop-place.invariant.merges c.loop-place.place _
    (c.self-in-loop-place.view_is ∙ c.loop-place.invariant.so_far) in
    omega (arith, same, c.requires.gone)

pub bounds-neighbours-place : goal.bounds-neighbours-place
bounds-neighbours-place c =
    let here = neighbours_read (goal.at.bounds-neighbours-place c).After-neighbours in
    omega (arith, ap length here, c.loop-place.invariant.size, c.loop-place-test.true)

pub pass_edge-requires-clause-kept : goal.pass_edge-requires-clause-kept
pass_edge-requires-clause-kept c =
    let same = nodes_there c.args.kept c.args.gone c.args.self.now c.loop-place.invariant.merges c.loop-place.place c.loop-place.self
    c.loop-place.invariant.so_far in
    omega (arith, same, c.requires.kept)

pub pass_edge-requires-clause-other : goal.pass_edge-requires-clause-other
pass_edge-requires-clause-other c =
    let below = other_below (goal.at.pass_edge-requires-clause-other c).After-neighbours in
    omega (arith, below, ap (λ (v : Work). v.graph.nodes) c.self-in-loop-place.view_is)

pub pass_edge-requires-clause-differ : goal.pass_edge-requires-clause-differ
pass_edge-requires-clause-differ c =
    let here = neighbours_read (goal.at.pass_edge-requires-clause-differ c).After-neighbours in
    others_differ c.args.kept c.args.gone c.args.self.now c.loop-place.invariant.merges c.loop-place.place
    (get_or c.neighbours.result.now c.loop-place.place 0) (omega (arith, c.loop-place.invariant.size, c.loop-place-test.true))
    (ap (λ ys. get_or ys c.loop-place.place 0) here)

pub pass_edge-requires-clause-counted : goal.pass_edge-requires-clause-counted
pass_edge-requires-clause-counted c =
    let here = neighbours_read (goal.at.pass_edge-requires-clause-counted c).After-neighbours in
    counted_there c.args.kept c.args.gone c.args.self.now c.loop-place.invariant.merges c.loop-place.place c.loop-place.self
    c.loop-place.invariant.so_far (get_or c.neighbours.result.now c.loop-place.place 0)
    (omega (arith, c.loop-place.invariant.size, c.loop-place-test.true)) (ap (λ ys. get_or ys c.loop-place.place 0) here)

pub pass_edge-requires-clause-room : goal.pass_edge-requires-clause-room
pass_edge-requires-clause-room c =
    room_there c.args.kept c.args.gone c.args.self.now c.loop-place.invariant.merges c.loop-place.place c.loop-place.self
    c.loop-place.invariant.so_far (omega (arith, c.loop-place.invariant.size, c.loop-place-test.true))

pub wake-requires : goal.wake-requires
wake-requires c =
    let below = other_below (goal.at.wake-requires c).After-neighbours in
    let passed : c.self-in-loop-place-2.inside.graph.nodes ≡ c.loop-place.self.graph.nodes =
    ap (λ (v : Work). v.graph.nodes) (c.self-in-loop-place-2.view_is ∙ c.in_ok-pass_edge.ensures)
    ∙ passed_nodes c.args.kept c.loop-place.self (get_or c.neighbours.result.now c.loop-place.place 0) in
    omega (
      arith,
      below,
      passed,
      ap (λ (v : Work). v.graph.nodes) c.self-in-loop-place.view_is,
      c.self-in-loop-place-2.invariant.touching,
    )

pub loop-place-preserved : goal.loop-place-preserved
loop-place-preserved c =
    let w = c.args.self.now in
    let k = c.loop-place.place in
    let z = get_or c.neighbours.result.now k 0 in
    let here = neighbours_read (goal.at.loop-place-preserved c).After-neighbours in
    record {
      merges = c.loop-place.invariant.merges;
      size = c.loop-place.invariant.size;
      so_far =
          fold_next (passed_on c.args.kept) (as_one c.args.kept c.args.gone w) (neighbours w.graph c.args.gone) k 0
          c.loop-place.self _ z (omega (arith, c.loop-place.invariant.size, c.loop-place-test.true))
          (ap (λ ys. get_or ys k 0) here) c.loop-place.invariant.so_far
          (awake_as _ c.pass_edge.new.self c.wake.new.self z c.self-in-loop-place-2.view_is c.in_ok-wake.ensures.ok
          ∙ ap (λ (v : Work). awake z v) c.in_ok-pass_edge.ensures);
    }

pub wake-requires-2 : goal.wake-requires-2
wake-requires-2 c =
    let same = nodes_there c.args.kept c.args.gone c.args.self.now c.loop-place.invariant.merges c.loop-place.place _
    (c.self-2.view_is ∙ c.loop-place.invariant.so_far) in
    omega (arith, same, c.self-2.invariant.touching, c.requires.kept)

pub relist-requires : goal.relist-requires
relist-requires c =
    let same = nodes_there c.args.kept c.args.gone c.args.self.now c.loop-place.invariant.merges c.loop-place.place _
    (c.self-2.view_is ∙ c.loop-place.invariant.so_far) in
    omega (arith, same, c.requires.kept)

pub returns : goal.returns
unfolding merged
returns c =
    let kept = c.args.kept in
    let w = c.args.self.now in
    let all = fold_end (passed_on kept) (as_one kept c.args.gone w) (neighbours w.graph c.args.gone) c.loop-place.place
    c.loop-place.self (omega (arith, c.loop-place.invariant.size, c.loop-place-test.false)) c.loop-place.invariant.so_far in
    c.relist.ensures
    ∙ ap (λ (v : Work). relisted kept v)
    (awake_as _ c.loop-place.self c.wake-2.new.self kept c.self-2.view_is c.in_ok-wake-2.ensures.ok
    ∙ ap (λ (v : Work). awake kept v) all)
