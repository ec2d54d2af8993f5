use Rattle.std.proofs.Common.{◌≡◌, ◌<◌, length, get_or, sym, ap, ◌∙◌, subst, arith}
use Rattle.std.specs.Prelude.{nat_eq}
use Rattle.std.specs.List.{IsDistinct}
use Rattle.tg_graph.specs.Interference.{Interference, neighbours}
use Rattle.tg_coalescing_round.specs.glue.Works.{Work}
use Rattle.tg_coalescing_round.specs.mirror.Steps.{bereft, taken_out}
use Rattle.tg_coalescing_round.proofs.Folds.{fold_end, fold_next}
use Rattle.tg_coalescing_round.proofs.TakingOut.{counted_there, graph_there, list_there, out}
use Rattle.tg_coalescing_round.proofs.states.Coalescer.take_out.Goals as goal
use Rattle.tg_coalescing_round.proofs.states.Coalescer.take_out.Goals.{After-neighbours}

-- the neighbours that are read are those of the start
neighbours_read : (c : After-neighbours) → c.neighbours.result.now ≡ neighbours c.args.self.now.graph c.args.node
neighbours_read c =
    list_there c.args.node c.args.self.now c.loop-place.place _ (c.self-in-loop-place.view_is
    ∙ c.loop-place.invariant.so_far) c.neighbours.result.now c.neighbours.ensures.value

pub neighbours-requires-clause-node : goal.neighbours-requires-clause-node
neighbours-requires-clause-node c =
    let same = graph_there c.args.node c.args.self.now c.loop-place.place _ (c.self-in-loop-place.view_is
    ∙ c.loop-place.invariant.so_far) in
    subst (λ (g : Interference). c.args.node < g.nodes) (sym same) c.requires.node

pub bounds-neighbours-place : goal.bounds-neighbours-place
bounds-neighbours-place c =
    let here = neighbours_read (goal.at.bounds-neighbours-place c).After-neighbours in
    omega (arith, ap length here, c.loop-place.invariant.size, c.loop-place-test.true)

pub lose_neighbour-requires-clause-node : goal.lose_neighbour-requires-clause-node
lose_neighbour-requires-clause-node c =
    let k = c.loop-place.place in
    let here = neighbours_read (goal.at.lose_neighbour-requires-clause-node c).After-neighbours in
    let below : get_or c.neighbours.result.now k 0 < c.self-in-loop-place.inside.graph.nodes =
    c.neighbours.ensures.within k 0 (omega (arith, ap length here, c.loop-place.invariant.size, c.loop-place-test.true)) in
    omega (arith, below, ap (λ (v : Work). v.graph.nodes) c.self-in-loop-place.view_is)

pub lose_neighbour-requires-clause-counted : goal.lose_neighbour-requires-clause-counted
lose_neighbour-requires-clause-counted c =
    let w = c.args.self.now in
    let x = c.args.node in
    let k = c.loop-place.place in
    let here = neighbours_read (goal.at.lose_neighbour-requires-clause-counted c).After-neighbours in
    counted_there x w k c.loop-place.self c.loop-place.invariant.so_far (get_or c.neighbours.result.now k 0)
    c.requires.counted (subst (IsDistinct nat_eq) here c.neighbours.ensures.distinct)
    (omega (arith, c.loop-place.invariant.size, c.loop-place-test.true)) (ap (λ ys. get_or ys k 0) here)

pub loop-place-preserved : goal.loop-place-preserved
loop-place-preserved c =
    let w = c.args.self.now in
    let x = c.args.node in
    let k = c.loop-place.place in
    let here = neighbours_read (goal.at.loop-place-preserved c).After-neighbours in
    record {
      size = c.loop-place.invariant.size;
      so_far =
          fold_next bereft (out x w) (neighbours w.graph x) k 0 c.loop-place.self c.lose_neighbour.new.self
          (get_or c.neighbours.result.now k 0) (omega (arith, c.loop-place.invariant.size, c.loop-place-test.true))
          (ap (λ ys. get_or ys k 0) here) c.loop-place.invariant.so_far c.in_ok-lose_neighbour.ensures;
    }

pub returns : goal.returns
unfolding taken_out
returns c =
    let w = c.args.self.now in
    fold_end bereft (out c.args.node w) (neighbours w.graph c.args.node) c.loop-place.place c.loop-place.self
    (omega (arith, c.loop-place.invariant.size, c.loop-place-test.false)) c.loop-place.invariant.so_far
