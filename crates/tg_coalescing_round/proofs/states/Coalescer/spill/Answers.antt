use Rattle.std.proofs.Common.{◌+◌, ◌<◌, length, sym, ap, ◌∙◌, subst, arith}
use Rattle.tg_graph.specs.Interference.{Interference}
use Rattle.tg_coalescing_round.specs.glue.Works.{Work, awake_around}
use Rattle.tg_coalescing_round.specs.mirror.Steps.{CanLose, given_up}
use Rattle.tg_coalescing_round.proofs.Candidates.{IsCandidate, candidate_read}
use Rattle.tg_coalescing_round.proofs.Counters.{has_neighbour, loses_alike}
use Rattle.tg_coalescing_round.proofs.Stepping.{given_up_degrees, given_up_graph, given_up_left}
use Rattle.tg_coalescing_round.proofs.states.Coalescer.spill.Given as given
use Rattle.tg_coalescing_round.proofs.states.Coalescer.spill.Goals as goal
use Rattle.tg_coalescing_round.proofs.states.Coalescer.spill.Goals.{After-index}

-- the candidate that the policy chose
chosen : (g : given.Over) (c : After-index g) → IsCandidate c.args.self.now (c.index.result.now.temp + 25)
chosen g c =
    candidate_read c.args.self.now c.in_ok-candidates.candidates.items c.choose-chosen.result c.index.result.now
    c.in_ok-candidates.ensures (omega (arith, c.choose-chosen.ensures.0, ap length c.deref.ensures.value))
    c.index.ensures

pub overflow_add-node : goal.overflow_add-node
overflow_add-node g c =
    omega (arith, (chosen g (goal.at.overflow_add-node g c).After-index).node, c.requires.orderly.few)

pub freeze_moves-requires-clause-class : goal.freeze_moves-requires-clause-class
freeze_moves-requires-clause-class g c =
    (chosen g (goal.at.freeze_moves-requires-clause-class g c).After-index).node

pub wake_around-requires-clause-node : goal.wake_around-requires-clause-node
wake_around-requires-clause-node g c =
    let w = c.args.self.now in
    let x = c.index.result.now.temp + 25 in
    let same = ap (λ (v : Work). v.graph) c.freeze_moves.ensures ∙ given_up_graph x w in
    subst (λ (h : Interference). x < h.nodes) (sym same)
    (chosen g (goal.at.wake_around-requires-clause-node g c).After-index).node

pub take_out-requires-clause-node : goal.take_out-requires-clause-node
take_out-requires-clause-node g c =
    let w = c.args.self.now in
    let x = c.index.result.now.temp + 25 in
    let same =
    ap (λ (v : Work). v.graph) c.in_ok-wake_around.ensures
    ∙ (ap (λ (v : Work). v.graph) c.freeze_moves.ensures ∙ given_up_graph x w) in
    subst (λ (h : Interference). x < h.nodes) (sym same)
    (chosen g (goal.at.take_out-requires-clause-node g c).After-index).node

pub take_out-requires-clause-counted : goal.take_out-requires-clause-counted
take_out-requires-clause-counted g c =
    let w = c.args.self.now in
    let o = c.requires.orderly in
    let x = c.index.result.now.temp + 25 in
    let node = chosen g (goal.at.take_out-requires-clause-counted g c).After-index in
    let loses : CanLose w x = λ z. has_neighbour w x z o.graph o.degrees node.temporary node.node node.left in
    subst (λ (v : Work). CanLose v x)
    (sym (c.in_ok-wake_around.ensures ∙ ap (λ (v : Work). awake_around x v) c.freeze_moves.ensures))
    (loses_alike x w (awake_around x (given_up x w)) (given_up_graph x w) (given_up_degrees x w) (given_up_left x w)
    loses)
