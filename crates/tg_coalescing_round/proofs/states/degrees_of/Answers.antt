use Rattle.std.proofs.Common.{◌≤◌, ◌∙◌, arith}
use Rattle.tg_graph.specs.Interference.{colours}
use Rattle.tg_coalescing_round.proofs.FirstDegrees.{degrees_more}
use Rattle.tg_coalescing_round.proofs.states.degrees_of.Goals as goal

pub loop-node-preserved : goal.loop-node-preserved
loop-node-preserved c =
    let low : colours ≤ c.loop-node.node = omega arith in
    c.in_ok-push.ensures.items
    ∙ degrees_more c.args.graph.now c.loop-node.node c.degree.result c.loop-node.degrees.items low c.loop-node.invariant
    c.degree.ensures.value
