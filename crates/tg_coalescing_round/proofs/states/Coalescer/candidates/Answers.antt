use Rattle.std.proofs.Common.{sym, ◌∙◌}
use Rattle.tg_coalescing_round.proofs.Candidates.{candidate_gone, candidate_left}
use Rattle.tg_coalescing_round.proofs.states.Coalescer.candidates.Goals as goal
use Rattle.tg_coalescing_round.proofs.states.Coalescer.candidates.Goals.{then-remains+in_ok-push, else-remains}

pub loop-node-preserved : goal.loop-node-preserved
loop-node-preserved c =
    let w = c.args.self.now in
    let x = c.loop-node.node in
    elim c.if-remains.branch [
      | then-remains+in_ok-push v ↦
          cc (
            v.in_ok-push.ensures.items,
            v.candidate.ensures,
            c.loop-node.invariant,
            candidate_left w x c.loop-node.auto.node (sym c.remains.ensures ∙ v.if-remains.true),
          )
      | else-remains v ↦
          cc (
            c.loop-node.invariant,
            candidate_gone w x c.loop-node.auto.node (sym c.remains.ensures ∙ v.if-remains.false),
          )
    ]
