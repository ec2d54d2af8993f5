use Rattle.std.proofs.Common.{◌≡◌, ℕ, List, ap, ◌∙◌, arith}
use Rattle.std.specs.Prelude.{slice_index}
use Rattle.tg_interference.specs.Facts.{facts_by, facts_of}
use Rattle.tg_interference.proofs.Occurring.{facts_same, with_facts}
use Rattle.tg_interference.proofs.facts.facts_of_nodes.Goals as goal

pub loop-node-preserved : goal.loop-node-preserved
loop-node-preserved c =
    let code = c.args.code.now in
    let node = c.loop-node.node in
    let made : c.facts_of.result ≡ facts_of code.list c.args.originals node =
    c.facts_of.ensures
    ∙ (ap (λ (xs : List ℕ). facts_by (slice_index xs) c.args.originals node) c.as_slice.ensures.value
    ∙ facts_same code.list code.temps c.args.originals c.in_ok-counts.counts.items node c.in_ok-counts.ensures
    (omega arith)) in
    with_facts code.list c.args.originals node c.loop-node.facts.items _ c.facts_of.result c.in_ok-push.ensures.items
    c.loop-node.invariant made
