use Rattle.std.proofs.Common.{◌≡◌, ◌-◌, ◌≤◌, ℕ, length, ap, ◌∙◌, arith}
use Rattle.std.specs.Prelude.{fold}
use Rattle.std.specs.List.{range_with_len}
use Rattle.std.proofs.lemmas.List.FromFn.{length-range_with_len}
use Rattle.tg_graph.specs.Interference.{Interference, colours}
use Rattle.tg_graph.specs.Lists.{Lists}
use Rattle.tg_coalescing_round.specs.glue.Groupings.{Grouping}
use Rattle.tg_coalescing_round.specs.glue.Tables.{Table}
use Rattle.tg_coalescing_round.specs.glue.Works.{Work, relisted, started, unlisted}
use Rattle.tg_coalescing_round.proofs.FirstDegrees.{length_first}
use Rattle.tg_coalescing_round.proofs.Keeping.{relisted_graph}
use Rattle.tg_coalescing_round.proofs.Tabling.{length_listed}
use Rattle.tg_coalescing_round.proofs.Vectors.{fold_range_more}
use Rattle.tg_coalescing_round.proofs.states.Coalescer.new.Goals as goal

pub invariant_of-work : goal.invariant_of-work
invariant_of-work c =
    let nodes = c.nodes-nodes.ensures.value in
    let moves = c.args.moves.now in
    let some : colours ≤ c.args.graph.nodes = omega (arith, nodes, c.nodes-nodes.ensures.low) in
    record {
      lists = ap (λ (l : Lists). l.nodes) c.in_ok-new.ensures ∙ nodes;
      degrees = ap length c.in_ok-degrees_of.ensures ∙ length_first c.args.graph some;
      classes = ap (λ (g : Grouping). length g.aliases) c.in_ok-new-2.ensures
          ∙ (length-range_with_len 0 (length c.args.facts.now) ∙ c.requires.facts);
      touching = ap (λ (t : Table). length t.touching) c.in_ok-new-3.ensures
          ∙ (length_listed moves c.nodes-nodes.result (length moves) ∙ nodes);
    }

pub loop-node-preserved : goal.loop-node-preserved
loop-node-preserved c =
    let n = c.loop-node.node in
    let w = c.loop-node.work in
    let first = unlisted c.args.graph c.args.moves.now c.args.facts.now in
    let low : colours ≤ n = omega arith in
    record {
      nodes = ap (λ (v : Work). v.graph.nodes) c.relist.ensures
          ∙ (ap (λ (g : Interference). g.nodes) (relisted_graph n w) ∙ c.loop-node.invariant.nodes);
      so_far = c.relist.ensures
          ∙ (ap (relisted n) c.loop-node.invariant.so_far
          ∙ fold_range_more (λ (v : Work) (x : ℕ). relisted x v) first colours n low);
    }

pub returns-clause-value : goal.returns-clause-value
unfolding started
returns-clause-value c =
    let first = unlisted c.args.graph c.args.moves.now c.args.facts.now in
    let all : c.loop-node.node ≡ c.args.graph.nodes = omega (arith, c.nodes-nodes.ensures.value, c.nodes-nodes.ensures.low) in
    c.loop-node.invariant.so_far
    ∙ ap (λ (k : ℕ). fold (λ (v : Work) (x : ℕ). relisted x v) first (range_with_len colours (k - colours))) all
