use Rattle.std.proofs.Common.{◌+◌, ◌-◌, ◌==◌, ◌||◌, take, ap, ◌∙◌}
use Rattle.std.proofs.lemmas.List.{take_all}
use Rattle.tg_instr.specs.Operands.{is_same}
use Rattle.tg_instr.specs.Codes.{is_below}
use Rattle.tg_graph.specs.Interference.{interferes}
use Rattle.tg_interference.specs.Nodes.{operand_at}
use Rattle.tg_interference.specs.Pairs.{has, joins_both}
use Rattle.tg_interference.proofs.Operands.{all_read}
use Rattle.tg_interference.proofs.Joining.{joined_more, live_more, has_more}
use Rattle.tg_interference.proofs.edges.join_node.Goals as goal

pub join_operand-requires-clause-temps : goal.join_operand-requires-clause-temps
join_operand-requires-clause-temps c =
    ap (λ n. is_below (n - 25) c.one-item.result) c.loop-one.invariant.nodes
    ∙ all_read (is_below (c.args.graph.now.nodes - 25)) c.args.live.now c.loop-one.one-index c.one-item.result
    c.loop-one-test.true c.one-item.is c.requires.live

pub loop-one-preserved : goal.loop-one-preserved
loop-one-preserved c =
    let live = c.args.live.now in
    let i = c.loop-one.one-index in
    record {
      nodes = c.in_ok-join_operand.ensures.nodes ∙ c.loop-one.invariant.nodes;
      pairs = λ x y. joined_more _ _ _ _ _ _ (c.in_ok-join_operand.ensures.pairs x y) (c.loop-one.invariant.pairs x y)
          (live_more c.args.moved (λ n. n == c.args.node) (has (take (i + 1) live)) (has (take i live))
          (λ n. is_same (operand_at n) c.one-item.result)
          (has_more live i c.one-item.result c.loop-one-test.true c.one-item.is) x y);
    }

pub returns-clause-pairs : goal.returns-clause-pairs
returns-clause-pairs c = λ x y.
    c.loop-one.invariant.pairs x y
    ∙ ap (λ list. joins_both c.args.moved (λ n. n == c.args.node) (has list) x y || interferes c.args.graph.now x y)
    (take_all c.loop-one.one-index c.args.live.now c.loop-one-test.false)
