use Rattle.std.proofs.Common.{◌<◌, ◌+◌, ◌-◌, ◌==◌, ◌||◌, refl, sym, ap, ◌∙◌, arith}
use Rattle.tg_instr.specs.Operands.{is_same}
use Rattle.tg_graph.specs.Interference.{interferes}
use Rattle.tg_interference.specs.Nodes.{operand_at}
use Rattle.tg_interference.specs.Pairs.{has}
use Rattle.tg_interference.proofs.Colours.{node_below}
use Rattle.tg_interference.proofs.Joining.{both_same, none_defined, at_node, at_no_node, on_ok}
use Rattle.tg_interference.proofs.edges.join_definition.Goals as goal

pub join_node-requires-clause-node : goal.join_node-requires-clause-node
join_node-requires-clause-node c =
    let n = c.args.graph.now.nodes in
    let l : c.in-Some.node < 25 + (n - 25) =
    node_below (n - 25) c.args.definition.now c.in-Some.node c.requires.temps (sym c.in-Some.ensures) in
    omega (arith, l, c.requires.low)

pub returns-in-Some-clause-pairs : goal.returns-in-Some-clause-pairs
returns-in-Some-clause-pairs c =
    on_ok c.join_node.result (λ h. λ x y. h x y
    ∙ ap (λ b. b || interferes c.args.graph.now x y)
    (both_same c.args.moved (λ n. n == c.in-Some.node) (λ n. is_same (operand_at n) c.args.definition.now) (has
    c.args.live.now) (has c.args.live.now) (at_node c.args.definition.now c.in-Some.node c.in-Some.ensures) (λ n. refl)
    x y)) c.join_node.ensures.pairs

pub returns-in-None-clause-pairs : goal.returns-in-None-clause-pairs
returns-in-None-clause-pairs c = λ x y.
    sym (ap (λ b. b || interferes c.args.graph.now x y)
    (none_defined c.args.moved (λ n. is_same (operand_at n) c.args.definition.now) (has c.args.live.now)
    (at_no_node c.args.definition.now c.in-None.ensures) x y))
