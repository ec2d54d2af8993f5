use Rattle.std.proofs.Common.{◌<◌, ◌+◌, ◌-◌, ◌==◌, ◌||◌, refl, sym, ap, ◌∙◌, arith}
use Rattle.tg_instr.specs.Operands.{is_same}
use Rattle.tg_graph.specs.Interference.{interferes}
use Rattle.tg_interference.specs.Nodes.{operand_at}
use Rattle.tg_interference.proofs.Colours.{node_below}
use Rattle.tg_interference.proofs.Joining.{both_same, none_live, at_node, at_no_node, on_ok}
use Rattle.tg_interference.proofs.edges.join_operand.Goals as goal

pub join_nodes-requires-clause-other : goal.join_nodes-requires-clause-other
join_nodes-requires-clause-other c =
    let n = c.args.graph.now.nodes in
    let l : c.in-Some.other < 25 + (n - 25) =
    node_below (n - 25) c.args.one.now c.in-Some.other c.requires.temps (sym c.in-Some.ensures) in
    omega (arith, l, c.requires.low)

pub returns-in-Some-clause-pairs : goal.returns-in-Some-clause-pairs
returns-in-Some-clause-pairs c =
    on_ok c.join_nodes.result (λ h. λ x y. h x y
    ∙ ap (λ b. b || interferes c.args.graph.now x y)
    (both_same c.args.moved (λ n. n == c.args.node) (λ n. n == c.args.node) (λ n. n == c.in-Some.other)
    (λ n. is_same (operand_at n) c.args.one.now) (λ n. refl)
    (at_node c.args.one.now c.in-Some.other c.in-Some.ensures) x y)) c.join_nodes.ensures.pairs

pub returns-in-None-clause-pairs : goal.returns-in-None-clause-pairs
returns-in-None-clause-pairs c = λ x y.
    sym (ap (λ b. b || interferes c.args.graph.now x y)
    (none_live c.args.moved (λ n. n == c.args.node) (λ n. is_same (operand_at n) c.args.one.now)
    (at_no_node c.args.one.now c.in-None.ensures) x y))
