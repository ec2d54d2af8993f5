use Rattle.std.proofs.Common.{◌||◌, sym, ap, ◌∙◌}
use Rattle.tg_graph.specs.Interference.{interferes}
use Rattle.tg_interference.proofs.Joining.{ends_apart, on_ok}
use Rattle.tg_interference.proofs.edges.join_nodes.Goals as goal

pub returns-then-is_apart-clause-pairs : goal.returns-then-is_apart-clause-pairs
returns-then-is_apart-clause-pairs c =
    on_ok c.add_edge.result (λ h. λ x y. h x y
    ∙ ap (λ b. b || interferes c.args.graph.now x y)
    (ends_apart c.args.moved c.args.node c.args.other (sym c.if-is_apart.ensures) x y)) c.add_edge.ensures.pairs
