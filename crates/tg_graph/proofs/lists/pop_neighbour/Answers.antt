use Rattle.std.proofs.Common.{arith}
use Rattle.tg_graph.proofs.Vectors.{lists_popped}
use Rattle.tg_graph.proofs.lists.pop_neighbour.Goals as goal

pub returns-then-node-ge-COLOURS : goal.returns-then-node-ge-COLOURS
returns-then-node-ge-COLOURS c = λ before y e.
    lists_popped c.args.lists.now.items c.args.node y c.pop.new.self c.index_mut-list.result.now before
    c.if-node-ge-COLOURS.true (omega arith)
    c.index_mut-list.ensures.value c.pop.ensures.rest e
