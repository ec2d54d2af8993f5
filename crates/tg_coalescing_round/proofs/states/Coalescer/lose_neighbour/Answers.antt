use Rattle.std.proofs.Common.{◌<◌, length, sym, ap, ◌∙◌, arith}
use Rattle.tg_coalescing_round.specs.glue.Works.{Work}
use Rattle.tg_coalescing_round.proofs.Stepping.{bereft_not, lower_done, relisted_below, turned_done}
use Rattle.tg_coalescing_round.proofs.states.Coalescer.lose_neighbour.Goals as goal
use Rattle.tg_coalescing_round.proofs.states.Coalescer.lose_neighbour.Goals.{After-is_open}

pub returns-then-not-is_open : goal.returns-then-not-is_open
returns-then-not-is_open c =
    sym (bereft_not c.args.self.now c.args.node (sym c.is_open.ensures ∙ c.if-not-is_open.true))

pub wake_around-requires-clause-node : goal.wake_around-requires-clause-node
wake_around-requires-clause-node c =
    relisted_below c.args.node _ c.relist.new.self c.args.self.now c.relist.ensures
    (ap (λ (v : Work). v.graph) c.self.view_is) c.requires.node

-- the node has a degree
has_degree : (c : After-is_open) → c.args.node < length c.self.inside.degrees.items
has_degree c = omega (arith, ap (λ (v : Work). v.graph.nodes) c.self.view_is, c.self.invariant.degrees, c.requires.node)

pub returns-in_ok-wake_around : goal.returns-in_ok-wake_around
returns-in_ok-wake_around c =
    turned_done _ c.args.self.now c.args.node c.index_mut.result.now c.self.view_is
    (has_degree (goal.at.returns-in_ok-wake_around c).After-is_open) c.index_mut.ensures.value
    (sym c.is_open.ensures ∙ c.if-not-is_open.false) c.index.result.now c.index.ensures c.if-index.true
    c.relist.new.self c.wake_around.new.self c.relist.ensures c.in_ok-wake_around.ensures

pub returns-else-index : goal.returns-else-index
returns-else-index c =
    lower_done _ c.args.self.now c.args.node c.index_mut.result.now c.self.view_is
    (has_degree (goal.at.returns-else-index c).After-is_open) c.index_mut.ensures.value
    (sym c.is_open.ensures ∙ c.if-not-is_open.false) c.index.result.now c.index.ensures c.if-index.false
