use Rattle.std.proofs.Common.{◌≡◌, ◌-◌, ◌<◌, length, get_or, ap, ◌∙◌, arith}
use Rattle.std.proofs.lemmas.List.{get_or_read, length-map}
use Rattle.tg_graph.specs.Interference.{Interference}
use Rattle.tg_graph.specs.glue.Keeping.{IsKept, lists_of}
use Rattle.tg_graph.proofs.Joining.{degree_read, few_neighbours}
use Rattle.tg_graph.proofs.graphs.Graph.degree.Goals as goal

pub returns-clause-bound : goal.returns-clause-bound
returns-clause-bound c =
    let g : Interference = record { nodes = c.self.inside.nodes; adjacent = lists_of c.self.inside.adjacent.items } in
    let kept : IsKept g (lists_of c.self.inside.pairs.items) c.self.inside.degrees.items = c.self.invariant in
    let nodes : c.self.inside.nodes ≡ c.args.self.now.nodes = ap (λ (h : Interference). h.nodes) c.self.view_is in
    let size : length c.self.inside.degrees.items ≡ c.self.inside.nodes - 25 = ap length kept.counted
    ∙ (length-map g.adjacent length ∙ kept.graph.sized) in
    let node : c.args.a < c.self.inside.nodes = omega arith in
    let read : c.index.result.now ≡ get_or c.self.inside.degrees.items (c.args.a - 25) 0 =
    get_or_read c.self.inside.degrees.items (c.args.a - 25) c.index.result.now
    (omega (arith, size, node, c.requires.temporary)) c.index.ensures 0 in
    omega (
      arith,
      nodes,
      read,
      degree_read g (lists_of c.self.inside.pairs.items) c.self.inside.degrees.items c.args.a kept c.requires.temporary node,
      few_neighbours g c.args.a kept.graph c.requires.temporary node,
    )
