use Rattle.std.proofs.Common.{◌≡◌, ◌<◌, ◌-◌, length, sym, ap, ◌∙◌, arith}
use Rattle.std.proofs.lemmas.List.{length-map}
use Rattle.tg_graph.specs.Interference.{Interference, neighbours}
use Rattle.tg_graph.specs.glue.Keeping.{IsKept, lists_of}
use Rattle.tg_graph.proofs.Joining.{neighbours_below}
use Rattle.tg_graph.proofs.Vectors.{items_of, list_read}
use Rattle.tg_graph.proofs.graphs.Graph.neighbours.Goals as goal

pub returns-clause-within : goal.returns-clause-within
returns-clause-within c =
    let vectors = c.self.inside.adjacent.items in
    let g : Interference = record { nodes = c.self.inside.nodes; adjacent = lists_of vectors } in
    let kept : IsKept g (lists_of c.self.inside.pairs.items) c.self.inside.degrees.items = c.self.invariant in
    let nodes : c.self.inside.nodes ≡ c.args.self.now.nodes = ap (λ (h : Interference). h.nodes) c.self.view_is in
    let node : c.args.a < c.self.inside.nodes = omega arith in
    let size : length vectors ≡ c.self.inside.nodes - 25 = sym (length-map vectors (λ v. v.items)) ∙ kept.graph.sized in
    let within : c.args.a - 25 < length vectors = omega (arith, size, node, c.requires.temporary) in
    let read : c.as_slice.result.now ≡ neighbours g c.args.a =
    c.as_slice.ensures.value ∙ sym (list_read items_of vectors (c.args.a - 25) c.index.result.now within c.index.ensures) in
    neighbours_below g c.args.a c.args.self.now.nodes c.as_slice.result.now
    kept.graph c.requires.temporary node read nodes
