use Rattle.std.proofs.Common.{◌≡◌, ℕ, ◌<◌, ◌≤◌, ◌/◌, List, Vec, length, max, sym, ap, ◌∙◌, subst, arith}
use Rattle.std.specs.declared.alloc.Global.{Global}
use Rattle.tg_graph.specs.Interference.{Interference, interferes, colours}
use Rattle.tg_graph.specs.glue.Bits.{matrix_bit, tiles_for}
use Rattle.tg_graph.specs.glue.Keeping.{lists_of}
use Rattle.tg_graph.proofs.Places.{place_at, tile_within}
use Rattle.tg_graph.proofs.Joining.{bit_told, graph_of}
use Rattle.tg_graph.proofs.Vectors.{items_of, lists_sized}
use Rattle.tg_graph.proofs.graphs.Graph.interferes.Goals as goal

pub has_pair-requires : goal.has_pair-requires
has_pair-requires c =
    let n = c.self.inside.nodes in
    let nodes : n ≡ c.args.self.now.nodes = ap (λ (h : Interference). h.nodes) c.self.view_is in
    subst (λ (size : ℕ). c.pair_place.result / 16384 < size)
    (sym (ap length c.deref.ensures.value
    ∙ lists_sized items_of c.self.inside.pairs.items (tiles_for n) c.self.invariant.room))
    (tile_within c.min.result c.max-high.result n c.pair_place.result (omega arith) (omega arith) c.pair_place.ensures)

pub returns-else-high-lt-COLOURS : goal.returns-else-high-lt-COLOURS
returns-else-high-lt-COLOURS c =
    let a = c.args.a in
    let b = c.args.b in
    let n = c.self.inside.nodes in
    let tiles = lists_of c.self.inside.pairs.items in
    let g : Interference = graph_of n (lists_of c.self.inside.adjacent.items) in
    let nodes : n ≡ c.args.self.now.nodes = ap (λ (h : Interference). h.nodes) c.self.view_is in
    let temporary : colours ≤ max a b = subst (λ (z : ℕ). 25 ≤ z) c.max-high.ensures (omega arith) in
    c.has_pair.ensures
    ∙ (ap (λ (vs : List (Vec ℕ Global)). matrix_bit (lists_of vs) c.pair_place.result) c.deref.ensures.value
    ∙ (ap (λ (z : ℕ). matrix_bit tiles z) (place_at a b _ _ _ c.pair_place.ensures c.min.ensures c.max-high.ensures)
    ∙ (bit_told g tiles c.self.inside.degrees.items a b c.self.invariant (omega arith) (omega arith)
    (omega arith) temporary
    ∙ ap (λ (h : Interference). interferes h a b) c.self.view_is)))
