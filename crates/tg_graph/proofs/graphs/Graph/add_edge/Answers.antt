use Rattle.std.specs.Prelude.{◌==◌}
use Rattle.std.proofs.Common.{◌≡◌, ℕ, ◌+◌, ◌-◌, ◌<◌, ◌/◌, ◌≤◌, ◌||◌, List, length, get_or, min, max, refl, sym, ap, ◌∙◌, subst, arith}
use Rattle.std.proofs.lemmas.List.{with_items_is}
use Rattle.std.specs.Vec.{with_items}
use Rattle.tg_graph.specs.Interference.{Interference, interferes, are_ends, most_nodes}
use Rattle.tg_graph.specs.glue.Bits.{area, matrix_bit, pair_place, tiles_for}
use Rattle.tg_graph.specs.glue.Keeping.{IsKept, lists_of, counted_up}
use Rattle.tg_graph.proofs.Places.{place_at, tile_within}
use Rattle.tg_graph.proofs.Changes.{counted_few, length_counted}
use Rattle.tg_graph.proofs.Joining.{CanJoin, can_join, ends_interfere, few_counted, graph_of, joined, kept_at, kept_joined, kept_reached, interferes_joined}
use Rattle.tg_graph.proofs.Vectors.{items_of, lists_sized, same_size}
use Rattle.tg_graph.proofs.graphs.Graph.add_edge.Goals as goal

pub returns-then-interferes-clause-pairs : goal.returns-then-interferes-clause-pairs
returns-then-interferes-clause-pairs c = λ x y.
    ends_interfere c.args.self.now c.args.a c.args.b x y (sym c.interferes.ensures ∙ c.if-interferes.true)

pub reach_pair-requires : goal.reach_pair-requires
reach_pair-requires c =
    let nodes : c.self.inside.nodes ≡ c.args.self.now.nodes = ap (λ (h : Interference). h.nodes) c.self.view_is in
    subst (λ (size : ℕ). c.pair_place-at.result / area < size)
    (sym (lists_sized items_of c.self.inside.pairs.items (tiles_for c.self.inside.nodes) c.self.invariant.room))
    (tile_within c.min.result c.max.result c.self.inside.nodes c.pair_place-at.result (omega arith) (omega arith)
    c.pair_place-at.ensures)

pub invariant_of-self : goal.invariant_of-self
invariant_of-self c =
    kept_reached _ _ _ _ c.self.invariant
    (same_size c.reach_pair.new.tiles.items c.self.inside.pairs.items c.in_err-reach_pair.ensures.size)
    c.in_err-reach_pair.ensures.bits

pub invariant_of-self-in_err-push_neighbours : goal.invariant_of-self-in_err-push_neighbours
invariant_of-self-in_err-push_neighbours c =
    kept_at c.self.inside.nodes _ _ _ _ _ _ (sym c.in_err-push_neighbours.ensures.err) refl refl
    (kept_reached _ _ _ _ c.self.invariant
    (same_size c.reach_pair.new.tiles.items c.self.inside.pairs.items c.in_ok-reach_pair.ensures.size)
    c.in_ok-reach_pair.ensures.bits)

pub count_up-requires-clause-few : goal.count_up-requires-clause-few
count_up-requires-clause-few c =
    let g : Interference = graph_of c.self.inside.nodes (lists_of c.self.inside.adjacent.items) in
    let here : get_or c.deref_mut.result.now (c.args.a - 25) 0 ≡ get_or c.self.inside.degrees.items (c.args.a - 25) 0 =
    ap (λ (xs : List ℕ). get_or xs (c.args.a - 25) 0) c.deref_mut.ensures.value in
    omega (
      arith,
      here,
      few_counted g (lists_of c.self.inside.pairs.items) c.self.inside.degrees.items c.self.invariant
          (c.args.a - 25),
    )

pub count_up-requires-2-clause-few : goal.count_up-requires-2-clause-few
count_up-requires-2-clause-few c =
    let g : Interference = graph_of c.self.inside.nodes (lists_of c.self.inside.adjacent.items) in
    let once : c.count_up.new.degrees ≡ counted_up c.args.a c.self.inside.degrees.items =
    c.count_up.ensures ∙ ap (λ (xs : List ℕ). counted_up c.args.a xs) c.deref_mut.ensures.value in
    let size : length c.count_up.new.degrees ≡ c.self.inside.degrees.len =
    ap length once ∙ (length_counted c.args.a c.self.inside.degrees.items ∙ sym c.self.inside.degrees.ok.0) in
    let here : c.deref_mut-2.result.now ≡ counted_up c.args.a c.self.inside.degrees.items =
    c.deref_mut-2.ensures.value ∙ (with_items_is c.self.inside.degrees c.count_up.new.degrees size ∙ once) in
    let read : get_or c.deref_mut-2.result.now (c.args.b - 25) 0
    ≡ get_or (counted_up c.args.a c.self.inside.degrees.items) (c.args.b - 25) 0 =
    ap (λ (xs : List ℕ). get_or xs (c.args.b - 25) 0) here in
    let few : get_or (counted_up c.args.a c.self.inside.degrees.items) (c.args.b - 25) 0 ≤ most_nodes + 1 =
    counted_few c.args.a most_nodes c.self.inside.degrees.items
    (few_counted g (lists_of c.self.inside.pairs.items) c.self.inside.degrees.items c.self.invariant) (c.args.b - 25) in
    omega (arith, subst (λ (d : ℕ). d ≤ 16777242) (sym read) few)

pub set_pair-requires-clause-tile : goal.set_pair-requires-clause-tile
set_pair-requires-clause-tile c =
    let nodes : c.self.inside.nodes ≡ c.args.self.now.nodes = ap (λ (h : Interference). h.nodes) c.self.view_is in
    subst (λ (size : ℕ). c.pair_place-at.result / area < size)
    (sym (c.in_ok-reach_pair.ensures.size
    ∙ lists_sized items_of c.self.inside.pairs.items (tiles_for c.self.inside.nodes) c.self.invariant.room))
    (tile_within c.min.result c.max.result c.self.inside.nodes c.pair_place-at.result (omega arith) (omega arith)
    c.pair_place-at.ensures)

pub invariant_of-self-2 : goal.invariant_of-self-2
invariant_of-self-2 c =
    let a = c.args.a in
    let b = c.args.b in
    let g : Interference = graph_of c.self.inside.nodes (lists_of c.self.inside.adjacent.items) in
    let tiles : List (List ℕ) = lists_of c.reach_pair.new.tiles.items in
    let degrees = c.self.inside.degrees in
    let kept : IsKept g tiles degrees.items =
    kept_reached _ _ _ _ c.self.invariant
    (same_size c.reach_pair.new.tiles.items c.self.inside.pairs.items c.in_ok-reach_pair.ensures.size)
    c.in_ok-reach_pair.ensures.bits in
    let nodes : c.self.inside.nodes ≡ c.args.self.now.nodes = ap (λ (h : Interference). h.nodes) c.self.view_is in
    let can : CanJoin g a b =
    can_join g c.args.self.now tiles degrees.items a b kept c.self.view_is c.requires.first c.requires.second
    c.requires.differ (sym c.interferes.ensures ∙ c.if-interferes.false) in
    let place : c.pair_place-at.result ≡ pair_place (min a b) (max a b) =
    place_at a b _ _ _ c.pair_place-at.ensures c.min.ensures c.max.ensures in
    let told : (k : ℕ) → matrix_bit (lists_of c.set_pair.new.tiles.items) k
    ≡ ((k == pair_place (min a b) (max a b)) || matrix_bit tiles k) =
    λ k. c.set_pair.ensures.bits k ∙ ap (λ z. (k == z) || matrix_bit tiles k) place in
    let once : c.count_up.new.degrees ≡ counted_up a degrees.items =
    c.count_up.ensures ∙ ap (λ (xs : List ℕ). counted_up a xs) c.deref_mut.ensures.value in
    let once_size : length c.count_up.new.degrees ≡ degrees.len = ap length once
    ∙ (length_counted a degrees.items ∙ sym degrees.ok.0) in
    let first : c.deref_mut-2.result.now ≡ counted_up a degrees.items =
    c.deref_mut-2.ensures.value ∙ (with_items_is degrees c.count_up.new.degrees once_size ∙ once) in
    let twice : c.count_up-2.new.degrees ≡ counted_up b (counted_up a degrees.items) =
    c.count_up-2.ensures ∙ ap (λ (xs : List ℕ). counted_up b xs) first in
    let twice_size : length c.count_up-2.new.degrees ≡ degrees.len =
    ap length twice ∙ (length_counted b (counted_up a degrees.items)
    ∙ (length_counted a degrees.items ∙ sym degrees.ok.0)) in
    let lists : lists_of c.push_neighbours.new.lists.items ≡ (joined g a b).adjacent = c.in_ok-push_neighbours.ensures.ok in
    kept_at c.self.inside.nodes _ _ _ _ _ _ (sym lists) refl
    (sym twice ∙ sym (with_items_is
    (with_items degrees c.count_up.new.degrees) c.count_up-2.new.degrees twice_size))
    (kept_joined g tiles degrees.items (lists_of c.set_pair.new.tiles.items) a b kept can
    (same_size c.set_pair.new.tiles.items c.reach_pair.new.tiles.items c.set_pair.ensures.size) told)

pub returns-clause-pairs : goal.returns-clause-pairs
returns-clause-pairs c = λ x y.
    let a = c.args.a in
    let b = c.args.b in
    let g : Interference = graph_of c.self.inside.nodes (lists_of c.self.inside.adjacent.items) in
    let can : CanJoin g a b =
    can_join g c.args.self.now (lists_of c.self.inside.pairs.items) c.self.inside.degrees.items a b c.self.invariant
    c.self.view_is c.requires.first c.requires.second c.requires.differ
    (sym c.interferes.ensures ∙ c.if-interferes.false) in
    let lists : lists_of c.push_neighbours.new.lists.items ≡ (joined g a b).adjacent = c.in_ok-push_neighbours.ensures.ok in
    ap (λ (ls : List (List ℕ)). interferes (graph_of c.self.inside.nodes ls) x y) lists
    ∙ (interferes_joined g a b x y can ∙ ap (λ (h : Interference). are_ends a b x y || interferes h x y) c.self.view_is)
