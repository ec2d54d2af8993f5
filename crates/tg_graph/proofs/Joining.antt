-- Graphs, when two nodes are joined.
use Rattle.std.specs.Prelude.{◌==◌, nat_eq, nat_lt}
use Rattle.std.proofs.Common.{◌≡◌, ◌≢◌, ℕ, zero, suc, ◌+◌, ◌-◌, ◌<◌, ◌≤◌, ◌&&◌, ◌||◌, Bool, true, false, not, min, max, List, [], ◌∷◌, length, map}
use Rattle.std.proofs.Common.{get_or, replicate, All, refl, sym, ap, ◌∙◌, subst, ⊎_elim, arith}
use Rattle.std.specs.List.{IsDistinct}
use Rattle.std.proofs.lemmas.Bool.{cases_eq, cases_lt, cases_order, eq-eqb, ne_eqb, lt-ltb, le-ltb, eqb-true, or_cases, or_from, and_parts, and_left}
use Rattle.std.proofs.lemmas.Bool.{and_right, false_from_ne_true}
use Rattle.std.proofs.lemmas.List.{get_or_past, get_or-map, length-replicate, length-map}
use Rattle.std.proofs.lemmas.List.Folds.{list_any_at}
use Rattle.std.proofs.lemmas.Map.Steps.{length-le_from_distinct_below}
use Rattle.tg_graph.specs.Interference.{Interference, IsGraph, colours, most_nodes, is_register, is_among, neighbours, are_joined, interferes}
use Rattle.tg_graph.specs.Interference.{are_ends, with_neighbour, bare}
use Rattle.tg_graph.specs.glue.Bits.{matrix_bit, pair_place, tiles_for}
use Rattle.tg_graph.specs.glue.Keeping.{IsKept, counted_up}
use Rattle.tg_graph.proofs.Places.{same_pairs, matrix_unset, read_replicate}
use Rattle.tg_graph.proofs.Changes.{among_with, distinct_with, counted_with, length_with}

-- Interference by the order of two nodes.

pub below : (g : Interference) (x y : ℕ) → x < y → interferes g x y ≡ are_joined g x y
below g x y h =
    ap (λ b. (b && are_joined g x y) || (nat_lt y x && are_joined g y x)) (lt-ltb x y h)
    ∙ (ap (λ b. (true && are_joined g x y) || (b && are_joined g y x)) (le-ltb y x (omega (arith, h)))
    ∙ only (are_joined g x y))
  where
    only : (b : Bool) → (b || false) ≡ b
    only true = refl
    only false = refl

pub above : (g : Interference) (x y : ℕ) → y < x → interferes g x y ≡ are_joined g y x
above g x y h =
    ap (λ b. (b && are_joined g x y) || (nat_lt y x && are_joined g y x)) (le-ltb x y (omega (arith, h)))
    ∙ ap (λ b. false || (b && are_joined g y x)) (lt-ltb y x h)

pub not_itself : (g : Interference) (x y : ℕ) → x ≡ y → interferes g x y ≡ false
not_itself g x y p =
    ap (λ b. (b && are_joined g x y) || (nat_lt y x && are_joined g y x)) (le-ltb x y (omega (arith, p)))
    ∙ ap (λ b. false || (b && are_joined g y x)) (le-ltb y x (omega (arith, p)))

pub either_way : (g : Interference) (x y : ℕ) → interferes g x y ≡ interferes g y x
either_way g x y =
    ⊎_elim (λ (p : x ≡ y). not_itself g x y p ∙ sym (not_itself g y x (sym p)))
    (λ o. ⊎_elim (λ (p : x < y). below g x y p ∙ sym (above g y x p)) (λ (p : y < x). above g x y p
    ∙ sym (below g y x p)) o)
    (cases_order x y)

pub registers_joined : (g : Interference) (x y : ℕ) → y < colours → are_joined g x y ≡ true
registers_joined g x y h = ap (λ b. b || is_among x (neighbours g y)) (lt-ltb y 25 h)

pub temporary_joined : (g : Interference) (x y : ℕ) → colours ≤ y → are_joined g x y ≡ is_among x (neighbours g y)
temporary_joined g x y h = ap (λ b. b || is_among x (neighbours g y)) (le-ltb y 25 h)

true_and_false : (b : Bool) → b ≡ true → b ≡ false → ⊥
true_and_false b p q = cc

pub by_order : (g : Interference) (a b : ℕ) → a ≢ b → interferes g a b ≡ are_joined g (min a b) (max a b)
by_order g a b d =
    ⊎_elim
    (λ (p : a < b).
    let low : min a b ≡ a = omega arith in
    let high : max a b ≡ b = omega arith in
    below g a b p ∙ sym (ap (λ z. are_joined g z (max a b)) low ∙ ap (λ z. are_joined g a z) high))
    (λ (p : b ≤ a).
    let low : min a b ≡ b = omega arith in
    let high : max a b ≡ a = omega arith in
    above g a b (omega arith) ∙ sym (ap (λ z. are_joined g z (max a b)) low ∙ ap (λ z. are_joined g b z) high))
    (cases_lt a b)

-- what interferes with a node is a node
pub stays_below : (g : Interference) (x y : ℕ) → IsGraph g → colours ≤ x → x < g.nodes → interferes g x y ≡ true →
    y < g.nodes
stays_below g x y s h k e =
    ⊎_elim (λ (l : y < g.nodes). l)
    (λ (l : g.nodes ≤ y).
    let past : get_or g.adjacent (y - 25) [] ≡ [] =
    get_or_past g.adjacent (y - 25) [] (omega (arith, s.sized, h, k, l)) in
    absurd (true_and_false (interferes g x y) e
    (below g x y (omega (arith, k, l)) ∙ (temporary_joined g x y (omega (arith, h, k, l)) ∙ ap (is_among x) past))))
    (cases_lt y g.nodes)

pub neighbours_below : (g : Interference) (x m : ℕ) (xs : List ℕ) → IsGraph g → colours ≤ x → x < g.nodes →
    xs ≡ neighbours g x → g.nodes ≡ m →
    All (λ b. b < m) xs
neighbours_below g x m xs s h k e p = λ i d l.
    let among : is_among (get_or xs i d) (neighbours g x) ≡ true =
    ap (is_among (get_or xs i d)) (sym e)
    ∙ list_any_at (nat_eq (get_or xs i d)) xs i d l (eq-eqb (get_or xs i d) (get_or xs i d) refl) in
    let below_all : get_or xs i d < g.nodes =
    stays_below g x (get_or xs i d) s h k (sym (s.exact x (get_or xs i d) h) ∙ among) in
    omega (arith, below_all, p)

pub few_neighbours : (g : Interference) (x : ℕ) → IsGraph g → colours ≤ x → x < g.nodes →
    length (neighbours g x) ≤ g.nodes
few_neighbours g x s h k =
    length-le_from_distinct_below (neighbours g x) g.nodes (s.distinct x)
    (λ q e. stays_below g x q s h k (sym (s.exact x q h) ∙ e))

pub few_counted : (g : Interference) (tiles : List (List ℕ)) (degrees : List ℕ) → IsKept g tiles degrees → (i : ℕ) →
    get_or degrees i 0 ≤ most_nodes
few_counted g tiles degrees s i =
    let here : get_or degrees i 0 ≡ get_or (map length g.adjacent) i 0 = ap (λ ds. get_or ds i 0) s.counted in
    ⊎_elim
    (λ (h : i < length g.adjacent).
    let there : get_or (map length g.adjacent) i 0 ≡ length (get_or g.adjacent i []) =
    get_or-map length g.adjacent i [] 0 h in
    let place : i + 25 - 25 ≡ i = omega arith in
    let few : length (neighbours g (i + 25)) ≤ g.nodes =
    few_neighbours g (i + 25) s.graph (omega arith) (omega (arith, h, s.graph.sized)) in
    let few' : length (get_or g.adjacent i []) ≤ g.nodes =
    subst (λ (j : ℕ). length (get_or g.adjacent j []) ≤ g.nodes) place few in
    omega (arith, here, there, few', s.few))
    (λ (h : length g.adjacent ≤ i).
    let past : get_or (map length g.adjacent) i 0 ≡ 0 =
    get_or_past (map length g.adjacent) i 0 (omega (arith, length-map g.adjacent length, h)) in
    omega (arith, here, past))
    (cases_lt i (length g.adjacent))

pub degree_read : (g : Interference) (tiles : List (List ℕ)) (degrees : List ℕ) (x : ℕ) → IsKept g tiles degrees → colours ≤ x →
    x < g.nodes →
    get_or degrees (x - 25) 0 ≡ length (neighbours g x)
degree_read g tiles degrees x s h k =
    ap (λ ds. get_or ds (x - 25) 0) s.counted
    ∙ get_or-map length g.adjacent (x - 25) [] 0 (omega (arith, h, k, s.graph.sized))

-- Two nodes more are joined.

abbrev pub joined : Interference → (a b : ℕ) → Interference
joined g a b = record { nodes = g.nodes; adjacent = with_neighbour b a (with_neighbour a b g.adjacent) }

-- the graph with these lists
abbrev pub graph_of : ℕ → List (List ℕ) → Interference
graph_of n lists = record { nodes = n; adjacent = lists }

-- the ends of an edge that is there interfere
pub ends_interfere : (g : Interference) (a b x y : ℕ) → interferes g a b ≡ true →
    interferes g x y ≡ (are_ends a b x y || interferes g x y)
ends_interfere g a b x y t =
    absorbed (are_ends a b x y) (interferes g x y)
    (λ e. ⊎_elim
    (λ l. let parts = and_parts (x == a) (y == b) l in
    ap (λ z. interferes g z y) (eqb-true x a parts.0) ∙ (ap (λ z. interferes g a z) (eqb-true y b parts.1) ∙ t))
    (λ r. let parts = and_parts (x == b) (y == a) r in
    ap (λ z. interferes g z y) (eqb-true x b parts.0)
    ∙ (ap (λ z. interferes g b z) (eqb-true y a parts.1) ∙ (either_way g b a ∙ t)))
    (or_cases ((x == a) && (y == b)) ((x == b) && (y == a)) e))
  where
    absorbed : (p q : Bool) → (p ≡ true → q ≡ true) → q ≡ (p || q)
    absorbed true q h = h refl
    absorbed false q h = refl

ends_then : (p q r s o : Bool) → ((p && q) || ((r && s) || o)) ≡ (((r && s) || (p && q)) || o)
ends_then p q r s o = either (p && q) (r && s)
  where
    either : (u v : Bool) → (u || (v || o)) ≡ ((v || u) || o)
    either true true = refl
    either true false = refl
    either false true = refl
    either false false = refl

ends_swap : (p q r s : Bool) → ((p && q) || (r && s)) ≡ ((s && r) || (q && p))
ends_swap true true true true = refl
ends_swap true true true false = refl
ends_swap true true false true = refl
ends_swap true true false false = refl
ends_swap true false true true = refl
ends_swap true false true false = refl
ends_swap true false false true = refl
ends_swap true false false false = refl
ends_swap false true true true = refl
ends_swap false true true false = refl
ends_swap false true false true = refl
ends_swap false true false false = refl
ends_swap false false true true = refl
ends_swap false false true false = refl
ends_swap false false false true = refl
ends_swap false false false false = refl

ends_either_way : (a b x y : ℕ) → are_ends a b y x ≡ are_ends a b x y
ends_either_way a b x y = ends_swap (y == a) (x == b) (y == b) (x == a)

-- what joining asks for
pub record CanJoin (g : Interference) (a b : ℕ) : Type 0 where
  pub graph : IsGraph g
  pub some : colours ≤ g.nodes
  pub first : a < g.nodes
  pub second : b < g.nodes
  pub differ : a ≢ b
  pub apart : interferes g a b ≡ false

-- which the invariant gives, where the nodes don't interfere
pub can_join : (g now : Interference) (tiles : List (List ℕ)) (degrees : List ℕ) (a b : ℕ) → IsKept g tiles degrees → g ≡ now →
    a < now.nodes → b < now.nodes → a ≢ b → interferes now a b ≡ false → CanJoin g a b
can_join g now tiles degrees a b s p i j d e = record {
  graph = s.graph;
  some = s.some;
  first = subst (λ (h : Interference). a < h.nodes) (sym p) i;
  second = subst (λ (h : Interference). b < h.nodes) (sym p) j;
  differ = d;
  apart = ap (λ (h : Interference). interferes h a b) p ∙ e;
}

among_joined : (g : Interference) (a b x y : ℕ) → CanJoin g a b → colours ≤ x →
    is_among y (neighbours (joined g a b) x) ≡ (are_ends a b x y || is_among y (neighbours g x))
among_joined g a b x y j h =
    let sized = j.graph.sized in
    among_with b a x y (with_neighbour a b g.adjacent) h
    (omega (arith, sized, j.some, j.second, length_with a b g.adjacent))
    ∙ (ap (λ o. ((x == b) && (y == a)) || o) (among_with a b x y g.adjacent h (omega (arith, sized, j.some, j.first)))
    ∙ ends_then (x == b) (y == a) (x == a) (y == b) (is_among y (neighbours g x)))

always : (b : Bool) → (b || true) ≡ true
always true = refl
always false = refl

joined_more : (g : Interference) (a b x y : ℕ) → CanJoin g a b →
    are_joined (joined g a b) x y ≡ (are_ends a b x y || are_joined g x y)
joined_more g a b x y j =
    ⊎_elim
    (λ (h : y < 25). registers_joined (joined g a b) x y h
    ∙ sym (ap (λ o. are_ends a b x y || o) (registers_joined g x y h) ∙ always (are_ends a b x y)))
    (λ (h : 25 ≤ y).
    temporary_joined (joined g a b) x y h
    ∙ (among_joined g a b y x j h
    ∙ (ap (λ o. o || is_among x (neighbours g y)) (ends_either_way a b x y)
    ∙ ap (λ o. are_ends a b x y || o) (sym (temporary_joined g x y h)))))
    (cases_lt y 25)

no_ends : (a b x y : ℕ) → a ≢ b → x ≡ y → are_ends a b x y ≡ false
no_ends a b x y d p =
    false_from_ne_true (are_ends a b x y)
    (λ t. ⊎_elim
    (λ l. let parts = and_parts (x == a) (y == b) l in d (sym (eqb-true x a parts.0) ∙ (p ∙ eqb-true y b parts.1)))
    (λ r. let parts = and_parts (x == b) (y == a) r in d (sym (eqb-true y a parts.1) ∙ (sym p ∙ eqb-true x b parts.0)))
    (or_cases ((x == a) && (y == b)) ((x == b) && (y == a)) t))

pub interferes_joined : (g : Interference) (a b x y : ℕ) → CanJoin g a b →
    interferes (joined g a b) x y ≡ (are_ends a b x y || interferes g x y)
interferes_joined g a b x y j =
    ⊎_elim
    (λ (p : x ≡ y). not_itself (joined g a b) x y p
    ∙ sym (ap (λ o. o || interferes g x y) (no_ends a b x y j.differ p) ∙ not_itself g x y p))
    (λ o. ⊎_elim
    (λ (p : x < y). below (joined g a b) x y p
    ∙ (joined_more g a b x y j ∙ ap (λ o. are_ends a b x y || o) (sym (below g x y p))))
    (λ (p : y < x).
    above (joined g a b) x y p
    ∙ (joined_more g a b y x j ∙ (ap (λ o. o || are_joined g y x) (ends_either_way a b x y)
    ∙ ap (λ o. are_ends a b x y || o) (sym (above g x y p)))))
    o)
    (cases_order x y)

pub graph_joined : (g : Interference) (a b : ℕ) → CanJoin g a b → IsGraph (joined g a b)
graph_joined g a b j = record {
  sized = length_with b a (with_neighbour a b g.adjacent) ∙ (length_with a b g.adjacent ∙ j.graph.sized);
  exact = λ x y h. among_joined g a b x y j h
      ∙ (ap (λ o. are_ends a b x y || o) (j.graph.exact x y h) ∙ sym (interferes_joined g a b x y j));
  distinct = λ x. distinct_with b a (with_neighbour a b g.adjacent)
      (distinct_with a b g.adjacent each bound_a new_a) bound_b new_b (x - 25);
}
  where
    bound_a : a < colours + length g.adjacent
    bound_a = omega (arith, j.graph.sized, j.some, j.first)

    bound_b : b < colours + length (with_neighbour a b g.adjacent)
    bound_b = omega (arith, j.graph.sized, j.some, j.second, length_with a b g.adjacent)

    each : (i : ℕ) → IsDistinct nat_eq (get_or g.adjacent i [])
    each i = let place : i + 25 - 25 ≡ i =
        omega arith in subst (λ (k : ℕ). IsDistinct nat_eq (get_or g.adjacent k [])) place (j.graph.distinct (i + 25))

    new_a : 25 ≤ a → is_among b (get_or g.adjacent (a - 25) []) ≡ false
    new_a h = j.graph.exact a b h ∙ j.apart

    new_b : 25 ≤ b → is_among a (get_or (with_neighbour a b g.adjacent) (b - 25) []) ≡ false
    new_b h =
        among_with a b b a g.adjacent h bound_a
        ∙ (ap (λ o. (o && (a == b)) || is_among a (neighbours g b)) (ne_eqb b a (λ e. j.differ (sym e)))
        ∙ (j.graph.exact b a h ∙ (either_way g b a ∙ j.apart)))

-- How it is kept.

ends_told : (a b x y : ℕ) → x < y → a < b → (pair_place x y == pair_place a b) ≡ are_ends a b y x
ends_told a b x y h k =
    ⊎_elim
    (λ (p : x ≡ a).
    ⊎_elim
    (λ (q : y ≡ b).
    eq-eqb (pair_place x y) (pair_place a b) (ap (λ z. pair_place z y) p ∙ ap (λ z. pair_place a z) q)
    ∙ sym (ap (λ o. ((y == a) && (x == b)) || (o && (x == a))) (eq-eqb y b q)
    ∙ (ap (λ o. ((y == a) && (x == b)) || (true && o)) (eq-eqb x a p) ∙ always ((y == a) && (x == b)))))
    (λ (q : y ≢ b).
    ne_eqb (pair_place x y) (pair_place a b) (λ e. q (same_pairs x y a b h k e).1)
    ∙ sym (or_from ((y == a) && (x == b)) ((y == b) && (x == a)) (cross p) (and_left (y == b) (x == a) (ne_eqb y b q))))
    (cases_eq y b))
    (λ (p : x ≢ a).
    ne_eqb (pair_place x y) (pair_place a b) (λ e. p (same_pairs x y a b h k e).0)
    ∙ sym (or_from ((y == a) && (x == b)) ((y == b) && (x == a)) crossed (and_right (y == b) (x == a) (ne_eqb x a p))))
    (cases_eq x a)
  where
    crossed : ((y == a) && (x == b)) ≡ false
    crossed = false_from_ne_true _ (λ t. let parts = and_parts (y == a) (x == b) t in
        let u : y ≡ a = eqb-true y a parts.0 in let v : x ≡ b =
        eqb-true x b parts.1 in absurd (omega (arith, h, k, u, v)))

    cross : x ≡ a → ((y == a) && (x == b)) ≡ false
    cross p = crossed

turned : (p q r s : Bool) → ((p && q) || (r && s)) ≡ ((r && s) || (p && q))
turned p q r s = either (p && q) (r && s)
  where
    either : (u v : Bool) → (u || v) ≡ (v || u)
    either true true = refl
    either true false = refl
    either false true = refl
    either false false = refl

pub ends_by_place : (a b x y : ℕ) → x < y → a ≢ b →
    (pair_place x y == pair_place (min a b) (max a b)) ≡ are_ends a b y x
ends_by_place a b x y h d =
    ⊎_elim
    (λ (k : a < b).
    let low : min a b ≡ a = omega arith in
    let high : max a b ≡ b = omega arith in
    ap (λ z. pair_place x y == pair_place z (max a b)) low
    ∙ (ap (λ z. pair_place x y == pair_place a z) high ∙ ends_told a b x y h k))
    (λ (k : b ≤ a).
    let low : min a b ≡ b = omega arith in
    let high : max a b ≡ a = omega arith in
    let less : b < a = omega arith in
    ap (λ z. pair_place x y == pair_place z (max a b)) low
    ∙ (ap (λ z. pair_place x y == pair_place b z) high
    ∙ (ends_told b a x y h less ∙ turned (y == b) (x == a) (y == a) (x == b))))
    (cases_lt a b)

-- the bit of two nodes tells whether they interfere
pub bit_told : (g : Interference) (tiles : List (List ℕ)) (degrees : List ℕ) (a b : ℕ) → IsKept g tiles degrees →
    a < g.nodes → b < g.nodes → a ≢ b → colours ≤ max a b →
    matrix_bit tiles (pair_place (min a b) (max a b)) ≡ interferes g a b
bit_told g tiles degrees a b s i j d t =
    s.told (min a b) (max a b) (omega arith) (omega arith) t
    ∙ sym (by_order g a b d ∙ temporary_joined g (min a b) (max a b) t)

-- the same graph, kept in other tiles that have the same bits
pub kept_reached : (g : Interference) (tiles : List (List ℕ)) (degrees : List ℕ) (new : List (List ℕ)) →
    IsKept g tiles degrees → length new ≡ length tiles →
    ((k : ℕ) → matrix_bit new k ≡ matrix_bit tiles k) →
    IsKept g new degrees
kept_reached g tiles degrees new s l w = record {
  some = s.some;
  few = s.few;
  graph = s.graph;
  room = l ∙ s.room;
  told = λ x y h k t. w (pair_place x y) ∙ s.told x y h k t;
  counted = s.counted;
}

pub kept_joined : (g : Interference) (tiles : List (List ℕ)) (degrees : List ℕ) (new : List (List ℕ)) (a b : ℕ) →
    IsKept g tiles degrees → CanJoin g a b → length new ≡ length tiles →
    ((k : ℕ) → matrix_bit new k ≡ ((k == pair_place (min a b) (max a b)) || matrix_bit tiles k)) →
    IsKept (joined g a b) new (counted_up b (counted_up a degrees))
kept_joined g tiles degrees new a b s j l w = record {
  some = s.some;
  few = s.few;
  graph = graph_joined g a b j;
  room = l ∙ s.room;
  told = λ x y h k t.
      w (pair_place x y)
      ∙ (ap (λ o. o || matrix_bit tiles (pair_place x y)) (ends_by_place a b x y h j.differ)
      ∙ (ap (λ o. are_ends a b y x || o) (s.told x y h k t) ∙ sym (among_joined g a b y x j t)));
  counted =
      ap (λ ds. counted_up b (counted_up a ds)) s.counted
      ∙ (ap (λ ds. counted_up b ds) (counted_with a b g.adjacent (omega (arith, j.graph.sized, j.some, j.first)))
      ∙ counted_with b a (with_neighbour a b g.adjacent)
      (omega (arith, j.graph.sized, j.some, j.second, length_with a b g.adjacent)));
}

-- Registers alone.

map_replicate : (n : ℕ) → replicate n 0 ≡ map length (replicate {A = List ℕ} n [])
map_replicate zero = refl
map_replicate (suc n) = ap (λ xs. 0 ∷ xs) (map_replicate n)

none_among : (n x y : ℕ) → is_among y (neighbours (bare n) x) ≡ false
none_among n x y = ap (is_among y) (read_replicate (n - 25) (x - 25) [])

none_joined : (n x y : ℕ) → colours ≤ y → are_joined (bare n) x y ≡ false
none_joined n x y h = temporary_joined (bare n) x y h ∙ none_among n y x

none_interferes : (n x y : ℕ) → colours ≤ x → interferes (bare n) x y ≡ false
none_interferes n x y h =
    ⊎_elim (λ (p : x ≡ y). not_itself (bare n) x y p)
    (λ o. ⊎_elim (λ (p : x < y). below (bare n) x y p ∙ none_joined n x y (omega (arith, h, p)))
    (λ (p : y < x). above (bare n) x y p ∙ none_joined n y x h) o)
    (cases_order x y)

pub kept_bare : (n count : ℕ) → colours ≤ n → n ≤ most_nodes → count ≡ tiles_for n →
    IsKept (bare n) (replicate count []) (replicate (n - colours) 0)
unfolding IsDistinct
kept_bare n count h k e = record {
  some = h;
  few = k;
  graph = record {
    sized = length-replicate (n - 25) [];
    exact = λ x y l. none_among n x y ∙ sym (none_interferes n x y l);
    distinct = λ x. subst (λ (xs : List ℕ). IsDistinct nat_eq xs) (sym (read_replicate (n - 25) (x - 25) [])) tt;
  };
  room = length-replicate count [] ∙ e;
  told = λ x y l m t. matrix_unset count (pair_place x y) ∙ sym (none_among n y x);
  counted = map_replicate (n - 25);
}

three : (p q r : Bool) → p ≡ true → q ≡ true → r ≡ true → (p && q && r) ≡ true
three p q r e f g = ap (λ b. b && q && r) e ∙ (ap (λ b. true && b && r) f ∙ ap (λ b. true && true && b) g)

pub registers_alone : (n x y : ℕ) → interferes (bare n) x y ≡ (is_register x && is_register y && not (x == y))
registers_alone n x y =
    ⊎_elim
    (λ (p : x ≡ y). not_itself (bare n) x y p
    ∙ sym (and_right (is_register x && is_register y) (not (x == y)) (ap not (eq-eqb x y p))))
    (λ o. ⊎_elim
    (λ (p : x < y).
    ⊎_elim
    (λ (h : y < 25).
    below (bare n) x y p
    ∙ (registers_joined (bare n) x y h
    ∙ sym (three (is_register x) (is_register y) (not (x == y)) (lt-ltb x 25 (omega (arith, p, h))) (lt-ltb y 25 h)
    (ap not (ne_eqb x y (λ e. omega (arith, p, e)))))))
    (λ (h : 25 ≤ y).
    none_above x y p h
    ∙ sym (and_left (is_register x && is_register y) (not (x == y))
    (and_right (is_register x) (is_register y) (le-ltb y 25 h))))
    (cases_lt y 25))
    (λ (p : y < x).
    ⊎_elim
    (λ (h : x < 25).
    above (bare n) x y p
    ∙ (registers_joined (bare n) y x h
    ∙ sym (three (is_register x) (is_register y) (not (x == y)) (lt-ltb x 25 h) (lt-ltb y 25 (omega (arith, p, h)))
    (ap not (ne_eqb x y (λ e. omega (arith, p, e)))))))
    (λ (h : 25 ≤ x).
    none_interferes n x y h
    ∙ sym (and_left (is_register x && is_register y) (not (x == y))
    (and_left (is_register x) (is_register y) (le-ltb x 25 h))))
    (cases_lt x 25))
    o)
    (cases_order x y)
  where
    none_above : (u v : ℕ) → u < v → 25 ≤ v → interferes (bare n) u v ≡ false
    none_above u v p h = below (bare n) u v p ∙ none_joined n u v h

-- the same graph, kept in the same tiles and counters
pub kept_at : (n : ℕ) (ls ms ts us : List (List ℕ)) (ds es : List ℕ) → ls ≡ ms → ts ≡ us → ds ≡ es →
    IsKept (graph_of n ls) ts ds → IsKept (graph_of n ms) us es
kept_at n ls ms ts us ds es p q r k =
    subst (λ (zs : List ℕ). IsKept (graph_of n ms) us zs) r
    (subst (λ (zs : List (List ℕ)). IsKept (graph_of n ms) zs ds) q
    (subst (λ (zs : List (List ℕ)). IsKept (graph_of n zs) ts ds) p k))
