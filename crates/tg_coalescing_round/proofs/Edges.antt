-- What the kept node of a merge leaves as it was, as it takes the neighbours of the one that goes.
use Rattle.std.proofs.Common.{◌≡◌, ◌≢◌, ℕ, ◌+◌, ◌-◌, ◌<◌, ◌≤◌, true, false, not, ◌&&◌, List, [], ◌∷◌, ◌++◌, length, get_or, set, refl, sym, ap, ◌∙◌, arith}
use Rattle.std.specs.Prelude.{nat_eq, nat_lt, if◌then◌else◌, fold}
use Rattle.std.proofs.lemmas.Bool.{and_from, cond-false, cond-true, cond_both, le-ltb, lt-ltb, ltb-false, eqb-false, or_from, or_parts, and_left}
use Rattle.std.proofs.lemmas.List.{get_or-set_other, get_or-set_same, get_or_past, get_or_read, length-set}
use Rattle.std.proofs.Math.Bool.{or_comm}
use Rattle.tg_graph.specs.Interference.{Interference, are_joined, colours, interferes, is_among, is_register, neighbours, with_edge, with_neighbour}
use Rattle.tg_coalescing_round.specs.glue.Lists.{raised}
use Rattle.tg_coalescing_round.specs.glue.Works.{Work, degree_at, is_left}
use Rattle.tg_coalescing_round.specs.mirror.Steps.{bereft, passed_edge, passed_on}
use Rattle.tg_coalescing_round.proofs.Folds.{fold_keeps, fold_keeps_off}
use Rattle.tg_coalescing_round.proofs.Keeping.{either}
use Rattle.tg_coalescing_round.proofs.Stepping.{bereft_degree, bereft_graph, bereft_left, raised_other}

-- Pairs have no order, and no node interferes with itself.

pub interferes_either_way : (g : Interference) (x y : ℕ) → interferes g x y ≡ interferes g y x
interferes_either_way g x y = or_comm (nat_lt x y && are_joined g x y) (nat_lt y x && are_joined g y x)

pub interferes_not_itself : (g : Interference) (x : ℕ) → interferes g x x ≡ false
interferes_not_itself g x =
    let none : (nat_lt x x && are_joined g x x) ≡ false =
    and_left (nat_lt x x) (are_joined g x x) (le-ltb x x (omega arith)) in
    or_from (nat_lt x x && are_joined g x x) (nat_lt x x && are_joined g x x) none none

-- two registers interfere
pub registers_apart : (g : Interference) (x y : ℕ) → x < colours → y < colours → x ≢ y → interferes g x y ≡ true
registers_apart g x y h k d = grind (arith, lt-ltb)

-- The list of another temporary.

other_list : (node number y : ℕ) (lists : List (List ℕ)) → colours ≤ y → y ≢ node →
    get_or (with_neighbour node number lists) (y - 25) [] ≡ get_or lists (y - 25) []
other_list node number y lists h d =
    cond_both (is_register node) lists (set lists (node - 25) (get_or lists (node - 25) [] ++ number ∷ []))
    (λ (ls : List (List ℕ)). get_or ls (y - 25) [] ≡ get_or lists (y - 25) []) (λ e. refl)
    (λ e.
    get_or-set_other lists (node - 25) (y - 25) (get_or lists (node - 25) [] ++ number ∷ []) []
    (λ p. d (omega (arith, ltb-false node 25 e))))

other_neighbours : (g : Interference) (a b y : ℕ) → colours ≤ y → y ≢ a → y ≢ b →
    neighbours (with_edge g a b) y ≡ neighbours g y
other_neighbours g a b y h d e =
    either (λ (f : Interference). neighbours f y) (interferes g a b) g _ (neighbours g y) refl
    (other_list b a y (with_neighbour a b g.adjacent) h e ∙ other_list a b y g.adjacent h d)

-- The kept node takes one neighbour.

module _ (kept : ℕ) (w : Work) (z : ℕ) where
  abbrev joined : Work
  joined = record w {
    graph = with_edge w.graph kept z;
    degrees = if is_left w.lists z && not (is_register kept) then raised kept w.degrees else w.degrees;
  }

  pub passed_nodes : (passed_edge kept w z).graph.nodes ≡ w.graph.nodes
  unfolding passed_edge
  passed_nodes =
      either (λ (v : Work). v.graph.nodes) (interferes w.graph kept z) (bereft w z) joined w.graph.nodes
      (ap (λ (g : Interference). g.nodes) (bereft_graph w z))
      (either (λ (g : Interference). g.nodes) (interferes w.graph kept z) w.graph _ w.graph.nodes refl refl)

  passed_neighbours : (y : ℕ) → colours ≤ y → y ≢ kept → y ≢ z →
      neighbours (passed_edge kept w z).graph y ≡ neighbours w.graph y
  unfolding passed_edge
  passed_neighbours y h d e =
      either (λ (v : Work). neighbours v.graph y) (interferes w.graph kept z) (bereft w z) joined (neighbours w.graph y)
      (ap (λ (g : Interference). neighbours g y) (bereft_graph w z))
      (other_neighbours w.graph kept z y h d e)

  passed_left : (y : ℕ) → is_left (passed_edge kept w z).lists y ≡ is_left w.lists y
  unfolding passed_edge
  passed_left y =
      either (λ (v : Work). is_left v.lists y) (interferes w.graph kept z) (bereft w z) joined (is_left w.lists y)
      (bereft_left w z y) refl

  passed_degree : (y : ℕ) → y ≢ kept → y ≢ z → degree_at (passed_edge kept w z) y ≡ degree_at w y
  unfolding passed_edge
  passed_degree y d e =
      either (λ (v : Work). degree_at v y) (interferes w.graph kept z) (bereft w z) joined (degree_at w y)
      (bereft_degree w z y e)
      (either (λ (ds : List ℕ). get_or ds y 0) (is_left w.lists z && not (is_register kept)) (raised kept w.degrees)
      w.degrees (degree_at w y) (raised_other kept y w.degrees d) refl)

  raised_at_most : (x : ℕ) (ds : List ℕ) → get_or (raised x ds) x 0 ≤ get_or ds x 0 + 1
  raised_at_most x ds = grind (arith, get_or-set_same {A = ℕ}, get_or_past {X = ℕ}, length-set {A = ℕ})

  passed_kept : kept ≢ z → degree_at (passed_edge kept w z) kept ≤ degree_at w kept + 1
  unfolding passed_edge
  passed_kept d =
      cond_both (interferes w.graph kept z) (bereft w z) joined (λ (v : Work). degree_at v kept ≤ degree_at w kept + 1)
      (λ e. omega (arith, bereft_degree w z kept d))
      (λ e.
      cond_both (is_left w.lists z && not (is_register kept)) (raised kept w.degrees) w.degrees
      (λ (ds : List ℕ). get_or ds kept 0 ≤ degree_at w kept + 1) (λ f. raised_at_most kept w.degrees)
      (λ f. omega arith))

-- It is done in place.

pub passed_near : (kept : ℕ) (w : Work) (z : ℕ) → interferes w.graph kept z ≡ true → passed_edge kept w z ≡ bereft w z
unfolding passed_edge
passed_near kept w z e = cond-true (interferes w.graph kept z) (bereft w z) _ e

passed_far : (kept : ℕ) (w : Work) (z : ℕ) → interferes w.graph kept z ≡ false → passed_edge kept w z ≡ joined kept w z
unfolding passed_edge
passed_far kept w z e = cond-false (interferes w.graph kept z) _ (joined kept w z) e

module _ (kept : ℕ) (v w : Work) (z : ℕ) (same : v ≡ w) (a : interferes v.graph kept z ≡ false) (g : Interference)
    (f : g ≡ with_edge v.graph kept z) where
  as_passed : (ds : List ℕ) → (if is_left v.lists z && not (is_register kept) then raised kept v.degrees else v.degrees) ≡ ds →
      record v { graph = g; degrees = ds } ≡ passed_edge kept w z
  as_passed ds e =
      ap (λ h. record v { graph = h; degrees = ds }) f
      ∙ (ap (λ es. record v { graph = with_edge v.graph kept z; degrees = es }) (sym e)
      ∙ (sym (passed_far kept v z a) ∙ ap (λ (u : Work). passed_edge kept u z) same))

  pub raised_done : is_left v.lists z ≡ true → is_register kept ≡ false → (d : ℕ) → kept < length v.degrees →
      d ≡ get_or v.degrees kept d →
      record v { graph = g; degrees = set v.degrees kept (d + 1) } ≡ passed_edge kept w z
  raised_done t r d l read =
      as_passed (set v.degrees kept (d + 1))
      (cond-true (is_left v.lists z && not (is_register kept)) (raised kept v.degrees) v.degrees
      (and_from (is_left v.lists z) (not (is_register kept)) t (ap not r))
      ∙ ap (λ n. set v.degrees kept (n + 1)) (sym (get_or_read v.degrees kept d l read 0)))

  pub unraised_done : (is_left v.lists z && not (is_register kept)) ≡ false → record v { graph = g } ≡ passed_edge kept w z
  unraised_done t =
      as_passed v.degrees (cond-false (is_left v.lists z && not (is_register kept)) (raised kept v.degrees) v.degrees t)

-- It takes several.

module _ (kept : ℕ) (w : Work) (zs : List ℕ) where
  pub all_passed_nodes : (fold (passed_on kept) w zs).graph.nodes ≡ w.graph.nodes
  all_passed_nodes = fold_keeps (passed_on kept) (λ v. v.graph.nodes) (λ v z. passed_nodes kept v z) w zs

  pub all_passed_neighbours : (y : ℕ) → colours ≤ y → y ≢ kept → is_among y zs ≡ false →
      neighbours (fold (passed_on kept) w zs).graph y ≡ neighbours w.graph y
  all_passed_neighbours y h d p =
      fold_keeps_off (passed_on kept) (λ v. neighbours v.graph y) y (λ v z e. passed_neighbours kept v z y h d e) w zs p

  pub all_passed_left : (y : ℕ) → is_left (fold (passed_on kept) w zs).lists y ≡ is_left w.lists y
  all_passed_left y = fold_keeps (passed_on kept) (λ v. is_left v.lists y) (λ v z. passed_left kept v z y) w zs

  pub all_passed_degree : (y : ℕ) → y ≢ kept → is_among y zs ≡ false →
      degree_at (fold (passed_on kept) w zs) y ≡ degree_at w y
  all_passed_degree y d p =
      fold_keeps_off (passed_on kept) (λ v. degree_at v y) y (λ v z e. passed_degree kept v z y d e) w zs p

pub all_passed_kept : (kept : ℕ) (w : Work) (zs : List ℕ) → is_among kept zs ≡ false →
    degree_at (fold (passed_on kept) w zs) kept ≤ degree_at w kept + length zs
all_passed_kept kept w [] p = omega arith
all_passed_kept kept w (z ∷ zs) p =
    let parts = or_parts (nat_eq kept z) (is_among kept zs) p in
    omega (
      arith,
      passed_kept kept w z (eqb-false kept z parts.0),
      all_passed_kept kept (passed_on kept w z) zs parts.1,
    )
