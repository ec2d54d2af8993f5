-- Lists of neighbours, when one is added.
use Rattle.std.specs.Prelude.{◌==◌, nat_eq}
use Rattle.std.proofs.Common.{◌≡◌, ◌≢◌, ℕ, ◌+◌, ◌-◌, ◌<◌, ◌≤◌, ◌&&◌, ◌||◌, Bool, true, false, eqb, ltb, List, [], ◌∷◌, ◌++◌, length, map, get_or, set}
use Rattle.std.proofs.Common.{refl, sym, ap, ◌∙◌, subst, ⊎_elim, arith}
use Rattle.std.specs.List.{IsDistinct, AllByRecursion}
use Rattle.std.proofs.lemmas.Bool.{cases_eq, cases_lt, eq-eqb, ne_eqb, lt-ltb, le-ltb, cond-true, cond-false, or_parts}
use Rattle.std.proofs.lemmas.List.{get_or-set_other, length-set, map-set, get_or-map, length_push, get_or_past, get_or-set_same}
use Rattle.std.proofs.lemmas.List.Folds.{list_any-append}
use Rattle.tg_graph.specs.Interference.{colours, is_among, with_neighbour}
use Rattle.tg_graph.specs.glue.Keeping.{counted_up}

swapped : (a b : Bool) → (a || (b || false)) ≡ (b || a)
swapped true true = refl
swapped true false = refl
swapped false true = refl
swapped false false = refl

pub among_push : (x y : ℕ) (xs : List ℕ) → is_among x (xs ++ y ∷ []) ≡ ((x == y) || is_among x xs)
among_push x y xs = list_any-append (nat_eq x) xs (y ∷ []) ∙ swapped (is_among x xs) (x == y)

all_push : (P : ℕ → Type 0) (xs : List ℕ) (y : ℕ) → AllByRecursion P xs → P y → AllByRecursion P (xs ++ y ∷ [])
all_push P [] y h p = (p, tt)
all_push P (x ∷ xs) y h p = (h.0, all_push P xs y h.1 p)

pub distinct_push : (xs : List ℕ) (y : ℕ) → IsDistinct nat_eq xs → is_among y xs ≡ false →
    IsDistinct nat_eq (xs ++ y ∷ [])
unfolding IsDistinct
distinct_push [] y h p = (tt, tt)
distinct_push (x ∷ xs) y h p =
    let parts = or_parts (y == x) (is_among y xs) p in
    let other : eqb x y ≡ false = ne_eqb x y (λ e. absurd_test (y == x) (eq-eqb y x (sym e)) parts.0) in
    (all_push (λ z. nat_eq x z ≡ false) xs y h.0 other, distinct_push xs y h.1 parts.1)
  where
    absurd_test : (b : Bool) → b ≡ true → b ≡ false → ⊥
    absurd_test b p q = cc

-- A list that has one more neighbour.

pub with_register : (x y : ℕ) (lists : List (List ℕ)) → x < colours → with_neighbour x y lists ≡ lists
with_register x y lists h = cond-true _ _ _ (lt-ltb x 25 h)

pub with_temporary : (x y : ℕ) (lists : List (List ℕ)) → colours ≤ x →
    with_neighbour x y lists ≡ set lists (x - 25) (get_or lists (x - 25) [] ++ y ∷ [])
with_temporary x y lists h = cond-false _ _ _ (le-ltb x 25 h)

pub length_with : (x y : ℕ) (lists : List (List ℕ)) → length (with_neighbour x y lists) ≡ length lists
length_with x y lists =
    ⊎_elim (λ (h : x < 25). ap length (with_register x y lists h))
    (λ (h : 25 ≤ x). ap length (with_temporary x y lists h) ∙ length-set lists (x - 25) _) (cases_lt x 25)

-- the list at a place, where it is the one that is added to, and where it isn't
pub list_same : (x y i : ℕ) (lists : List (List ℕ)) → colours ≤ x → x < colours + length lists → i ≡ x - 25 →
    get_or (with_neighbour x y lists) i [] ≡ get_or lists i [] ++ y ∷ []
list_same x y i lists h k p =
    let there : get_or (set lists (x - 25) (get_or lists (x - 25) [] ++ y ∷ [])) (x - 25) []
    ≡ get_or lists (x - 25) [] ++ y ∷ [] =
    get_or-set_same lists (x - 25) _ [] (omega (arith, h, k)) in
    ap (λ ls. get_or ls i []) (with_temporary x y lists h)
    ∙ (ap (λ j. get_or (set lists (x - 25) (get_or lists (x - 25) [] ++ y ∷ [])) j []) p
    ∙ (there ∙ ap (λ j. get_or lists j [] ++ y ∷ []) (sym p)))

pub list_other : (x y i : ℕ) (lists : List (List ℕ)) → (25 ≤ x → i ≢ x - 25) →
    get_or (with_neighbour x y lists) i [] ≡ get_or lists i []
list_other x y i lists p =
    ⊎_elim (λ (h : x < 25). ap (λ ls. get_or ls i []) (with_register x y lists h))
    (λ (h : 25 ≤ x). ap (λ ls. get_or ls i []) (with_temporary x y lists h)
    ∙ get_or-set_other lists (x - 25) i _ [] (p h))
    (cases_lt x 25)

pub among_with : (u v x y : ℕ) (lists : List (List ℕ)) → colours ≤ x → u < colours + length lists →
    is_among y (get_or (with_neighbour u v lists) (x - 25) [])
    ≡ (((x == u) && (y == v)) || is_among y (get_or lists (x - 25) []))
among_with u v x y lists h k =
    ⊎_elim
    (λ (p : x ≡ u).
    ap (is_among y) (list_same u v (x - 25) lists (omega (arith, h, p)) k (ap (λ j. j - 25) p))
    ∙ (among_push y v (get_or lists (x - 25) [])
    ∙ sym (ap (λ b. (b && (y == v)) || is_among y (get_or lists (x - 25) [])) (eq-eqb x u p))))
    (λ (p : x ≢ u).
    ap (is_among y) (list_other u v (x - 25) lists (λ l q. p (omega (arith, h, l, q))))
    ∙ sym (ap (λ b. (b && (y == v)) || is_among y (get_or lists (x - 25) [])) (ne_eqb x u p)))
    (cases_eq x u)

pub distinct_with : (u v : ℕ) (lists : List (List ℕ)) → ((i : ℕ) → IsDistinct nat_eq (get_or lists i [])) →
    u < colours + length lists →
    (25 ≤ u → is_among v (get_or lists (u - 25) []) ≡ false) → (i : ℕ) →
    IsDistinct nat_eq (get_or (with_neighbour u v lists) i [])
distinct_with u v lists d k new i =
    let at = λ (xs ys : List ℕ) (e : xs ≡ ys) (q : IsDistinct nat_eq xs).
    subst (λ (zs : List ℕ). IsDistinct nat_eq zs) e q in
    ⊎_elim (λ (h : u < 25). at _ _ (sym (list_other u v i lists (λ l. absurd (omega (arith, h, l))))) (d i))
    (λ (h : 25 ≤ u).
    ⊎_elim
    (λ (p : i ≡ u - 25).
    at _ _ (sym (list_same u v i lists h k p))
    (distinct_push (get_or lists i []) v (d i) (ap (λ j. is_among v (get_or lists j [])) p ∙ new h)))
    (λ (p : i ≢ u - 25). at _ _ (sym (list_other u v i lists (λ _. p))) (d i))
    (cases_eq i (u - 25)))
    (cases_lt u 25)

-- Counters.

pub counted_with : (u v : ℕ) (lists : List (List ℕ)) → u < colours + length lists →
    counted_up u (map length lists) ≡ map length (with_neighbour u v lists)
counted_with u v lists k =
    ⊎_elim
    (λ (h : u < 25). cond-true _ _ _ (lt-ltb u 25 h) ∙ ap (λ ls. map length ls) (sym (with_register u v lists h)))
    (λ (h : 25 ≤ u).
    let count : get_or (map length lists) (u - 25) 0 + 1 ≡ length (get_or lists (u - 25) [] ++ v ∷ []) =
    omega (
      arith,
      get_or-map length lists (u - 25) [] 0 (omega (arith, h, k)),
      length_push (get_or lists (u - 25) []) v,
    ) in
    cond-false _ _ _ (le-ltb u 25 h)
    ∙ (ap (λ n. set (map length lists) (u - 25) n) count
    ∙ (sym (map-set length lists (u - 25) _) ∙ ap (λ ls. map length ls) (sym (with_temporary u v lists h)))))
    (cases_lt u 25)

pub length_counted : (u : ℕ) (counters : List ℕ) → length (counted_up u counters) ≡ length counters
length_counted u counters =
    ⊎_elim (λ (h : u < 25). ap length (cond-true _ _ _ (lt-ltb u 25 h)))
    (λ (h : 25 ≤ u). ap length (cond-false _ _ _ (le-ltb u 25 h)) ∙ length-set counters (u - 25) _)
    (cases_lt u 25)

pub counted_few : (u m : ℕ) (counters : List ℕ) → ((i : ℕ) → get_or counters i 0 ≤ m) → (i : ℕ) →
    get_or (counted_up u counters) i 0 ≤ m + 1
counted_few u m counters few i =
    ⊎_elim (λ (h : u < 25). omega (
      arith,
      ap (λ (cs : List ℕ). get_or cs i 0)
          (cond-true (ltb u 25) counters (set counters (u - 25) (get_or counters (u - 25) 0 + 1)) (lt-ltb u 25 h)),
      few i,
    ))
    (λ (h : 25 ≤ u).
    let here : get_or (counted_up u counters) i 0
    ≡ get_or (set counters (u - 25) (get_or counters (u - 25) 0 + 1)) i 0 =
    ap (λ (cs : List ℕ). get_or cs i 0)
    (cond-false (ltb u 25) counters (set counters (u - 25) (get_or counters (u - 25) 0 + 1)) (le-ltb u 25 h)) in
    ⊎_elim
    (λ (p : i ≡ u - 25).
    ⊎_elim
    (λ (l : u - 25 < length counters).
    let wrote : get_or (set counters (u - 25) (get_or counters (u - 25) 0 + 1)) (u - 25) 0
    ≡ get_or counters (u - 25) 0 + 1 =
    get_or-set_same counters (u - 25) _ 0 l in
    let there : get_or (set counters (u - 25) (get_or counters (u - 25) 0 + 1)) i 0
    ≡ get_or (set counters (u - 25) (get_or counters (u - 25) 0 + 1)) (u - 25) 0 =
    ap (λ j. get_or (set counters (u - 25) (get_or counters (u - 25) 0 + 1)) j 0) p in
    omega (arith, here, there, wrote, few (u - 25)))
    (λ (l : length counters ≤ u - 25).
    let past : get_or (counted_up u counters) i 0 ≡ 0 =
    get_or_past (counted_up u counters) i 0 (omega (arith, length_counted u counters, p, l)) in
    omega (arith, past))
    (cases_lt (u - 25) (length counters)))
    (λ (p : i ≢ u - 25). omega (
      arith,
      here,
      get_or-set_other counters (u - 25) i (get_or counters (u - 25) 0 + 1) 0 p,
      few i,
    ))
    (cases_eq i (u - 25)))
    (cases_lt u 25)
