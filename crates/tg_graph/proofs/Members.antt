-- What is in a list without a node, with one more, and in a range.
use Rattle.std.specs.Prelude.{◌==◌, nat_eq, nat_lt, if◌then◌else◌}
use Rattle.std.proofs.Common.{◌≡◌, ◌≢◌, ℕ, zero, suc, ◌+◌, ◌<◌, ◌≤◌, ◌||◌, Bool, true, false, List, [], ◌∷◌, ◌++◌, length, Option, Some, None, IfSome}
use Rattle.std.proofs.Common.{slice_get, refl, sym, ap, ◌∙◌, subst, ⊎_elim, arith}
use Rattle.std.specs.List.{range_with_len}
use Rattle.std.specs.Bool.{then_some}
use Rattle.std.proofs.lemmas.Bool.{cases_eq, cases_lt, eq-eqb, ne_eqb, lt-ltb, le-ltb, cond-true, cond-false}
use Rattle.std.proofs.lemmas.List.Folds.{list_any-append}
use Rattle.tg_graph.specs.Interference.{is_among}
use Rattle.tg_graph.specs.Lists.{without, after}
use Rattle.tg_graph.specs.glue.Chains.{LeadsAlong}
use Rattle.tg_graph.proofs.Runs.{without_same, without_other}

abbrev pub bit : Bool → ℕ
bit true = 1
bit false = 0

pub among_without_same : (x : ℕ) (xs : List ℕ) → is_among x (without x xs) ≡ false
among_without_same x [] = refl
among_without_same x (u ∷ us) =
    ⊎_elim (λ (p : x ≡ u). ap (is_among x) (without_same x u us p) ∙ among_without_same x us)
    (λ (p : x ≢ u). ap (is_among x) (without_other x u us p)
    ∙ (ap (λ b. b || is_among x (without x us)) (ne_eqb x u p) ∙ among_without_same x us))
    (cases_eq x u)

pub among_without_other : (x y : ℕ) (xs : List ℕ) → y ≢ x → is_among y (without x xs) ≡ is_among y xs
among_without_other x y [] d = refl
among_without_other x y (u ∷ us) d =
    ⊎_elim
    (λ (p : x ≡ u).
    ap (is_among y) (without_same x u us p)
    ∙ (among_without_other x y us d ∙ sym (ap (λ b. b || is_among y us) (ne_eqb y u (λ e. d (e ∙ sym p))))))
    (λ (p : x ≢ u). ap (is_among y) (without_other x u us p) ∙ ap (λ b. (y == u) || b) (among_without_other x y us d))
    (cases_eq x u)

pub length_without : (x : ℕ) (xs : List ℕ) → length (without x xs) + bit (is_among x xs) ≤ length xs
length_without x [] = omega arith
length_without x (u ∷ us) =
    ⊎_elim
    (λ (p : x ≡ u).
    let shorter = ap length (without_same x u us p) in
    let there : bit (is_among x (u ∷ us)) ≡ 1 = ap (λ b. bit (b || is_among x us)) (eq-eqb x u p) in
    omega (arith, shorter, there, length_without x us))
    (λ (p : x ≢ u).
    let same = ap length (without_other x u us p) in
    let there : bit (is_among x (u ∷ us)) ≡ bit (is_among x us) = ap (λ b. bit (b || is_among x us)) (ne_eqb x u p) in
    omega (arith, same, there, length_without x us))
    (cases_eq x u)

or_false : (b : Bool) → (b || false) ≡ b
or_false true = refl
or_false false = refl

false_or : (b c : Bool) → b ≡ false → (b || c) ≡ c
false_or b c p = ap (λ d. d || c) p

-- a list with a node after it, where that is so
pub among_added_same : (x : ℕ) (xs : List ℕ) (b : Bool) → is_among x xs ≡ false →
    is_among x (xs ++ (if b then x ∷ [] else [])) ≡ b
among_added_same x xs true p = list_any-append (nat_eq x) xs (x ∷ [])
    ∙ (false_or (is_among x xs) _ p ∙ ap (λ b. b || false) (eq-eqb x x refl))
among_added_same x xs false p = list_any-append (nat_eq x) xs [] ∙ false_or (is_among x xs) _ p

pub among_added_other : (x y : ℕ) (xs : List ℕ) (b : Bool) → y ≢ x →
    is_among y (xs ++ (if b then x ∷ [] else [])) ≡ is_among y xs
among_added_other x y xs true d =
    list_any-append (nat_eq y) xs (x ∷ [])
    ∙ (ap (λ b. is_among y xs || (b || false)) (ne_eqb y x d) ∙ or_false (is_among y xs))
among_added_other x y xs false d = list_any-append (nat_eq y) xs [] ∙ or_false (is_among y xs)

pub among_below : (x a k : ℕ) → x < a → is_among x (range_with_len a k) ≡ false
among_below x a zero h = refl
among_below x a (suc k) h = ap (λ b. b || is_among x (range_with_len (a + 1) k)) (ne_eqb x a (λ e. omega (arith, e, h)))
    ∙ among_below x (a + 1) k (omega (arith, h))

pub among_above : (x a k : ℕ) → a + k ≤ x → is_among x (range_with_len a k) ≡ false
among_above x a zero h = refl
among_above x a (suc k) h = ap (λ b. b || is_among x (range_with_len (a + 1) k)) (ne_eqb x a (λ e. omega (arith, e, h)))
    ∙ among_above x (a + 1) k (omega (arith, h))

pub among_within : (x a k : ℕ) → a ≤ x → x < a + k → is_among x (range_with_len a k) ≡ true
among_within x a zero h l = absurd (omega (arith, h, l))
among_within x a (suc k) h l =
    ⊎_elim (λ (p : x ≡ a). ap (λ b. b || is_among x (range_with_len (a + 1) k)) (eq-eqb x a p))
    (λ (p : x ≢ a).
    ap (λ b. b || is_among x (range_with_len (a + 1) k)) (ne_eqb x a p)
    ∙ among_within x (a + 1) k (omega (arith, h, p)) (omega (arith, l)))
    (cases_eq x a)

-- The front of a run, and what stands after a node.

at_node : (n y : ℕ) → y < n → then_some (nat_lt y n) y ≡ Some y
at_node n y h = ap (λ b. then_some b y) (lt-ltb y n h)

at_end : (n y : ℕ) → n ≤ y → then_some (nat_lt y n) y ≡ None
at_end n y h = ap (λ b. then_some b y) (le-ltb y n h)

pub some_below : (y n m : ℕ) → n ≡ m → IfSome (then_some (nat_lt y n) y) (λ x. x < m)
some_below y n m e =
    ⊎_elim (λ (h : y < n). subst (λ (o : Option ℕ). IfSome o (λ x. x < m)) (sym (at_node n y h)) (omega (arith, h, e)))
    (λ (h : n ≤ y). subst (λ (o : Option ℕ). IfSome o (λ x. x < m)) (sym (at_end n y h)) tt)
    (cases_lt y n)

pub front_of : (next : ℕ → ℕ) (n end y : ℕ) (xs : List ℕ) → n ≤ end → LeadsAlong next n y xs end →
    then_some (nat_lt y n) y ≡ slice_get xs 0
front_of next n end y [] h r = at_end n y (omega (arith, h, r))
front_of next n end y (x ∷ xs) h r = at_node n y (omega (arith, r.0, r.1)) ∙ ap Some r.0

pub behind_of : (next : ℕ → ℕ) (n end x y : ℕ) (xs : List ℕ) → n ≤ end → LeadsAlong next n y xs end → is_among x xs ≡ true →
    then_some (nat_lt (next x) n) (next x) ≡ after x xs
behind_of next n end x y [] h r t = absurd (none t)
  where
    none : false ≡ true → ⊥
    none p = cc
behind_of next n end x y (u ∷ us) h r t =
    ⊎_elim
    (λ (p : x ≡ u).
    ap (λ v. then_some (nat_lt (next v) n) (next v)) p
    ∙ (front_of next n end (next u) us h r.2 ∙ sym (cond-true _ _ _ (eq-eqb x u p))))
    (λ (p : x ≢ u).
    behind_of next n end x (next u) us h r.2 (sym (false_or (x == u) (is_among x us) (ne_eqb x u p)) ∙ t)
    ∙ sym (cond-false _ _ _ (ne_eqb x u p)))
    (cases_eq x u)
