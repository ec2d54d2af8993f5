-- What is in lists of numbers without repeats, and how many of it pass a test.
use Rattle.std.proofs.Common.{◌≡◌, ◌≢◌, ℕ, zero, suc, ◌+◌, ◌<◌, Bool, true, false, ◌&&◌, ◌||◌, ◌⊎◌, inl, inr}
use Rattle.std.proofs.Common.{List, [], ◌∷◌, length, get_or, All, Some, cond, refl, sym, ap, subst, ◌∙◌, arith}
use Rattle.std.proofs.Common.{⊎_elim}
use Rattle.std.specs.Prelude.{nat_eq, ◌==◌, count_by, slice_get}
use Rattle.std.specs.List.{IsDistinct, AllByRecursion, list_any}
use Rattle.std.proofs.lemmas.List.Sums.{sum_by-cons}
use Rattle.std.proofs.lemmas.List.Folds.{list_any_at}
use Rattle.tg_graph.specs.Interference.{is_among}
use Rattle.tg_irc_definition.specs.Graphs.{Set, bit, count, without}
use Rattle.tg_irc_definition.proofs.Deciding.{clash, both, and_true, either, or_left, or_right, tells, same_node, same_test}
use Rattle.tg_irc_definition.proofs.Counting.{count_le, count_out, stays_in, was_in}

pub one_bit : {b : Bool} → b ≡ true → bit b ≡ 1
one_bit e = ap bit e

pub no_bit : {b : Bool} → b ≡ false → bit b ≡ 0
no_bit e = ap bit e

-- two tests that follow from each other
pub same_tests : (a b : Bool) → (a ≡ true → b ≡ true) → (b ≡ true → a ≡ true) → a ≡ b
same_tests true b f h = sym (f refl)
same_tests false true f h = h refl
same_tests false false f h = refl

pub is_bit : {b : Bool} → bit b ≡ 1 → b ≡ true
is_bit {b = true} e = refl
is_bit {b = false} e = absurd (omega arith)

cond_bit : (b : Bool) → cond b 1 0 ≡ bit b
cond_bit true = refl
cond_bit false = refl

pub count_cons : {A : Type 0} (p : A → Bool) (x : A) (xs : List A) → count_by p (x ∷ xs) ≡ bit (p x) + count_by p xs
count_cons p x xs =
    let one = sum_by-cons (λ y. cond (p y) 1 0) x xs in
    let b = cond_bit (p x) in
    omega (arith, one, b)

-- the first of a list is in it
pub among_first : (xs : List ℕ) (x : ℕ) → slice_get xs 0 ≡ Some x → is_among x xs ≡ true
among_first [] x e = cc
among_first (y ∷ ys) x e = or_left (x == y) _ (same_test x y (the_same e))
  where
    the_same : Some y ≡ Some x → x ≡ y
    the_same e = cc

-- what stands at a place is in the list
pub among_at : (xs : List ℕ) (i d : ℕ) → i < length xs → is_among (get_or xs i d) xs ≡ true
among_at xs i d l = list_any_at (nat_eq (get_or xs i d)) xs i d l (same_test _ _ refl)

-- what holds of each number of a list
pub all_among : (P : ℕ → Type 0) (x : ℕ) (xs : List ℕ) → All P xs → is_among x xs ≡ true → P x
all_among P x [] h e = cc
all_among P x (y ∷ ys) h e =
    ⊎_elim (λ s. subst P (sym (same_node x y s)) (h 0 0 (omega arith)))
    (λ s. all_among P x ys (λ k d l. h (suc k) d (omega arith)) s)
    (either (x == y) (is_among x ys) e)

pub all_from_among : (P : ℕ → Type 0) (xs : List ℕ) → ((x : ℕ) → is_among x xs ≡ true → P x) → All P xs
all_from_among P xs h = λ k d l. h (get_or xs k d) (among_at xs k d l)

-- what passes of a list
pub any_among : (p : ℕ → Bool) (x : ℕ) (xs : List ℕ) → is_among x xs ≡ true → p x ≡ true → list_any p xs ≡ true
any_among p x [] e t = cc
any_among p x (y ∷ ys) e t =
    ⊎_elim (λ s. or_left (p y) (list_any p ys) (subst (λ z. p z ≡ true) (same_node x y s) t))
    (λ s. or_right (p y) (list_any p ys) (any_among p x ys s t))
    (either (x == y) (is_among x ys) e)

pub any_found : (p : ℕ → Bool) (xs : List ℕ) → list_any p xs ≡ true → (x : ℕ) × (is_among x xs ≡ true) × (p x ≡ true)
any_found p [] e = cc
any_found p (y ∷ ys) e =
    ⊎_elim (λ s. (y, or_left (y == y) (is_among y ys) (same_test y y refl), s))
    (λ s. let found = any_found p ys s in (found.0, or_right (found.0 == y) (is_among found.0 ys) found.1, found.2))
    (either (p y) (list_any p ys) e)

-- a list without repeats
pub not_again : (x : ℕ) (xs : List ℕ) → IsDistinct nat_eq (x ∷ xs) → is_among x xs ≡ false
unfolding IsDistinct
not_again x xs h = none xs h.0
  where
    none : (ys : List ℕ) → AllByRecursion (λ y. nat_eq x y ≡ false) ys → is_among x ys ≡ false
    none [] t = refl
    none (y ∷ ys) t = ap (λ b. b || is_among x ys) t.0 ∙ none ys t.1

pub distinct_rest : (x : ℕ) (xs : List ℕ) → IsDistinct nat_eq (x ∷ xs) → IsDistinct nat_eq xs
unfolding IsDistinct
distinct_rest x xs h = h.1

-- in which a number is at most once
pub count_once : (x : ℕ) (xs : List ℕ) → IsDistinct nat_eq xs → count_by (nat_eq x) xs ≡ bit (is_among x xs)
count_once x [] h = refl
count_once x (y ∷ ys) h = by (tells (x == y)) (count_once x ys (distinct_rest y ys h))
  where
    by : ((x == y) ≡ true) ⊎ ((x == y) ≡ false) → count_by (nat_eq x) ys ≡ bit (is_among x ys) →
        count_by (nat_eq x) (y ∷ ys) ≡ bit ((x == y) || is_among x ys)
    by (inl e) r =
        let none : bit (is_among x ys) ≡ 0 =
        no_bit (subst (λ z. is_among z ys ≡ false) (sym (same_node x y e)) (not_again y ys h)) in
        let here : bit ((x == y) || is_among x ys) ≡ 1 = one_bit (or_left _ (is_among x ys) e) in
        let one = one_bit e in
        let c = count_cons (nat_eq x) y ys in
        omega (arith, none, here, one, c, r)
    by (inr e) r =
        let there : bit ((x == y) || is_among x ys) ≡ bit (is_among x ys) = ap (λ b. bit (b || is_among x ys)) e in
        let zero = no_bit e in
        let c = count_cons (nat_eq x) y ys in
        omega (arith, there, zero, c, r)

-- where a count is 0 nothing passes, and where something passes it isn't
pub count_some : (p : ℕ → Bool) (x : ℕ) (xs : List ℕ) → is_among x xs ≡ true → p x ≡ true → 0 < count_by p xs
count_some p x [] e t = cc
count_some p x (y ∷ ys) e t =
    ⊎_elim
    (λ s. let b : bit (p y) ≡ 1 = one_bit (subst (λ z. p z ≡ true) (same_node x y s) t) in
    omega (arith, b, count_cons p y ys))
    (λ s. omega (arith, count_some p x ys s t, count_cons p y ys))
    (either (x == y) (is_among x ys) e)

pub count_found : (p : ℕ → Bool) (xs : List ℕ) → 0 < count_by p xs → (x : ℕ) × (is_among x xs ≡ true) × (p x ≡ true)
count_found p [] l = absurd (omega arith)
count_found p (y ∷ ys) l = by (tells (p y)) (count_found p ys)
  where
    by : (p y ≡ true) ⊎ (p y ≡ false) →
        (0 < count_by p ys → (x : ℕ) × (is_among x ys ≡ true) × (p x ≡ true)) →
        (x : ℕ) × (((x == y) || is_among x ys) ≡ true) × (p x ≡ true)
    by (inl e) r = (y, or_left _ (is_among y ys) (same_test y y refl), e)
    by (inr e) r =
        let b = no_bit e in
        let found = r (omega (arith, l, b, count_cons p y ys)) in
        (found.0, or_right _ _ found.1, found.2)

-- those that pass, counted as numbers below n
pub count_of_list : (p : Set) (xs : List ℕ) (n : ℕ) → IsDistinct nat_eq xs → ((x : ℕ) → is_among x xs ≡ true → x < n) →
    count_by p xs ≡ count (λ x. is_among x xs && p x) n
count_of_list p [] n h below = sym (none n)
  where
    none : (m : ℕ) → count (λ x. false) m ≡ 0
    none zero = refl
    none (suc m) = let r = none m in omega (arith, r)
count_of_list p (y ∷ ys) n h below =
    by (tells (p y)) (count_of_list p ys n (distinct_rest y ys h) (λ x e. below x (or_right (x == y) _ e)))
  where
    whole : Set
    whole x = ((x == y) || is_among x ys) && p x

    rest : Set
    rest x = is_among x ys && p x

    of_rest : (x : ℕ) → rest x ≡ true → whole x ≡ true
    of_rest x t = let q = both (is_among x ys) (p x) t in and_true (or_right (x == y) _ q.0) q.1

    not_y : (x : ℕ) → rest x ≡ true → x ≢ y
    not_y x t s = clash (subst (λ z. is_among z ys ≡ true) s (both (is_among x ys) (p x) t).0) (not_again y ys h)

    to_rest : (x : ℕ) → whole x ≡ true → (x ≡ y → ⊥) → rest x ≡ true
    to_rest x t d =
        let q = both ((x == y) || is_among x ys) (p x) t in
        and_true (⊎_elim (λ s. absurd (d (same_node x y s))) (λ s. s) (either (x == y) (is_among x ys) q.0)) q.1

    by : (p y ≡ true) ⊎ (p y ≡ false) → count_by p ys ≡ count rest n → count_by p (y ∷ ys) ≡ count whole n
    by (inl e) r =
        let out = count_out whole y n (below y (or_left _ (is_among y ys) (same_test y y refl)))
        (and_true (or_left _ (is_among y ys) (same_test y y refl)) e) in
        let there = count_le rest (without y whole) n (λ x l t. stays_in y x whole (not_y x t) (of_rest x t)) in
        let back = count_le (without y whole) rest n (λ x l t. let o = was_in y x whole t in to_rest x o.1 o.0) in
        let b = one_bit e in
        omega (arith, out, there, back, b, r, count_cons p y ys)
    by (inr e) r =
        let there = count_le rest whole n (λ x l t. of_rest x t) in
        let back = count_le whole rest n (λ x l t. to_rest x t
        (λ s. clash (subst (λ z. p z ≡ true) s (both ((x == y) || is_among x ys) (p x) t).1) e)) in
        let b = no_bit e in
        omega (arith, there, back, b, r, count_cons p y ys)
