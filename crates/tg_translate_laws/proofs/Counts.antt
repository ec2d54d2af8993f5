-- How often a label stands in a list, and how often among those that were drawn.
use Rattle.std.proofs.Common.{◌≡◌, ◌≢◌, ◌<◌, ◌≤◌, ◌+◌, ℕ, zero, suc, Bool, true, false, List, [], ◌∷◌, ◌++◌, length, map, get_or, arith, refl, ap, subst}
use Rattle.std.specs.Prelude.{◌==◌, nat_lt, if◌then◌else◌}
use Rattle.std.specs.List.{Contains, AllPairs}
use Rattle.std.proofs.lemmas.Bool.Decides.{nat_tests}
use Rattle.std.proofs.lemmas.List.Kept.{AllPairs-cons}

abbrev pub same : ℕ → ℕ → ℕ
same a b = if a == b then 1 else 0

abbrev pub below : (n end : ℕ) → ℕ
below n end = if nat_lt n end then 1 else 0

abbrev pub times : {X : Type 0} → (label : X → ℕ) → (n : ℕ) → List X → ℕ
times label n [] = 0
times label n (x ∷ xs) = same (label x) n + times label n xs

pub times-append : {X : Type 0} (label : X → ℕ) (n : ℕ) (xs ys : List X) → times label n (xs ++ ys) ≡ times label n xs +
    times label n ys
times-append label n [] ys = omega arith
times-append label n (x ∷ xs) ys = let h = times-append label n xs ys in omega (arith, h)

pub below-next : (n end : ℕ) → below n (end + 1) ≡ below n end + same end n
below-next n end = grind (arith, nat_tests)

pub below_yes : (n end : ℕ) → n < end → below n end ≡ 1
below_yes n end h = grind (arith, nat_tests)

pub below_no : (n end : ℕ) → end ≤ n → below n end ≡ 0
below_no n end h = grind (arith, nat_tests)

pub below_one : (n end : ℕ) → below n end ≤ 1
below_one n end = grind (arith, nat_tests)

pub same_self : (a : ℕ) → same a a ≡ 1
same_self a = grind (arith, nat_tests)

pub same_not : (a b : ℕ) → a ≢ b → same a b ≡ 0
same_not a b h = grind (arith, nat_tests)

pub same_is : (a b : ℕ) → 0 < same a b → a ≡ b
same_is a b h = grind (arith, nat_tests)

-- what stands in a list is counted there, and what is counted stands in it
pub contained_counts : {X : Type 0} (label : X → ℕ) (xs : List X) (n : ℕ) → Contains (map label xs) n → 0 < times label
    n xs
contained_counts label [] n c = absurd (omega (arith, c.1))
contained_counts label (x ∷ xs) n (zero, l, e) = let h : same (label x) n ≡ 1 = subst (λ y. same (label x) y ≡ 1) e
    (same_self (label x)) in omega (arith, h)
contained_counts label (x ∷ xs) n (suc k, l, e) = let h = contained_counts label xs n (k, omega arith, e) in omega
    (arith, h)

counted_either : {X : Type 0} (label : X → ℕ) (x : X) (xs : List X) (n : ℕ) (b : Bool) → (label x == n) ≡ b →
    (0 < times label n xs → Contains (map label xs) n) → 0 < times label n (x ∷ xs) → Contains (map label (x ∷ xs)) n
counted_either label x xs n true e more h = (0, omega arith, grind (arith, nat_tests, e))
counted_either label x xs n false e more h =
    let c = more (let k : same (label x) n ≡ 0 = ap (λ v. if v then 1 else 0) e in omega (arith, h, k)) in
    (suc c.0, omega (arith, c.1), c.2)

pub counted_contains : {X : Type 0} (label : X → ℕ) (xs : List X) (n : ℕ) → 0 < times label n xs → Contains
    (map label xs) n
counted_contains label [] n h = absurd (omega (arith, h))
counted_contains label (x ∷ xs) n h = counted_either label x xs n (label x == n) refl (counted_contains label xs n) h

-- so many labels, one after another
abbrev pub counted_from : (first count : ℕ) → List ℕ
counted_from first zero = []
counted_from first (suc count) = first ∷ counted_from (first + 1) count

times-counted : (n first count end : ℕ) → first + count ≡ end → times (λ l. l) n (counted_from first count) + below n first ≡ below n end
times-counted n first zero end e =
    let last : first ≡ end = omega (arith, e) in
    let h : below n first ≡ below n end = ap (below n) last in
    omega (arith, h)
times-counted n first (suc count) end e =
    let h = times-counted n (first + 1) count end (omega (arith, e)) in
    let k = below-next n first in
    omega (arith, h, k)

pub times-first : (n count : ℕ) → times (λ l. l) n (counted_from 0 count) ≡ below n count
times-first n count =
    let h = times-counted n 0 count count (omega arith) in
    let k = below_no n 0 (omega arith) in
    omega (arith, h, k)

-- where each stands once at most, all differ
pub times-map : {X : Type 0} (label : X → ℕ) (xs : List X) (n : ℕ) → times (λ l. l) n (map label xs) ≡ times label n xs
times-map label [] n = refl
times-map label (x ∷ xs) n = ap (λ v. same (label x) n + v) (times-map label xs n)

each_other : (x : ℕ) (xs : List ℕ) → times (λ l. l) x xs ≡ 0 → (k : ℕ) (d : ℕ) → k < length xs → x ≡ get_or xs k d → ⊥
each_other x [] h k d l e = omega (arith, l)
each_other x (y ∷ ys) h zero d l e =
    let i : same y x ≡ 1 = subst (λ v. same v x ≡ 1) e (same_self x) in omega (arith, h, i)
each_other x (y ∷ ys) h (suc k) d l e = each_other x ys (omega (arith, h)) k d (omega (arith, l)) e

pub once_apart : (xs : List ℕ) → ((n : ℕ) → times (λ l. l) n xs ≤ 1) → AllPairs (λ a b. a ≢ b) xs
once_apart [] h = λ i j d l m e. absurd (omega (arith, m))
once_apart (x ∷ xs) h =
    AllPairs-cons (λ a b. a ≢ b) x xs
    (λ k d l. let i : times (λ l. l) x xs ≡ 0 = let j = h x in let m = same_self x in omega (arith, j, m) in each_other
    x xs i k d l)
    (once_apart xs (λ n. let i = h n in omega (arith, i)))
