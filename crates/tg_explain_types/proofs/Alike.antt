-- A loop over the bytes with which two texts begin alike.
use Rattle.std.proofs.Common.{ℕ, ◌+◌, ◌≡◌, ◌<◌, ◌≤◌, List, [], ◌∷◌, length, drop, get_or, min, Bool, true, false, refl, ap, ◌∙◌, arith}
use Rattle.std.specs.Prelude.{◌==◌, nat_le}
use Rattle.std.proofs.lemmas.Bool.Decides.{nat_tests}
use Rattle.std.specs.List.{common_prefix_len}
use Rattle.std.proofs.lemmas.List.{drop_all}
use Rattle.std.proofs.lemmas.List.Sums.{common_prefix_len-drop_yes, common_prefix_len-drop_no}

abbrev pub alike : List ℕ → List ℕ → ℕ
alike one other = common_prefix_len (λ a b. a == b) one other

pub alike_more : (xs ys : List ℕ) (i : ℕ) → i < length xs → i < length ys → i + alike (drop i xs) (drop i ys) ≡ alike xs ys →
    (get_or xs i 0 == get_or ys i 0) ≡ true → i + 1 + alike (drop (i + 1) xs) (drop (i + 1) ys) ≡ alike xs ys
alike_more xs ys i l k inv e = let goes = common_prefix_len-drop_yes (λ a b. a == b) xs ys i 0 0 l k e in omega (arith, goes, inv)

pub alike_stops : (xs ys : List ℕ) (i : ℕ) → i < length xs → i < length ys → i + alike (drop i xs) (drop i ys) ≡ alike xs ys →
    (get_or xs i 0 == get_or ys i 0) ≡ false → i ≡ alike xs ys
alike_stops xs ys i l k inv e = let stops = common_prefix_len-drop_no (λ a b. a == b) xs ys i 0 0 l k e in omega (arith, stops, inv)

none_right : (xs : List ℕ) → alike xs [] ≡ 0
none_right [] = refl
none_right (x ∷ xs) = refl

-- where one of them ends
by_test : (xs ys : List ℕ) (i : ℕ) (b : Bool) → nat_le (length xs) i ≡ b → min (length xs) (length ys) ≤ i → alike (drop i xs) (drop i ys) ≡ 0
by_test xs ys i true e l = ap (λ w. alike w (drop i ys)) (drop_all i xs (grind (arith, nat_tests, e)))
by_test xs ys i false e l =
    let long : i < length xs = grind (arith, nat_tests, e) in
    ap (λ w. alike (drop i xs) w) (drop_all i ys (omega arith)) ∙ none_right (drop i xs)

pub alike_ends : (xs ys : List ℕ) (i end : ℕ) → end ≡ min (length xs) (length ys) → i ≡ end → i + alike (drop i xs) (drop i ys) ≡ alike xs ys →
    end ≡ alike xs ys
alike_ends xs ys i end p q inv =
    let none = by_test xs ys i (nat_le (length xs) i) refl (omega (arith, p, q)) in
    omega (arith, none, inv, q)
