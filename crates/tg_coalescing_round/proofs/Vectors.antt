-- Vectors that are written, and folds over the numbers of a range.
use Rattle.std.proofs.Common.{◌≡◌, ℕ, ◌+◌, ◌-◌, ◌<◌, ◌≤◌, List, [], ◌∷◌, ◌++◌, length, map, get_or, take, drop, sym, ap, ◌∙◌, arith}
use Rattle.std.specs.List.{range_with_len}
use Rattle.std.proofs.lemmas.List.{map-append, map_push, take_at, take_more}
use Rattle.std.proofs.lemmas.List.Sums.{fold_push}
use Rattle.std.specs.Prelude.{fold}
use Rattle.std.proofs.lemmas.List.FromFn.{map-range_with_len_more}
use Rattle.smallvec.specs.SmallVec.{SmallVec}
use Rattle.tg_graph.proofs.Runs.{range_next}
use Rattle.tg_coalescing_round.specs.glue.Lists.{numbers_in, singletons}

abbrev pub items_of : SmallVec ℕ → List ℕ
items_of v = v.items

pub singletons_pushed : (vs : List (SmallVec ℕ)) (v : SmallVec ℕ) (n : ℕ) → numbers_in vs ≡ singletons n →
    v.items ≡ n ∷ [] →
    numbers_in (vs ++ v ∷ []) ≡ singletons (n + 1)
singletons_pushed vs v n e f =
    map_push items_of vs v
    ∙ (ap (λ (ls : List (List ℕ)). ls ++ v.items ∷ []) e
    ∙ (ap (λ (l : List ℕ). singletons n ++ l ∷ []) f ∙ sym (map-range_with_len_more (λ x. x ∷ []) 0 n n (omega arith))))

-- what was made of the first elements, and of the one after them
pub map_taken : {A B : Type 0} (f : A → B) (xs : List A) (i : ℕ) (x : A) → i < length xs →
    map f (take i xs) ++ f (get_or xs i x) ∷ [] ≡ map f (take (i + 1) xs)
map_taken f xs i x l = sym (ap (map f) (take_more xs i x l) ∙ map-append f (take i xs) (get_or xs i x ∷ []))

-- all of a vector written through a slice
pub all_written : {A : Type 0} (xs ys : List A) (n : ℕ) → length ys ≡ n → take n (ys ++ drop (length ys) xs) ≡ ys
all_written xs ys n e = take_at ys (drop (length ys) xs) n e

-- a fold over a range that begins anywhere, one number further
pub fold_range_more : {A : Type 0} (f : A → ℕ → A) (a : A) (from n : ℕ) → from ≤ n →
    f (fold f a (range_with_len from (n - from))) n ≡ fold f a (range_with_len from (n + 1 - from))
fold_range_more f a from n h =
    let at : from + (n - from) ≡ n = omega (arith, h) in
    let one : n - from + 1 ≡ n + 1 - from = omega (arith, h) in
    sym (fold_push f a (range_with_len from (n - from)) n)
    ∙ (ap (fold f a) (sym (range_next from (n - from) n at)) ∙ ap (λ k. fold f a (range_with_len from k)) one)
