-- Tests of both and of all, taken apart and put together.
use Rattle.std.proofs.Common.{ℕ, ◌≡◌, ◌<◌, List, [], ◌∷◌, ◌++◌, length, get_or, Bool, true, false, refl}
use Rattle.std.specs.Prelude.{IsTrue, ◌&&◌}
use Rattle.std.specs.List.{list_all}
use Rattle.std.proofs.lemmas.List.Folds.{list_all_at}

pub left_holds : (a b : Bool) → IsTrue (a && b) → IsTrue a
left_holds true b h = refl
left_holds false b h = h

pub right_holds : (a b : Bool) → IsTrue (a && b) → IsTrue b
right_holds true b h = h
right_holds false b h = cc

pub both_hold : (a b : Bool) → IsTrue a → IsTrue b → IsTrue (a && b)
both_hold true b h k = k
both_hold false b h k = h

pub all_at : {X : Type 0} (p : X → Bool) (xs : List X) (i : ℕ) (d : X) → i < length xs → IsTrue (list_all p xs) → IsTrue (p (get_or xs i d))
all_at p xs i d h all = by_cases (p (get_or xs i d)) refl
  where
    by_cases : (b : Bool) → p (get_or xs i d) ≡ b → IsTrue b
    by_cases true e = refl
    by_cases false e = let no : list_all p xs ≡ false = list_all_at p xs i d h e in cc

pub all_append : {X : Type 0} (p : X → Bool) (xs ys : List X) → IsTrue (list_all p xs) → IsTrue (list_all p ys) → IsTrue (list_all p (xs ++ ys))
all_append p [] ys h k = k
all_append p (x ∷ xs) ys h k = both_hold _ _ (left_holds _ _ h) (all_append p xs ys (right_holds (p x) _ h) k)
