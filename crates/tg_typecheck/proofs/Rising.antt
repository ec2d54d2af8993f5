-- Notes that stand at bytes of their own rise once they are sorted.
use Rattle.std.proofs.Common.{◌≡◌, ◌≢◌, ℕ, ◌<◌, ◌≤◌, List, [], get_or, false, eqb, sym, ap, ◌∙◌, arith, ne_eqb}
use Rattle.std.specs.Prelude.{map, reverse}
use Rattle.std.specs.List.{AllPairs, IsDistinct}
use Rattle.std.specs.List.Sorted.{IsPermutation, IsNonDecreasingBy}
use Rattle.std.proofs.lemmas.List.{get_or-map, length-map}
use Rattle.std.proofs.lemmas.List.Sorted.{IsPermutation-trans, IsPermutation-sym, IsPermutation-reverse, IsPermutation-map}
use Rattle.std.proofs.lemmas.Map.Keys.{IsDistinct-IsPermutation, IsDistinct-from_apart, apart_from_distinct}
use Rattle.tg_syntax.specs.Tree.{Exp}
use Rattle.tg_syntax.specs.Beginnings.{BeginsApart}
use Rattle.tg_typecheck.specs.declared.notes.Note.{Note}
use Rattle.tg_typecheck.specs.Types.{Ty}
use Rattle.tg_typecheck.specs.Checks.{Noted, fine}
use Rattle.tg_typecheck.specs.Scopes.{Scope}
use Rattle.tg_typecheck.specs.Typing.{typed}
use Rattle.tg_typecheck.specs.Answered.{AreRising}
use Rattle.tg_typecheck.proofs.NamedValues.{NameValues}
use Rattle.tg_typecheck.proofs.TreeInversion.{checked}
use Rattle.tg_typecheck.proofs.AmongBeginnings.{nothing, among, pairs}
use Rattle.tg_typecheck.proofs.NoteBytes.{marks, note_marks}

abbrev at : Note → ℕ
at n = n.at

flips : (x y : ℕ) → eqb x y ≡ eqb y x
flips x y = grind arith

-- the notes of a text stand at bytes of their own
apart : (body : Exp) (scope : Scope) → NameValues scope.types → (t : Ty) (h : Noted) → BeginsApart body →
    typed body scope (record { shapes = []; notes = [] }) ≡ fine t h → IsDistinct eqb (marks h)
apart body scope vs t h b e =
    let s = among marks note_marks (checked body scope vs t (record { shapes = []; notes = [] }) h e) nothing in
    let p : AllPairs (λ x y. x ≢ y) (marks h) = pairs (λ x y. x ≢ y) s b in
    IsDistinct-from_apart eqb (marks h) (λ i j d l m. ne_eqb _ _ (p i j d l m))

-- in another order too
sorted_apart : (notes sorted : List Note) → IsPermutation notes sorted → IsDistinct eqb (reverse (map at notes)) → IsDistinct eqb (map at sorted)
sorted_apart notes sorted p d =
    IsDistinct-IsPermutation eqb flips (reverse (map at notes)) (map at sorted)
    (IsPermutation-trans (reverse (map at notes)) (map at notes) (map at sorted)
    (IsPermutation-sym (map at notes) (reverse (map at notes)) (IsPermutation-reverse (map at notes))) (IsPermutation-map at notes sorted p)) d

strictly : (sorted : List Note) → IsNonDecreasingBy at sorted → IsDistinct eqb (map at sorted) → AreRising sorted
strictly sorted n d i j x l m =
    let here : get_or (map at sorted) i x.at ≡ (get_or sorted i x).at = get_or-map at sorted i x x.at (omega (arith, l, m)) in
    let there : get_or (map at sorted) j x.at ≡ (get_or sorted j x).at = get_or-map at sorted j x x.at m in
    let differ : eqb (get_or (map at sorted) i x.at) (get_or (map at sorted) j x.at) ≡ false = apart_from_distinct eqb (map at sorted) i j x.at d l
    (omega (arith, m, length-map sorted at)) in
    let below : (get_or sorted i x).at ≤ (get_or sorted j x).at = n i j x (omega (arith, l)) m in
    strict (get_or sorted i x).at (get_or sorted j x).at
    (ap (λ k. eqb k (get_or sorted j x).at) (sym here) ∙ ap (λ k. eqb (get_or (map at sorted) i x.at) k) (sym there) ∙ differ) below
  where
    strict : (a b : ℕ) → eqb a b ≡ false → a ≤ b → a < b
    strict a b e l = grind arith

pub rises : (body : Exp) (scope : Scope) → NameValues scope.types → (t : Ty) (h : Noted) (sorted : List Note) → BeginsApart body →
    typed body scope (record { shapes = []; notes = [] }) ≡ fine t h → IsPermutation h.notes sorted → IsNonDecreasingBy (λ (n : Note). n.at) sorted →
    AreRising sorted
rises body scope vs t h sorted b e p n = strictly sorted n (sorted_apart h.notes sorted p (apart body scope vs t h b e))
