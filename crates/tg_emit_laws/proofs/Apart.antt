-- Names that differ pairwise, and where the assembler finds each.
use Rattle.std.proofs.Common.{ℕ, ◌≡◌, List, [], ◌∷◌, ◌++◌, map, Bool, true, false, Some, refl, sym, ap, ◌∙◌, arith, ◌≢◌, ◌⊎◌, inl, inr}
use Rattle.std.specs.Prelude.{if◌then◌else◌}
use Rattle.std.specs.List.{AllByRecursion, AllPairs}
use Rattle.std.specs.Str.{bytes_eq}
use Rattle.std.proofs.lemmas.List.{append_cancel_left}
use Rattle.std.proofs.lemmas.List.Elements.{All-from_recursion}
use Rattle.std.proofs.lemmas.List.Kept.{AllPairs-cons}
use Rattle.std.proofs.lemmas.Slice.Eq.{bytes_eq-Decides}
use Rattle.tg_asm_text.specs.Placement.{Position, Positions, position_of}

abbrev pub Differ : List (List ℕ) → Type 0
Differ [] = Unit {0}
Differ (x ∷ xs) = AllByRecursion (λ y. x ≢ y) xs × Differ xs

pub each_append : {X : Type 0} (P : X → Type 0) (xs ys : List X) → AllByRecursion P xs → AllByRecursion P ys → AllByRecursion P (xs ++ ys)
each_append P [] ys h k = k
each_append P (x ∷ xs) ys h k = (h.0, each_append P xs ys h.1 k)

pub each_weaker : {X : Type 0} (P Q : X → Type 0) → ((x : X) → P x → Q x) → (xs : List X) → AllByRecursion P xs → AllByRecursion Q xs
each_weaker P Q f [] h = tt
each_weaker P Q f (x ∷ xs) h = (f x h.0, each_weaker P Q f xs h.1)

-- two lists of names with nothing in common
abbrev pub Apart : List (List ℕ) → List (List ℕ) → Type 0
Apart xs ys = AllByRecursion (λ x. AllByRecursion (λ y. x ≢ y) ys) xs

pub differ_append : (xs ys : List (List ℕ)) → Differ xs → Differ ys → Apart xs ys → Differ (xs ++ ys)
differ_append [] ys h k a = k
differ_append (x ∷ xs) ys h k a = (each_append (λ y. x ≢ y) xs ys h.0 a.0, differ_append xs ys h.1 k a.1)

-- by what is known of the names of either
pub apart_by : (P Q : List ℕ → Type 0) → ((x y : List ℕ) → P x → Q y → x ≢ y) → (xs ys : List (List ℕ)) → AllByRecursion P xs → AllByRecursion Q ys →
    Apart xs ys
apart_by P Q f xs ys h k = each_weaker P (λ x. AllByRecursion (λ y. x ≢ y) ys) (λ x p. each_weaker Q (λ y. x ≢ y) (λ y q. f x y p q) ys k) xs h

pub each_map : {X Y : Type 0} (f : X → Y) (P : Y → Type 0) (xs : List X) → AllByRecursion (λ x. P (f x)) xs → AllByRecursion P (map f xs)
each_map f P [] h = tt
each_map f P (x ∷ xs) h = (h.0, each_map f P xs h.1)

-- texts that differ do so after a text
pub differ_behind : (front : List ℕ) (ts : List (List ℕ)) → Differ ts → Differ (map (λ t. front ++ t) ts)
differ_behind front [] h = tt
differ_behind front (t ∷ ts) h = (
  each_map (λ u. front ++ u) (λ y. (front ++ t) ≢ y) ts (each_weaker (λ u. t ≢ u) (λ u. (front ++ t) ≢ (front ++ u))
      (λ u n e. n (append_cancel_left front t u e)) ts h.0),
  differ_behind front ts h.1,
)

pub pairs_differ : (xs : List (List ℕ)) → Differ xs → AllPairs (λ a b. a ≢ b) xs
pairs_differ [] h = λ i j d l k. absurd (omega arith)
pairs_differ (x ∷ xs) h = AllPairs-cons (λ a b. a ≢ b) x xs (All-from_recursion (λ y. x ≢ y) xs h.0) (pairs_differ xs h.1)

-- a name that stands somewhere
abbrev pub Stands : Positions → List ℕ → Position → Type 0
Stands [] name p = ⊥
Stands (q ∷ qs) name p = (q ≡ (name, p)) ⊎ Stands qs name p

pub stands_left : (xs ys : Positions) (name : List ℕ) (p : Position) → Stands xs name p → Stands (xs ++ ys) name p
stands_left [] ys name p h = absurd h
stands_left (x ∷ xs) ys name p (inl e) = inl e
stands_left (x ∷ xs) ys name p (inr h) = inr (stands_left xs ys name p h)

pub stands_right : (xs ys : Positions) (name : List ℕ) (p : Position) → Stands ys name p → Stands (xs ++ ys) name p
stands_right [] ys name p h = h
stands_right (x ∷ xs) ys name p h = inr (stands_right xs ys name p h)

abbrev pub names_of : Positions → List (List ℕ)
names_of [] = []
names_of (p ∷ ps) = p.0 ∷ names_of ps

pub names_append : (xs ys : Positions) → names_of (xs ++ ys) ≡ names_of xs ++ names_of ys
names_append [] ys = refl
names_append (x ∷ xs) ys = ap (λ l. x.0 ∷ l) (names_append xs ys)

not_first : (x : List ℕ) (qs : Positions) (name : List ℕ) (p : Position) → AllByRecursion (λ y. x ≢ y) (names_of qs) → Stands qs name p → name ≢ x
not_first x [] name p h s e = s
not_first x (q ∷ qs) name p h (inl s) e = h.0 (sym e ∙ ap (λ (r : List ℕ × Position). r.0) (sym s))
not_first x (q ∷ qs) name p h (inr s) e = not_first x qs name p h.1 s e

at_first : (q : List ℕ × Position) (qs : Positions) (name : List ℕ) → name ≡ q.0 → position_of (q ∷ qs) name ≡ Some q.1
at_first q qs name e = let t : bytes_eq name q.0 ≡ true = (bytes_eq-Decides name q.0).1 e in rw t refl

past_first : (q : List ℕ × Position) (qs : Positions) (name : List ℕ) → name ≢ q.0 → position_of (q ∷ qs) name ≡ position_of qs name
past_first q qs name n = by (bytes_eq name q.0) refl
  where
    by : (b : Bool) → bytes_eq name q.0 ≡ b → (if b then Some q.1 else position_of qs name) ≡ position_of qs name
    by true e = absurd (n ((bytes_eq-Decides name q.0).0 e))
    by false e = refl

-- where names differ, each is found where it stands
pub found : (ps : Positions) (name : List ℕ) (p : Position) → Differ (names_of ps) → Stands ps name p → position_of ps name ≡ Some p
found [] name p d h = absurd h
found (q ∷ qs) name p d (inl e) =
    at_first q qs name (ap (λ (r : List ℕ × Position). r.0) (sym e)) ∙ ap (λ (r : List ℕ × Position). Some r.1) e
found (q ∷ qs) name p d (inr h) = past_first q qs name (not_first q.0 qs name p d.0 h) ∙ found qs name p d.1 h
