-- Strings and their texts.
use Rattle.std.proofs.Common.{◌≡◌, ℕ, Bool, true, false, not, cond, suc, ◌+◌, List, [], ◌∷◌, ◌++◌, length, map, slice_get, Some, String, string_bytes}
use Rattle.std.proofs.Common.{refl, sym, ap, ◌∙◌, ◌||◌, arith}
use Rattle.std.specs.List.{list_any, position, position_or_len, IsDistinct, AllByRecursion}
use Rattle.std.specs.Option.{option_map}
use Rattle.std.specs.Str.{bytes_eq}
use Rattle.std.specs.String.{string_eq}
use Rattle.std.specs.declared.alloc.Global.{Global}
use Rattle.std.proofs.lemmas.List.{map-append, length-map}
use Rattle.std.proofs.lemmas.List.Quantifiers.{position-Some}
use Rattle.std.proofs.lemmas.Option.{slice_get-map, slice_get-get_or}
use Rattle.std.proofs.lemmas.Slice.Eq.{bytes_eq-Decides}
use Rattle.std.proofs.lemmas.Map.Made.{AllPairs-from_IsDistinct}
use Rattle.indexmap.specs.IndexSet.{insert_key}
use Rattle.tg_base.specs.Interned.{AreDistinct, IsInterned, is_among}

abbrev pub texts : List (String Global) → List (List ℕ)
texts ks = map string_bytes ks

pub is_among-texts : (ks : List (String Global)) (text : List ℕ) → is_among text (texts ks) ≡ list_any (λ k. bytes_eq text (string_bytes k)) ks
is_among-texts [] text = refl
is_among-texts (k ∷ ks) text = ap (λ b. bytes_eq text (string_bytes k) || b) (is_among-texts ks text)

pub slice_get-texts : (ks : List (String Global)) (text : List ℕ) (i : ℕ) → position (λ k. bytes_eq text (string_bytes k)) ks ≡ Some i →
    slice_get (texts ks) i ≡ Some text
slice_get-texts [] text i e = cc
slice_get-texts (k ∷ ks) text i e =
    let p = position-Some (λ k. bytes_eq text (string_bytes k)) (k ∷ ks) i k e in
    slice_get-map string_bytes (k ∷ ks) i ∙ ap (λ o. option_map string_bytes o) (slice_get-get_or (k ∷ ks) i k p.0)
    ∙ ap Some (sym ((bytes_eq-Decides text _).0 p.1))

apart : (k : String Global) (ks : List (String Global)) → AllByRecursion (λ y. string_eq k y ≡ false) ks →
    AllByRecursion (λ y. bytes_eq (string_bytes k) y ≡ false) (texts ks)
apart k [] h = tt
apart k (x ∷ ks) h = (h.0, apart k ks h.1)

all_apart : (ks : List (String Global)) → IsDistinct string_eq ks → IsDistinct bytes_eq (texts ks)
unfolding IsDistinct
all_apart [] h = tt
all_apart (k ∷ ks) h = (apart k ks h.0, all_apart ks h.1)

pub are_distinct : (ks : List (String Global)) → IsDistinct string_eq ks → AreDistinct (texts ks)
are_distinct ks h = record { apart = AllPairs-from_IsDistinct bytes_eq-Decides (texts ks) (all_apart ks h) }

-- a text that is there
pub interned_there : (ks : List (String Global)) (text : List ℕ) (i : ℕ) → list_any (λ k. bytes_eq text (string_bytes k)) ks ≡ true →
    position (λ k. bytes_eq text (string_bytes k)) ks ≡ Some i → IsInterned (texts ks) text (texts ks) i
interned_there ks text i a e =
    rw (is_among-texts ks text ∙ a) (refl, slice_get-texts ks text i e)

one_more : (b r : Bool) (n m : ℕ) → (b || r) ≡ false → (r ≡ false → n ≡ m) → cond (not b) (1 + n) 0 ≡ suc m
one_more true r n m h k = cc
one_more false r n m h k = omega (arith, k h)

-- the place of what isn't there is the length
position_or_len-none : {X : Type 0} (p : X → Bool) (xs : List X) → list_any p xs ≡ false → position_or_len p xs ≡ length xs
position_or_len-none p [] h = refl
position_or_len-none p (x ∷ xs) h = one_more (p x) (list_any p xs) _ _ h (λ e. position_or_len-none p xs e)

list_any-string_eq : (ks : List (String Global)) (k : String Global) (text : List ℕ) → string_bytes k ≡ text →
    list_any (λ x. bytes_eq text (string_bytes x)) ks ≡ false → list_any (string_eq k) ks ≡ false
list_any-string_eq ks k text t h = rw (← t) at h

-- a text that isn't
pub interned_new : (ks new : List (String Global)) (k : String Global) (text : List ℕ) (n : ℕ) → string_bytes k ≡ text →
    list_any (λ x. bytes_eq text (string_bytes x)) ks ≡ false → new ≡ insert_key string_eq ks k → n ≡ position_or_len (string_eq k) ks →
    IsInterned (texts ks) text (texts new) n
interned_new ks new k text n t a e p =
    let b = list_any-string_eq ks k text t a in
    let last : new ≡ ks ++ k ∷ [] = e ∙ rw b refl in
    let added : texts new ≡ texts ks ++ text ∷ [] = ap texts last ∙ map-append string_bytes ks (k ∷ []) ∙ ap (λ x. texts ks ++ x ∷ []) t in
    rw (is_among-texts ks text ∙ a) (added, p ∙ position_or_len-none (string_eq k) ks b ∙ sym (length-map ks string_bytes))
