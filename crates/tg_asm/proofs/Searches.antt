-- A search among labels in the order of their names finds what one by one does.
use Rattle.std.proofs.Common.{◌≡◌, ◌<◌, ◌+◌, ◌-◌, ℕ, zero, suc, min, Bool, true, false, List, [], ◌∷◌, length, map, drop, Some, None, refl, sym, ap, ◌∙◌, arith, get_or}
use Rattle.std.specs.Prelude.{nat_lt, slice_range}
use Rattle.std.specs.Str.{bytes_eq}
use Rattle.std.specs.Ordering.{ordering_index, ordering_reverse, is_eq, is_lt}
use Rattle.std.specs.List.{AllWithin}
use Rattle.std.specs.List.Sorted.{IsNonDecreasingBy, IsSortedBy, IsStrictlySortedBy}
use Rattle.std.specs.declared.cmp.Ordering.TheVariants.{Less, Equal, Greater}
use Rattle.std.proofs.lemmas.Cmp.{alike_right}
use Rattle.std.proofs.lemmas.Map.Keys.{sorted_head, sorted_tail, Less-from_sorted}
use Rattle.std.proofs.lemmas.List.{get_or-map, get_or-take, get_or-drop, length-map, length-take, length-drop}
use Rattle.std.proofs.lemmas.List.Elements.{All-from_recursion}
use Rattle.std.proofs.lemmas.List.Sorted.{searchable_from_sorted}
use Rattle.std.proofs.lemmas.Bool.Decides.{nat_tests}
use Rattle.std.proofs.lemmas.Slice.Eq.{bytes_eq-Decides}
use Rattle.tg_asm_text.specs.Assembly.{spot_among}
use Rattle.tg_asm.specs.declared.entries.Entry.{Entry}
use Rattle.tg_asm.specs.glue.Fronts.{front_number}
use Rattle.tg_asm.specs.glue.Spots.{spot_of}
use Rattle.tg_asm.specs.glue.Entries.{Key, key_of, by_key, label_of}
use Rattle.tg_asm.proofs.Orders.{by_key_total, same_key, tied}

abbrev pub AreStrict : List Entry → Type 0
AreStrict s = IsStrictlySortedBy by_key (map key_of s)

names_differ : (x : Entry) (k : Key) → k.0 ≡ front_number k.1.now → by_key x.key k ≡ Less → bytes_eq x.key.1.now k.1.now ≡ false
names_differ x k f l = sym (same_key x.key k x.fronted f) ∙ ap is_eq l

flipped : (xs ys : List ℕ) → bytes_eq xs ys ≡ false → bytes_eq ys xs ≡ false
flipped xs ys h = by (bytes_eq ys xs) refl
  where
    by : (b : Bool) → bytes_eq ys xs ≡ b → bytes_eq ys xs ≡ false
    by true g = let t : bytes_eq xs ys ≡ true = (bytes_eq-Decides xs ys).1 (sym ((bytes_eq-Decides ys xs).0 g)) in cc
    by false g = g

-- a label that is found, at its place
pub found_at : (s : List Entry) (k : Key) (at : ℕ) (d : Entry) → AreStrict s → k.0 ≡ front_number k.1.now → at < length s → by_key (get_or s at d).key k ≡ Equal →
    spot_among (map label_of s) k.1.now ≡ Some (spot_of (get_or s at d).spot)
found_at [] k at d o f l e = absurd (let n : ⊥ = omega (arith, l) in n)
found_at (x ∷ s) k zero d o f l e =
    let same = (bytes_eq-Decides x.key.1.now k.1.now).0 (sym (same_key x.key k x.fronted f) ∙ ap is_eq e) in
    let here : bytes_eq k.1.now x.key.1.now ≡ true = (bytes_eq-Decides k.1.now x.key.1.now).1 (sym same) in
    rw here refl
found_at (x ∷ s) k (suc at) d o f l e =
    let inside : at < length s = omega (arith, l) in
    let y = get_or s at d in
    let head = All-from_recursion (λ j. by_key x.key j ≡ Less) (map key_of s) (sorted_head by_key x.key (map key_of s) o) in
    let less : by_key x.key y.key ≡ Less = ap (by_key x.key) (sym (get_or-map key_of s at d x.key inside)) ∙ head at x.key (rw length-map inside) in
    let on : by_key x.key k ≡ Less = sym (alike_right by_key_total y.key k x.key e) ∙ less in
    let other = flipped x.key.1.now k.1.now (names_differ x k f on) in
    rw other (found_at s k at d (sorted_tail by_key x.key (map key_of s) o) f inside e)

-- the same of one among those between two places
pub found_between : (s : List Entry) (k : Key) (from to at : ℕ) (d : Entry) → AreStrict s → k.0 ≡ front_number k.1.now → at < length (slice_range s from to) →
    is_eq (by_key (get_or (slice_range s from to) at d).key k) ≡ true → spot_among (map label_of s) k.1.now ≡ Some (spot_of (get_or (slice_range s from to) at d).spot)
found_between s k from to at d o f l e =
    let short : length (slice_range s from to) ≡ min (to - from) (length s - from) = length-take (to - from) (drop from s) ∙ ap (min (to - from)) (length-drop from s) in
    let same = get_or-take (to - from) (drop from s) at d (omega (arith, l, short)) ∙ get_or-drop from s at d in
    let tie = ap (λ x. by_key x.key k) (sym same) ∙ tied _ e in
    found_at s k (from + at) d o f (omega (arith, l, short)) tie ∙ ap (λ x. Some (spot_of x.spot)) (sym same)

-- none is found where all names differ
pub none_found : (s : List Entry) (k : Key) → k.0 ≡ front_number k.1.now → ((i : ℕ) (d : Entry) → i < length s → is_eq (by_key (get_or s i d).key k) ≡ false) →
    spot_among (map label_of s) k.1.now ≡ None
none_found [] k f a = refl
none_found (x ∷ s) k f a =
    let differs = flipped x.key.1.now k.1.now (sym (same_key x.key k x.fronted f) ∙ a 0 x (omega arith)) in
    rw differs (none_found s k f (λ i d l. a (suc i) d (omega (arith, l))))

-- a binary search may be made
pub searchable : (s : List Entry) (k : Key) → AreStrict s → IsNonDecreasingBy (λ e. ordering_index (by_key e.key k)) s
searchable s k o = searchable_from_sorted by_key_total {X = Entry} key_of s k rising
  where
    rising : IsSortedBy (λ a b. is_lt (by_key a.key b.key)) s
    rising i d a b =
        let here : i < length s = omega (arith, b) in
        let less = Less-from_sorted by_key (map key_of s) i (i + 1) d.key o (omega arith) (rw length-map b) in
        let as_keys : by_key (get_or s i d).key (get_or s (i + 1) d).key ≡ Less =
        ap (λ j. by_key j (get_or s (i + 1) d).key) (sym (get_or-map key_of s i d d.key here))
        ∙ ap (by_key (get_or (map key_of s) i d.key)) (sym (get_or-map key_of s (i + 1) d d.key b)) ∙ less in
        ap is_lt (by_key_total.antisymm (get_or s (i + 1) d).key (get_or s i d).key ∙ ap ordering_reverse as_keys)

-- what a binary search did not find is nowhere
pub nowhere : (s : List Entry) (k : Key) (at : ℕ) → AllWithin (λ y. by_key y.key k ≡ Less) s 0 at × AllWithin (λ y. by_key y.key k ≡ Greater) s at (length s) →
    (i : ℕ) (d : Entry) → i < length s → is_eq (by_key (get_or s i d).key k) ≡ false
nowhere s k at p i d l = by (nat_lt i at) refl
  where
    by : (b : Bool) → nat_lt i at ≡ b → is_eq (by_key (get_or s i d).key k) ≡ false
    by true h = ap is_eq (p.0 i d (omega arith) (grind (arith, nat_tests, h)))
    by false h = ap is_eq (p.1 i d (grind (arith, nat_tests, h)) l)
