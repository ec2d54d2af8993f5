-- Entries of tables, the newest first.
use Rattle.std.specs.Prelude.{Option, Some, None, ◌==◌, if◌then◌else◌}
use Rattle.std.proofs.Common.{◌≡◌, ℕ, zero, suc, ◌+◌, ◌-◌, ◌<◌, ◌≤◌, List, [], ◌∷◌, ◌++◌, length, map, reverse, take, drop, get_or, Bool, true, false}
use Rattle.std.proofs.Common.{refl, sym, ap, ◌∙◌, arith, length-drop, length-append, append_assoc}
use Rattle.std.proofs.lemmas.List.{length-reverse, get_or-reverse, reverse-append}
use Rattle.tg_symbols.specs.declared.tables.Entry.{Entry}
use Rattle.tg_symbols.specs.Tables.{looked_up}
use Rattle.tg_symbols.specs.Links.{top_of, placed_at, entries_of}

abbrev pub pair : {V : Type 0} → Entry V → ℕ × V
pair e = (e.name, e.value)

below : (b : Bool) (n k : ℕ) (o : Option ℕ) → (o ≡ Some k → k < n) → (if b then Some n else o) ≡ Some k → k < suc n
below true n k o f h = grind arith
below false n k o f h = omega (arith, f h)

pub top_below : {V : Type 0} (x : ℕ) (es : List (Entry V)) (k : ℕ) → top_of x es ≡ Some k → k < length es
top_below x [] k h = grind arith
top_below x (e ∷ es) k h = below (e.name == x) (length es) k (top_of x es) (top_below x es k) h

-- the newest entry of a name is the one that its place says
at_top : {V : Type 0} (b : Bool) (e d : Entry V) (es : List (Entry V)) (k : ℕ) (o : Option ℕ) (v : Option V) →
    (o ≡ Some k → (k < length es) × (v ≡ Some (get_or es (length es - 1 - k) d).value)) → (if b then Some (length es) else o) ≡ Some k →
    (if b then Some e.value else v) ≡ Some (get_or (e ∷ es) (length (e ∷ es) - 1 - k) d).value
at_top true e d es k o v f h =
    let i : length (e ∷ es) - 1 - k ≡ 0 = grind arith in
    ap (λ j. Some (get_or (e ∷ es) j d).value) (sym i)
at_top false e d es k o v f h =
    let i : length (e ∷ es) - 1 - k ≡ suc (length es - 1 - k) = omega (arith, (f h).0) in
    (f h).1 ∙ ap (λ j. Some (get_or (e ∷ es) j d).value) (sym i)

pub named_top : {V : Type 0} (x : ℕ) (es : List (Entry V)) (k : ℕ) (d : Entry V) → top_of x es ≡ Some k →
    looked_up x (map pair es) ≡ Some (get_or es (length es - 1 - k) d).value
named_top x [] k d h = grind arith
named_top x (e ∷ es) k d h = at_top (e.name == x) e d es k (top_of x es) (looked_up x (map pair es)) (λ i. (top_below x es k i, named_top x es k d i)) h

not_there : {V : Type 0} (b : Bool) (v : V) (n : ℕ) (o : Option ℕ) (w : Option V) → (o ≡ None → w ≡ None) → (if b then Some n else o) ≡ None →
    (if b then Some v else w) ≡ None
not_there true v n o w f h = grind arith
not_there false v n o w f h = f h

pub named_none : {V : Type 0} (x : ℕ) (es : List (Entry V)) → top_of x es ≡ None → looked_up x (map pair es) ≡ None
named_none x [] h = refl
named_none x (e ∷ es) h = not_there (e.name == x) e.value (length es) (top_of x es) (looked_up x (map pair es)) (named_none x es) h

placed_top : (b : Bool) (from n k : ℕ) (o p : Option ℕ) → (o ≡ Some k → (k < n) × (p ≡ Some (suc from + (n - 1 - k)))) → (if b then Some n else o) ≡ Some k →
    (if b then Some from else p) ≡ Some (from + (suc n - 1 - k))
placed_top true from n k o p f h =
    let i : from + (suc n - 1 - k) ≡ from = grind arith in
    ap (λ j. Some j) (sym i)
placed_top false from n k o p f h =
    let i : from + (suc n - 1 - k) ≡ suc from + (n - 1 - k) = omega (arith, (f h).0) in
    (f h).1 ∙ ap (λ j. Some j) (sym i)

pub place_of_top : {V : Type 0} (x from : ℕ) (es : List (Entry V)) (k : ℕ) → top_of x es ≡ Some k →
    placed_at x from (map pair es) ≡ Some (from + (length es - 1 - k))
place_of_top x from [] k h = grind arith
place_of_top x from (e ∷ es) k h =
    placed_top (e.name == x) from (length es) k (top_of x es) (placed_at x (suc from) (map pair es))
    (λ i. (top_below x es k i, place_of_top x (suc from) es k i)) h

nowhere : (b : Bool) (from n : ℕ) (o p : Option ℕ) → (o ≡ None → p ≡ None) → (if b then Some n else o) ≡ None → (if b then Some from else p) ≡ None
nowhere true from n o p f h = grind arith
nowhere false from n o p f h = f h

pub placed_none : {V : Type 0} (x from : ℕ) (es : List (Entry V)) → top_of x es ≡ None → placed_at x from (map pair es) ≡ None
placed_none x from [] h = refl
placed_none x from (e ∷ es) h = nowhere (e.name == x) from (length es) (top_of x es) (placed_at x (suc from) (map pair es)) (placed_none x (suc from) es) h

-- by places from the oldest on
pub named_by_place : {V : Type 0} (x : ℕ) (entries : List (Entry V)) (k : ℕ) (e : Entry V) → top_of x (reverse entries) ≡ Some k → e ≡ get_or entries k e →
    looked_up x (entries_of entries) ≡ Some e.value
named_by_place x entries k e h i =
    let b : k < length entries = omega (arith, top_below x (reverse entries) k h, length-reverse entries) in
    let j : length entries - 1 - (length (reverse entries) - 1 - k) ≡ k = omega (arith, b, length-reverse entries) in
    let l : length (reverse entries) - 1 - k < length entries = omega (arith, b, length-reverse entries) in
    named_top x (reverse entries) k e h ∙ ap (λ z. Some z.value)
    (get_or-reverse entries (length (reverse entries) - 1 - k) e l ∙ (ap (λ m. get_or entries m e) j ∙ sym i))

pub below_length : {V : Type 0} (x : ℕ) (entries : List (Entry V)) (k : ℕ) → top_of x (reverse entries) ≡ Some k → k < length entries
below_length x entries k h = omega (arith, top_below x (reverse entries) k h, length-reverse entries)

pub placed_by_place : {V : Type 0} (x : ℕ) (entries : List (Entry V)) (k : ℕ) → top_of x (reverse entries) ≡ Some k →
    placed_at x 0 (entries_of entries) ≡ Some (length entries - 1 - k)
placed_by_place x entries k h =
    let j : 0 + (length (reverse entries) - 1 - k) ≡ length entries - 1 - k = omega (arith, length-reverse entries) in
    place_of_top x 0 (reverse entries) k h ∙ ap (λ m. Some m) j

-- one entry less
drop_more : {A : Type 0} (k : ℕ) (xs : List A) → drop 1 (drop k xs) ≡ drop (suc k) xs
drop_more zero xs = refl
drop_more (suc k) [] = refl
drop_more (suc k) (x ∷ xs) = drop_more k xs

pub record IsCut {A : Type 0} (len : ℕ) (all left : List A) : Type 0 where
  pub at_least : len ≤ length left
  pub at_most : length left ≤ length all
  pub back : left ≡ drop (length all - length left) all

pub cut_none : {A : Type 0} (len : ℕ) (all : List A) → len ≤ length all → IsCut len all all
cut_none len all h =
    let z : length all - length all ≡ 0 = omega arith in
    record { at_least = h; at_most = omega arith; back = ap (λ k. drop k all) (sym z) }

pub cut_one : {A : Type 0} (len : ℕ) (all left less : List A) → IsCut len all left → len < length left → less ≡ drop 1 left → IsCut len all less
cut_one len all left less c h e =
    let n : length less ≡ length left - 1 = ap length e ∙ length-drop 1 left in
    let k : suc (length all - length left) ≡ length all - length less = omega (arith, n, h, c.at_most) in
    record {
      at_least = omega (arith, n, h);
      at_most = omega (arith, n, c.at_most);
      back = e ∙ (ap (λ l. drop 1 l) c.back ∙ (drop_more (length all - length left) all ∙ ap (λ j. drop j all) k));
    }

drop_front : {A : Type 0} (front back : List A) (k : ℕ) → k ≡ length front → drop k (front ++ back) ≡ back
drop_front [] back zero e = refl
drop_front [] back (suc k) e = absurd (omega (arith, e))
drop_front (x ∷ front) back zero e = absurd (omega (arith, e))
drop_front (x ∷ front) back (suc k) e = drop_front front back k (omega (arith, e))

pub cut_is : {A : Type 0} (len : ℕ) (all left front back : List A) → IsCut len all left → length left ≤ len → all ≡ front ++ back → length back ≡ len →
    left ≡ back
cut_is len all left front back c h e d =
    let n : length all - length left ≡ length front = omega (arith, c.at_least, h, d, ap length e, length-append front back) in
    c.back ∙ (ap (λ l. drop (length all - length left) l) e ∙ drop_front front back _ n)

take_more : {A : Type 0} (xs : List A) (k : ℕ) (x : A) → k < length xs → x ≡ get_or xs k x → take (suc k) xs ≡ take k xs ++ x ∷ []
take_more [] k x l j = absurd (omega (arith, l))
take_more (y ∷ xs) zero x l j = ap (λ z. z ∷ []) (sym j)
take_more (y ∷ xs) (suc k) x l j = ap (λ t. y ∷ t) (take_more xs k x (omega (arith, l)) j)

newest : {V : Type 0} (entries : List (Entry V)) (k : ℕ) (e : Entry V) → k < length entries → e ≡ get_or entries k e →
    reverse (take (suc k) entries) ≡ e ∷ reverse (take k entries)
newest entries k e l j = ap reverse (take_more entries k e l j) ∙ reverse-append (take k entries) (e ∷ [])

-- the entries that are left, after those that were taken
pub one_taken : {V : Type 0} (taken rest : List (ℕ × V)) (entries : List (Entry V)) (at k : ℕ) (e : Entry V) →
    taken ++ map pair (reverse (take at entries)) ≡ rest → at ≡ suc k → at ≤ length entries → e ≡ get_or entries k e →
    (taken ++ pair e ∷ []) ++ map pair (reverse (take k entries)) ≡ rest
one_taken taken rest entries at k e h i l j =
    append_assoc taken (pair e ∷ []) (map pair (reverse (take k entries)))
    ∙ (ap (λ es. taken ++ map pair es) (sym (newest entries k e (omega (arith, i, l)) j ∙ refl))
    ∙ (ap (λ n. taken ++ map pair (reverse (take n entries))) (sym i) ∙ h))
