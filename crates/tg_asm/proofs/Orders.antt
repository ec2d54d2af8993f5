-- Labels in the order of their names and lines: those of one name stand together, and a search finds each.
use Rattle.std.proofs.Common.{◌≡◌, ◌<◌, ◌≤◌, ◌+◌, ◌-◌, ℕ, zero, suc, Bool, true, false, ◌&&◌, List, [], ◌∷◌, length, map, min, Option, Some, None, refl, sym, ap, subst, ◌∙◌, add-one, drop, drop-cons, arith, get_or}
use Rattle.std.specs.Prelude.{⊤, nat_le}
use Rattle.std.specs.Str.{bytes_eq}
use Rattle.std.specs.Ordering.{nat_cmp, ordering_then, ordering_reverse, is_eq, is_lt}
use Rattle.std.specs.Cmp.{IsTotalOrder, IsStrictWeakOrder, tied_then, nat_cmp_is}
use Rattle.std.specs.Cmp.Lexicographic.{slice_cmp}
use Rattle.std.specs.List.{AllByRecursion}
use Rattle.std.specs.List.Sorted.{IsSortedBy, IsStrictlySortedBy, IsPermutation}
use Rattle.std.specs.declared.cmp.Ordering.{Ordering}
use Rattle.std.specs.declared.cmp.Ordering.TheVariants.{Less, Equal, Greater}
use Rattle.std.proofs.lemmas.Cmp.{nat_cmp_total, nat_list_cmp_total, on_total, then_total, tied_back}
use Rattle.std.proofs.lemmas.Map.Keys.{ge_from_not_lt}
use Rattle.std.proofs.lemmas.Map.Text.{is_eq-slice_cmp}
use Rattle.std.proofs.lemmas.List.Elements.{recursion_from_All}
use Rattle.std.proofs.lemmas.List.Sorted.{ranks_by, sorted_far, IsPermutation-map}
use Rattle.std.proofs.lemmas.Slice.Eq.{bytes_eq-Decides}
use Rattle.std.proofs.lemmas.Bool.Decides.{nat_tests}
use Rattle.tg_asm_text.specs.Assembly.{spot_among}
use Rattle.tg_asm.specs.declared.entries.Entry.{Entry}
use Rattle.tg_asm.specs.glue.Fronts.{front_number}
use Rattle.tg_asm.specs.glue.Entries.{Key, key_of, by_key, by_entry, label_of, lined_of, next_again, sooner, again_behind, again_among, unlined, first_again}
use Rattle.tg_asm.specs.glue.Entries.{Rises, Finds}
use Rattle.tg_asm.proofs.Tallies.{weight, tally, and_false, weight_other, weight_late, weight_one, weight_most, IsFirstAgain, Once, tally-permutation, same_again, text_again, same_spots}

pub by_key_total : IsTotalOrder by_key
by_key_total = then_total {K = Key} (on_total {K = Key} (λ k. k.0) nat_cmp_total) (on_total {K = Key} (λ k. k.1.now) nat_list_cmp_total)

pub by_entry_total : IsTotalOrder by_entry
by_entry_total = then_total {K = Entry} (on_total {K = Entry} key_of by_key_total) (on_total {K = Entry} (λ e. e.line) nat_cmp_total)

abbrev pub goes_before : Entry → Entry → Bool
goes_before x y = is_lt (by_entry x y)

pub goes_before_order : IsStrictWeakOrder goes_before
goes_before_order = ranks_by by_entry_total {X = Entry} (λ e. e)

-- keys are equal where their names are
same_number : (n m : ℕ) → n ≡ m → is_eq (nat_cmp n m) ≡ true
same_number n m e = ap is_eq (sym (nat_cmp_is n m Equal e))

pub same_key : (j k : Key) → j.0 ≡ front_number j.1.now → k.0 ≡ front_number k.1.now → is_eq (by_key j k) ≡ bytes_eq j.1.now k.1.now
same_key j k f g = sym (tied_then (nat_cmp j.0 k.0) (slice_cmp nat_cmp j.1.now k.1.now)) ∙ by (bytes_eq j.1.now k.1.now) refl
  where
    by : (b : Bool) → bytes_eq j.1.now k.1.now ≡ b → (is_eq (nat_cmp j.0 k.0) && is_eq (slice_cmp nat_cmp j.1.now k.1.now)) ≡ bytes_eq j.1.now k.1.now
    by true h =
        let same = (bytes_eq-Decides j.1.now k.1.now).0 h in
        let front = same_number j.0 k.0 (f ∙ ap front_number same ∙ sym g) in
        rw (is_eq-slice_cmp, h, front) refl
    by false h = rw (is_eq-slice_cmp, h) (and_false (is_eq (nat_cmp j.0 k.0)))

same_name : (x y : Entry) → is_eq (by_key x.key y.key) ≡ bytes_eq x.key.1.now y.key.1.now
same_name x y = same_key x.key y.key x.fronted y.fronted

pub tied : (o : Ordering) → is_eq o ≡ true → o ≡ Equal
tied Less h = cc
tied Equal h = refl
tied Greater h = cc

first_not : (o p : Ordering) → is_lt (ordering_then o p) ≡ false → is_lt o ≡ false
first_not Less p h = h
first_not Equal p h = refl
first_not Greater p h = refl

pinned : (o p : Ordering) → o ≡ ordering_reverse p → is_lt o ≡ false → is_lt p ≡ false → p ≡ Equal
pinned o Less e h k = cc
pinned o Equal e h k = refl
pinned o Greater e h k = let t : is_lt o ≡ true = ap is_lt e in cc

-- what stands between two labels of one name has it too, and no later line
record Between (x y z : Entry) : Type 0 where
  pub name : bytes_eq x.key.1.now y.key.1.now ≡ true
  pub line : y.line ≤ z.line

between : (x y z : Entry) → goes_before y x ≡ false → goes_before z y ≡ false → bytes_eq x.key.1.now z.key.1.now ≡ true → Between x y z
between x y z yx zy e =
    let xz : by_key x.key z.key ≡ Equal = tied (by_key x.key z.key) (same_name x z ∙ e) in
    let zx : by_key z.key x.key ≡ Equal = tied_back by_key_total x.key z.key xz in
    let as_x : by_key z.key y.key ≡ by_key x.key y.key = by_key_total.congr z.key x.key y.key zx in
    let not_back : is_lt (by_key y.key x.key) ≡ false = first_not (by_key y.key x.key) (nat_cmp y.line x.line) yx in
    let not_on : is_lt (by_key x.key y.key) ≡ false = ap is_lt (sym as_x) ∙ first_not (by_key z.key y.key) (nat_cmp z.line y.line) zy in
    let back : by_key y.key x.key ≡ Equal = pinned (by_key x.key y.key) (by_key y.key x.key) (by_key_total.antisymm x.key y.key) not_on not_back in
    let on : by_key x.key y.key ≡ Equal = tied_back by_key_total y.key x.key back in
    record {
      name = sym (same_name x y) ∙ ap is_eq on;
      line = ge_from_not_lt z.line y.line (ap is_lt (sym (ap (λ q. ordering_then q (nat_cmp z.line y.line)) (as_x ∙ on))) ∙ zy);
    }

line_rises : (x y : Entry) → goes_before y x ≡ false → bytes_eq x.key.1.now y.key.1.now ≡ true → x.line ≤ y.line
line_rises x y h e =
    let back : by_key y.key x.key ≡ Equal = tied_back by_key_total x.key y.key (tied (by_key x.key y.key) (same_name x y ∙ e)) in
    ge_from_not_lt y.line x.line (ap is_lt (sym (ap (λ q. ordering_then q (nat_cmp y.line x.line)) back)) ∙ h)

-- labels in order, one by one
abbrev pub Ordered : List Entry → Type 0
Ordered [] = ⊤
Ordered (x ∷ s) = AllByRecursion (λ z. goes_before z x ≡ false) s × Ordered s

sorted_rest : (x : Entry) (s : List Entry) → IsSortedBy goes_before (x ∷ s) → IsSortedBy goes_before s
sorted_rest x s up k d a b = let u = up (suc k) d (omega arith) (omega (arith, b)) in rw add-one (rw add-one at u)

pub ordered_from : (s : List Entry) → IsSortedBy goes_before s → Ordered s
ordered_from [] up = tt
ordered_from (x ∷ s) up = (
  recursion_from_All (λ z. goes_before z x ≡ false) s (λ k d h. sorted_far goes_before goes_before_order (x ∷ s) up 0 (suc k) d (omega arith) (omega (arith, h))),
  ordered_from s (sorted_rest x s up),
)

-- the least line comes first
record Soon (o : Option ℕ) (a : ℕ) : Type 0 where
  pub line : ℕ
  pub is : o ≡ Some line
  pub most : line ≤ a

sooner_first : (a : ℕ) (o : Option ℕ) → Soon (sooner (Some a) o) a
sooner_first a None = record { line = a; is = refl; most = omega arith }
sooner_first a (Some b) = record { line = min a b; is = refl; most = omega arith }

sooner_second : (o : Option ℕ) (b : ℕ) → Soon (sooner o (Some b)) b
sooner_second None b = record { line = b; is = refl; most = omega arith }
sooner_second (Some a) b = record { line = min a b; is = refl; most = omega arith }

abbrev line_in : Option ℕ → ℕ
line_in (Some n) = n
line_in None = 0

-- no label before a line is left out of a search for neighbours
pub all_alike : (P Q : Entry → Type 0) → ((z : Entry) → P z → Q z) → (s : List Entry) → AllByRecursion P s → AllByRecursion Q s
all_alike P Q f [] a = tt
all_alike P Q f (z ∷ s) a = (f z a.0, all_alike P Q f s a.1)

tally_none : (name : List ℕ) (n : ℕ) (s : List Entry) → AllByRecursion (λ z. weight name n (lined_of z) ≡ 0) s → tally name n (map lined_of s) ≡ 0
tally_none name n [] a = refl
tally_none name n (z ∷ s) a =
    let w = a.0 in
    let i = tally_none name n s a.1 in
    omega (arith, w, i)

IsBound : ℕ → Option ℕ → Type 0
IsBound n o = (m : ℕ) → o ≡ Some m → n ≤ m

-- where a label has the name of the first, the second has it too
late_again : (name : List ℕ) (n : ℕ) (x y z : Entry) (o : Option ℕ) → bytes_eq name x.key.1.now ≡ true → ((m : ℕ) → sooner (next_again x y) o ≡ Some m → n ≤ m) →
    (bytes_eq x.key.1.now z.key.1.now ≡ true → Between x y z) → weight name n (lined_of z) ≡ 0
late_again name n x y z o e h b = by (bytes_eq name z.key.1.now) refl
  where
    by : (c : Bool) → bytes_eq name z.key.1.now ≡ c → weight name n (lined_of z) ≡ 0
    by false g = weight_other name n (lined_of z) g
    by true g =
        let first = (bytes_eq-Decides name x.key.1.now).0 e in
        let last = (bytes_eq-Decides name z.key.1.now).0 g in
        let same : bytes_eq x.key.1.now z.key.1.now ≡ true = (bytes_eq-Decides x.key.1.now z.key.1.now).1 (sym first ∙ last) in
        let i = b same in
        let s = sooner_first y.line o in
        let again : next_again x y ≡ Some y.line = let t = i.name in rw t refl in
        let low : n ≤ s.line = h s.line (ap (λ q. sooner q o) again ∙ s.is) in
        let most = s.most in
        let line = i.line in
        weight_late name n (lined_of z) (omega (arith, low, most, line))

ordered_before : (name : List ℕ) (n : ℕ) (s : List Entry) → Ordered s → ((m : ℕ) → again_among s ≡ Some m → n ≤ m) → tally name n (map lined_of s) ≤ 1
ordered_before name n [] o h = omega arith
ordered_before name n (x ∷ []) o h = let w = weight_most name n (lined_of x) in omega (arith, w)
ordered_before name n (x ∷ y ∷ more) o h = by (bytes_eq name x.key.1.now) refl (ordered_before name n (y ∷ more) o.1)
  where
    later : (m : ℕ) → again_among (y ∷ more) ≡ Some m → n ≤ m
    later m e =
        let s = sooner_second (next_again x y) m in
        let low : n ≤ s.line = h s.line (ap (sooner (next_again x y)) e ∙ s.is) in
        let most = s.most in
        omega (arith, low, most)

    by : (c : Bool) → bytes_eq name x.key.1.now ≡ c → (((m : ℕ) → again_among (y ∷ more) ≡ Some m → n ≤ m) → tally name n (map lined_of (y ∷ more)) ≤ 1) →
        weight name n (lined_of x) + tally name n (map lined_of (y ∷ more)) ≤ 1
    by false g ih = let i = ih later in let w = weight_other name n (lined_of x) g in omega (arith, i, w)
    by true g ih =
        let w = weight_most name n (lined_of x) in
        let none = tally_none name n (y ∷ more) (
          late_again name n x y y (again_behind y more) g h (λ e. record { name = e; line = omega arith }),
          all_alike (λ z. goes_before z y ≡ false) (λ z. weight name n (lined_of z) ≡ 0) (λ z b. late_again name n x y z (again_behind y more) g h (between x y z o.0.0 b)) more o.1.0,
        ) in
        omega (arith, w, none)

record Twice (m : ℕ) (s : List Entry) : Type 0 where
  pub name : List ℕ
  pub twice : 2 ≤ tally name (suc m) (map lined_of s)

two_here : (x y : Entry) (more : List Entry) (m : ℕ) → goes_before y x ≡ false → bytes_eq x.key.1.now y.key.1.now ≡ true → m ≡ y.line → Twice m (x ∷ y ∷ more)
two_here x y more m h e g =
    let low = line_rises x y h e in
    let w = weight_one x.key.1.now (suc m) (lined_of x) ((bytes_eq-Decides x.key.1.now x.key.1.now).1 refl) (omega (arith, low, g)) in
    let v = weight_one x.key.1.now (suc m) (lined_of y) e (omega (arith, g)) in
    record { name = x.key.1.now; twice = omega (arith, w, v) }

two_later : (x : Entry) (s : List Entry) (m : ℕ) → Twice m s → Twice m (x ∷ s)
two_later x s m t = let l = t.twice in record { name = t.name; twice = omega (arith, l) }

ordered_again : (s : List Entry) → Ordered s → (m : ℕ) → again_among s ≡ Some m → Twice m s
ordered_again [] o m e = cc
ordered_again (x ∷ []) o m e = cc
ordered_again (x ∷ y ∷ more) o m e = by (bytes_eq x.key.1.now y.key.1.now) refl (again_behind y more) refl (ordered_again (y ∷ more) o.1)
  where
    least : (k : ℕ) (c : Bool) → nat_le y.line k ≡ c → bytes_eq x.key.1.now y.key.1.now ≡ true → min y.line k ≡ m → Twice k (y ∷ more) → Twice m (x ∷ y ∷ more)
    least k true h g l t = two_here x y more m o.0.0 g (let low : y.line ≤ k = grind (arith, nat_tests, h) in omega (arith, low, l))
    least k false h g l t =
        let same : k ≡ m = let low : k < y.line = grind (arith, nat_tests, h) in omega (arith, low, l) in
        two_later x (y ∷ more) m (subst (λ j. Twice j (y ∷ more)) same t)

    by : (b : Bool) → bytes_eq x.key.1.now y.key.1.now ≡ b → (p : Option ℕ) → again_behind y more ≡ p →
        ((k : ℕ) → again_among (y ∷ more) ≡ Some k → Twice k (y ∷ more)) → Twice m (x ∷ y ∷ more)
    by false g p h ih = two_later x (y ∷ more) m (ih m (rw g at e))
    by true g None h ih = let t = rw (g, h) at e in two_here x y more m o.0.0 g (sym (ap line_in t))
    by true g (Some k) h ih = let t = rw (g, h) at e in least k (nat_le y.line k) refl g (ap line_in t) (ih k h)

pub ordered_told : (s : List Entry) → Ordered s → IsFirstAgain (again_among s) (map lined_of s)
ordered_told s o = by (again_among s) refl
  where
    by : (p : Option ℕ) → again_among s ≡ p → IsFirstAgain p (map lined_of s)
    by None h = λ name n. ordered_before name n s o (λ m e. let t : None ≡ Some m = sym h ∙ e in cc)
    by (Some m) h =
        let t = ordered_again s o m h in
        record {
          before = λ name. ordered_before name m s o (λ k e. let same : m ≡ k = ap line_in (sym h ∙ e) in omega (arith, same));
          name = t.name;
          twice = t.twice;
        }

-- the code's test of two neighbours
pub next_tied : (x y : Entry) (o : Ordering) (b : Bool) → o ≡ by_key x.key y.key → b ≡ is_eq o → b ≡ true → Some y.line ≡ next_again x y
next_tied x y o b e f g = let h : bytes_eq x.key.1.now y.key.1.now ≡ true = sym (same_name x y) ∙ ap is_eq (sym e) ∙ sym f ∙ g in rw h refl

pub next_apart : (x y : Entry) (o : Ordering) (b : Bool) → o ≡ by_key x.key y.key → b ≡ is_eq o → b ≡ false → None ≡ next_again x y
next_apart x y o b e f g = let h : bytes_eq x.key.1.now y.key.1.now ≡ false = sym (same_name x y) ∙ ap is_eq (sym e) ∙ sym f ∙ g in rw h refl

-- neighbours one by one
pub record Passed (es : List Entry) (first : Option ℕ) (at : ℕ) : Type 0 where
  pub done : ℕ
  pub next : done + 1 ≡ at
  pub same : again_among es ≡ sooner first (again_among (drop done es))

sooner-assoc : (o p q : Option ℕ) → sooner o (sooner p q) ≡ sooner (sooner o p) q
sooner-assoc None p q = refl
sooner-assoc (Some a) None q = refl
sooner-assoc (Some a) (Some b) None = refl
sooner-assoc (Some a) (Some b) (Some c) = ap Some (omega arith)

pub passed_begin : (es : List Entry) → Passed es None 1
passed_begin es = record { done = 0; next = refl; same = refl }

pub passed_more : (es : List Entry) (first first' n : Option ℕ) (at : ℕ) (x y : Entry) → Passed es first at → at < length es → x ≡ get_or es (at - 1) x →
    y ≡ get_or es at y → n ≡ next_again x y → first' ≡ sooner first n → Passed es first' (at + 1)
passed_more es first first' n at x y i l f g e h =
    let next = i.next in
    let back : at - 1 ≡ i.done = omega (arith, next) in
    let first_is : x ≡ get_or es i.done x = f ∙ ap (λ k. get_or es k x) back in
    let one : drop i.done es ≡ x ∷ drop (suc i.done) es = drop-cons es i.done x (omega (arith, l, next)) ∙ ap (λ k. k ∷ drop (suc i.done) es) (sym first_is) in
    let to : suc i.done ≡ at = omega (arith, next) in
    let two : drop at es ≡ y ∷ drop (suc at) es = drop-cons es at y l ∙ ap (λ k. k ∷ drop (suc at) es) (sym g) in
    record {
      done = at;
      next = refl;
      same = i.same ∙ ap (λ k. sooner first (again_among k)) (one ∙ ap (λ k. x ∷ drop k es) to ∙ ap (λ k. x ∷ k) two)
          ∙ sooner-assoc first (next_again x y) (again_behind y (drop (suc at) es))
          ∙ ap (λ k. sooner k (again_behind y (drop (suc at) es))) (ap (sooner first) (sym e) ∙ sym h)
          ∙ ap (λ k. sooner first' (again_among k)) (sym two);
    }

last_passed : (es : List Entry) (done : ℕ) → length es ≤ done + 1 → again_among (drop done es) ≡ None
last_passed [] zero l = refl
last_passed [] (suc k) l = refl
last_passed (x ∷ []) zero l = refl
last_passed (x ∷ y ∷ s) zero l = absurd (let f : ⊥ = omega (arith, l) in f)
last_passed (x ∷ s) (suc k) l = last_passed s k (omega (arith, l))

pub passed_end : (es : List Entry) (first : Option ℕ) (at : ℕ) → Passed es first at → length es ≤ at → first ≡ again_among es
passed_end es first at i l =
    let next = i.next in
    sym (i.same ∙ ap (sooner first) (last_passed es i.done (omega (arith, l, next))) ∙ alone first)
  where
    alone : (o : Option ℕ) → sooner o None ≡ o
    alone None = refl
    alone (Some n) = refl

-- labels that all differ are in strict order
keys_all : (P : Key → Type 0) (s : List Entry) → AllByRecursion (λ z. P z.key) s → AllByRecursion P (map key_of s)
keys_all P [] a = tt
keys_all P (z ∷ s) a = (a.0, keys_all P s a.1)

less_than : (x y z : Entry) (o : Option ℕ) → sooner (next_again x y) o ≡ None → goes_before z x ≡ false →
    (bytes_eq x.key.1.now z.key.1.now ≡ true → Between x y z) → by_key x.key z.key ≡ Less
less_than x y z o h g b = by (by_key x.key z.key) refl
  where
    by : (p : Ordering) → by_key x.key z.key ≡ p → by_key x.key z.key ≡ Less
    by Less e = e
    by Equal e =
        let t = (b (sym (same_name x z) ∙ ap is_eq e)).name in
        let again : next_again x y ≡ Some y.line = rw t refl in
        let s = sooner_first y.line o in
        let f : None ≡ Some s.line = sym h ∙ ap (λ q. sooner q o) again ∙ s.is in
        cc
    by Greater e =
        let back : is_lt (by_key z.key x.key) ≡ true = ap is_lt (by_key_total.antisymm z.key x.key ∙ ap ordering_reverse e) in
        let not_back = first_not (by_key z.key x.key) (nat_cmp z.line x.line) g in
        cc

none_later : (o p : Option ℕ) → sooner o p ≡ None → p ≡ None
none_later o None h = refl
none_later o (Some b) h = let s = sooner_second o b in let f : None ≡ Some s.line = sym h ∙ s.is in cc

pub strict_from : (s : List Entry) → Ordered s → again_among s ≡ None → IsStrictlySortedBy by_key (map key_of s)
unfolding IsStrictlySortedBy
strict_from [] o h = tt
strict_from (x ∷ []) o h = (tt, tt)
strict_from (x ∷ y ∷ more) o h = (
  keys_all (λ j. by_key x.key j ≡ Less) (y ∷ more) (
    less_than x y y (again_behind y more) h o.0.0 (λ e. record { name = e; line = omega arith }),
    all_less more o.0.1 o.1.0,
  ),
  strict_from (y ∷ more) o.1 (none_later (next_again x y) (again_behind y more) h),
)
  where
    all_less : (s : List Entry) → AllByRecursion (λ z. goes_before z x ≡ false) s → AllByRecursion (λ z. goes_before z y ≡ false) s → AllByRecursion (λ z. by_key x.key z.key ≡ Less) s
    all_less [] a b = tt
    all_less (z ∷ s) a b = (less_than x y z (again_behind y more) h a.0 (between x y z o.0.0 b.0), all_less s a.1 b.1)

-- what a text's labels in order tell
pub sorted_told : (es s : List Entry) → Rises 0 (map lined_of es) → IsPermutation es s → IsSortedBy goes_before s → first_again [] (map lined_of es) ≡ again_among s
sorted_told es s r p up =
    same_again (first_again [] (map lined_of es)) (again_among s) (map lined_of es) (map lined_of s)
    (λ name n. tally-permutation name n (map lined_of es) (map lined_of s) (IsPermutation-map lined_of es s p)) (text_again (map lined_of es) r) (ordered_told s (ordered_from s up))

pub unlined_of : (s : List Entry) → unlined (map lined_of s) ≡ map label_of s
unlined_of [] = refl
unlined_of (e ∷ s) = ap (λ k. label_of e ∷ k) (unlined_of s)

pub sorted_finds : (es s : List Entry) → Rises 0 (map lined_of es) → IsPermutation es s → IsSortedBy goes_before s → again_among s ≡ None →
    Finds (map lined_of es) (map label_of s)
sorted_finds es s r p up h =
    let none = sorted_told es s r p up ∙ h in
    let once : Once (map lined_of es) = subst (λ o. IsFirstAgain o (map lined_of es)) none (text_again (map lined_of es) r) in
    record {
      once = none;
      spots = λ name. ap (λ v. spot_among v name) (sym (unlined_of s)) ∙ same_spots (map lined_of es) (map lined_of s) name (IsPermutation-map lined_of es s p) once;
    }
