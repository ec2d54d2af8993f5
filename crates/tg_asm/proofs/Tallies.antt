-- Labels are counted by name, below a line: so those of a text in two orders have the same first one that stands again.
use Rattle.std.proofs.Common.{◌≡◌, ◌<◌, ◌≤◌, ◌+◌, ℕ, zero, suc, Bool, true, false, cond, List, [], ◌∷◌, ◌++◌, ◌&&◌, length, Option, Some, None, refl, sym, ap, subst, ◌∙◌, append_assoc, append-nil, arith, get_or}
use Rattle.std.specs.Prelude.{⊤, nat_lt, nat_le, is_some, sum_by}
use Rattle.std.specs.Prelude.{All, Contains}
use Rattle.std.specs.Str.{bytes_eq}
use Rattle.std.specs.List.Sorted.{IsPermutation}
use Rattle.std.proofs.lemmas.List.{map-append}
use Rattle.std.proofs.lemmas.List.Elements.{All-cons}
use Rattle.std.proofs.lemmas.List.Sums.{sum_by-cons}
use Rattle.std.proofs.lemmas.List.Sorted.{IsPermutation-sym, All-permutation, Contains-permutation, sum_by-IsPermutation}
use Rattle.std.proofs.lemmas.Slice.Eq.{bytes_eq-Decides}
use Rattle.std.proofs.lemmas.Bool.Decides.{nat_tests}
use Rattle.tg_asm_text.specs.Assembly.{LabelTarget, spot_among}
use Rattle.tg_asm.specs.glue.Entries.{Lined, Rises, unlined, first_again}

-- what a label adds to the count of a name below a line
abbrev pub weight : List ℕ → ℕ → Lined → ℕ
weight name n e = cond (bytes_eq name e.0.0 && nat_lt e.1 n) 1 0

abbrev pub tally : List ℕ → ℕ → List Lined → ℕ
tally name n [] = 0
tally name n (e ∷ es) = weight name n e + tally name n es

pub and_false : (a : Bool) → (a && false) ≡ false
and_false true = refl
and_false false = refl

pub weight_other : (name : List ℕ) (n : ℕ) (e : Lined) → bytes_eq name e.0.0 ≡ false → weight name n e ≡ 0
weight_other name n e h = rw h refl

pub weight_late : (name : List ℕ) (n : ℕ) (e : Lined) → n ≤ e.1 → weight name n e ≡ 0
weight_late name n e l = let h : nat_lt e.1 n ≡ false = grind (arith, nat_tests, l) in rw (h, and_false) refl

pub weight_one : (name : List ℕ) (n : ℕ) (e : Lined) → bytes_eq name e.0.0 ≡ true → e.1 < n → weight name n e ≡ 1
weight_one name n e h l = let k : nat_lt e.1 n ≡ true = grind (arith, nat_tests, l) in rw (h, k) refl

pub weight_most : (name : List ℕ) (n : ℕ) (e : Lined) → weight name n e ≤ 1
weight_most name n e = by (bytes_eq name e.0.0 && nat_lt e.1 n)
  where
    by : (b : Bool) → cond b 1 0 ≤ 1
    by true = omega arith
    by false = omega arith

weight_more : (name : List ℕ) (n m : ℕ) (e : Lined) → n ≤ m → weight name n e ≤ weight name m e
weight_more name n m e l = by (nat_lt e.1 n) refl
  where
    by : (b : Bool) → nat_lt e.1 n ≡ b → weight name n e ≤ weight name m e
    by true h = let k : nat_lt e.1 m ≡ true = grind (arith, nat_tests, l, h) in rw (h, k) (omega arith)
    by false h = rw (h, and_false) (omega arith)

tally-more : (name : List ℕ) (n m : ℕ) (es : List Lined) → n ≤ m → tally name n es ≤ tally name m es
tally-more name n m [] l = omega arith
tally-more name n m (e ∷ es) l =
    let a = weight_more name n m e l in
    let b = tally-more name n m es l in
    omega (arith, a, b)

pub tally-append : (name : List ℕ) (n : ℕ) (es fs : List Lined) → tally name n (es ++ fs) ≡ tally name n es + tally name n fs
tally-append name n [] fs = omega arith
tally-append name n (e ∷ es) fs = let ih = tally-append name n es fs in omega (arith, ih)

tally-sum : (name : List ℕ) (n : ℕ) (es : List Lined) → tally name n es ≡ sum_by (weight name n) es
tally-sum name n [] = refl
tally-sum name n (e ∷ es) = ap (λ k. weight name n e + k) (tally-sum name n es) ∙ sym (sum_by-cons (weight name n) e es)

pub tally-permutation : (name : List ℕ) (n : ℕ) (es fs : List Lined) → IsPermutation es fs → tally name n fs ≡ tally name n es
tally-permutation name n es fs p = tally-sum name n fs ∙ sum_by-IsPermutation (weight name n) es fs p ∙ sym (tally-sum name n es)

-- each name stands once, or the first line at which one stands again
abbrev pub Once : List Lined → Type 0
Once es = (name : List ℕ) (n : ℕ) → tally name n es ≤ 1

pub record AgainAt (m : ℕ) (es : List Lined) : Type 0 where
  pub before : (name : List ℕ) → tally name m es ≤ 1
  pub name : List ℕ
  pub twice : 2 ≤ tally name (suc m) es

abbrev pub IsFirstAgain : Option ℕ → List Lined → Type 0
IsFirstAgain None es = Once es
IsFirstAgain (Some m) es = AgainAt m es

same_line : (m k : ℕ) (es fs : List Lined) → ((name : List ℕ) (n : ℕ) → tally name n fs ≡ tally name n es) → AgainAt m es → AgainAt k fs → k ≤ m
same_line m k es fs t a b = by (nat_le k m) refl
  where
    by : (c : Bool) → nat_le k m ≡ c → k ≤ m
    by true h = grind (arith, nat_tests, h)
    by false h =
        let l : suc m ≤ k = grind (arith, nat_tests, h) in
        let most = b.before a.name in
        let more = tally-more a.name (suc m) k es l in
        let same = t a.name k in
        let two = a.twice in
        omega (arith, most, more, same, two)

-- what two orders of the same labels tell is the same
pub same_again : (o p : Option ℕ) (es fs : List Lined) → ((name : List ℕ) (n : ℕ) → tally name n fs ≡ tally name n es) → IsFirstAgain o es → IsFirstAgain p fs → o ≡ p
same_again None None es fs t a b = refl
same_again None (Some k) es fs t a b =
    let most = a b.name (suc k) in
    let same = t b.name (suc k) in
    let two = b.twice in
    absurd (let f : ⊥ = omega (arith, most, same, two) in f)
same_again (Some m) None es fs t a b =
    let most = b a.name (suc m) in
    let same = t a.name (suc m) in
    let two = a.twice in
    absurd (let f : ⊥ = omega (arith, most, same, two) in f)
same_again (Some m) (Some k) es fs t a b =
    let low = same_line m k es fs t a b in
    let high = same_line k m fs es (λ name n. sym (t name n)) b a in
    ap Some (omega (arith, low, high))

-- a text's labels, in its order
abbrev UpTo : ℕ → List Lined → Type 0
UpTo b [] = ⊤
UpTo b (e ∷ es) = (e.1 ≤ b) × UpTo b es

up_to_push : (b c : ℕ) (es : List Lined) (e : Lined) → UpTo b es → b ≤ c → e.1 ≤ c → UpTo c (es ++ e ∷ [])
up_to_push b c [] e u l h = (h, tt)
up_to_push b c (x ∷ es) e u l h = let a = u.0 in (omega (arith, a, l), up_to_push b c es e u.1 l h)

known : (name : List ℕ) (n b : ℕ) (seen : List Lined) → UpTo b seen → b < n → is_some (spot_among (unlined seen) name) ≡ true → 1 ≤ tally name n seen
known name n b [] u l h = cc
known name n b (e ∷ es) u l h = by (bytes_eq name e.0.0) refl (known name n b es u.1 l)
  where
    by : (c : Bool) → bytes_eq name e.0.0 ≡ c → (is_some (spot_among (unlined es) name) ≡ true → 1 ≤ tally name n es) → 1 ≤ weight name n e + tally name n es
    by true g ih = let a = u.0 in let w = weight_one name n e g (omega (arith, a, l)) in omega (arith, w)
    by false g ih = let i = ih (rw g at h) in omega (arith, i)

unknown : (name : List ℕ) (n : ℕ) (seen : List Lined) → is_some (spot_among (unlined seen) name) ≡ false → tally name n seen ≡ 0
unknown name n [] h = refl
unknown name n (e ∷ es) h = by (bytes_eq name e.0.0) refl (unknown name n es)
  where
    by : (c : Bool) → bytes_eq name e.0.0 ≡ c → (is_some (spot_among (unlined es) name) ≡ false → tally name n es ≡ 0) → weight name n e + tally name n es ≡ 0
    by true g ih = let t = rw g at h in cc
    by false g ih = let i = ih (rw g at h) in let w = weight_other name n e g in omega (arith, i, w)

late : (name : List ℕ) (n b : ℕ) (es : List Lined) → Rises b es → n ≤ b → tally name n es ≡ 0
late name n b [] r l = refl
late name n b (e ∷ es) r l =
    let a = r.0 in
    let h : n ≤ e.1 = omega (arith, a, l) in
    let w = weight_late name n e h in
    let i = late name n e.1 es r.1 h in
    omega (arith, w, i)

once_more : (seen : List Lined) (e : Lined) → Once seen → is_some (spot_among (unlined seen) e.0.0) ≡ false → Once (seen ++ e ∷ [])
once_more seen e o h name n = by (bytes_eq name e.0.0) refl
  where
    by : (c : Bool) → bytes_eq name e.0.0 ≡ c → tally name n (seen ++ e ∷ []) ≤ 1
    by true g =
        let same = (bytes_eq-Decides name e.0.0).0 g in
        let none = unknown name n seen (ap (λ k. is_some (spot_among (unlined seen) k)) same ∙ h) in
        let a = tally-append name n seen (e ∷ []) in
        let w = weight_most name n e in
        omega (arith, none, a, w)
    by false g =
        let a = tally-append name n seen (e ∷ []) in
        let w = weight_other name n e g in
        let m = o name n in
        omega (arith, a, w, m)

pub text_told : (seen es : List Lined) (b : ℕ) → Once seen → UpTo b seen → Rises b es → IsFirstAgain (first_again (unlined seen) es) (seen ++ es)
text_told seen [] b o u r = subst Once (sym (append-nil seen)) o
text_told seen (e ∷ es) b o u r = by (is_some (spot_among (unlined seen) e.0.0)) refl (text_told (seen ++ e ∷ []) es e.1)
  where
    by : (c : Bool) → is_some (spot_among (unlined seen) e.0.0) ≡ c →
        (Once (seen ++ e ∷ []) → UpTo e.1 (seen ++ e ∷ []) → Rises e.1 es → IsFirstAgain (first_again (unlined (seen ++ e ∷ [])) es) ((seen ++ e ∷ []) ++ es)) →
        IsFirstAgain (first_again (unlined seen) (e ∷ es)) (seen ++ e ∷ es)
    by true h ih =
        let low = r.0 in
        rw h (record {
          before = λ name.
              let a = tally-append name e.1 seen (e ∷ es) in
              let w = weight_late name e.1 e (omega arith) in
              let l = late name e.1 e.1 es r.1 (omega arith) in
              let m = o name e.1 in
              omega (arith, a, w, l, m);
          name = e.0.0;
          twice =
              let a = tally-append e.0.0 (suc e.1) seen (e ∷ es) in
              let w = weight_one e.0.0 (suc e.1) e ((bytes_eq-Decides e.0.0 e.0.0).1 refl) (omega arith) in
              let k = known e.0.0 (suc e.1) b seen u (omega (arith, low)) h in
              omega (arith, a, w, k);
        })
    by false h ih =
        let low = r.0 in
        let i = ih (once_more seen e o h) (up_to_push b e.1 seen e u low (omega arith)) r.1 in
        rw h (subst (λ k. IsFirstAgain (first_again k es) (seen ++ e ∷ es)) (map-append (λ x. x.0) seen (e ∷ []))
        (subst (IsFirstAgain (first_again (unlined (seen ++ e ∷ [])) es)) (append_assoc seen (e ∷ []) es) i))

pub text_again : (es : List Lined) → Rises 0 es → IsFirstAgain (first_again [] es) es
text_again es r = text_told [] es 0 (λ name n. omega arith) tt r

-- a search in one order finds what one in another does, where each name stands once
none_differs : (es : List Lined) (name : List ℕ) → spot_among (unlined es) name ≡ None → All (λ e. bytes_eq name e.0.0 ≡ false) es
none_differs [] name h = λ k d l. absurd (let f : ⊥ = omega (arith, l) in f)
none_differs (e ∷ es) name h = by (bytes_eq name e.0.0) refl (none_differs es name)
  where
    by : (c : Bool) → bytes_eq name e.0.0 ≡ c → (spot_among (unlined es) name ≡ None → All (λ x. bytes_eq name x.0.0 ≡ false) es) → All (λ x. bytes_eq name x.0.0 ≡ false) (e ∷ es)
    by true g ih = let t = rw g at h in cc
    by false g ih = All-cons (λ x. bytes_eq name x.0.0 ≡ false) e es g (ih (rw g at h))

pub differs_none : (es : List Lined) (name : List ℕ) → All (λ e. bytes_eq name e.0.0 ≡ false) es → spot_among (unlined es) name ≡ None
differs_none [] name a = refl
differs_none (e ∷ es) name a =
    let h : bytes_eq name e.0.0 ≡ false = a 0 e (omega arith) in
    rw h (differs_none es name (λ k d l. a (suc k) d (omega (arith, l))))

record Stands (es : List Lined) (name : List ℕ) (t : LabelTarget) : Type 0 where
  pub entry : Lined
  pub there : Contains es entry
  pub same : bytes_eq name entry.0.0 ≡ true
  pub spot : entry.0.1 ≡ t

spot_stands : (es : List Lined) (name : List ℕ) (t : LabelTarget) → spot_among (unlined es) name ≡ Some t → Stands es name t
spot_stands [] name t h = cc
spot_stands (e ∷ es) name t h = by (bytes_eq name e.0.0) refl (spot_stands es name t)
  where
    spot_in : Option LabelTarget → LabelTarget
    spot_in (Some s) = s
    spot_in None = e.0.1

    by : (c : Bool) → bytes_eq name e.0.0 ≡ c → (spot_among (unlined es) name ≡ Some t → Stands es name t) → Stands (e ∷ es) name t
    by true g ih = let s = rw g at h in record { entry = e; there = (0, omega arith, refl); same = g; spot = ap spot_in s }
    by false g ih =
        let i = ih (rw g at h) in
        let l = i.there.1 in
        record { entry = i.entry; there = (suc i.there.0, omega (arith, l), i.there.2); same = i.same; spot = i.spot }

counted : (es : List Lined) (k : ℕ) (e : Lined) (name : List ℕ) (n : ℕ) → k < length es → get_or es k e ≡ e → bytes_eq name e.0.0 ≡ true → e.1 < n → 1 ≤ tally name n es
counted [] k e name n l g h b = absurd (let f : ⊥ = omega (arith, l) in f)
counted (x ∷ es) zero e name n l g h b =
    let w = weight_one name n e h b in
    let s = ap (weight name n) g in
    omega (arith, w, s)
counted (x ∷ es) (suc k) e name n l g h b = let i = counted es k e name n (omega (arith, l)) g h b in omega (arith, i)

once_stands : (es : List Lined) (k : ℕ) (e : Lined) (name : List ℕ) → Once es → k < length es → get_or es k e ≡ e → bytes_eq name e.0.0 ≡ true →
    spot_among (unlined es) name ≡ Some e.0.1
once_stands [] k e name o l g h = absurd (let f : ⊥ = omega (arith, l) in f)
once_stands (x ∷ es) zero e name o l g h =
    let s : bytes_eq name x.0.0 ≡ true = ap (λ y. bytes_eq name y.0.0) g ∙ h in
    rw s (ap (λ y. Some y.0.1) g)
once_stands (x ∷ es) (suc k) e name o l g h =
    by (bytes_eq name x.0.0) refl (once_stands es k e name (λ m n. let a = o m n in omega (arith, a)) (omega (arith, l)) g h)
  where
    by : (c : Bool) → bytes_eq name x.0.0 ≡ c → spot_among (unlined es) name ≡ Some e.0.1 → spot_among (unlined (x ∷ es)) name ≡ Some e.0.1
    by true s ih =
        let most = o name (suc (x.1 + e.1)) in
        let w = weight_one name (suc (x.1 + e.1)) x s (omega arith) in
        let i = counted es k e name (suc (x.1 + e.1)) (omega (arith, l)) g h (omega arith) in
        absurd (let f : ⊥ = omega (arith, most, w, i) in f)
    by false s ih = rw s ih

pub same_spots : (es fs : List Lined) (name : List ℕ) → IsPermutation es fs → Once es → spot_among (unlined fs) name ≡ spot_among (unlined es) name
same_spots es fs name p o = by (spot_among (unlined fs) name) refl
  where
    by : (s : Option LabelTarget) → spot_among (unlined fs) name ≡ s → spot_among (unlined fs) name ≡ spot_among (unlined es) name
    by None h = h ∙ sym (differs_none es name (All-permutation (λ e. bytes_eq name e.0.0 ≡ false) fs es (IsPermutation-sym es fs p) (none_differs fs name h)))
    by (Some t) h =
        let i = spot_stands fs name t h in
        let c = Contains-permutation fs es i.entry (IsPermutation-sym es fs p) i.there in
        h ∙ ap Some (sym i.spot) ∙ sym (once_stands es c.0 i.entry name o c.1 c.2 i.same)
