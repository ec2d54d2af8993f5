-- How many numbers below another are in a set.
use Rattle.std.proofs.Common.{◌≡◌, ◌≢◌, ℕ, zero, suc, ◌+◌, ◌<◌, ◌≤◌, Bool, true, false, not, ◌&&◌, ◌||◌, ◌⊎◌, inl, inr}
use Rattle.std.proofs.Common.{refl, sym, ap, subst, ◌∙◌, arith, ⊎_elim}
use Rattle.std.specs.Prelude.{nat_eq, ◌==◌}
use Rattle.std.proofs.lemmas.Bool.Decides.{eqb_tells}
use Rattle.tg_irc_definition.specs.Graphs.{Set, bit, count, every, without}
use Rattle.tg_irc_definition.proofs.Deciding.{clash, both, and_true, either, or_left, or_right, tells, never, not_true}
use Rattle.tg_irc_definition.proofs.Deciding.{from_false, same_node, same_test, every_is}

bit_le : (p q : Bool) → (p ≡ true → q ≡ true) → bit p ≤ bit q
bit_le true q h = let e = ap bit (h refl) in omega arith
bit_le false q h = omega arith

pub count_le : (S T : Set) (n : ℕ) → ((x : ℕ) → x < n → S x ≡ true → T x ≡ true) → count S n ≤ count T n
count_le S T zero h = omega arith
count_le S T (suc n) h =
    let a = count_le S T n (λ x l. h x (omega arith)) in
    let b = bit_le (S n) (T n) (h n (omega arith)) in
    omega arith

-- a number at which a test fails
pub fails_at : (S : Set) (n : ℕ) → every S n ≡ false → (x : ℕ) × (x < n) × (S x ≡ false)
fails_at S zero e = cc
fails_at S (suc n) e = by (tells (S n)) (fails_at S n)
  where
    by : (S n ≡ true) ⊎ (S n ≡ false) → (every S n ≡ false → (x : ℕ) × (x < n) × (S x ≡ false)) → (x : ℕ) ×
        (x < suc n) × (S x ≡ false)
    by (inl t) r =
        let found = r (ap (λ b. b && every S n) (sym t) ∙ e) in
        let l = found.1 in
        (found.0, omega arith, found.2)
    by (inr f) r = (n, omega arith, f)

pub fails : (S : Set) (n x : ℕ) → x < n → S x ≡ false → every S n ≡ false
fails S n x l f = never (λ e. clash ((every_is S n).0 e x l) f)

-- a node apart from another
pub apart : (x y : ℕ) → x ≢ y → not (x == y) ≡ true
apart x y d = from_false (never (λ h. d (same_node x y h)))

pub stays_in : (x y : ℕ) (S : Set) → y ≢ x → S y ≡ true → without x S y ≡ true
stays_in x y S d h = and_true (apart y x d) h

pub was_in : (x y : ℕ) (S : Set) → without x S y ≡ true → (y ≢ x) × (S y ≡ true)
was_in x y S h = let p = both (not (y == x)) (S y) h in (λ d. clash (same_test y x d) (not_true p.0), p.1)

pub count_out : (S : Set) (a n : ℕ) → a < n → S a ≡ true → count S n ≡ suc (count (without a S) n)
count_out S a zero l h = absurd (omega arith)
count_out S a (suc n) l h = by (eqb_tells a n) (λ k. count_out S a n k h)
  where
    same_count : (T : Set) (m : ℕ) → m ≤ a → count T m ≡ count (without a T) m
    same_count T m k =
        let c = count_le T (without a T) m (λ x lx t. stays_in a x T (λ d. let e : x ≡ a = d in absurd (omega arith)) t)
        in
        let c' = count_le (without a T) T m (λ x lx t. (was_in a x T t).1) in
        omega arith

    by : ((nat_eq a n ≡ true) × (a ≡ n)) ⊎ ((nat_eq a n ≡ false) × (a ≢ n)) →
        (a < n → count S n ≡ suc (count (without a S) n)) → count S (suc n) ≡ suc (count (without a S) (suc n))
    by (inl e) ih =
        let d = e.1 in
        let c = same_count S n (omega arith) in
        let b0 : bit (without a S n) ≡ 0 = ap bit (never (λ t. (was_in a n S t).0 (sym d))) in
        let b1 : bit (S n) ≡ 1 = ap bit (subst (λ x. S x ≡ true) d h) in
        omega arith
    by (inr e) ih =
        let d = e.1 in
        let c = ih (omega arith) in
        let b0 : bit (without a S n) ≡ bit (S n) = ap (λ t. bit (t && S n)) (apart n a (λ z. d (sym z))) in
        omega arith

-- where one number takes the place of another, a set grows by none
pub count_swap : (p q : Set) (a b n : ℕ) → a < n → b < n → p b ≡ false →
    ((z : ℕ) → z < n → z ≢ a → p z ≡ true → q z ≡ true) → (p a ≡ true → (q a ≡ true) ⊎ (q b ≡ true)) →
    count p n ≤ count q n
count_swap p q a b n la lb pb h k = by (tells (p a))
  where
    at_a : q a ≡ true → (z : ℕ) → z < n → p z ≡ true → q z ≡ true
    at_a f z l t = ⊎_elim (λ e. subst (λ w. q w ≡ true) (sym e.1) f) (λ e. h z l e.1 t) (eqb_tells z a)

    moved : p a ≡ true → q b ≡ true → count p n ≤ count q n
    moved e f =
        let c0 = count_out p a n la e in
        let c1 = count_out q b n lb f in
        let c2 = count_le (without a p) (without b q) n (λ z l t. let o = was_in a z p t in
        stays_in b z q (λ d. clash (subst (λ w. p w ≡ true) d o.1) pb) (h z l o.0 o.1)) in
        omega arith

    by : (p a ≡ true) ⊎ (p a ≡ false) → count p n ≤ count q n
    by (inl e) = ⊎_elim (λ f. count_le p q n (at_a f)) (λ f. moved e f) (k e)
    by (inr e) = count_le p q n (λ z l t. h z l (λ d. clash (subst (λ w. p w ≡ true) d t) e) t)

-- a smaller set that lacks a number
pub count_less : (S T : Set) (a n : ℕ) → a < n → S a ≡ true → T a ≡ false →
    ((x : ℕ) → x < n → T x ≡ true → S x ≡ true) → count T n < count S n
count_less S T a n l s t sub =
    let c = count_out S a n l s in
    let d = count_le T (without a S) n
    (λ x k h. stays_in a x S (λ e. clash (subst (λ w. T w ≡ true) e h) t) (sub x k h)) in
    omega arith

-- a set with one number more
one_more : (c : ℕ) (U V : Set) (m : ℕ) → ((k : ℕ) → k ≢ c → V k ≡ true → U k ≡ true) → count V m ≤ 1 + count U m
one_more c U V m h = by (order c m) (tells (V c))
  where
    order : (c m : ℕ) → (c < m) ⊎ (m ≤ c)
    order c m = grind arith

    by : (c < m) ⊎ (m ≤ c) → (V c ≡ true) ⊎ (V c ≡ false) → count V m ≤ 1 + count U m
    by (inl l) (inl e) =
        let a = count_out V c m l e in
        let b = count_le (without c V) U m (λ x k t. let o = was_in c x V t in h x o.0 o.1) in
        omega arith
    by (inl l) (inr e) =
        let b = count_le V U m (λ x k t. h x (λ d. clash (subst (λ w. V w ≡ true) d t) e) t) in
        omega arith
    by (inr l) e =
        let b = count_le V U m (λ x k t. h x (λ d. let q : x ≡ c = d in absurd (omega arith)) t) in
        omega arith

-- Fewer numbers than colour_count leave a colour.
module _ (S : Set) (colour : ℕ → ℕ) where
  abbrev used : ℕ → Set
  used zero k = false
  used (suc n) k = (S n && k == colour n) || used n k

  is_used : (n y : ℕ) → y < n → S y ≡ true → used n (colour y) ≡ true
  is_used zero y l h = absurd (omega arith)
  is_used (suc n) y l h = by (eqb_tells y n) (λ m. is_used n y m h)
    where
      by : ((nat_eq y n ≡ true) × (y ≡ n)) ⊎ ((nat_eq y n ≡ false) × (y ≢ n)) → (y < n → used n (colour y) ≡ true) →
          used (suc n) (colour y) ≡ true
      by (inl z) r =
          or_left (S n && colour y == colour n) _
          (and_true (subst (λ w. S w ≡ true) z.1 h) (same_test _ _ (ap colour z.1)))
      by (inr z) r = let d = z.1 in or_right (S n && colour y == colour n) _ (r (omega arith))

  few_used : (n m : ℕ) → count (used n) m ≤ count S n
  few_used zero m = none m
    where
      none : (m : ℕ) → count (λ k. false) m ≤ 0
      none zero = omega arith
      none (suc m) = let h = none m in omega arith
  few_used (suc n) m = by (tells (S n)) (few_used n m)
    where
      by : (S n ≡ true) ⊎ (S n ≡ false) → count (used n) m ≤ count S n → count (used (suc n)) m ≤ count S (suc n)
      by (inl e) r =
          let b : bit (S n) ≡ 1 = ap bit e in
          let c = one_more (colour n) (used n) (used (suc n)) m
          (λ k d h. ⊎_elim (λ q. absurd (d (same_node _ _ (both (S n) (k == colour n) q).1))) (λ q. q)
          (either (S n && k == colour n) (used n k) h)) in
          omega arith
      by (inr e) r =
          let b : bit (S n) ≡ 0 = ap bit e in
          let c = count_le (used (suc n)) (used n) m
          (λ k l h. ⊎_elim (λ q. absurd (clash (both (S n) (k == colour n) q).0 e)) (λ q. q)
          (either (S n && k == colour n) (used n k) h)) in
          omega arith

hole : (U : Set) (m : ℕ) → count U m < m → (k : ℕ) × (k < m) × (U k ≡ false)
hole U zero h = absurd (omega arith)
hole U (suc m) h = by (tells (U m)) (hole U m)
  where
    by : (U m ≡ true) ⊎ (U m ≡ false) → (count U m < m → (k : ℕ) × (k < m) × (U k ≡ false)) → (k : ℕ) × (k < suc m) ×
        (U k ≡ false)
    by (inl e) r =
        let b : bit (U m) ≡ 1 = ap bit e in
        let found = r (omega arith) in
        let l = found.1 in
        (found.0, omega arith, found.2)
    by (inr e) r = (m, omega arith, e)

pub free_colour : (S : Set) (colour : ℕ → ℕ) (n m : ℕ) → count S n < m → (k : ℕ) × (k < m) ×
    ((y : ℕ) → y < n → S y ≡ true → colour y ≢ k)
free_colour S colour n m h =
    let f = few_used S colour n m in
    let found = hole (used S colour n) m (omega arith) in
    (found.0, found.1, λ y l t e. clash (subst (λ k. used S colour n k ≡ true) e (is_used S colour n y l t)) found.2)
