-- What it makes of lists that two of their places become one.
use Rattle.std.proofs.Common.{◌≡◌, ◌≢◌, ℕ, ◌+◌, ◌<◌, Bool, true, false, ◌||◌, List, [], ◌∷◌, ◌++◌}
use Rattle.std.proofs.Common.{length, get_or, set, sum, refl, sym, ap, subst, ◌∙◌, arith, ⊎_elim}
use Rattle.std.specs.Prelude.{nat_eq, ◌==◌, if◌then◌else◌}
use Rattle.std.specs.List.{IsDistinct, AllByRecursion}
use Rattle.std.proofs.lemmas.Bool.{cases_eq}
use Rattle.std.proofs.lemmas.List.{get_or-set_same, get_or-set_other, length-set}
use Rattle.std.proofs.lemmas.List.Sums.{sum_by-set}
use Rattle.tg_irc_definition.proofs.Deciding.{or_left, or_right, never, same_node, same_test}
use Rattle.tg_graph.specs.Interference.{is_among}
use Rattle.tg_coalescing_round.specs.glue.Lists.{list_at, poured, moved_sum, set_at_all}
use Rattle.tg_coalescing_round.proofs.AdvancingMembers.{not_again, distinct_rest}

-- two lists without repeats that share nothing
all_from : (x : ℕ) (xs : List ℕ) → is_among x xs ≡ false → AllByRecursion (λ y. nat_eq x y ≡ false) xs
all_from x [] e = tt
all_from x (y ∷ ys) e = by (x == y) refl e (λ f. all_from x ys f)
  where
    by : (b : Bool) → (x == y) ≡ b → (b || is_among x ys) ≡ false →
        (is_among x ys ≡ false → AllByRecursion (λ z. nat_eq x z ≡ false) ys) →
        AllByRecursion (λ z. nat_eq x z ≡ false) (y ∷ ys)
    by true q f r = cc
    by false q f r = (q, r f)

pub distinct_joined : (xs ys : List ℕ) → IsDistinct nat_eq xs → IsDistinct nat_eq ys →
    ((x : ℕ) → is_among x xs ≡ true → is_among x ys ≡ false) → IsDistinct nat_eq (xs ++ ys)
unfolding IsDistinct
distinct_joined [] ys h k apart = k
distinct_joined (x ∷ xs) ys h k apart = (
  all_from x (xs ++ ys) (none xs (not_again x xs h) (apart x (or_left (x == x) (is_among x xs) (same_test x x refl)))),
  distinct_joined xs ys (distinct_rest x xs h) k (λ z e. apart z (or_right (z == x) (is_among z xs) e)),
)
  where
    none : (zs : List ℕ) → is_among x zs ≡ false → is_among x ys ≡ false → is_among x (zs ++ ys) ≡ false
    none [] e f = f
    none (z ∷ zs) e f = by (x == z) (is_among x zs) e (λ g. none zs g f)
      where
        by : (a b : Bool) → (a || b) ≡ false → (b ≡ false → is_among x (zs ++ ys) ≡ false) →
            (a || is_among x (zs ++ ys)) ≡ false
        by true b e r = cc
        by false b e r = r e

-- what holds at two places and at each other
pub by_place : (kept gone : ℕ) (P : ℕ → Type 0) → P kept → P gone → ((z : ℕ) → z ≢ kept → z ≢ gone → P z) → (z : ℕ) →
    P z
by_place kept gone P a b c z =
    ⊎_elim (λ (p : z ≡ kept). subst P (sym p) a)
    (λ (e : z ≢ kept).
    ⊎_elim (λ (p : z ≡ gone). subst P (sym p) b) (λ (f : z ≢ gone). c z e f) (cases_eq z gone))
    (cases_eq z kept)

-- the list at one place is put after that at another
module _ (lists : List (List ℕ)) (kept gone : ℕ) (l : kept < length lists) (m : gone < length lists)
    (d : kept ≢ gone) where
  pub poured_kept : list_at (poured kept gone lists) kept ≡ list_at lists kept ++ list_at lists gone
  poured_kept =
      get_or-set_same (set lists gone []) kept (list_at (set lists gone []) kept ++ list_at lists gone) []
      (subst (λ n. kept < n) (sym (length-set lists gone [])) l)
      ∙ ap (λ xs. xs ++ list_at lists gone) (get_or-set_other lists gone kept [] [] d)

  pub poured_gone : list_at (poured kept gone lists) gone ≡ []
  poured_gone =
      get_or-set_other (set lists gone []) kept gone (list_at (set lists gone []) kept ++ list_at lists gone) []
      (λ e. d (sym e)) ∙ get_or-set_same lists gone [] [] m

  pub poured_other : (z : ℕ) → z ≢ kept → z ≢ gone → list_at (poured kept gone lists) z ≡ list_at lists z
  poured_other z e f =
      get_or-set_other (set lists gone []) kept z (list_at (set lists gone []) kept ++ list_at lists gone) [] e
      ∙ get_or-set_other lists gone z [] [] f

pub length_poured : (lists : List (List ℕ)) (kept gone : ℕ) → length (poured kept gone lists) ≡ length lists
length_poured lists kept gone =
    length-set (set lists gone []) kept (list_at (set lists gone []) kept ++ list_at lists gone)
    ∙ length-set lists gone []

-- and one number is added to another
module _ (sums : List ℕ) (kept gone : ℕ) (l : kept < length sums) (m : gone < length sums) (d : kept ≢ gone) where
  more : ℕ
  more = get_or (set sums gone 0) kept 0 + get_or sums gone 0

  pub sum_kept : get_or (moved_sum kept gone sums) kept 0 ≡ get_or sums kept 0 + get_or sums gone 0
  unfolding more
  sum_kept =
      get_or-set_same (set sums gone 0) kept more 0 (subst (λ n. kept < n) (sym (length-set sums gone 0)) l)
      ∙ ap (λ n. n + get_or sums gone 0) (get_or-set_other sums gone kept 0 0 d)

  pub sum_gone : get_or (moved_sum kept gone sums) gone 0 ≡ 0
  unfolding more
  sum_gone = get_or-set_other (set sums gone 0) kept gone more 0 (λ e. d (sym e)) ∙ get_or-set_same sums gone 0 0 m

  pub sum_other : (z : ℕ) → z ≢ kept → z ≢ gone → get_or (moved_sum kept gone sums) z 0 ≡ get_or sums z 0
  unfolding more
  sum_other z e f = get_or-set_other (set sums gone 0) kept z more 0 e ∙ get_or-set_other sums gone z 0 0 f

  pub sum_same : sum (moved_sum kept gone sums) ≡ sum sums
  unfolding more
  sum_same =
      let a : sum (set sums gone 0) + get_or sums gone 0 ≡ sum sums + 0 = sum_by-set (λ x. x) sums gone 0 0 m in
      let b : sum (moved_sum kept gone sums) + get_or (set sums gone 0) kept 0 ≡ sum (set sums gone 0) + more =
      sum_by-set (λ x. x) (set sums gone 0) kept more 0 (subst (λ n. kept < n) (sym (length-set sums gone 0)) l) in
      omega (arith, a, b)

pub length_moved : (sums : List ℕ) (kept gone : ℕ) → length (moved_sum kept gone sums) ≡ length sums
length_moved sums kept gone =
    length-set (set sums gone 0) kept (get_or (set sums gone 0) kept 0 + get_or sums gone 0) ∙ length-set sums gone 0

-- one number at several places
pub length_all : (number : ℕ) (places list : List ℕ) → length (set_at_all number places list) ≡ length list
length_all number [] list = refl
length_all number (p ∷ places) list = length_all number places (set list p number) ∙ length-set list p number

pub set_all : (number : ℕ) (places list : List ℕ) (x d : ℕ) → x < length list →
    get_or (set_at_all number places list) x d ≡ (if is_among x places then number else get_or list x d)
set_all number [] list x d l = refl
set_all number (p ∷ places) list x d l =
    set_all number places (set list p number) x d (subst (λ n. x < n) (sym (length-set list p number)) l)
    ∙ ⊎_elim
    (λ (e : x ≡ p).
    ap (λ n. if is_among x places then number else n)
    (ap (λ y. get_or (set list y number) x d) (sym e) ∙ get_or-set_same list x number d l)
    ∙ (either_way (is_among x places)
    ∙ sym (ap (λ b. if b || is_among x places then number else get_or list x d) (same_test x p e))))
    (λ (e : x ≢ p).
    ap (λ n. if is_among x places then number else n) (get_or-set_other list p x number d e)
    ∙ sym (ap (λ b. if b || is_among x places then number else get_or list x d) (never (λ q. e (same_node x p q)))))
    (cases_eq x p)
  where
    either_way : (b : Bool) → (if b then number else number) ≡ number
    either_way true = refl
    either_way false = refl
