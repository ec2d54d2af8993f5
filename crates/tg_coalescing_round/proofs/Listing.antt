-- Lists of lists and sums that are changed at one place: what holds of each list, sizes and sums.
use Rattle.std.proofs.Common.{◌≡◌, ◌≢◌, ℕ, zero, suc, ◌+◌, ◌-◌, ◌<◌, ◌≤◌, List, [], ◌∷◌, length, get_or, set, refl, sym, ap, ◌∙◌, subst, ⊎_elim, arith}
use Rattle.std.specs.Prelude.{sum, sum_by}
use Rattle.std.specs.List.{All, range_with_len}
use Rattle.std.proofs.lemmas.Bool.{cases_eq, cases_lt}
use Rattle.std.proofs.lemmas.List.{length-set, get_or-set_same, get_or-set_other, set_past, get_or_default}
use Rattle.std.proofs.lemmas.List.Elements.{All-append, All-nil, All-push, All-cons}
use Rattle.std.proofs.lemmas.List.Sums.{sum_by-set, get_or-le-sum_by}
use Rattle.tg_coalescing_round.specs.glue.Lists.{list_at, pushed, poured, moved_sum, raised, lowered, set_at_all}

-- what holds of each list holds of each after one was replaced by another of which it holds
pub each_set : (P : List ℕ → Type 0) (lists : List (List ℕ)) (at : ℕ) (new : List ℕ) → P new →
    ((x : ℕ) → P (list_at lists x)) → (x : ℕ) → P (list_at (set lists at new) x)
each_set P lists at new h each x =
    ⊎_elim (λ (e : x ≡ at). subst (λ (y : ℕ). P (list_at (set lists at new) y)) (sym e) here)
    (λ (d : x ≢ at). subst P (sym (get_or-set_other lists at x new [] d)) (each x))
    (cases_eq x at)
  where
    here : P (list_at (set lists at new) at)
    here =
        ⊎_elim (λ (l : at < length lists). subst P (sym (get_or-set_same lists at new [] l)) h)
        (λ (l : length lists ≤ at).
        subst (λ (ls : List (List ℕ)). P (list_at ls at)) (sym (set_past lists at new l)) (each at))
        (cases_lt at (length lists))

module _ (P : ℕ → Type 0) where
  pub each_pushed : (at number : ℕ) (lists : List (List ℕ)) → P number → ((x : ℕ) → All P (list_at lists x)) →
      (x : ℕ) → All P (list_at (pushed at number lists) x)
  each_pushed at number lists h each =
      each_set (All P) lists at _ (All-push P (list_at lists at) number (each at) h) each

  pub each_poured : (to from : ℕ) (lists : List (List ℕ)) → ((x : ℕ) → All P (list_at lists x)) →
      (x : ℕ) → All P (list_at (poured to from lists) x)
  each_poured to from lists each =
      let emptied = each_set (All P) lists from [] (All-nil P) each in
      each_set (All P) (set lists from []) to _
      (All-append P (list_at (set lists from []) to) (list_at lists from) (emptied to) (each from)) emptied

pub length_pushed : (at number : ℕ) (lists : List (List ℕ)) → length (pushed at number lists) ≡ length lists
length_pushed at number lists = length-set lists at _

pub length_poured : (to from : ℕ) (lists : List (List ℕ)) → length (poured to from lists) ≡ length lists
length_poured to from lists = length-set (set lists from []) to _ ∙ length-set lists from []

pub length_moved_sum : (to from : ℕ) (sums : List ℕ) → length (moved_sum to from sums) ≡ length sums
length_moved_sum to from sums = length-set (set sums from 0) to _ ∙ length-set sums from 0

-- a sum is moved, raised by 1 at most, or not raised
pub sum_moved : (to from : ℕ) (sums : List ℕ) → to < length sums → from < length sums →
    sum (moved_sum to from sums) ≡ sum sums
sum_moved to from sums l k =
    let emptied = set sums from 0 in
    let zeroed : sum_by (λ x. x) (set sums from 0) + get_or sums from 0 ≡ sum_by (λ x. x) sums + 0 =
    sum_by-set (λ x. x) sums from 0 0 k in
    let filled : sum_by (λ x. x) (moved_sum to from sums) + get_or (set sums from 0) to 0 ≡
    sum_by (λ x. x) (set sums from 0) + (get_or (set sums from 0) to 0 + get_or sums from 0) =
    sum_by-set (λ x. x) (set sums from 0) to _ 0 (omega (arith, length-set sums from 0, l)) in
    omega (arith, zeroed, filled)

pub sum_lowered : (at : ℕ) (counts : List ℕ) → sum (lowered at counts) ≤ sum counts
sum_lowered at counts =
    ⊎_elim
    (λ (l : at < length counts).
    let changed : sum_by (λ x. x) (lowered at counts) + get_or counts at 0 ≡
    sum_by (λ x. x) counts + (get_or counts at 0 - 1) = sum_by-set (λ x. x) counts at _ 0 l in
    omega (arith, changed))
    (λ (l : length counts ≤ at). let same = ap sum (set_past counts at (get_or counts at 0 - 1) l) in omega (arith, same))
    (cases_lt at (length counts))

pub sum_raised : (at : ℕ) (counts : List ℕ) → sum (raised at counts) ≤ sum counts + 1
sum_raised at counts =
    ⊎_elim
    (λ (l : at < length counts).
    let changed : sum_by (λ x. x) (raised at counts) + get_or counts at 0 ≡
    sum_by (λ x. x) counts + (get_or counts at 0 + 1) = sum_by-set (λ x. x) counts at _ 0 l in
    omega (arith, changed))
    (λ (l : length counts ≤ at). let same = ap sum (set_past counts at (get_or counts at 0 + 1) l) in omega (arith, same))
    (cases_lt at (length counts))

-- the numbers of a range are within it
pub range_below : (from count top : ℕ) → from + count ≤ top → All (λ x. x < top) (range_with_len from count)
range_below from zero top h = All-nil (λ x. x < top)
range_below from (suc count) top h =
    All-cons (λ x. x < top) from (range_with_len (from + 1) count) (omega (arith, h))
    (range_below (from + 1) count top (omega (arith, h)))

-- one number set at places leaves a list as long, and its numbers below a bound
pub length_set_at_all : (number : ℕ) (places list : List ℕ) → length (set_at_all number places list) ≡ length list
length_set_at_all number [] list = refl
length_set_at_all number (at ∷ places) list =
    length_set_at_all number places (set list at number) ∙ length-set list at number

-- what was read of a list of numbers is within its sum
pub read_within : (xs : List ℕ) (i v bound : ℕ) → i < length xs → v ≡ get_or xs i v → sum xs ≤ bound → v ≤ bound
read_within xs i v bound l e h =
    let here : get_or xs i v ≤ sum_by (λ x. x) xs = get_or-le-sum_by (λ x. x) xs i v l in
    omega (arith, here, e, h)

pub raised_read : (xs : List ℕ) (i v : ℕ) → i < length xs → v ≡ get_or xs i v → set xs i (v + 1) ≡ raised i xs
raised_read xs i v l e = ap (λ n. set xs i (n + 1)) (e ∙ get_or_default xs i v 0 l)

pub lowered_read : (xs : List ℕ) (i v : ℕ) → i < length xs → v ≡ get_or xs i v → set xs i (v - 1) ≡ lowered i xs
lowered_read xs i v l e = ap (λ n. set xs i (n - 1)) (e ∙ get_or_default xs i v 0 l)
