-- The places of a code: where its instructions go on, and what they use.
use Rattle.std.proofs.Common.{◌≡◌, ◌<◌, ◌≤◌, ◌+◌, ℕ, zero, suc, Bool, true, false, nat_eq, nat_lt, ◌&&◌, ◌||◌, cond, List, [], ◌∷◌, length, replicate}
use Rattle.std.proofs.Common.{get_or, take, drop, refl, sym, ap, ◌∙◌, subst, arith, ⊎_elim}
use Rattle.std.specs.List.{list_any, list_all}
use Rattle.std.proofs.lemmas.Bool.{cases_lt, lt-ltb, ltb-true, and_parts, and_from, false≢true, or_left, or_right, eq-eqb}
use Rattle.std.proofs.lemmas.List.{get_or_past, length-map, length-replicate, get_or-map, drop_more}
use Rattle.std.proofs.lemmas.List.Folds.{list_all_more}
use Rattle.tg_instr.specs.declared.instr.Instr.{Instr}
use Rattle.tg_instr.specs.declared.instr.Test.{Test}
use Rattle.tg_instr.specs.declared.instr.Instr.TheVariants.{Jump, Branch, Fault, Return}
use Rattle.tg_instr.specs.declared.operands.Opnd.{Opnd}
use Rattle.tg_instr.specs.Shapes.{shape}
use Rattle.tg_instr.specs.Uses.{uses_of, defs_of}
use Rattle.tg_instr.specs.Codes.{is_mark, leads_to_marks, is_end, ends_well, has_temps_below, is_below}
use Rattle.tg_live.specs.Flow.{place_of, onward, onward_from, successors, goes_on}
use Rattle.tg_live.specs.Live.{is_used, uses_at, is_proper, number_of, operand_of}
use Rattle.tg_live.specs.glue.Tables.{Table, row, push_at, add_to, have_rows_below, IsBefore, numbers_of, numbers_used, add_from, AreSites}
use Rattle.tg_live.proofs.Turned.{turned, length-add_from}
use Rattle.tg_live.proofs.Numbers.{number_among, among_proper, operand_number, among_all, number_below, numbers_below}

length-onward_from : (all : List Instr) (at : ℕ) (list : List Instr) → length (onward_from all at list) ≡ length list
length-onward_from all at [] = refl
length-onward_from all at (one ∷ rest) = ap suc (length-onward_from all (suc at) rest)

pub length-successors : (all : List Instr) → length (successors all) ≡ length all
length-successors all = length-onward_from all 0 all

-- only a place of the code goes on
pub goes_within : (all : List Instr) (at next : ℕ) → goes_on all at next ≡ true → at < length all
goes_within all at next g = ⊎_elim (λ l. l) past (cases_lt at (length all))
  where
    past : length all ≤ at → at < length all
    past l =
        let e : length (successors all) ≤ at = omega (arith, length-successors all) in
        absurd (false≢true (sym (ap (list_any (nat_eq next)) (get_or_past (successors all) at [] e)) ∙ g))

row_onward_from : (all : List Instr) (from : ℕ) (list : List Instr) (k at : ℕ) (d : Instr) → k < length list →
    at ≡ from + k →
    row (onward_from all from list) k ≡ onward all at (shape (get_or list k d))
row_onward_from all from [] k at d l e = absurd (omega arith)
row_onward_from all from (one ∷ rest) zero at d l e =
    let e0 : from ≡ at = omega arith in ap (λ n. onward all n (shape one)) e0
row_onward_from all from (one ∷ rest) (suc k) at d l e = row_onward_from all (suc from) rest k at d (omega
    arith) (omega arith)

-- where the instruction of a place goes on
pub row_onward : (all : List Instr) (at : ℕ) (d : Instr) → at < length all →
    row (successors all) at ≡ onward all at (shape (get_or all at d))
row_onward all at d l = row_onward_from all 0 all at at d l (omega arith)

place_by : (b : Bool) (m : ℕ) (rest : List Instr) → (list_any (is_mark m) rest ≡ true → place_of m rest < length rest) →
    (b || list_any (is_mark m) rest) ≡ true → cond b 0 (suc (place_of m rest)) < suc (length rest)
place_by true m rest later h = omega arith
place_by false m rest later h = let l = later h in omega arith

pub place_within : (m : ℕ) (all : List Instr) → list_any (is_mark m) all ≡ true → place_of m all < length all
place_within m [] h = absurd (false≢true h)
place_within m (one ∷ rest) h = place_by (is_mark m one) m rest (λ e. place_within m rest e) h

module _ (all : List Instr) where
  end_below : (at : ℕ) (one : Instr) → is_end one ≡ true → leads_to_marks all one ≡ true →
      list_all (λ k. nat_lt k (length all)) (onward all at (shape one)) ≡ true
  end_below at (Jump m) e h = and_from _ true (lt-ltb (place_of m all) (length all) (place_within m all h)) refl
  end_below at (Fault n) e h = refl
  end_below at Return e h = refl
  end_below at _ e h = absurd (false≢true e)

  onward_below : (at : ℕ) (one : Instr) → suc at < length all → leads_to_marks all one ≡ true →
      list_all (λ k. nat_lt k (length all)) (onward all at (shape one)) ≡ true
  onward_below at (Jump m) l h = and_from _ true (lt-ltb (place_of m all) (length all) (place_within m all h)) refl
  onward_below at (Branch test m) l h =
      and_from _ _ (lt-ltb (place_of m all) (length all) (place_within m all h)) (and_from _ true
      (lt-ltb (suc at) (length all) l) refl)
  onward_below at (Fault n) l h = refl
  onward_below at Return l h = refl
  onward_below at _ l h = and_from _ true (lt-ltb (suc at) (length all) l) refl

  from_below : (at : ℕ) (list : List Instr) → at + length list ≡ length all →
      list_all (leads_to_marks all) list ≡ true → ends_well list ≡ true →
      have_rows_below (length all) (onward_from all at list) ≡ true
  from_below at [] e h w = absurd (false≢true w)
  from_below at (one ∷ []) e h w =
      let k = and_parts (leads_to_marks all one) true h in
      and_from _ true (end_below at one w k.0) refl
  from_below at (one ∷ two ∷ rest) e h w =
      let k = and_parts (leads_to_marks all one) (list_all (leads_to_marks all) (two ∷ rest)) h in
      let l : suc at < length all = omega arith in
      and_from _ _ (onward_below at one l k.0) (from_below (suc at) (two ∷ rest) (omega arith) k.1 w)

  pub successors_below : list_all (leads_to_marks all) all ≡ true → ends_well all ≡ true →
      have_rows_below (length all) (successors all) ≡ true
  successors_below h w = from_below 0 all (omega arith) h w

pub all_at : {A : Type 0} (p : A → Bool) (list : List A) (k : ℕ) (d : A) → k < length list → list_all p list ≡ true →
    p (get_or list k d) ≡ true
all_at p [] k d l h = absurd (omega arith)
all_at p (y ∷ list) zero d l h = (and_parts (p y) (list_all p list) h).0
all_at p (y ∷ list) (suc k) d l h = all_at p list k d (omega arith) (and_parts (p y) (list_all p list) h).1

pub row_below : (n : ℕ) (t : Table) (q : ℕ) → have_rows_below n t ≡ true → list_all (λ k. nat_lt k n) (row t q) ≡ true
row_below n [] q h = refl
row_below n (ks ∷ t) zero h = (and_parts (list_all (λ k. nat_lt k n) ks) (have_rows_below n t) h).0
row_below n (ks ∷ t) (suc q) h = row_below n t q (and_parts (list_all (λ k. nat_lt k n) ks) (have_rows_below n t) h).1

-- an instruction's edges
pub edge_row : (all : List Instr) (at : ℕ) (one i : Instr) → at < length all → one ≡ get_or all at one → one ≡ i →
    row (successors all) at ≡ onward all at (shape i)
edge_row all at one i l e is = row_onward all at one l ∙ ap (λ k. onward all at (shape k)) (sym e ∙ is)

pub next_row : (all : List Instr) (at : ℕ) (one : Instr) → at < length all → one ≡ get_or all at one →
    ((m : ℕ) → one ≡ Jump m → ⊥) → ((test : Test) (m : ℕ) → one ≡ Branch test m → ⊥) →
    ((n : ℕ) → one ≡ Fault n → ⊥) → (one ≡ Return → ⊥) →
    row (successors all) at ≡ suc at ∷ []
next_row all at one l e j b f r = edge_row all at one one l e refl ∙ next one j b f r
  where
    next : (i : Instr) → ((m : ℕ) → i ≡ Jump m → ⊥) → ((test : Test) (m : ℕ) → i ≡ Branch test m → ⊥) →
        ((n : ℕ) → i ≡ Fault n → ⊥) → (i ≡ Return → ⊥) →
        onward all at (shape i) ≡ suc at ∷ []
    next (Jump m) j b f r = absurd (j m refl)
    next (Branch test m) j b f r = absurd (b test m refl)
    next (Fault n) j b f r = absurd (f n refl)
    next Return j b f r = absurd (r refl)
    next _ j b f r = refl

-- the rows to which the edges of a place are added are rows of the table
pub first_within : (n : ℕ) (lists : List (List ℕ)) (at k : ℕ) (ks : List ℕ) → have_rows_below n lists ≡ true →
    row lists at ≡ k ∷ ks → k < n
first_within n lists at k ks h e =
    let w = row_below n lists at h in
    let v = subst (λ (u : List ℕ). list_all (λ j. nat_lt j n) u ≡ true) e w in
    ltb-true k n (and_parts (nat_lt k n) (list_all (λ j. nat_lt j n) ks) v).0

pub second_within : (n : ℕ) (lists : List (List ℕ)) (at j k : ℕ) (ks : List ℕ) → have_rows_below n lists ≡ true →
    row lists at ≡ j ∷ k ∷ ks → k < n
second_within n lists at j k ks h e =
    let w = row_below n lists at h in
    let v = subst (λ (u : List ℕ). list_all (λ j. nat_lt j n) u ≡ true) e w in
    let u = (and_parts (nat_lt j n) (nat_lt k n && list_all (λ j. nat_lt j n) ks) v).1 in
    ltb-true k n (and_parts (nat_lt k n) (list_all (λ j. nat_lt j n) ks) u).0

-- where an instruction leads there is a mark
pub marks_at : (all : List Instr) (at : ℕ) (one i : Instr) → at < length all → one ≡ get_or all at one → one ≡ i →
    list_all (leads_to_marks all) all ≡ true →
    leads_to_marks all i ≡ true
marks_at all at one i l e is h = ap (leads_to_marks all) (sym is ∙ e) ∙ all_at (leads_to_marks all) all at one l h

all_below : (n : ℕ) (ks : List ℕ) → ((p : ℕ) → list_any (nat_eq p) ks ≡ true → p < n) →
    list_all (λ k. nat_lt k n) ks ≡ true
all_below n [] h = refl
all_below n (k ∷ ks) h =
    and_from _ _ (lt-ltb k n (h k (or_left (nat_eq k k) _ (eq-eqb k k refl)))) (all_below n ks
    (λ p e. h p (or_right (nat_eq p k) _ e)))

rows_below : (n : ℕ) (t : Table) → ((q p : ℕ) → list_any (nat_eq p) (row t q) ≡ true → p < n) →
    have_rows_below n t ≡ true
rows_below n [] h = refl
rows_below n (ks ∷ t) h = and_from _ _ (all_below n ks (λ p e. h 0 p e)) (rows_below n t (λ q p e. h (suc q) p e))

-- what stands before a place is a place of the code
pub before_below : (all : List Instr) (before : Table) → IsBefore all before →
    have_rows_below (length all) before ≡ true
before_below all before is = rows_below (length all) before (λ q p e. goes_within all p q (sym (is p q) ∙ e))

-- Uses.

abbrev pub uses_are_proper : Instr → Bool
uses_are_proper one = list_all is_proper (uses_of one)

row_among : (i : ℕ) (all : List Instr) (at : ℕ) → list_all uses_are_proper all ≡ true →
    list_any (nat_eq i) (row (numbers_used all) at) ≡ is_used all (operand_of i) at
row_among i [] at p = refl
row_among i (one ∷ all) zero p = number_among i (uses_of one) (and_parts (uses_are_proper one)
    (list_all uses_are_proper all) p).0
row_among i (one ∷ all) (suc at) p = row_among i all at (and_parts (uses_are_proper one)
    (list_all uses_are_proper all) p).1

used_proper : (x : Opnd) (all : List Instr) (at : ℕ) → list_all uses_are_proper all ≡ true →
    is_used all x at ≡ true → is_proper x ≡ true
used_proper x [] at p u = absurd (false≢true u)
used_proper x (one ∷ all) zero p u = among_proper x (uses_of one) (and_parts (uses_are_proper one)
    (list_all uses_are_proper all) p).0 u
used_proper x (one ∷ all) (suc at) p u = used_proper x all at (and_parts (uses_are_proper one)
    (list_all uses_are_proper all) p).1 u

used_below : (n : ℕ) (x : Opnd) (all : List Instr) (at : ℕ) → list_all (has_temps_below n) all ≡ true →
    is_used all x at ≡ true → is_below n x ≡ true
used_below n x [] at b u = absurd (false≢true u)
used_below n x (one ∷ all) zero b u =
    let h = and_parts (has_temps_below n one) (list_all (has_temps_below n) all) b in
    let k = and_parts (list_all (is_below n) (uses_of one)) (list_all (is_below n) (defs_of one)) h.0 in
    among_all (is_below n) x (uses_of one) k.0 u
used_below n x (one ∷ all) (suc at) b u = used_below n x all at (and_parts (has_temps_below n one)
    (list_all (has_temps_below n) all) b).1 u

pub numbers_used_below : (n : ℕ) (all : List Instr) → list_all uses_are_proper all ≡ true →
    list_all (has_temps_below n) all ≡ true →
    have_rows_below (32 + n) (numbers_used all) ≡ true
numbers_used_below n [] p b = refl
numbers_used_below n (one ∷ all) p b =
    let q = and_parts (uses_are_proper one) (list_all uses_are_proper all) p in
    let h = and_parts (has_temps_below n one) (list_all (has_temps_below n) all) b in
    let k = and_parts (list_all (is_below n) (uses_of one)) (list_all (is_below n) (defs_of one)) h.0 in
    and_from _ _ (numbers_below n (uses_of one) q.0 k.0) (numbers_used_below n all q.1 h.1)

-- the table of the uses of a code
pub sites_of : (n : ℕ) (all : List Instr) → list_all uses_are_proper all ≡ true →
    list_all (has_temps_below n) all ≡ true →
    AreSites all (add_from 0 (numbers_used all) (replicate (32 + n) []))
sites_of n all p b = record {
  within = λ x at u.
      let q = used_proper x all at p u in
      let e = length-add_from 0 (numbers_used all) (replicate (32 + n) []) ∙ length-replicate (32 + n) [] in
      let l = number_below n x q (used_below n x all at b u) in
      (subst (λ (m : ℕ). number_of x < m) (sym e) l, operand_number x q);
  same = λ i at. turned (numbers_used all) (32 + n) (numbers_used_below n all p b) at i ∙ row_among i all at p;
}

-- the uses of a place
pub uses_at_is : (all : List Instr) (at : ℕ) (d : Instr) → at < length all → uses_at all at ≡ uses_of (get_or all at d)
uses_at_is all at d l = get_or-map uses_of all at d [] l

pub numbers_at : (all : List Instr) (at : ℕ) (d : Instr) → at < length all →
    row (numbers_used all) at ≡ numbers_of (uses_of (get_or all at d))
numbers_at all at d l = get_or-map (λ one. numbers_of (uses_of one)) all at d [] l

pub uses_below : (n : ℕ) (all : List Instr) (at : ℕ) (d : Instr) → at < length all →
    list_all (has_temps_below n) all ≡ true → list_all (is_below n) (uses_of (get_or all at d)) ≡ true
uses_below n all at d l h =
    (and_parts (list_all (is_below n) (uses_of (get_or all at d)))
    (list_all (is_below n) (defs_of (get_or all at d))) (all_at (has_temps_below n) all at d l h)).0

pub uses_proper_more : (all : List Instr) (at : ℕ) (d : Instr) → at < length all →
    list_all uses_are_proper (take at all) ≡ true → list_all is_proper (uses_at all at) ≡ true →
    list_all uses_are_proper (take (at + 1) all) ≡ true
uses_proper_more all at d l h p =
    list_all_more uses_are_proper all at d l
    ∙ and_from _ _ h (ap (list_all is_proper) (sym (uses_at_is all at d l)) ∙ p)

pub proper_more : (list : List Opnd) (i : ℕ) (y : Opnd) → i < length list → y ≡ get_or list i y →
    list_all is_proper (take i list) ≡ true → is_proper y ≡ true →
    list_all is_proper (take (i + 1) list) ≡ true
proper_more list i y l e h p = list_all_more is_proper list i y l ∙ and_from _ _ h (ap is_proper (sym e) ∙ p)

pub add_uses_more : (at : ℕ) (list : List Opnd) (i : ℕ) (y : Opnd) (t : Table) → i < length list → y ≡ get_or list i y →
    add_to at (numbers_of (drop i list)) t ≡ add_to at (numbers_of (drop (i + 1) list)) (push_at t (number_of y) at)
add_uses_more at list i y t l e =
    ap (λ rest. add_to at (numbers_of rest) t) (drop_more list i y l)
    ∙ ap (λ z. add_to at (numbers_of (z ∷ drop (i + 1) list)) t) (sym e)

pub length-numbers_used : (all : List Instr) → length (numbers_used all) ≡ length all
length-numbers_used all = length-map all (λ one. numbers_of (uses_of one))

-- the table of the edges of a code
pub before_of : (all : List Instr) (t : Table) → have_rows_below (length all) (successors all) ≡ true →
    t ≡ add_from 0 (successors all) (replicate (length all) []) → IsBefore all t
before_of all t w e at next = ap (λ u. list_any (nat_eq at) (row u next)) e
    ∙ turned (successors all) (length all) w at next
