-- What the changes have once the operands of the first numbers are searched for.
use Rattle.std.proofs.Common.{◌≡◌, ◌<◌, ◌≤◌, ◌+◌, ◌⊎◌, ℕ, zero, suc, Bool, true, false, not, nat_eq, nat_lt, ◌&&◌, ◌||◌, List, [], ◌∷◌, ◌++◌}
use Rattle.std.proofs.Common.{length, replicate, refl, sym, ap, ◌∙◌, subst, arith, ⊎_elim, inl, inr}
use Rattle.std.specs.List.{list_all, list_any}
use Rattle.std.proofs.lemmas.Bool.{and_parts, and_from, cases_eq, cases_lt, cases_Bool, lt-ltb, ltb-true, ne_eqb, eq-eqb, or_left, or_right, both_ways, false≢true}
use Rattle.std.proofs.lemmas.List.{length-replicate, get_or_past}
use Rattle.tg_instr.specs.declared.instr.Instr.{Instr}
use Rattle.tg_instr.specs.declared.operands.Opnd.{Opnd}
use Rattle.tg_live.specs.Live.{Sets, set_at, number_of, operand_of, IsLiveOut}
use Rattle.tg_live.specs.glue.Tables.{row}
use Rattle.tg_live.specs.mirror.Search.{Found, stamp_at, has_stamp, has_stamp_before, IsSearched}
use Rattle.tg_live.specs.glue.LiveChanges.{ends_in, live_behind, sets_of, AreSearched}
use Rattle.tg_live.proofs.Turned.{row_none}
use Rattle.tg_live.proofs.Places.{goes_within}
use Rattle.tg_live.proofs.Numbers.{number_operand, ends_among, among_all}
use Rattle.tg_live.proofs.Changing.{is_lower, are_lower, live_before, live_more, length-sets_of, set_of_changes, set_beyond, no_changes}
use Rattle.tg_live.proofs.Noted.{grown}
use Rattle.tg_live.proofs.Gathered.{AreGathered, gathered_none, gathered_more}

pub record AreCollected (all : List Instr) (n : ℕ) (marks : List ℕ) (comes goes : Sets) : Type 0 where
  pub gathered : AreGathered all n (sets_of comes goes)
  pub sized : length marks ≡ length all
  pub sized_comes : length comes ≡ length all
  pub sized_goes : length goes ≡ length all
  pub stamps : (q : ℕ) → stamp_at marks q ≤ n
  pub lower_comes : (q : ℕ) → are_lower n (row comes q) ≡ true
  pub lower_goes : (q : ℕ) → are_lower n (row goes q) ≡ true

none_lower : (n count q : ℕ) → are_lower n (row (replicate count []) q) ≡ true
none_lower n count q = ap (are_lower n) (row_none count q)

none_set : (count q : ℕ) → set_at (sets_of (replicate count []) (replicate count [])) q ≡ []
none_set count q =
    let e = length-replicate count (let none : List Opnd = [] in none) in
    ⊎_elim
    (λ l. set_of_changes (replicate count []) (replicate count []) q (omega (arith, l, e)) ∙ no_changes count (suc q))
    (λ l. set_beyond (replicate count []) (replicate count []) q (omega (arith, l, e))) (cases_lt q count)

pub collected_none : (all : List Instr) (n : ℕ) → n ≡ length all →
    AreCollected all 0 (replicate n 0) (replicate n []) (replicate n [])
collected_none all n e = record {
  gathered = gathered_none all (sets_of (replicate n []) (replicate n []))
      (length-sets_of (replicate n []) (replicate n []) ∙ (length-replicate n [] ∙ e)) (none_set n);
  sized = length-replicate n 0 ∙ e;
  sized_comes = length-replicate n [] ∙ e;
  sized_goes = length-replicate n [] ∙ e;
  stamps = λ q. omega (arith, zeros n q);
  lower_comes = none_lower 0 n;
  lower_goes = none_lower 0 n;
}
  where
    zeros : (count q : ℕ) → stamp_at (replicate count 0) q ≡ 0
    zeros zero q = refl
    zeros (suc count) zero = refl
    zeros (suc count) (suc q) = zeros count q

pub collected_from : (all : List Instr) (marks : List ℕ) (comes goes : Sets) → marks ≡ replicate (length all) 0 →
    comes ≡ replicate (length all) [] → goes ≡ replicate (length all) [] → AreCollected all 0 marks comes goes
collected_from all marks comes goes m c g =
    let P : List ℕ → Type 0 = λ u. AreCollected all 0 u comes goes in
    let Q : Sets → Type 0 = λ u. AreCollected all 0 (replicate (length all) 0) u goes in
    let R : Sets → Type 0 = λ u. AreCollected all 0 (replicate (length all) 0) (replicate (length all) []) u in
    subst P (sym m) (subst Q (sym c) (subst R (sym g) (collected_none all (length all) refl)))

-- no place has the next stamp
pub stamp_fresh : (n : ℕ) (marks : List ℕ) → ((q : ℕ) → stamp_at marks q ≤ n) → (q : ℕ) →
    has_stamp (n + 1) marks q ≡ false
stamp_fresh n marks l q = ne_eqb (n + 1) (stamp_at marks q) (λ e. let h = l q in absurd (omega (arith, h, e)))

-- no row ends in the next operand
pub row_fresh : (n : ℕ) (rows : Sets) → ((q : ℕ) → are_lower n (row rows q) ≡ true) → (q : ℕ) →
    ends_in (operand_of n) (row rows q) ≡ false
row_fresh n rows l q =
    ⊎_elim (λ e.
    let h = among_all (is_lower n) (operand_of n) (row rows q) (l q) (ends_among (operand_of n) (row rows q) e) in
    let k = ltb-true (number_of (operand_of n)) n h in
    absurd (omega (arith, k, number_operand n)))
    (λ e. e) (cases_Bool (ends_in (operand_of n) (row rows q)))

-- the places that were found are places of the code
all_of : (p : ℕ → Bool) (ks : List ℕ) → ((q : ℕ) → list_any (nat_eq q) ks ≡ true → p q ≡ true) →
    list_all p ks ≡ true
all_of p [] h = refl
all_of p (k ∷ ks) h =
    and_from _ _ (h k (or_left (nat_eq k k) _ (eq-eqb k k refl))) (all_of p ks (λ q a. h q (or_right (nat_eq q k) _ a)))

live_within : (all : List Instr) (x : Opnd) (q : ℕ) → IsLiveOut all q x → q < length all
live_within all x q live = goes_within all q live.next live.goes

module _ (all : List Instr) (x : Opnd) (n : ℕ) (old : List ℕ) (f : Found) (s : IsSearched all x n old f)
    (e : length old ≡ length all) where
  mark_within : (q : ℕ) → has_stamp n f.marks q ≡ true → nat_lt q (length f.marks) ≡ true
  mark_within q m =
      let l = live_within all x q ((s.live q).0 m) in
      let k = s.size in
      lt-ltb q (length f.marks) (omega (arith, l, e, k))

  pub firsts_within : list_all (λ k. nat_lt k (length f.marks)) f.firsts ≡ true
  firsts_within = all_of (λ k. nat_lt k (length f.marks)) f.firsts (λ q h. mark_within q (s.is_found.first q h))

  pub lasts_within : list_all (λ k. nat_lt k (length f.marks)) f.lasts ≡ true
  lasts_within = all_of (λ k. nat_lt k (length f.marks)) f.lasts (λ q h. mark_within q (s.is_found.last q h))

-- two tests are the same beside a third, where each holds if the other does and the third
same_beside : (a b t : Bool) → (a ≡ true → b ≡ true) → (b ≡ true → t ≡ false → a ≡ true) → (a && not t) ≡ (b && not t)
same_beside true true t i j = refl
same_beside true false t i j = absurd (false≢true (i refl))
same_beside false true true i j = refl
same_beside false true false i j = absurd (false≢true (j refl refl))
same_beside false false t i j = refl

any_zero : (ks : List ℕ) → list_any (λ p. nat_eq 0 (suc p)) ks ≡ false
any_zero [] = refl
any_zero (k ∷ ks) =
    ap (λ b. b || list_any (λ p. nat_eq 0 (suc p)) ks) (ne_eqb 0 (suc k) (λ e. absurd (omega (arith, e)))) ∙ any_zero ks

suc_same : (q k : ℕ) → nat_eq (suc q) (suc k) ≡ nat_eq q k
suc_same q k =
    ⊎_elim (λ e. eq-eqb (suc q) (suc k) (ap suc e) ∙ sym (eq-eqb q k e))
    (λ ne. ne_eqb (suc q) (suc k) (λ e. ne (omega (arith, e))) ∙ sym (ne_eqb q k ne)) (cases_eq q k)

any_suc : (q : ℕ) (ks : List ℕ) → list_any (λ p. nat_eq (suc q) (suc p)) ks ≡ list_any (nat_eq q) ks
any_suc q [] = refl
any_suc q (k ∷ ks) =
    ap (λ b. b || list_any (λ p. nat_eq (suc q) (suc p)) ks) (suc_same q k)
    ∙ ap (λ b. nat_eq q k || b) (any_suc q ks)

module _ (all : List Instr) (n : ℕ) (old : List ℕ) (comes goes comes2 goes2 : Sets) (f : Found) where
  abbrev x : Opnd
  x = operand_of n

  abbrev live : ℕ → Bool
  live = has_stamp (n + 1) f.marks

  module _ (c : AreCollected all n old comes goes) (s : IsSearched all x (n + 1) old f)
      (sized : length comes2 ≡ length comes) (sized_goes : length goes2 ≡ length goes)
      (come : (q : ℕ) → row comes2 q
      ≡ grown (list_any (nat_eq q) f.firsts && not (has_stamp_before (n + 1) f.marks q)) x (row comes q))
      (go : (q : ℕ) → q < length goes → row goes2 q
      ≡ grown (list_any (λ p. nat_eq q (suc p)) f.lasts && not (has_stamp (n + 1) f.marks q)) x (row goes q)) where
    same_before : (q : ℕ) → has_stamp_before (n + 1) f.marks q ≡ live_before live q
    same_before zero = refl
    same_before (suc q) = refl

    found_here : (q : ℕ) → (list_any (nat_eq q) f.firsts && not (has_stamp_before (n + 1) f.marks q))
        ≡ (live q && not (has_stamp_before (n + 1) f.marks q))
    found_here q = same_beside _ _ _ (s.is_found.first q) (s.is_found.begins q)

    found_before : (q : ℕ) → (list_any (λ p. nat_eq q (suc p)) f.lasts && not (live q))
        ≡ (live_before live q && not (live q))
    found_before zero = ap (λ b. b && not (live 0)) (any_zero f.lasts)
    found_before (suc q) =
        ap (λ b. b && not (live (suc q))) (any_suc q f.lasts)
        ∙ same_beside _ _ _ (s.is_found.last q) (s.is_found.ends q)

    comes_there : (q : ℕ) → row comes2 q ≡ grown (live q && not (live_before live q)) x (row comes q)
    comes_there q =
        come q
        ∙ (ap (λ b. grown b x (row comes q)) (found_here q)
        ∙ ap (λ b. grown (live q && not b) x (row comes q)) (same_before q))

    goes_there : (q : ℕ) → q < length goes →
        row goes2 q ≡ grown (live_before live q && not (live q)) x (row goes q)
    goes_there q l = go q l ∙ ap (λ b. grown b x (row goes q)) (found_before q)

    lower_by : (rows : Sets) → ((q : ℕ) → are_lower n (row rows q) ≡ true) → (q : ℕ) →
        are_lower (number_of x) (row rows q) ≡ true
    lower_by rows l q = ap (λ k. are_lower k (row rows q)) (number_operand n) ∙ l q

    behind : (count : ℕ) → count ≤ length goes →
        live_behind comes2 goes2 count ≡ grown (live_before live count) x (live_behind comes goes count)
    behind count le =
        live_more x comes goes comes2 goes2 live (lower_by comes c.lower_comes) (lower_by goes c.lower_goes)
        comes_there count (λ q l. goes_there q (omega (arith, l, le)))

    abbrev Each : ℕ → Type 0
    Each at =
        ((set_at (sets_of comes2 goes2) at ≡ set_at (sets_of comes goes) at ++ x ∷ []) × IsLiveOut all at x)
        ⊎ ((set_at (sets_of comes2 goes2) at ≡ set_at (sets_of comes goes) at) × (IsLiveOut all at x → ⊥))

    inside : (at : ℕ) → at < length all → (b : Bool) → live at ≡ b → Each at
    inside at l true e =
        inl (
          set_of_changes comes2 goes2 at (omega (arith, l, sized, c.sized_comes))
              ∙ (behind (suc at) (omega (arith, l, c.sized_goes))
              ∙ (ap (λ b. grown b x (live_behind comes goes (suc at))) e
              ∙ ap (λ r. r ++ x ∷ []) (sym (set_of_changes comes goes at (omega (arith, l, c.sized_comes)))))),
          (s.live at).0 e,
        )
    inside at l false e =
        inr (
          set_of_changes comes2 goes2 at (omega (arith, l, sized, c.sized_comes))
              ∙ (behind (suc at) (omega (arith, l, c.sized_goes))
              ∙ (ap (λ b. grown b x (live_behind comes goes (suc at))) e
              ∙ sym (set_of_changes comes goes at (omega (arith, l, c.sized_comes))))),
          λ h. both_ways _ e ((s.live at).1 h),
        )

    outside : (at : ℕ) → length all ≤ at → Each at
    outside at l =
        inr (
          set_beyond comes2 goes2 at (omega (arith, l, sized, c.sized_comes))
              ∙ sym (set_beyond comes goes at (omega (arith, l, c.sized_comes))),
          λ h. let w = live_within all x at h in absurd (omega (arith, w, l)),
        )

    searched : AreSearched all x (sets_of comes goes) (sets_of comes2 goes2)
    searched = record {
      size = length-sets_of comes2 goes2 ∙ (sized ∙ sym (length-sets_of comes goes));
      each = λ at. ⊎_elim (λ l. inside at l (live at) refl) (λ l. outside at l) (cases_lt at (length all));
    }

    more_lower : (ys : List Opnd) → are_lower n ys ≡ true → are_lower (n + 1) ys ≡ true
    more_lower [] h = refl
    more_lower (y ∷ ys) h =
        let k = and_parts (is_lower n y) (are_lower n ys) h in
        let l = ltb-true (number_of y) n k.0 in
        and_from _ _ (lt-ltb (number_of y) (n + 1) (omega (arith, l))) (more_lower ys k.1)

    pushed_lower : (ys : List Opnd) → are_lower n ys ≡ true → are_lower (n + 1) (ys ++ x ∷ []) ≡ true
    pushed_lower [] h = and_from _ true (lt-ltb (number_of x) (n + 1) (let e = number_operand n in omega (arith, e))) refl
    pushed_lower (y ∷ ys) h =
        let k = and_parts (is_lower n y) (are_lower n ys) h in
        let l = ltb-true (number_of y) n k.0 in
        and_from _ _ (lt-ltb (number_of y) (n + 1) (omega (arith, l))) (pushed_lower ys k.1)

    grown_lower : (b : Bool) (ys : List Opnd) → are_lower n ys ≡ true → are_lower (n + 1) (grown b x ys) ≡ true
    grown_lower true ys h = pushed_lower ys h
    grown_lower false ys h = more_lower ys h

    goes_lower : (q : ℕ) → are_lower (n + 1) (row goes2 q) ≡ true
    goes_lower q =
        ⊎_elim (λ l. ap (are_lower (n + 1)) (goes_there q l) ∙ grown_lower _ (row goes q) (c.lower_goes q))
        (λ l. ap (are_lower (n + 1)) (get_or_past goes2 q [] (omega (arith, l, sized_goes)))) (cases_lt q (length goes))

    pub collected_more : AreCollected all (n + 1) f.marks comes2 goes2
    collected_more = record {
      gathered = gathered_more all n (sets_of comes goes) (sets_of comes2 goes2) c.gathered searched;
      sized = s.size ∙ c.sized;
      sized_comes = sized ∙ c.sized_comes;
      sized_goes = sized_goes ∙ c.sized_goes;
      stamps = λ q. ⊎_elim (λ e. omega (arith, e)) (λ e. let h = c.stamps q in omega (arith, e, h)) (s.others q);
      lower_comes = λ q. ap (are_lower (n + 1)) (comes_there q) ∙ grown_lower _ (row comes q) (c.lower_comes q);
      lower_goes = goes_lower;
    }
