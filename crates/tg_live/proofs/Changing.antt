-- Sets in rising order as changes from place to place, and what they have with the changes of one
-- more operand, of a greater number than all others.
use Rattle.std.proofs.Common.{◌≡◌, ◌<◌, ◌≤◌, ◌+◌, ℕ, zero, suc, Bool, true, false, not, nat_eq, nat_lt, ◌&&◌, ◌||◌, cond, List, [], ◌∷◌, ◌++◌}
use Rattle.std.proofs.Common.{length, take, drop, get_or, replicate, refl, sym, ap, ◌∙◌, arith, ⊎_elim}
use Rattle.std.specs.List.{list_all, list_any, insert, remove}
use Rattle.std.proofs.lemmas.Bool.{and_parts, and_from, or_cases, or_left, le-ltb, ltb-true, eq-eqb, ne_eqb, false≢true, both_ways}
use Rattle.std.proofs.lemmas.List.{drop_more, drop_all, get_or_past}
use Rattle.std.proofs.lemmas.List.FromFn.{length-map-range_with_len, get_or-map-range_with_len}
use Rattle.tg_instr.specs.declared.operands.Opnd.{Opnd}
use Rattle.tg_live.specs.Live.{Sets, set_at, number_of}
use Rattle.tg_live.specs.glue.Tables.{row}
use Rattle.tg_live.proofs.Turned.{row_none}
use Rattle.tg_live.specs.glue.LiveChanges.{lower_count, put_in_order, set_without, all_put_in_order, set_without_all, live_behind, sets_of, set_before}

-- all of a set have smaller numbers
abbrev pub is_lower : ℕ → Opnd → Bool
is_lower n y = nat_lt (number_of y) n

abbrev pub are_lower : ℕ → List Opnd → Bool
are_lower n set = list_all (is_lower n) set

module _ (n : ℕ) where
  put_lower : (y : Opnd) (set : List Opnd) → is_lower n y ≡ true → are_lower n set ≡ true →
      are_lower n (put_in_order y set) ≡ true
  put_lower y [] l h = and_from _ true l refl
  put_lower y (z ∷ rest) l h =
      let k = and_parts (is_lower n z) (are_lower n rest) h in
      by (and_from _ _ k.0 (put_lower y rest l k.1)) (nat_lt (number_of z) (number_of y))
    where
      by : are_lower n (z ∷ put_in_order y rest) ≡ true → (b : Bool) →
          are_lower n (cond b (z ∷ put_in_order y rest) (y ∷ z ∷ rest)) ≡ true
      by more true = more
      by more false = and_from _ _ l h

  all_put_lower : (ys set : List Opnd) → are_lower n ys ≡ true → are_lower n set ≡ true →
      are_lower n (all_put_in_order ys set) ≡ true
  all_put_lower [] set l h = h
  all_put_lower (y ∷ ys) set l h =
      let k = and_parts (is_lower n y) (are_lower n ys) l in
      all_put_lower ys (put_in_order y set) k.1 (put_lower y set k.0 h)

  without_lower : (y : Opnd) (set : List Opnd) → are_lower n set ≡ true → are_lower n (set_without y set) ≡ true
  without_lower y [] h = refl
  without_lower y (z ∷ rest) h =
      let k = and_parts (is_lower n z) (are_lower n rest) h in
      by (and_from _ _ k.0 (without_lower y rest k.1)) k.1 (nat_lt (number_of z) (number_of y))
      (nat_eq (number_of z) (number_of y))
    where
      by : are_lower n (z ∷ set_without y rest) ≡ true → are_lower n rest ≡ true → (b d : Bool) →
          are_lower n (cond b (z ∷ set_without y rest) (cond d rest (z ∷ rest))) ≡ true
      by more less true d = more
      by more less false true = less
      by more less false false = h

  all_without_lower : (ys set : List Opnd) → are_lower n set ≡ true → are_lower n (set_without_all ys set) ≡ true
  all_without_lower [] set h = h
  all_without_lower (y ∷ ys) set h = all_without_lower ys (set_without y set) (without_lower y set h)

  pub live_lower : (comes goes : Sets) → ((q : ℕ) → are_lower n (row comes q) ≡ true) → (k : ℕ) →
      are_lower n (live_behind comes goes k) ≡ true
  live_lower comes goes l zero = refl
  live_lower comes goes l (suc k) =
      all_put_lower (row comes k) (set_without_all (row goes k) (live_behind comes goes k)) (l k)
      (all_without_lower (row goes k) (live_behind comes goes k) (live_lower comes goes l k))

-- at the place before
abbrev pub live_before : (live : ℕ → Bool) → ℕ → Bool
live_before live zero = false
live_before live (suc q) = live q

-- One operand after all others of a set.

module _ (x : Opnd) where
  abbrev n : ℕ
  n = number_of x

  put_last : (set : List Opnd) → are_lower n set ≡ true → put_in_order x set ≡ set ++ x ∷ []
  put_last [] h = refl
  put_last (z ∷ rest) h =
      let k = and_parts (is_lower n z) (are_lower n rest) h in
      ap (λ b. cond b (z ∷ put_in_order x rest) (x ∷ z ∷ rest)) k.0 ∙ ap (λ r. z ∷ r) (put_last rest k.1)

  put_before : (y : Opnd) (set : List Opnd) → is_lower n y ≡ true →
      put_in_order y (set ++ x ∷ []) ≡ put_in_order y set ++ x ∷ []
  put_before y [] l =
      let a = ltb-true (number_of y) n l in
      ap (λ b. cond b (x ∷ y ∷ []) (y ∷ x ∷ [])) (le-ltb n (number_of y) (omega (arith, a)))
  put_before y (z ∷ rest) l = by (ap (λ r. z ∷ r) (put_before y rest l)) (nat_lt (number_of z) (number_of y))
    where
      by : z ∷ put_in_order y (rest ++ x ∷ []) ≡ z ∷ (put_in_order y rest ++ x ∷ []) → (b : Bool) →
          cond b (z ∷ put_in_order y (rest ++ x ∷ [])) (y ∷ z ∷ (rest ++ x ∷ []))
          ≡ cond b (z ∷ put_in_order y rest) (y ∷ z ∷ rest) ++ x ∷ []
      by more true = more
      by more false = refl

  all_put_before : (ys set : List Opnd) → are_lower n ys ≡ true →
      all_put_in_order ys (set ++ x ∷ []) ≡ all_put_in_order ys set ++ x ∷ []
  all_put_before [] set h = refl
  all_put_before (y ∷ ys) set h =
      let k = and_parts (is_lower n y) (are_lower n ys) h in
      ap (all_put_in_order ys) (put_before y set k.0) ∙ all_put_before ys (put_in_order y set) k.1

  all_put_more : (ys set : List Opnd) → all_put_in_order (ys ++ x ∷ []) set ≡ put_in_order x (all_put_in_order ys set)
  all_put_more [] set = refl
  all_put_more (y ∷ ys) set = all_put_more ys (put_in_order y set)

  without_last : (set : List Opnd) → are_lower n set ≡ true → set_without x (set ++ x ∷ []) ≡ set
  without_last [] h =
      ap (λ b. cond b (x ∷ []) (cond (nat_eq n n) [] (x ∷ []))) (le-ltb n n (omega arith))
      ∙ ap (λ d. cond d [] (x ∷ [])) (eq-eqb n n refl)
  without_last (z ∷ rest) h =
      let k = and_parts (is_lower n z) (are_lower n rest) h in
      ap (λ b. cond b (z ∷ set_without x (rest ++ x ∷ [])) (cond (nat_eq (number_of z) n) (rest ++ x ∷ [])
      (z ∷ (rest ++ x ∷ [])))) k.0
      ∙ ap (λ r. z ∷ r) (without_last rest k.1)

  without_before : (y : Opnd) (set : List Opnd) → is_lower n y ≡ true →
      set_without y (set ++ x ∷ []) ≡ set_without y set ++ x ∷ []
  without_before y [] l =
      let a = ltb-true (number_of y) n l in
      ap (λ b. cond b (x ∷ []) (cond (nat_eq n (number_of y)) [] (x ∷ []))) (le-ltb n (number_of y) (omega (arith, a)))
      ∙ ap (λ d. cond d [] (x ∷ [])) (ne_eqb n (number_of y) (λ e. absurd (omega (arith, a, e))))
  without_before y (z ∷ rest) l =
      by (ap (λ r. z ∷ r) (without_before y rest l)) (nat_lt (number_of z) (number_of y))
      (nat_eq (number_of z) (number_of y))
    where
      by : z ∷ set_without y (rest ++ x ∷ []) ≡ z ∷ (set_without y rest ++ x ∷ []) → (b d : Bool) →
          cond b (z ∷ set_without y (rest ++ x ∷ [])) (cond d (rest ++ x ∷ []) (z ∷ (rest ++ x ∷ [])))
          ≡ cond b (z ∷ set_without y rest) (cond d rest (z ∷ rest)) ++ x ∷ []
      by more true d = more
      by more false true = refl
      by more false false = refl

  all_without_before : (ys set : List Opnd) → are_lower n ys ≡ true →
      set_without_all ys (set ++ x ∷ []) ≡ set_without_all ys set ++ x ∷ []
  all_without_before [] set h = refl
  all_without_before (y ∷ ys) set h =
      let k = and_parts (is_lower n y) (are_lower n ys) h in
      ap (set_without_all ys) (without_before y set k.0) ∙ all_without_before ys (set_without y set) k.1

  all_without_more : (ys set : List Opnd) →
      set_without_all (ys ++ x ∷ []) set ≡ set_without x (set_without_all ys set)
  all_without_more [] set = refl
  all_without_more (y ∷ ys) set = all_without_more ys (set_without y set)

  -- the set at a place, by whether the operand is live out of it, and was out of the one before
  step : (comes goes set : List Opnd) → are_lower n comes ≡ true → are_lower n goes ≡ true →
      are_lower n set ≡ true → (now was : Bool) →
      all_put_in_order (cond (now && not was) (comes ++ x ∷ []) comes)
      (set_without_all (cond (was && not now) (goes ++ x ∷ []) goes) (cond was (set ++ x ∷ []) set))
      ≡ cond now (all_put_in_order comes (set_without_all goes set) ++ x ∷ [])
      (all_put_in_order comes (set_without_all goes set))
  step comes goes set c g s true true =
      ap (all_put_in_order comes) (all_without_before goes set g) ∙ all_put_before comes (set_without_all goes set) c
  step comes goes set c g s true false =
      let without = set_without_all goes set in
      all_put_more comes without
      ∙ put_last (all_put_in_order comes without)
      (all_put_lower n comes without c (all_without_lower n goes set s))
  step comes goes set c g s false true =
      ap (all_put_in_order comes)
      (all_without_more goes (set ++ x ∷ [])
      ∙ (ap (set_without x) (all_without_before goes set g)
      ∙ without_last (set_without_all goes set) (all_without_lower n goes set s)))
  step comes goes set c g s false false = refl

  module _ (comes goes comes2 goes2 : Sets) (live : ℕ → Bool) where
    pub live_more : ((q : ℕ) → are_lower n (row comes q) ≡ true) → ((q : ℕ) → are_lower n (row goes q) ≡ true) →
        ((q : ℕ) → row comes2 q ≡ cond (live q && not (live_before live q)) (row comes q ++ x ∷ []) (row comes q)) →
        (count : ℕ) →
        ((q : ℕ) → q < count → row goes2 q ≡ cond (live_before live q && not (live q)) (row goes q ++ x ∷ [])
        (row goes q)) →
        live_behind comes2 goes2 count
        ≡ cond (live_before live count) (live_behind comes goes count ++ x ∷ []) (live_behind comes goes count)
    live_more lc lg c zero g = refl
    live_more lc lg c (suc q) g =
        let h = live_more lc lg c q (λ r l. g r (omega (arith, l))) in
        ap (λ r. all_put_in_order r (set_without_all (row goes2 q) (live_behind comes2 goes2 q))) (c q)
        ∙ (ap (λ r. all_put_in_order (cond (live q && not (live_before live q)) (row comes q ++ x ∷ []) (row comes q))
        (set_without_all r (live_behind comes2 goes2 q))) (g q (omega arith))
        ∙ (ap (λ s. all_put_in_order (cond (live q && not (live_before live q)) (row comes q ++ x ∷ []) (row comes q))
        (set_without_all (cond (live_before live q && not (live q)) (row goes q ++ x ∷ []) (row goes q)) s)) h
        ∙ step (row comes q) (row goes q) (live_behind comes goes q) (lc q) (lg q) (live_lower n comes goes lc q)
        (live q) (live_before live q)))

-- Sets at their places.

pub length-sets_of : (comes goes : Sets) → length (sets_of comes goes) ≡ length comes
length-sets_of comes goes = length-map-range_with_len (λ at. live_behind comes goes (suc at)) 0 (length comes)

pub set_of_changes : (comes goes : Sets) (at : ℕ) → at < length comes →
    set_at (sets_of comes goes) at ≡ live_behind comes goes (suc at)
set_of_changes comes goes at l =
    get_or-map-range_with_len (λ k. live_behind comes goes (suc k)) 0 (length comes) at at [] l (omega arith)

pub set_beyond : (comes goes : Sets) (at : ℕ) → length comes ≤ at → set_at (sets_of comes goes) at ≡ []
set_beyond comes goes at l =
    get_or_past (sets_of comes goes) at [] (let e = length-sets_of comes goes in omega (arith, e, l))

pub before_of_changes : (comes goes : Sets) (at : ℕ) → at < length comes →
    set_before (sets_of comes goes) at ≡ live_behind comes goes at
before_of_changes comes goes zero l = refl
before_of_changes comes goes (suc at) l = set_of_changes comes goes at (omega arith)

pub no_changes : (count k : ℕ) →
    live_behind (replicate count []) (replicate count []) k ≡ []
no_changes count zero = refl
no_changes count (suc k) =
    ap (λ r. all_put_in_order r (set_without_all (row (replicate count []) k) (live_behind (replicate count [])
    (replicate count []) k))) (row_none count k)
    ∙ (ap (λ r. set_without_all r (live_behind (replicate count []) (replicate count []) k)) (row_none count k)
    ∙ no_changes count k)

-- Sets by the place of one operand.

pub lower_more : (x : Opnd) (set : List Opnd) (i : ℕ) (y : Opnd) → i < length set → y ≡ get_or set i y →
    is_lower (number_of x) y ≡ true →
    lower_count x (drop i set) ≡ suc (lower_count x (drop (i + 1) set))
lower_more x set i y l e h =
    ap (lower_count x) (drop_more set i y l)
    ∙ ap (λ b. cond b (suc (lower_count x (drop (i + 1) set))) 0) (ap (is_lower (number_of x)) (sym e) ∙ h)

pub lower_here : (x : Opnd) (set : List Opnd) (i : ℕ) (y : Opnd) → i < length set → y ≡ get_or set i y →
    is_lower (number_of x) y ≡ false → lower_count x (drop i set) ≡ 0
lower_here x set i y l e h =
    ap (lower_count x) (drop_more set i y l)
    ∙ ap (λ b. cond b (suc (lower_count x (drop (i + 1) set))) 0) (ap (is_lower (number_of x)) (sym e) ∙ h)

pub insert_in_order : (x : Opnd) (set : List Opnd) → insert set (lower_count x set) x ≡ put_in_order x set
insert_in_order x [] = refl
insert_in_order x (y ∷ rest) = by (ap (λ r. y ∷ r) (insert_in_order x rest)) (nat_lt (number_of y) (number_of x))
  where
    by : y ∷ insert rest (lower_count x rest) x ≡ y ∷ put_in_order x rest → (b : Bool) →
        insert (y ∷ rest) (cond b (suc (lower_count x rest)) 0) x ≡ cond b (y ∷ put_in_order x rest) (x ∷ y ∷ rest)
    by more true = more
    by more false = refl

-- the operand at the place of one has its number
abbrev pub stands : Opnd → List Opnd → Bool
stands x set = list_any (λ y. nat_eq (number_of y) (number_of x)) (take 1 (drop (lower_count x set) set))

pub without_there : (x : Opnd) (set : List Opnd) → stands x set ≡ true →
    remove set (lower_count x set) ≡ set_without x set
without_there x [] h = absurd (false≢true h)
without_there x (y ∷ rest) h =
    by (λ e. ap (λ r. y ∷ r) (without_there x rest e)) (nat_lt (number_of y) (number_of x)) h
  where
    by : (stands x rest ≡ true → y ∷ remove rest (lower_count x rest) ≡ y ∷ set_without x rest) → (b : Bool) →
        list_any (λ z. nat_eq (number_of z) (number_of x)) (take 1 (drop (cond b (suc (lower_count x rest)) 0)
        (y ∷ rest))) ≡ true →
        remove (y ∷ rest) (cond b (suc (lower_count x rest)) 0)
        ≡ cond b (y ∷ set_without x rest) (cond (nat_eq (number_of y) (number_of x)) rest (y ∷ rest))
    by more true e = more e
    by more false e =
        ⊎_elim (λ s. sym (ap (λ d. cond d rest (y ∷ rest)) s)) (λ n. absurd (false≢true n))
        (or_cases (nat_eq (number_of y) (number_of x)) false e)

pub without_none : (x : Opnd) (set : List Opnd) → stands x set ≡ false → set_without x set ≡ set
without_none x [] h = refl
without_none x (y ∷ rest) h =
    by (λ e. ap (λ r. y ∷ r) (without_none x rest e)) (nat_lt (number_of y) (number_of x))
    (nat_eq (number_of y) (number_of x)) refl h
  where
    by : (stands x rest ≡ false → y ∷ set_without x rest ≡ y ∷ rest) → (b d : Bool) → nat_eq (number_of y) (number_of x) ≡ d →
        list_any (λ z. nat_eq (number_of z) (number_of x)) (take 1 (drop (cond b (suc (lower_count x rest)) 0)
        (y ∷ rest))) ≡ false →
        cond b (y ∷ set_without x rest) (cond d rest (y ∷ rest)) ≡ y ∷ rest
    by more true d s e = more e
    by more false true s e = absurd (both_ways _ e (or_left (nat_eq (number_of y) (number_of x)) false s))
    by more false false s e = refl

pub stands_at : (x : Opnd) (set : List Opnd) (i : ℕ) (y : Opnd) → i ≡ lower_count x set → i < length set →
    y ≡ get_or set i y → stands x set ≡ nat_eq (number_of y) (number_of x)
stands_at x set i y e l r =
    ap (λ k. list_any (λ z. nat_eq (number_of z) (number_of x)) (take 1 (drop k set))) (sym e)
    ∙ (ap (λ rest. list_any (λ z. nat_eq (number_of z) (number_of x)) (take 1 rest)) (drop_more set i y l)
    ∙ (or_none (nat_eq (number_of (get_or set i y)) (number_of x))
    ∙ ap (λ z. nat_eq (number_of z) (number_of x)) (sym r)))
  where
    or_none : (b : Bool) → (b || false) ≡ b
    or_none true = refl
    or_none false = refl

pub stands_nowhere : (x : Opnd) (set : List Opnd) (i : ℕ) → i ≡ lower_count x set → length set ≤ i →
    stands x set ≡ false
stands_nowhere x set i e l =
    ap (λ k. list_any (λ z. nat_eq (number_of z) (number_of x)) (take 1 (drop k set))) (sym e)
    ∙ ap (λ rest. list_any (λ z. nat_eq (number_of z) (number_of x)) (take 1 rest)) (drop_all i set l)

pub without_more : (goes set : List Opnd) (i : ℕ) (y : Opnd) → i < length goes → y ≡ get_or goes i y →
    set_without_all (drop i goes) set ≡ set_without_all (drop (i + 1) goes) (set_without y set)
without_more goes set i y l e =
    ap (λ r. set_without_all r set) (drop_more goes i y l)
    ∙ ap (λ z. set_without_all (drop (i + 1) goes) (set_without z set)) (sym e)

pub put_more : (comes set : List Opnd) (i : ℕ) (y : Opnd) → i < length comes → y ≡ get_or comes i y →
    all_put_in_order (drop i comes) set ≡ all_put_in_order (drop (i + 1) comes) (put_in_order y set)
put_more comes set i y l e =
    ap (λ r. all_put_in_order r set) (drop_more comes i y l)
    ∙ ap (λ z. all_put_in_order (drop (i + 1) comes) (put_in_order z set)) (sym e)
