-- What is noted of one operand: the rows at whose places it comes or goes.
use Rattle.std.proofs.Common.{◌≡◌, ◌<◌, ◌+◌, ℕ, zero, suc, Bool, true, false, not, nat_eq, nat_lt, ◌&&◌, ◌||◌, cond, List, [], ◌∷◌, ◌++◌}
use Rattle.std.proofs.Common.{length, take, get_or, refl, sym, ap, ◌∙◌, subst, arith, ⊎_elim}
use Rattle.std.specs.List.{list_all, list_any}
use Rattle.std.proofs.lemmas.Bool.{and_parts, ltb-true, eq-eqb, ne_eqb, cases_eq}
use Rattle.std.proofs.lemmas.List.Folds.{list_any_more}
use Rattle.tg_instr.specs.declared.operands.Opnd.{Opnd}
use Rattle.tg_live.specs.Live.{Sets}
use Rattle.tg_live.specs.glue.Tables.{row, push_at}
use Rattle.tg_live.specs.glue.LiveChanges.{ends_in}
use Rattle.tg_live.proofs.Turned.{row_same, row_other}
use Rattle.tg_live.proofs.Numbers.{ends_push}

abbrev pub grown : Bool → Opnd → List Opnd → List Opnd
grown b x old = cond b (old ++ x ∷ []) old

-- a push at a place, seen from each place
pub pushed_at : (rows : Sets) (at : ℕ) (x : Opnd) → at < length rows → ends_in x (row rows at) ≡ false → (q : ℕ) →
    row (push_at rows at x) q ≡ grown (nat_eq q at && not (ends_in x (row rows q))) x (row rows q)
pushed_at rows at x l none q =
    let P : ℕ → Type 0 =
    λ k. row (push_at rows at x) k ≡ grown (nat_eq k at && not (ends_in x (row rows k))) x (row rows k) in
    let here : P at =
    row_same rows at x l
    ∙ sym (ap (λ b. grown (b && not (ends_in x (row rows at))) x (row rows at)) (eq-eqb at at refl)
    ∙ ap (λ b. grown (not b) x (row rows at)) none) in
    ⊎_elim (λ e. subst P (sym e) here)
    (λ ne. row_other rows at x q ne
    ∙ sym (ap (λ b. grown (b && not (ends_in x (row rows q))) x (row rows q)) (ne_eqb q at ne))) (cases_eq q at)

-- a row that ends in the operand stays
pub stays_at : (rows : Sets) (at : ℕ) (x : Opnd) → ends_in x (row rows at) ≡ true → (q : ℕ) →
    row rows q ≡ grown (nat_eq q at && not (ends_in x (row rows q))) x (row rows q)
stays_at rows at x ends q =
    let P : ℕ → Type 0 =
    λ k. row rows k ≡ grown (nat_eq k at && not (ends_in x (row rows k))) x (row rows k) in
    let here : P at =
    sym (ap (λ b. grown (b && not (ends_in x (row rows at))) x (row rows at)) (eq-eqb at at refl)
    ∙ ap (λ b. grown (not b) x (row rows at)) ends) in
    ⊎_elim (λ e. subst P (sym e) here)
    (λ ne. sym (ap (λ b. grown (b && not (ends_in x (row rows q))) x (row rows q)) (ne_eqb q at ne))) (cases_eq q at)

-- where a test is false at the one place that counts, nothing is pushed
pub none_there : (rows : Sets) (at : ℕ) (x : Opnd) (test : ℕ → Bool) → test at ≡ false → (q : ℕ) →
    row rows q ≡ grown ((nat_eq q at && test q) && not (ends_in x (row rows q))) x (row rows q)
none_there rows at x test none q =
    let P : ℕ → Type 0 =
    λ k. row rows k ≡ grown ((nat_eq k at && test k) && not (ends_in x (row rows k))) x (row rows k) in
    let here : P at =
    sym (ap (λ b. grown ((b && test at) && not (ends_in x (row rows at))) x (row rows at)) (eq-eqb at at refl)
    ∙ ap (λ b. grown (b && not (ends_in x (row rows at))) x (row rows at)) none) in
    ⊎_elim (λ e. subst P (sym e) here)
    (λ ne. sym (ap (λ b. grown ((b && test q) && not (ends_in x (row rows q))) x (row rows q)) (ne_eqb q at ne)))
    (cases_eq q at)

-- and where it is true, it needn't be asked
pub some_there : (at q : ℕ) (test : ℕ → Bool) (more : Bool) → test at ≡ true →
    (nat_eq q at && more) ≡ ((nat_eq q at && test q) && more)
some_there at q test more some = ⊎_elim same other (cases_eq q at)
  where
    same : q ≡ at → (nat_eq q at && more) ≡ ((nat_eq q at && test q) && more)
    same e = sym (ap (λ b. (nat_eq q at && b) && more) (ap test e ∙ some) ∙ trim (nat_eq q at))
      where
        trim : (b : Bool) → ((b && true) && more) ≡ (b && more)
        trim true = refl
        trim false = refl

    other : (q ≡ at → ⊥) → (nat_eq q at && more) ≡ ((nat_eq q at && test q) && more)
    other ne = ap (λ b. b && more) (ne_eqb q at ne) ∙ sym (ap (λ b. (b && test q) && more) (ne_eqb q at ne))

-- one more place, where a row may have the operand already
pub noted_more : (x : Opnd) (old mid new : List Opnd) (taken here test : Bool) → ends_in x old ≡ false →
    mid ≡ grown (taken && test) x old → new ≡ grown ((here && test) && not (ends_in x mid)) x mid →
    new ≡ grown ((taken || here) && test) x old
noted_more x old mid new taken here false none e f = f ∙ (by here ∙ (e ∙ (off taken ∙ sym (off (taken || here)))))
  where
    by : (b : Bool) → grown ((b && false) && not (ends_in x mid)) x mid ≡ mid
    by true = refl
    by false = refl

    off : (b : Bool) → grown (b && false) x old ≡ old
    off true = refl
    off false = refl
noted_more x old mid new true here true none e f =
    f ∙ (ap (λ b. grown ((here && true) && not b) x mid) (ap (ends_in x) e ∙ ends_push x old) ∙ (by here ∙ e))
  where
    by : (b : Bool) → grown ((b && true) && false) x mid ≡ mid
    by true = refl
    by false = refl
noted_more x old mid new false true true none e f =
    f ∙ (ap (λ b. grown (not b) x mid) (ap (ends_in x) e ∙ none) ∙ ap (λ r. r ++ x ∷ []) e)
noted_more x old mid new false false true none e f = f ∙ e

-- what holds of all places holds of one of them
pub within_at : (m : ℕ) (places : List ℕ) (i : ℕ) → i < length places →
    list_all (λ k. nat_lt k m) places ≡ true → get_or places i 0 < m
within_at m [] i l h = absurd (omega arith)
within_at m (k ∷ places) zero l h = ltb-true k m (and_parts (nat_lt k m) (list_all (λ k. nat_lt k m) places) h).0
within_at m (k ∷ places) (suc i) l h =
    within_at m places i (omega arith) (and_parts (nat_lt k m) (list_all (λ k. nat_lt k m) places) h).1

-- with the place that is read next
pub noted_next : (x : Opnd) (old mid new : List Opnd) (places : List ℕ) (i place : ℕ) (says : ℕ → Bool) (test : Bool) →
    i < length places → place ≡ get_or places i 0 → ends_in x old ≡ false →
    mid ≡ grown (list_any says (take i places) && test) x old →
    new ≡ grown ((says place && test) && not (ends_in x mid)) x mid →
    new ≡ grown (list_any says (take (i + 1) places) && test) x old
noted_next x old mid new places i place says test l e none f g =
    noted_more x old mid new (list_any says (take i places)) (says place) test none f g
    ∙ (ap (λ k. grown ((list_any says (take i places) || says k) && test) x old) e
    ∙ sym (ap (λ b. grown (b && test) x old) (list_any_more says places i 0 l)))
