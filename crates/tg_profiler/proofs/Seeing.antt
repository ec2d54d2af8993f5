-- Watchers of a list, of which the first so many have seen a fetch.
use Rattle.std.proofs.Common.{◌≡◌, ◌≢◌, ◌<◌, ◌≤◌, ◌+◌, ◌⊎◌, inl, inr, ℕ, suc, List, [], ◌∷◌, length, map, arith}
use Rattle.std.proofs.Common.{refl, sym, ap, ◌∙◌, subst}
use Rattle.std.specs.Prelude.{slice_index_or, slice_set, All}
use Rattle.std.proofs.lemmas.Bool.{cases_eq}
use Rattle.std.proofs.lemmas.List.{get_or-set_same, get_or-set_other, get_or_default, length-set}
use Rattle.tg_machine.specs.declared.fetches.Seen.{Seen}
use Rattle.tg_profiler.specs.Watching.{Report}
use Rattle.tg_profiler.specs.Watchers.{CanSee, Sees, CanAllSee, AllSee}

pub record SeenFirst {W : Type 0} (stands : W → List Seen → ℕ → Type 0) (report : W → Report) (old now : List W) (x : Seen) (i : ℕ) : Type 0 where
  pub size : length now ≡ length old
  pub same : (k : ℕ) (d : W) → k < length old → report (slice_index_or now k d) ≡ report (slice_index_or old k d)
  pub sees : (k : ℕ) (d : W) → k < i → k < length old → Sees (stands (slice_index_or old k d)) (stands (slice_index_or now k d)) x
  pub rest : (k : ℕ) (d : W) → i ≤ k → slice_index_or now k d ≡ slice_index_or old k d

pub first_none : {W : Type 0} (stands : W → List Seen → ℕ → Type 0) (report : W → Report) (old now : List W) (x : Seen) → now ≡ old →
    SeenFirst stands report old now x 0
first_none stands report old now x e = record {
  size = ap length e;
  same = λ k d lt. ap (λ l. report (slice_index_or l k d)) e;
  sees = λ k d none lt. absurd (omega (arith, none));
  rest = λ k d le. ap (λ l. slice_index_or l k d) e;
}

pub may_see : {W : Type 0} (stands : W → List Seen → ℕ → Type 0) (report : W → Report) (old now : List W) (x : Seen) (i : ℕ) (d : W) →
    SeenFirst stands report old now x i → CanAllSee stands old x → i < length now → CanSee (stands (slice_index_or now i d)) x
may_see stands report old now x i d f c lt =
    let within : i < length old = omega (arith, f.size, lt) in
    let le : i ≤ i = omega arith in
    record {
      seen = c.seen;
      code = c.code;
      stood = subst (λ w. stands w c.seen c.code) (sym (f.rest i d le)) (c.stood i d within);
      short = c.short;
      inside = c.inside;
    }

pub first_more : {W : Type 0} (stands : W → List Seen → ℕ → Type 0) (report : W → Report) (old now : List W) (x : Seen) (i : ℕ) (d w : W) →
    SeenFirst stands report old now x i → i < length now → Sees (stands (slice_index_or now i d)) (stands w) x →
    report w ≡ report (slice_index_or now i d) → SeenFirst stands report old (slice_set now i w) x (i + 1)
first_more {W} stands report old now x i d w f lt sees same = record {
  size = length-set now i w ∙ f.size;
  same = λ k e lt'. by_same k e lt' (cases_eq k i);
  sees = λ k e below lt'. by_sees k e below lt' (cases_eq k i);
  rest = λ k e le.
      let apart : k ≢ i = λ p. omega (arith, p, le) in
      let behind : i ≤ k = omega (arith, le) in
      get_or-set_other now i k w e apart ∙ f.rest k e behind;
}
  where
    -- the one that saw it
    here : (e : W) → slice_index_or (slice_set now i w) i e ≡ w
    here e = get_or-set_same now i w e lt

    was : (e : W) → slice_index_or now i d ≡ slice_index_or old i e
    was e =
        let le : i ≤ i = omega arith in
        get_or_default now i d e lt ∙ f.rest i e le

    by_same : (k : ℕ) (e : W) → k < length old → (k ≡ i) ⊎ (k ≡ i → ⊥) → report (slice_index_or (slice_set now i w) k e) ≡ report (slice_index_or old k e)
    by_same k e lt' (inl p) =
        ap (λ m. report (slice_index_or (slice_set now i w) m e)) p ∙ ap report (here e) ∙ same ∙ ap report (was e)
        ∙ ap (λ m. report (slice_index_or old m e)) (sym p)
    by_same k e lt' (inr apart) = ap report (get_or-set_other now i k w e apart) ∙ f.same k e lt'

    by_sees : (k : ℕ) (e : W) → k < i + 1 → k < length old → (k ≡ i) ⊎ (k ≡ i → ⊥) →
        Sees (stands (slice_index_or old k e)) (stands (slice_index_or (slice_set now i w) k e)) x
    by_sees k e below lt' (inl p) =
        let old_is : slice_index_or now i d ≡ slice_index_or old k e = was e ∙ ap (λ m. slice_index_or old m e) (sym p) in
        let new_is : w ≡ slice_index_or (slice_set now i w) k e = sym (ap (λ m. slice_index_or (slice_set now i w) m e) p ∙ here e) in
        subst (λ u. Sees (stands u) (stands (slice_index_or (slice_set now i w) k e)) x) old_is
        (subst (λ u. Sees (stands (slice_index_or now i d)) (stands u) x) new_is sees)
    by_sees k e below lt' (inr apart) =
        let before : k < i = omega (arith, below, apart) in
        subst (λ u. Sees (stands (slice_index_or old k e)) (stands u) x) (sym (get_or-set_other now i k w e apart)) (f.sees k e before lt')

pub same_reports : {W : Type 0} (report : W → Report) (new old : List W) → length new ≡ length old →
    ((k : ℕ) (d : W) → k < length old → report (slice_index_or new k d) ≡ report (slice_index_or old k d)) → map report new ≡ map report old
same_reports report [] [] size h = refl
same_reports report (w ∷ new) [] size h = absurd (omega (arith, size))
same_reports report [] (v ∷ old) size h = absurd (omega (arith, size))
same_reports report (w ∷ new) (v ∷ old) size h =
    let less : length new ≡ length old = omega (arith, size) in
    let some : 0 < length (v ∷ old) = omega arith in
    let head : report w ≡ report v = h 0 w some in
    ap (λ r. r ∷ map report new) head ∙ ap (λ l. report v ∷ l) (same_reports report new old less (λ k d lt.
    let lt' : suc k < length (v ∷ old) = omega (arith, lt) in
    h (suc k) d lt'))

pub first_all : {W : Type 0} (stands : W → List Seen → ℕ → Type 0) (report : W → Report) (old now : List W) (x : Seen) (i : ℕ) (new : List W) →
    SeenFirst stands report old now x i → length now ≤ i → new ≡ now → AllSee stands report old new x
first_all stands report old now x i new f le e = rw e (record {
  same = same_reports report now old f.size f.same;
  stand = λ s code all short inside k d lt.
      let within : k < length old = omega (arith, f.size, lt) in
      let below : k < i = omega (arith, le, lt) in
      f.sees k d below within s code (all k d within) short inside;
})

-- watchers of a list, of which the first so many have begun
pub record BegunFirst {W : Type 0} (stands : W → List Seen → ℕ → Type 0) (report : W → Report) (old now : List W) (code i : ℕ) : Type 0 where
  pub size : length now ≡ length old
  pub same : (k : ℕ) (d : W) → k < length old → report (slice_index_or now k d) ≡ report (slice_index_or old k d)
  pub begun : (k : ℕ) (d : W) → k < i → k < length old → stands (slice_index_or now k d) [] code

pub begun_none : {W : Type 0} (stands : W → List Seen → ℕ → Type 0) (report : W → Report) (old now : List W) (code : ℕ) → now ≡ old →
    BegunFirst stands report old now code 0
begun_none stands report old now code e = record {
  size = ap length e;
  same = λ k d lt. ap (λ l. report (slice_index_or l k d)) e;
  begun = λ k d none lt. absurd (omega (arith, none));
}

-- one more was asked to begin, whatever came of it
asked_one : {W : Type 0} (report : W → Report) (old now : List W) (i : ℕ) (d w : W) → length now ≡ length old →
    ((k : ℕ) (d : W) → k < length old → report (slice_index_or now k d) ≡ report (slice_index_or old k d)) → i < length now →
    report w ≡ report (slice_index_or now i d) → (k : ℕ) (e : W) → k < length old →
    report (slice_index_or (slice_set now i w) k e) ≡ report (slice_index_or old k e)
asked_one {W} report old now i d w size all lt same k e below = by (cases_eq k i)
  where
    by : (k ≡ i) ⊎ (k ≡ i → ⊥) → report (slice_index_or (slice_set now i w) k e) ≡ report (slice_index_or old k e)
    by (inl p) =
        ap (λ m. report (slice_index_or (slice_set now i w) m e)) p ∙ ap report (get_or-set_same now i w e lt) ∙ same
        ∙ ap report (get_or_default now i d e lt) ∙ ap (λ m. report (slice_index_or now m e)) (sym p) ∙ all k e below
    by (inr apart) = ap report (get_or-set_other now i k w e apart) ∙ all k e below

pub begun_more : {W : Type 0} (stands : W → List Seen → ℕ → Type 0) (report : W → Report) (old now : List W) (code i : ℕ) (d w : W) →
    BegunFirst stands report old now code i → i < length now → stands w [] code → report w ≡ report (slice_index_or now i d) →
    BegunFirst stands report old (slice_set now i w) code (i + 1)
begun_more {W} stands report old now code i d w b lt begun same = record {
  size = length-set now i w ∙ b.size;
  same = asked_one report old now i d w b.size b.same lt same;
  begun = λ k e below within. by k e below within (cases_eq k i);
}
  where
    by : (k : ℕ) (e : W) → k < i + 1 → k < length old → (k ≡ i) ⊎ (k ≡ i → ⊥) → stands (slice_index_or (slice_set now i w) k e) [] code
    by k e below within (inl p) =
        let is : slice_index_or (slice_set now i w) k e ≡ w =
        ap (λ m. slice_index_or (slice_set now i w) m e) p ∙ get_or-set_same now i w e lt in
        subst (λ u. stands u [] code) (sym is) begun
    by k e below within (inr apart) =
        let before : k < i = omega (arith, below, apart) in
        subst (λ u. stands u [] code) (sym (get_or-set_other now i k w e apart)) (b.begun k e before within)

pub all_begun : {W : Type 0} (stands : W → List Seen → ℕ → Type 0) (report : W → Report) (old now new : List W) (code i : ℕ) →
    BegunFirst stands report old now code i → length now ≤ i → new ≡ now → All (λ w. stands w [] code) new
all_begun stands report old now new code i b le e = rw e (λ k d lt.
    let within : k < length old = omega (arith, b.size, lt) in
    let below : k < i = omega (arith, le, lt) in
    b.begun k d below within)

pub begun_same : {W : Type 0} (stands : W → List Seen → ℕ → Type 0) (report : W → Report) (old now new : List W) (code i : ℕ) →
    BegunFirst stands report old now code i → new ≡ now → map report new ≡ map report old
begun_same stands report old now new code i b e = ap (map report) e ∙ same_reports report now old b.size b.same

-- and where one was refused memory
pub refused_same : {W : Type 0} (stands : W → List Seen → ℕ → Type 0) (report : W → Report) (old now new : List W) (code i : ℕ) (d w : W) →
    BegunFirst stands report old now code i → i < length now → report w ≡ report (slice_index_or now i d) → new ≡ slice_set now i w →
    map report new ≡ map report old
refused_same stands report old now new code i d w b lt same e =
    ap (map report) e ∙ same_reports report (slice_set now i w) old (length-set now i w ∙ b.size) (asked_one report old now i d w b.size b.same lt same)
