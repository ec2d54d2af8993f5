-- Coverage of a fetch more.
use Rattle.std.proofs.Common.{◌≡◌, ◌≢◌, ◌<◌, ◌≤◌, ◌+◌, ◌-◌, ◌*◌, ◌/◌, ◌⊎◌, inl, inr, ℕ, List, [], ◌∷◌, ◌++◌, length, Bool, true, false, Some}
use Rattle.std.proofs.Common.{arith, refl, sym, ap, ◌∙◌}
use Rattle.std.specs.Prelude.{◌==◌, ◌||◌, slice_index_or, slice_get, slice_set, if◌then◌else◌}
use Rattle.std.proofs.lemmas.Bool.{cases_eq, eqb-true, eq-eqb}
use Rattle.std.proofs.lemmas.Bool.Decides.{eqb_tells}
use Rattle.std.proofs.lemmas.List.{get_or-set_same, get_or-set_other, length-set}
use Rattle.std.proofs.lemmas.List.Folds.{list_any-append}
use Rattle.std.proofs.lemmas.Option.{slice_get-get_or, get_or_from_slice_get}
use Rattle.tg_machine_state.specs.State.{code_base}
use Rattle.tg_machine.specs.declared.fetches.Seen.{Seen}
use Rattle.tg_profiler.specs.Reports.{is_seen, covered}
use Rattle.tg_profiler.specs.Watchers.{IsInCode}
use Rattle.tg_profiler.specs.glue.Standing.{Covers}

-- a place that was seen, with a fetch more
seen_more : (place : ℕ) (s : List Seen) (x : Seen) → is_seen place (s ++ x ∷ []) ≡ (is_seen place s || ((x.place == place) || false))
seen_more place s x = list_any-append (λ y. y.place == place) s (x ∷ [])

or_true : (b : Bool) → (b || true) ≡ true
or_true true = refl
or_true false = refl

or_false : (b : Bool) → (b || false) ≡ b
or_false true = refl
or_false false = refl

seen_it : (place : ℕ) (s : List Seen) (x : Seen) → x.place ≡ place → is_seen place (s ++ x ∷ []) ≡ true
seen_it place s x e =
    seen_more place s x ∙ ap (λ b. is_seen place s || (b || false)) (eq-eqb x.place place e) ∙ or_true (is_seen place s)

seen_other : (place : ℕ) (s : List Seen) (x : Seen) → x.place ≢ place → is_seen place (s ++ x ∷ []) ≡ is_seen place s
seen_other place s x apart = by (eqb_tells x.place place)
  where
    by : (((x.place == place) ≡ true) × (x.place ≡ place)) ⊎ (((x.place == place) ≡ false) × (x.place ≢ place)) → is_seen place (s ++ x ∷ []) ≡ is_seen place s
    by (inl p) = absurd (apart p.1)
    by (inr p) = seen_more place s x ∙ ap (λ b. is_seen place s || (b || false)) p.0 ∙ or_false (is_seen place s)

-- how many places there are, with a fetch more
abbrev with_one : Bool → ℕ → ℕ
with_one seen n = if seen then n else n + 1

one_more : (a b e : Bool) (n : ℕ) → (e ≡ true → a ≡ b) → with_one (a || (e || false)) (with_one b n) ≡ with_one (e || b) (with_one a n)
one_more a true true n h = ap (λ x. with_one (x || true) n) (h refl) ∙ sym (ap (λ x. with_one x n) (h refl))
one_more a false true n h = ap (λ x. with_one (x || true) (n + 1)) (h refl) ∙ sym (ap (λ x. with_one x n) (h refl))
one_more true true false n h = refl
one_more false true false n h = refl
one_more true false false n h = refl
one_more false false false n h = refl

pub covered_more : (s : List Seen) (x : Seen) → covered (s ++ x ∷ []) ≡ with_one (is_seen x.place s) (covered s)
covered_more [] x = refl
covered_more (y ∷ s) x =
    ap (λ b. with_one b (covered (s ++ x ∷ []))) (seen_more y.place s x)
    ∙ ap (λ n. with_one (is_seen y.place s || ((x.place == y.place) || false)) n) (covered_more s x)
    ∙ ap (λ b. with_one (is_seen y.place s || (b || false)) (with_one (is_seen x.place s) (covered s))) (turned (eqb_tells x.place y.place) (eqb_tells y.place x.place))
    ∙ one_more (is_seen y.place s) (is_seen x.place s) (y.place == x.place) (covered s) (λ h. ap (λ p. is_seen p s) (eqb-true y.place x.place h))
  where
    turned : (((x.place == y.place) ≡ true) × (x.place ≡ y.place)) ⊎ (((x.place == y.place) ≡ false) × (x.place ≢ y.place)) →
        (((y.place == x.place) ≡ true) × (y.place ≡ x.place)) ⊎ (((y.place == x.place) ≡ false) × (y.place ≢ x.place)) → (x.place == y.place) ≡ (y.place == x.place)
    turned (inl p) (inl q) = p.0 ∙ sym q.0
    turned (inl p) (inr q) = absurd (q.1 (sym p.1))
    turned (inr p) (inl q) = absurd (p.1 (sym q.1))
    turned (inr p) (inr q) = p.0 ∙ sym q.0

with_one_le : (b : Bool) (n m : ℕ) → n ≤ m → with_one b n ≤ m + 1
with_one_le true n m h = omega (arith, h)
with_one_le false n m h = omega (arith, h)

pub covered_le : (s : List Seen) → covered s ≤ length s
covered_le [] = omega arith
covered_le (x ∷ s) =
    let size : length (x ∷ s) ≡ length s + 1 = omega arith in
    let le = with_one_le (is_seen x.place s) (covered s) (length s) (covered_le s) in
    omega (arith, size, le)

-- which word a place is
pub word_of_place : (code place : ℕ) → IsInCode code place → ((place - code_base) / 4 < code) × (place ≡ code_base + 4 * ((place - code_base) / 4))
word_of_place code place h =
    let a = h.above in
    let b = h.below in
    let c = h.whole in
    let lt : (place - code_base) / 4 < code = omega (arith, a, b, c) in
    let is : place ≡ code_base + 4 * ((place - code_base) / 4) = omega (arith, a, b, c) in
    (lt, is)

-- the flag of a place
flag_is : (flags : List Bool) (count : ℕ) (s : List Seen) (code : ℕ) (x : Seen) (d b : Bool) → Covers flags count s code → IsInCode code x.place →
    slice_index_or flags ((x.place - code_base) / 4) d ≡ b → is_seen x.place s ≡ b
flag_is flags count s code x d b c h f =
    let w = word_of_place code x.place h in
    ap (λ p. is_seen p s) w.1 ∙ sym (get_or_from_slice_get flags ((x.place - code_base) / 4) _ d (c.each ((x.place - code_base) / 4) w.0)) ∙ f

pub covers_old : (flags : List Bool) (count : ℕ) (s : List Seen) (code : ℕ) (x : Seen) (d : Bool) → Covers flags count s code → IsInCode code x.place →
    slice_index_or flags ((x.place - code_base) / 4) d ≡ true → Covers flags count (s ++ x ∷ []) code
covers_old flags count s code x d c h f = record {
  words = c.words;
  each = λ k lt. c.each k lt ∙ ap Some (by k (cases_eq x.place (code_base + 4 * k)));
  all = c.all ∙ sym (covered_more s x ∙ ap (λ b. with_one b (covered s)) was);
}
  where
    was : is_seen x.place s ≡ true
    was = flag_is flags count s code x d true c h f

    by : (k : ℕ) → (x.place ≡ code_base + 4 * k) ⊎ (x.place ≡ code_base + 4 * k → ⊥) → is_seen (code_base + 4 * k) s ≡ is_seen (code_base + 4 * k) (s ++ x ∷ [])
    by k (inl p) = ap (λ q. is_seen q s) (sym p) ∙ was ∙ sym (seen_it (code_base + 4 * k) s x p)
    by k (inr apart) = sym (seen_other (code_base + 4 * k) s x apart)

pub covers_new : (flags : List Bool) (count : ℕ) (s : List Seen) (code : ℕ) (x : Seen) (d : Bool) → Covers flags count s code → IsInCode code x.place →
    slice_index_or flags ((x.place - code_base) / 4) d ≡ false → Covers (slice_set flags ((x.place - code_base) / 4) true) (count + 1) (s ++ x ∷ []) code
covers_new flags count s code x d c h f = record {
  words = length-set flags at true ∙ c.words;
  each = λ k lt. by k lt (cases_eq k at);
  all = ap (λ n. n + 1) c.all ∙ sym (covered_more s x ∙ ap (λ b. with_one b (covered s)) was);
}
  where
    at : ℕ
    at = (x.place - code_base) / 4

    w : (at < code) × (x.place ≡ code_base + 4 * at)
    w = word_of_place code x.place h

    was : is_seen x.place s ≡ false
    was = flag_is flags count s code x d false c h f

    read : (k : ℕ) → k < code → slice_get (slice_set flags at true) k ≡ Some (slice_index_or (slice_set flags at true) k true)
    read k lt =
        let size : k < length (slice_set flags at true) = omega (arith, lt, length-set flags at true, c.words) in
        slice_get-get_or (slice_set flags at true) k true size

    by : (k : ℕ) → k < code → (k ≡ at) ⊎ (k ≡ at → ⊥) → slice_get (slice_set flags at true) k ≡ Some (is_seen (code_base + 4 * k) (s ++ x ∷ []))
    by k lt (inl p) =
        let within : at < length flags = omega (arith, c.words, w.0) in
        let place : x.place ≡ code_base + 4 * k = w.1 ∙ ap (λ m. code_base + 4 * m) (sym p) in
        read k lt ∙ ap Some (ap (λ m. slice_index_or (slice_set flags at true) m true) p ∙ get_or-set_same flags at true true within
        ∙ sym (seen_it (code_base + 4 * k) s x place))
    by k lt (inr apart) =
        let other : x.place ≢ code_base + 4 * k = λ q. apart (omega (arith, q, w.1)) in
        read k lt ∙ ap Some (get_or-set_other flags at k true true apart
        ∙ get_or_from_slice_get flags k _ true (c.each k lt) ∙ sym (seen_other (code_base + 4 * k) s x other))
