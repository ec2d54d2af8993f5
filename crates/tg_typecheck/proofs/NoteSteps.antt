-- Notes in rising order of their bytes, and the one at a byte.
use Rattle.std.specs.Prelude.{Option, Some, None, ◌==◌, if◌then◌else◌}
use Rattle.std.proofs.Common.{◌≡◌, ◌≢◌, ℕ, zero, suc, ◌+◌, ◌-◌, ◌/◌, ◌<◌, ◌≤◌, List, [], ◌∷◌, length, get_or, Bool, true, false, refl, sym, ap, ◌∙◌}
use Rattle.std.proofs.Common.{subst, arith, eq-eqb, inl, inr}
use Rattle.std.specs.Prelude.{◌⊎◌}
use Rattle.std.proofs.Math.Nat.{eq-or-lt_of_le}
use Rattle.std.proofs.lemmas.List.{get_or_default}
use Rattle.tg_typecheck.specs.declared.notes.Note.{Note}
use Rattle.tg_typecheck.specs.declared.notes.Means.{Means}
use Rattle.tg_typecheck.specs.Answered.{AreRising, meaning_at}

pub record Between (at : ℕ) (notes : List Note) (low high : ℕ) : Type 0 where
  pub fits : high ≤ length notes
  pub before : (k : ℕ) (d : Note) → k < low → (get_or notes k d).at < at
  pub behind : (k : ℕ) (d : Note) → high ≤ k → k < length notes → at < (get_or notes k d).at

below : (notes : List Note) (at m k : ℕ) (d : Note) → (get_or notes m d).at < at → (k < m → (get_or notes k d).at < (get_or notes m d).at) → k ≤ m →
    (get_or notes k d).at < at
below notes at m k d x f le = elim (eq-or-lt_of_le le) [ inl e ↦ subst (λ j. (get_or notes j d).at < at) (sym e) x | inr l ↦ omega (arith, x, f l) ]

above : (notes : List Note) (at m k : ℕ) (d : Note) → at < (get_or notes m d).at → (m < k → (get_or notes m d).at < (get_or notes k d).at) → m ≤ k →
    at < (get_or notes k d).at
above notes at m k d x f le = elim (eq-or-lt_of_le le) [ inl e ↦ subst (λ j. at < (get_or notes j d).at) e x | inr l ↦ omega (arith, x, f l) ]

pub between_upper : (at : ℕ) (notes : List Note) (low high middle : ℕ) (n : Note) → AreRising notes → Between at notes low high → middle < high →
    n ≡ get_or notes middle n → n.at < at → Between at notes (middle + 1) high
between_upper at notes low high middle n r b l i h =
    let m : middle < length notes = omega (arith, l, b.fits) in
    record {
      fits = b.fits;
      before =
          λ k d s. below notes at middle k d (subst (λ (x : Note). x.at < at) (i ∙ get_or_default notes middle n d m) h) (λ t. r k middle d t m)
          (omega (arith, s));
      behind = b.behind;
    }

pub between_lower : (at : ℕ) (notes : List Note) (low high middle : ℕ) (n : Note) → AreRising notes → Between at notes low high → middle < high →
    n ≡ get_or notes middle n → at < n.at → Between at notes low middle
between_lower at notes low high middle n r b l i h =
    let m : middle < length notes = omega (arith, l, b.fits) in
    record {
      fits = omega (arith, m);
      before = b.before;
      behind = λ k d s t. above notes at middle k d (subst (λ (x : Note). at < x.at) (i ∙ get_or_default notes middle n d m) h) (λ u. r middle k d u t) s;
    }

-- what is found, and what isn't there
found_step : (b : Bool) (m m' : Means) (o : Option Means) → b ≡ true → m ≡ m' → (if b then Some m else o) ≡ Some m'
found_step b m m' o e i = ap (λ c. if c then Some m else o) e ∙ ap (λ x. Some x) i

other_step : (b : Bool) (m : Means) (o p : Option Means) → b ≡ false → o ≡ p → (if b then Some m else o) ≡ p
other_step b m o p e i = ap (λ c. if c then Some m else o) e ∙ i

unequal : (a b : ℕ) → (a ≡ b → ⊥) → (a == b) ≡ false
unequal a b d = grind arith

rising_tail : (x : Note) (xs : List Note) → AreRising (x ∷ xs) → AreRising xs
rising_tail x xs r i j d l m = r (suc i) (suc j) d (omega (arith, l)) (omega (arith, m))

pub found : (at : ℕ) (notes : List Note) (k : ℕ) (n : Note) → AreRising notes → k < length notes → n ≡ get_or notes k n → n.at ≡ at →
    meaning_at at notes ≡ Some n.means
found at [] k n r l i e = absurd (omega (arith, l))
found at (x ∷ notes) zero n r l i e =
    found_step (x.at == at) x.means n.means (meaning_at at notes) (eq-eqb x.at at (ap (λ (y : Note). y.at) (sym i) ∙ e)) (ap (λ (y : Note). y.means) (sym i))
found at (x ∷ notes) (suc k) n r l i e =
    let m : k < length notes = omega (arith, l) in
    let s : x.at < (get_or notes k n).at = r zero (suc k) n (omega arith) (omega (arith, l)) in
    let t : x.at < at = subst (λ v. x.at < v) (ap (λ (y : Note). y.at) (sym i) ∙ e) s in
    other_step (x.at == at) x.means (meaning_at at notes) (Some n.means) (unequal x.at at (λ q. omega (arith, t, q)))
    (found at notes k n (rising_tail x notes r) m i e)

pub nowhere : (at : ℕ) (notes : List Note) → ((k : ℕ) (d : Note) → k < length notes → (get_or notes k d).at ≢ at) → meaning_at at notes ≡ None
nowhere at [] f = refl
nowhere at (x ∷ notes) f =
    other_step (x.at == at) x.means (meaning_at at notes) None (unequal x.at at (f zero x (omega arith)))
    (nowhere at notes (λ k d l. f (suc k) d (omega (arith, l))))

pub between_none : (at : ℕ) (notes : List Note) (low high : ℕ) → Between at notes low high → high ≤ low → meaning_at at notes ≡ None
between_none at notes low high b l =
    nowhere at notes (λ k d m e. elim (le-or-gt high k) [
      | inl h ↦ omega (arith, b.behind k d h m, e)
      | inr h ↦ omega
          (arith, b.before k d (omega (arith, h, l)), e)
    ])
  where
    le-or-gt : (a b : ℕ) → (a ≤ b) ⊎ (b < a)
    le-or-gt zero b = inl (omega arith)
    le-or-gt (suc a) zero = inr (omega arith)
    le-or-gt (suc a) (suc b) = elim (le-or-gt a b) [ inl h ↦ inl (omega (arith, h)) | inr h ↦ inr (omega (arith, h)) ]

-- the middle of what is left
pub middle_below : (low high : ℕ) → low < high → low + (high - low) / 2 < high
middle_below low high l = omega arith

pub within : (m high n : ℕ) → m < high → high ≤ n → m < n
within m high n l h = omega arith

pub strictly : (a b : ℕ) → b ≢ a → a ≤ b → a < b
strictly a b d l = omega (arith, d, l)
