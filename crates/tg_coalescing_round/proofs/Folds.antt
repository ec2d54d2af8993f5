-- What a fold keeps where each of its steps does, and numbers that stand in a list once.
use Rattle.std.proofs.Common.{◌≡◌, ◌≢◌, ℕ, zero, suc, ◌+◌, ◌<◌, ◌≤◌, false, List, [], ◌∷◌, length, get_or, take, refl, sym, ap, ◌∙◌, arith}
use Rattle.std.specs.Prelude.{fold, nat_eq}
use Rattle.std.specs.List.{IsDistinct, AllByRecursion}
use Rattle.std.proofs.lemmas.Bool.{eqb-false, ne_eqb, or_from, or_parts}
use Rattle.std.proofs.lemmas.List.{take_all}
use Rattle.std.proofs.lemmas.List.Sums.{fold_more}
use Rattle.tg_graph.specs.Interference.{is_among}

pub fold_keeps : {W A V : Type 0} (f : W → A → W) (see : W → V) → ((w : W) (a : A) → see (f w a) ≡ see w) → (w : W)
    (xs : List A) →
    see (fold f w xs) ≡ see w
fold_keeps f see h w [] = refl
fold_keeps f see h w (x ∷ xs) = fold_keeps f see h (f w x) xs ∙ h w x

-- what is seen of a number changes only where it stands in the list
pub fold_keeps_off : {W V : Type 0} (f : W → ℕ → W) (see : W → V) (z : ℕ) →
    ((w : W) (x : ℕ) → z ≢ x → see (f w x) ≡ see w) → (w : W) (xs : List ℕ) → is_among z xs ≡ false →
    see (fold f w xs) ≡ see w
fold_keeps_off f see z h w [] p = refl
fold_keeps_off f see z h w (x ∷ xs) p =
    let parts = or_parts (nat_eq z x) (is_among z xs) p in
    fold_keeps_off f see z h (f w x) xs parts.1 ∙ h w x (eqb-false z x parts.0)

-- one step more of a loop, and its end
module _ {W A : Type 0} (f : W → A → W) (w : W) (xs : List A) where
  pub fold_next : (k : ℕ) (d : A) (u v : W) (x : A) → k < length xs → x ≡ get_or xs k d → u ≡ fold f w (take k xs) →
      v ≡ f u x →
      v ≡ fold f w (take (k + 1) xs)
  fold_next k d u v x l at so_far step =
      step
      ∙ (ap (λ y. f y x) so_far
      ∙ (ap (λ y. f (fold f w (take k xs)) y) at ∙ sym (fold_more f w xs k d l)))

  pub fold_end : (k : ℕ) (u : W) → length xs ≤ k → u ≡ fold f w (take k xs) → u ≡ fold f w xs
  fold_end k u l so_far = so_far ∙ ap (fold f w) (take_all k xs l)

pub among_take : (z : ℕ) (xs : List ℕ) (k : ℕ) → is_among z xs ≡ false → is_among z (take k xs) ≡ false
among_take z [] zero p = refl
among_take z [] (suc k) p = refl
among_take z (x ∷ xs) zero p = refl
among_take z (x ∷ xs) (suc k) p =
    let parts = or_parts (nat_eq z x) (is_among z xs) p in
    or_from (nat_eq z x) (is_among z (take k xs)) parts.0 (among_take z xs k parts.1)

differs_at : (x : ℕ) (xs : List ℕ) (k d : ℕ) → k < length xs → AllByRecursion (λ y. nat_eq x y ≡ false) xs →
    get_or xs k d ≢ x
differs_at x [] k d l h = absurd (omega arith)
differs_at x (y ∷ xs) zero d l h = λ e. eqb-false x y h.0 (sym e)
differs_at x (y ∷ xs) (suc k) d l h = differs_at x xs k d (omega arith) h.1

-- none stands before itself
pub none_before : (xs : List ℕ) (k d : ℕ) → IsDistinct nat_eq xs → k < length xs →
    is_among (get_or xs k d) (take k xs) ≡ false
unfolding IsDistinct
none_before [] k d h l = absurd (omega arith)
none_before (x ∷ xs) zero d h l = refl
none_before (x ∷ xs) (suc k) d h l =
    let first : nat_eq (get_or xs k d) x ≡ false = ne_eqb (get_or xs k d) x (differs_at x xs k d (omega arith) h.0) in
    or_from (nat_eq (get_or xs k d) x) (is_among (get_or xs k d) (take k xs)) first
    (none_before xs k d h.1 (omega arith))
