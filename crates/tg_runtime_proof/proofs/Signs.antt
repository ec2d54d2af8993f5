-- The sign of a word, and the order of small words.
use Rattle.std.proofs.Common.{◌≡◌, ℕ, ◌^◌, ◌<◌, ◌≤◌, Bool, true, false, not, ◌&&◌, ◌||◌, refl, sym, ap, ◌∙◌, arith}
use Rattle.std.proofs.Common.{inl, inr}
use Rattle.std.specs.Prelude.{nat_lt}
use Rattle.std.proofs.lemmas.Bool.{cases_lt, le-ltb, ltb-true, and_parts}
use Rattle.tg_base.specs.Words.{is_negative, less}
use Rattle.tg_semantics.specs.Operators.{is_below}

pub not_negative : (a : ℕ) → a < 2 ^ 31 → is_negative a ≡ false
not_negative a lt = grind arith

pub negative : (a : ℕ) → 2 ^ 31 ≤ a → a < 2 ^ 32 → is_negative a ≡ true
negative a le lt = grind arith

pub less_small : (a b : ℕ) → a < 2 ^ 31 → b < 2 ^ 31 → less a b ≡ nat_lt a b
less_small a b la lb = grind arith

pub below_lt : (i n : ℕ) → is_below i n ≡ true → i < n
below_lt i n is = ltb-true i n (and_parts (not (is_negative i)) (nat_lt i n) is).1

pub not_below : (i : ℕ) → is_below i 256 ≡ false → nat_lt i 256 ≡ false
not_below i is =
    elim (cases_lt i 256) [
      | inl lt ↦ let e : is_below i 256 ≡ nat_lt i 256 =
          ap (λ b. not b && nat_lt i 256) (not_negative i (omega (arith, lt))) in sym e ∙ is
      | inr le ↦ le-ltb i 256 le
    ]

pub less_than_none : (a b : ℕ) → 2 ^ 31 ≤ a → a < 2 ^ 32 → b < 2 ^ 31 → less a b ≡ true
less_than_none a b le la lb = grind arith

pub not_negative_lt : (a : ℕ) → a < 2 ^ 32 → is_negative a ≡ false → a < 2 ^ 31
not_negative_lt a la is =
    elim (cases_lt a (2 ^ 31)) [
      | inl lt ↦ lt
      | inr le ↦ let e = sym is ∙ negative a le la in cc
    ]

pub neither_of : (x y : Bool) → (x || y) ≡ false → (x ≡ false) × (y ≡ false)
neither_of true y e = cc
neither_of false y e = (refl, e)
