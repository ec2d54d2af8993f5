-- The product of two words, and its upper and its lower word.
use Rattle.std.proofs.Common.{◌≡◌, ◌≢◌, ◌≤◌, ◌<◌, ◌-◌, ◌*◌, ◌/◌, ◌%◌, ◌^◌, inl, inr, ℕ, suc, ℤ, pos, negsuc, ◌*ℤ◌, Some, None, sym, ap, ◌∙◌, arith}
use Rattle.std.proofs.Common.{mul-le-mul, w64, unsigned_abs}
use Rattle.std.proofs.lemmas.Int.{unsigned_abs-mul, ints}
use Rattle.std.proofs.lemmas.Bool.{cases_lt}
use Rattle.std.proofs.lemmas.Grind.{common_steps}
use Rattle.std.specs.Int.{cast_unsigned}
use Rattle.tg_base.specs.Words.{signed, within, shift_signed}
use Rattle.tg_base.specs.laws.ProductLaw.{IsExactBySign}

-- the sign of a word, as a word
sign_none : (low : ℕ) → low < 2 ^ 31 → shift_signed low 31 ≡ 0
sign_none low h = grind (arith, common_steps, ints)

sign_all : (low : ℕ) → 2 ^ 31 ≤ low → low < 2 ^ 32 → shift_signed low 31 ≡ 4294967295
sign_all low h k = grind (arith, common_steps, ints)

in_range_low : (n : ℕ) → n < 2 ^ 31 → within (pos n) ≡ Some n
in_range_low n h = grind (arith, common_steps)

out_high : (n : ℕ) → 2 ^ 31 ≤ n → within (pos n) ≡ None
out_high n h = grind (arith, common_steps)

in_range_below : (n : ℕ) → n < 2 ^ 31 → within (negsuc n) ≡ Some (2 ^ 32 - suc n)
in_range_below n h = grind (arith, common_steps)

out_below : (n : ℕ) → 2 ^ 31 ≤ n → within (negsuc n) ≡ None
out_below n h = grind (arith, common_steps)

-- the upper and the lower word of an int of 64 bits
abbrev high : ℤ → ℕ
high z = cast_unsigned w64 z / 2 ^ 32

abbrev low : ℤ → ℕ
low z = cast_unsigned w64 z % 2 ^ 32

record IsWordBySign (z : ℤ) : Type 0 where
  exact : high z ≡ shift_signed (low z) 31 → within z ≡ Some (low z)
  inexact : high z ≢ shift_signed (low z) 31 → within z ≡ None

-- an int from 0 on
pos_exact : (n : ℕ) → n < 2 ^ 63 → n / 2 ^ 32 ≡ shift_signed (n % 2 ^ 32) 31 → (n < 2 ^ 31) × (n % 2 ^ 32 ≡ n)
pos_exact n h e =
    elim (cases_lt (n % 2 ^ 32) (2 ^ 31)) [
      | inl l ↦ let z = sign_none (n % 2 ^ 32) l in (omega (arith, e, z), omega (arith, e, z))
      | inr l ↦ let z = sign_all (n % 2 ^ 32) l (omega arith) in absurd (omega (arith, e, z))
    ]

pos_inexact : (n : ℕ) → n < 2 ^ 63 → (n / 2 ^ 32 ≢ shift_signed (n % 2 ^ 32) 31) → 2 ^ 31 ≤ n
pos_inexact n h e =
    elim (cases_lt n (2 ^ 31)) [
      | inl l ↦ absurd (e (let small : n % 2 ^ 32 < 2 ^ 31 = omega arith in let z = sign_none (n % 2 ^ 32) small in rw z (omega arith)))
      | inr l ↦ l
    ]

negsuc_low : (n : ℕ) → n < 2 ^ 63 → (2 ^ 64 - suc n) % 2 ^ 32 ≡ 2 ^ 32 - suc (n % 2 ^ 32)
negsuc_low n h = omega arith

negsuc_high : (n : ℕ) → n < 2 ^ 63 → (2 ^ 64 - suc n) / 2 ^ 32 ≡ 2 ^ 32 - suc (n / 2 ^ 32)
negsuc_high n h = omega arith

-- an int below 0
negsuc_exact : (n : ℕ) → n < 2 ^ 63 → high (negsuc n) ≡ shift_signed (low (negsuc n)) 31 → (n < 2 ^ 31) × (low (negsuc n) ≡ 2 ^ 32 - suc n)
negsuc_exact n h e =
    let l = negsuc_low n h in
    let u = negsuc_high n h in
    elim (cases_lt (low (negsuc n)) (2 ^ 31)) [
      | inl k ↦ let z = sign_none (low (negsuc n)) k in absurd (omega (arith, l, u, e, z))
      | inr k ↦
          let z = sign_all (low (negsuc n)) k (omega arith) in
          (omega (arith, l, u, e, z), omega (arith, l, u, e, z))
    ]

negsuc_inexact : (n : ℕ) → n < 2 ^ 63 → (high (negsuc n) ≢ shift_signed (low (negsuc n)) 31) → 2 ^ 31 ≤ n
negsuc_inexact n h e =
    elim (cases_lt n (2 ^ 31)) [
      | inl k ↦
          let l = negsuc_low n h in
          let u = negsuc_high n h in
          let large : 2 ^ 31 ≤ low (negsuc n) = omega (arith, l) in
          let z = sign_all (low (negsuc n)) large (omega arith) in
          absurd (e (omega (arith, u, z)))
      | inr k ↦ k
    ]

by_sign : (z : ℤ) → unsigned_abs z < 2 ^ 63 → IsWordBySign z
by_sign (pos n) h = record {
  exact = λ e. let p = pos_exact n h e in in_range_low n p.0 ∙ ap Some (sym p.1);
  inexact = λ e. out_high n (pos_inexact n h e);
}
by_sign (negsuc n) h =
    let small : n < 2 ^ 63 = omega (arith, h) in
    record {
      exact = λ e. let p = negsuc_exact n small e in in_range_below n p.0 ∙ ap Some (sym p.1);
      inexact = λ e. out_below n (negsuc_inexact n small e);
    }

pub abs_signed : (a : ℕ) → a < 2 ^ 32 → unsigned_abs (signed a) ≤ 2 ^ 31
abs_signed a h = grind (arith, common_steps, ints)

-- a product of two words has 64 bits
pub abs_product : (a b : ℕ) → a < 2 ^ 32 → b < 2 ^ 32 → unsigned_abs (signed a *ℤ signed b) < 2 ^ 63
abs_product a b p q =
    let m : unsigned_abs (signed a) * unsigned_abs (signed b) ≤ 2 ^ 31 * 2 ^ 31 = mul-le-mul (abs_signed a p) (abs_signed b q) in
    rw (unsigned_abs-mul (signed a) (signed b)) (omega (arith, m))

pub product_of : (a b : ℕ) → a < 2 ^ 32 → b < 2 ^ 32 → IsExactBySign a b
product_of a b p q =
    let s = by_sign (signed a *ℤ signed b) (abs_product a b p q) in
    record { exact = s.exact; inexact = s.inexact }
