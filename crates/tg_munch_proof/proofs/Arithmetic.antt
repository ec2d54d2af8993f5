-- Words and the fields of instructions.
use Rattle.std.proofs.Common.{◌≡◌, ◌≢◌, ◌≤◌, ◌<◌, ◌+◌, ◌-◌, ◌*◌, ◌/◌, ◌%◌, ◌^◌, ℕ, ℤ, pos, negsuc, ◌-ℤ◌, ◌*ℤ◌, Bool}
use Rattle.std.proofs.Common.{true, false, refl, sym, ap, ◌∙◌, arith, w32, w64, unsigned_abs}
use Rattle.std.proofs.lemmas.Int.{ints, wrapping_mul-bits, of_z-to_z}
use Rattle.std.proofs.lemmas.Nat.{pow-add, shr-shr, shr_le, mul-mod_first}
use Rattle.std.proofs.Math.Nat.{mul_assoc}
use Rattle.std.specs.Int.{int_shr, cast_unsigned, int_wrap}
use Rattle.std.proofs.lemmas.Grind.{common_steps}
use Rattle.std.proofs.lemmas.Bool.Decides.{nat_tests}
use Rattle.std.specs.Prelude.{not, nat_lt}
use Rattle.tg_base.specs.Words.{add, sub, mul, less, signed, unsigned, exact_sum, exact_difference, product_low}
use Rattle.tg_base.specs.Words.{extended, shift_left, shift_right, shift_signed}
use Rattle.tg_base.proofs.ProductLaws.{abs_product}
use Rattle.tg_munch.specs.mirror.Tiles.{is_small, field, negated}

-- the field of a small constant stands for it
pub field_stands : (n : ℕ) → is_small n ≡ true → extended (field n) ≡ n
field_stands n h = grind (arith, nat_tests, common_steps)

-- a difference as a sum with the word of the other sign
pub negated_word : (n : ℕ) → n < 2 ^ 32 → negated n < 2 ^ 32
negated_word n h = grind (arith, common_steps)

pub sub_is_add : (a n : ℕ) → n < 2 ^ 32 → sub a n ≡ add a (negated n)
sub_is_add a n h = grind (arith, common_steps)

pub signed_negated : (n : ℕ) → n < 2 ^ 32 → n ≢ 2 ^ 31 → signed (negated n) ≡ pos 0 -ℤ signed n
signed_negated n h k = grind (arith, common_steps, ints)

pub difference_is_sum : (a n : ℕ) → a < 2 ^ 32 → n < 2 ^ 32 → n ≢ 2 ^ 31 → exact_difference a n ≡ exact_sum a
    (negated n)
difference_is_sum a n ha h k = grind (arith, common_steps, ints)

-- at most n is less than the next word
pub at_most_is_less : (a n : ℕ) → a < 2 ^ 32 → n < 2 ^ 32 → n ≢ 2147483647 → not (less n a) ≡ less a ((n + 1) %
    4294967296)
at_most_is_less a n ha h k = grind (arith, common_steps, ints)

-- the lower word of a product
low_word : (z : ℤ) → unsigned_abs z < 2 ^ 63 → cast_unsigned w32 (int_wrap w32 z) ≡ cast_unsigned w64 z % 2 ^ 32
unfolding int_wrap
low_word (pos n) h = grind (arith, common_steps, ints)
low_word (negsuc n) h = let small : n < 2 ^ 63 = omega (arith, h) in grind (arith, common_steps, ints)

pub low_product : (a b : ℕ) → a < 2 ^ 32 → b < 2 ^ 32 → mul a b ≡ product_low a b
low_product a b h k =
    sym (of_z-to_z w32 ((a * b) % 2 ^ 32) (omega arith)) ∙
    (ap (cast_unsigned w32) (wrapping_mul-bits w32 a b h k) ∙ low_word (signed a *ℤ signed b) (abs_product a b h k))

-- a load of an offset 0
pub add_none : (a : ℕ) → a < 2 ^ 32 → add a (extended 0) ≡ a
add_none a h = grind (arith, common_steps)

-- shifts, one after another
pub right_twice : (a j k : ℕ) → shift_right (shift_right a j) k ≡ shift_right a (j + k)
right_twice a j k = shr-shr a j k

pub left_twice : (a j k : ℕ) → shift_left (shift_left a j) k ≡ shift_left a (j + k)
left_twice a j k = mul-mod_first (a * 2 ^ j) (2 ^ k) (2 ^ 32) ∙ ap (λ n. n % 2 ^ 32) (mul_assoc a (2 ^ j) (2 ^ k) ∙
    ap (λ n. a * n) (sym (pow-add 2 j k)))

pub signed_shifts : (z : ℤ) (j k : ℕ) → int_shr (int_shr z j) k ≡ int_shr z (j + k)
signed_shifts (pos n) j k = ap (λ m. pos m) (shr-shr n j k)
signed_shifts (negsuc n) j k = ap (λ m. negsuc m) (shr-shr n j k)

pub left_none : (a : ℕ) → a < 2 ^ 32 → shift_left a 0 ≡ a
left_none a h = grind (arith, common_steps)

pub signed_none : (a : ℕ) → a < 2 ^ 32 → shift_signed a 0 ≡ a
signed_none a h = grind (arith, common_steps, ints)

-- a shift with its sign, of a word that stands for an int from 0 on, and of one below 0
signed_low : (u : ℕ) → u < 2 ^ 31 → signed u ≡ pos u
signed_low u h = grind (arith, common_steps)

signed_high : (u : ℕ) → 2 ^ 31 ≤ u → u < 2 ^ 32 → signed u ≡ negsuc (2 ^ 32 - 1 - u)
signed_high u h l = grind (arith, common_steps, ints)

unsigned_low : (n : ℕ) → n < 2 ^ 32 → unsigned (pos n) ≡ n
unsigned_low n h = grind (arith, common_steps)

unsigned_high : (n : ℕ) → n < 2 ^ 31 → unsigned (negsuc n) ≡ 2 ^ 32 - 1 - n
unsigned_high n h = grind (arith, common_steps, ints)

pub shift_low : (u k : ℕ) → u < 2 ^ 31 → shift_signed u k ≡ u / 2 ^ k
shift_low u k h =
    let le : u / 2 ^ k ≤ u = shr_le u k in
    ap (λ z. unsigned (int_shr z k)) (signed_low u h) ∙ unsigned_low (u / 2 ^ k) (omega (arith, le, h))

pub shift_high : (u k : ℕ) → 2 ^ 31 ≤ u → u < 2 ^ 32 → shift_signed u k ≡ 2 ^ 32 - 1 - (2 ^ 32 - 1 - u) / 2 ^ k
shift_high u k l h =
    let le : (2 ^ 32 - 1 - u) / 2 ^ k ≤ 2 ^ 32 - 1 - u = shr_le (2 ^ 32 - 1 - u) k in
    ap (λ z. unsigned (int_shr z k)) (signed_high u l h) ∙ unsigned_high ((2 ^ 32 - 1 - u) / 2 ^ k) (omega (
      arith,
      le,
      h,
      l,
    ))

pub signed_twice : (u j k : ℕ) → u < 2 ^ 32 → shift_signed (shift_signed u j) k ≡ shift_signed u (j + k)
signed_twice u j k h = by (nat_lt u (2 ^ 31)) refl
  where
    is_low : nat_lt u (2 ^ 31) ≡ true → u < 2 ^ 31
    is_low e = grind (arith, nat_tests)

    is_high : nat_lt u (2 ^ 31) ≡ false → 2 ^ 31 ≤ u
    is_high e = grind (arith, nat_tests)

    back : (m : ℕ) → m < 2 ^ 32 → 2 ^ 32 - 1 - (2 ^ 32 - 1 - m) ≡ m
    back m lt = omega arith

    by : (b : Bool) → nat_lt u (2 ^ 31) ≡ b → shift_signed (shift_signed u j) k ≡ shift_signed u (j + k)
    by true e =
        let low : u < 2 ^ 31 = is_low e in
        let le : u / 2 ^ j ≤ u = shr_le u j in
        ap (λ v. shift_signed v k) (shift_low u j low) ∙ (shift_low (u / 2 ^ j) k (omega (arith, le, low)) ∙ (shr-shr
        u j k ∙ sym (shift_low u (j + k) low)))
    by false e =
        let high : 2 ^ 31 ≤ u = is_high e in
        let le : (2 ^ 32 - 1 - u) / 2 ^ j ≤ 2 ^ 32 - 1 - u = shr_le (2 ^ 32 - 1 - u) j in
        ap (λ v. shift_signed v k) (shift_high u j high h) ∙
        (shift_high (2 ^ 32 - 1 - (2 ^ 32 - 1 - u) / 2 ^ j) k (omega (arith, le, high, h)) (omega (
          arith,
          le,
          high,
          h,
        )) ∙
        (ap (λ v. 2 ^ 32 - 1 - v / 2 ^ k) (back ((2 ^ 32 - 1 - u) / 2 ^ j) (omega (arith, le, high, h))) ∙
        (ap (λ v. 2 ^ 32 - 1 - v) (shr-shr (2 ^ 32 - 1 - u) j k) ∙ sym (shift_high u (j + k) high h))))
