-- What rows give has 32 bits.
use Rattle.std.proofs.Common.{ℕ, ◌≡◌, ◌<◌, ◌≤◌, ◌*◌, ◌^◌, ◌&&◌, ℤ, pos, negsuc, ◌*ℤ◌, refl, arith, Bool, true, false}
use Rattle.std.proofs.Common.{Some, None}
use Rattle.std.proofs.Common.{w64, unsigned_abs, int_lt, int_div, int_rem}
use Rattle.std.proofs.lemmas.Int.{ints}
use Rattle.std.proofs.lemmas.Grind.{common_steps}
use Rattle.std.proofs.lemmas.Nat.{or_of_32, xor_of_32, and_le_l}
use Rattle.std.specs.Prelude.{if◌then◌else◌, bit_and, bit_or, bit_xor}
use Rattle.std.specs.Int.{cast_unsigned, int_shr}
use Rattle.tg_base.specs.Words.{signed, unsigned, quot, rem, is_word, within, product_high, extended_byte}
use Rattle.tg_base.specs.Words.{shift_right, shift_signed, neither, flag}
use Rattle.tg_base.proofs.ProductLaws.{abs_signed, abs_product}
use Rattle.tg_tree.specs.Operators.{exactly}
use Rattle.tg_emit_proof.proofs.Registers.{IsGivenWord}

-- the word of a small int
int_fits : (z : ℤ) → unsigned_abs z ≤ 2 ^ 31 → unsigned z < 2 ^ 32
int_fits (pos n) h = omega (arith, h)
int_fits (negsuc n) h = omega arith

wide_fits : (z : ℤ) → unsigned_abs z < 2 ^ 63 → cast_unsigned w64 z < 2 ^ 64
wide_fits (pos n) h = omega (arith, h)
wide_fits (negsuc n) h = omega arith

pub product_fits : (a b : ℕ) → a < 2 ^ 32 → b < 2 ^ 32 → product_high a b < 2 ^ 32
product_fits a b h k = let w = wide_fits (signed a *ℤ signed b) (abs_product a b h k) in omega (arith, w)

less_pos : (n : ℕ) → int_lt (pos n) (pos (2 ^ 31)) ≡ true → n < 2 ^ 31
less_pos n h = grind (arith, common_steps, ints, h)

pub exact_fits : (z : ℤ) → IsGivenWord (exactly (within z))
exact_fits z = by (is_word z) refl
  where
    right : (a b : Bool) → (a && b) ≡ true → b ≡ true
    right true b h = h
    right false b h = cc

    whole : (z : ℤ) → is_word z ≡ true → unsigned z < 2 ^ 32
    whole (pos n) e = let l = less_pos n (right (int_lt (negsuc (2 ^ 31)) (pos n)) _ e) in omega (arith, l)
    whole (negsuc n) e = omega arith

    by : (b : Bool) → is_word z ≡ b → IsGivenWord (exactly (if b then Some (unsigned z) else None))
    by true e = whole z e
    by false e = tt

pub flag_fits : (b : Bool) → flag b < 2 ^ 32
flag_fits true = omega arith
flag_fits false = omega arith

pub sign_fits : (n : ℕ) → n < 256 → extended_byte n < 2 ^ 32
sign_fits n h = grind (arith, common_steps, h)

pub shift_right_fits : (a k : ℕ) → a < 2 ^ 32 → shift_right a k < 2 ^ 32
shift_right_fits a k h = grind (arith, common_steps, h)

abs_shift : (z : ℤ) (k : ℕ) → unsigned_abs (int_shr z k) ≤ unsigned_abs z
abs_shift (pos n) k = grind (arith, common_steps)
abs_shift (negsuc n) k = grind (arith, common_steps)

pub shift_signed_fits : (a k : ℕ) → a < 2 ^ 32 → shift_signed a k < 2 ^ 32
shift_signed_fits a k h = let x = abs_shift (signed a) k in let y = abs_signed a h in
    int_fits (int_shr (signed a) k) (omega (arith, x, y))

abs_quot : (x y : ℤ) → unsigned_abs (int_div x y) ≤ unsigned_abs x
abs_quot x y = grind (arith, common_steps, ints)

abs_rem : (x y : ℤ) → unsigned_abs (int_rem x y) ≤ unsigned_abs x
abs_rem x y = grind (arith, common_steps, ints)

pub quot_fits : (a b : ℕ) → a < 2 ^ 32 → quot a b < 2 ^ 32
quot_fits a b h = let x = abs_quot (signed a) (signed b) in let y = abs_signed a h in
    int_fits (int_div (signed a) (signed b)) (omega (arith, x, y))

pub rem_fits : (a b : ℕ) → a < 2 ^ 32 → rem a b < 2 ^ 32
rem_fits a b h = let x = abs_rem (signed a) (signed b) in let y = abs_signed a h in
    int_fits (int_rem (signed a) (signed b)) (omega (arith, x, y))

pub and_fits : (a b : ℕ) → a < 2 ^ 32 → bit_and a b < 2 ^ 32
and_fits a b h = let x = and_le_l a b in omega (arith, x, h)

pub or_fits : (a b : ℕ) → a < 2 ^ 32 → b < 2 ^ 32 → bit_or a b < 2 ^ 32
or_fits = or_of_32

pub xor_fits : (a b : ℕ) → a < 2 ^ 32 → b < 2 ^ 32 → bit_xor a b < 2 ^ 32
xor_fits = xor_of_32

pub neither_fits : (a b : ℕ) → neither a b < 2 ^ 32
neither_fits a b = omega arith
