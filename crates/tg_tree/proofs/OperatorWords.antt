-- Operators make words of words.
use Rattle.std.proofs.Common.{◌≡◌, ◌≤◌, ◌<◌, ℕ, zero, suc, ℤ, ◌+ℤ◌, ◌-ℤ◌, ◌*ℤ◌, pos, negsuc, unsigned_abs, ◌+◌, ◌-◌, ◌*◌, ◌/◌}
use Rattle.std.proofs.Common.{◌%◌, ◌^◌, Bool, w64, refl, sym, subst, arith}
use Rattle.std.proofs.lemmas.Int.{ints}
use Rattle.std.proofs.lemmas.Nat.{or_lt, xor_lt, shr_le}
use Rattle.std.proofs.lemmas.Grind.{common_steps}
use Rattle.std.proofs.Math.Nat.{div-le_self}
use Rattle.std.specs.Int.{cast_unsigned, int_shr}
use Rattle.std.specs.Int.Bits.{and_lt}
use Rattle.std.specs.Prelude.{◌==◌, false, true, Some, None, neg_ℤ, int_div, if◌then◌else◌}
use Rattle.tg_base.specs.Words.{signed, unsigned, quot, product_high, within, is_word}
use Rattle.tg_base.proofs.ProductLaws.{abs_signed, abs_product}
use Rattle.tg_tree.specs.declared.operators.Bin.{Bin}
use Rattle.tg_tree.specs.declared.operators.Bin.TheVariants as bin
use Rattle.tg_tree.specs.Operators.{word, exactly, operate}

abbrev IsWord : ℕ → Type 0
IsWord n = n < 2 ^ 32

same_word : (a b : ℕ) → word a ≡ word b → a ≡ b
same_word a b e = cc

low_word : (n r : ℕ) → word (n % 2 ^ 32) ≡ word r → IsWord r
low_word n r e = subst (λ i. IsWord i) (same_word (n % 2 ^ 32) r e) (omega arith)

of_word : (n r : ℕ) → IsWord n → word n ≡ word r → IsWord r
of_word n r h e = subst (λ i. IsWord i) (same_word n r e) h

-- a product, and a quotient, which is no further from 0 than what is divided
product_word : (z : ℤ) → unsigned_abs z < 2 ^ 63 → cast_unsigned w64 z / 2 ^ 32 < 2 ^ 32
product_word (pos n) h = grind (arith, common_steps, ints)
product_word (negsuc n) h = let small : n < 2 ^ 63 = omega (arith, h) in grind (arith, common_steps, ints)

abs_negated : (n : ℕ) → unsigned_abs (neg_ℤ (pos n)) ≡ n
abs_negated zero = refl
abs_negated (suc n) = refl

abs_quotient : (a d : ℤ) → unsigned_abs (int_div a d) ≤ unsigned_abs a
abs_quotient (pos a) (pos b) = div-le_self a b
abs_quotient (pos a) (negsuc b) = subst (λ n. n ≤ a) (sym (abs_negated (a / suc b))) (div-le_self a (suc b))
abs_quotient (negsuc a) (pos b) = subst (λ n. n ≤ suc a) (sym (abs_negated (suc a / b))) (div-le_self (suc a) b)
abs_quotient (negsuc a) (negsuc b) = div-le_self (suc a) (suc b)

unsigned_small : (z : ℤ) → unsigned_abs z ≤ 2 ^ 31 → IsWord (unsigned z)
unsigned_small (pos n) h = grind (arith, common_steps, ints)
unsigned_small (negsuc n) h = let le : suc n ≤ 2 ^ 31 = h in grind (arith, common_steps, ints)

quotient_is_word : (u v : ℕ) → IsWord u → IsWord (quot u v)
quotient_is_word u v h =
    let le = abs_quotient (signed u) (signed v) in
    let small = abs_signed u h in
    unsigned_small (int_div (signed u) (signed v)) (omega (arith, le, small))

-- a shift with the sign is no further from 0 either
abs_shift : (z : ℤ) (k : ℕ) → unsigned_abs z ≤ 2 ^ 31 → unsigned_abs (int_shr z k) ≤ 2 ^ 31
abs_shift (pos n) k h = let le = shr_le n k in omega (arith, le, h)
abs_shift (negsuc n) k h = let le = shr_le n k in omega (arith, le, h)

-- exact ones
exact_unsigned : (z : ℤ) → is_word z ≡ true → unsigned z < 2 ^ 32
exact_unsigned (pos n) h = grind (arith, common_steps, ints)
exact_unsigned (negsuc n) h = grind (arith, common_steps, ints)

exact_word : (z : ℤ) (r : ℕ) → exactly (within z) ≡ word r → IsWord r
exact_word z r e = by (is_word z) refl e
  where
    by : (b : Bool) → is_word z ≡ b → exactly (if b then Some (unsigned z) else None) ≡ word r → IsWord r
    by true q h = of_word (unsigned z) r (exact_unsigned z q) h
    by false q h = absurd (stopped h)
      where
        stopped : exactly None ≡ word r → ⊥
        stopped h = cc

pub operate_word : (op : Bin) (u v r : ℕ) → IsWord u → IsWord v → operate op u v ≡ word r → IsWord r
operate_word bin.Add u v r h k e = low_word (u + v) r e
operate_word bin.Sub u v r h k e = low_word (u + (2 ^ 32 - v)) r e
operate_word bin.Mul u v r h k e = low_word (u * v) r e
operate_word bin.Div u v r h k e = by (v == 0) e
  where
    by : (b : Bool) → (if b then operate bin.Div u 0 else word (quot u v)) ≡ word r → IsWord r
    by true q = absurd (stopped q)
      where
        stopped : operate bin.Div u 0 ≡ word r → ⊥
        stopped q = cc
    by false q = of_word (quot u v) r (quotient_is_word u v h) q
operate_word bin.And u v r h k e = of_word _ r (and_lt 32 u v h k) e
operate_word bin.Or u v r h k e = of_word _ r (or_lt 32 u v h k) e
operate_word bin.Xor u v r h k e = of_word _ r (xor_lt 32 u v h k) e
operate_word bin.ShiftLeft u v r h k e = low_word (u * 2 ^ (v % 32)) r e
operate_word bin.ShiftRight u v r h k e = let le = shr_le u (v % 32) in of_word (u / 2 ^ (v % 32)) r (omega (arith, le, h)) e
operate_word bin.ShiftSigned u v r h k e =
    of_word _ r (unsigned_small (int_shr (signed u) (v % 32)) (abs_shift (signed u) (v % 32) (abs_signed u h))) e
operate_word bin.AddTrap u v r h k e = exact_word (signed u +ℤ signed v) r e
operate_word bin.SubTrap u v r h k e = exact_word (signed u -ℤ signed v) r e
operate_word bin.MulHigh u v r h k e = of_word (product_high u v) r (product_word (signed u *ℤ signed v) (abs_product u v h k)) e
