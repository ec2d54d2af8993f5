-- What the fields of instructions make of words, operator by operator.
use Rattle.std.proofs.Common.{◌≡◌, ◌≢◌, ◌<◌, ◌+◌, ◌*◌, ◌/◌, ◌%◌, ◌^◌, ℕ, ℤ, pos, ◌+ℤ◌, ◌-ℤ◌, Bool, true, false, refl}
use Rattle.std.proofs.Common.{sym, ap, ◌∙◌, subst, arith}
use Rattle.std.proofs.lemmas.Int.{ints}
use Rattle.std.proofs.lemmas.Nat.{or_disjoint, or_comm, and_comm, xor_comm}
use Rattle.std.proofs.lemmas.Grind.{common_steps}
use Rattle.std.proofs.lemmas.Bool.Decides.{nat_tests}
use Rattle.std.specs.Prelude.{◌==◌, nat_lt, bit_and, bit_or, bit_xor, Some, None, if◌then◌else◌}
use Rattle.std.specs.Int.Bits.{or_zero_l, and_shifted}
use Rattle.tg_base.specs.Words.{add, signed, exact_sum, exact_difference, within, extended, shift_left, shift_right}
use Rattle.tg_base.specs.Words.{shift_signed}
use Rattle.tg_tree.specs.declared.operators.Bin.{Bin}
use Rattle.tg_tree.specs.declared.operators.Bin.TheVariants as bin
use Rattle.tg_tree.specs.Operators.{Given, word, exactly, operate}
use Rattle.tg_instr.specs.declared.operands.Opnd.{Opnd}
use Rattle.tg_instr.specs.declared.instr.Instr.{Instr}
use Rattle.tg_instr.specs.Shapes.{Operand, From1, shape}
use Rattle.tg_munch.specs.mirror.Tiles.{is_small, field, negated, immediate, instruction, commutes}
use Rattle.tg_munch_proof.specs.Words.{IsWord}
use Rattle.tg_munch_proof.proofs.Arithmetic.{field_stands, sub_is_add, signed_negated}

-- the two halves of a constant
pub halves_are : (n : ℕ) → n < 2 ^ 32 → bit_or (field (n / 65536) * 65536) (field n) ≡ n
halves_are n h = or_disjoint (n / 65536 % 65536 * 65536) (n % 65536) (and_shifted (n / 65536 % 65536) 16 (n % 65536)
    (omega arith)) ∙ omega arith

pub upper_alone : (n : ℕ) → n < 2 ^ 32 → (n % 65536 == 0) ≡ true → field (n / 65536) * 65536 ≡ n
upper_alone n h e = grind (arith, nat_tests)

pub low_alone : (n : ℕ) → nat_lt n 65536 ≡ true → bit_or 0 (field n) ≡ n
low_alone n e = or_zero_l (field n) ∙ grind (arith, nat_tests)

pub small_alone : (n : ℕ) → n < 2 ^ 32 → is_small n ≡ true → add 0 (extended (field n)) ≡ n
small_alone n h e = ap (add 0) (field_stands n e) ∙ grind (arith, common_steps)

half_stands : (n : ℕ) → nat_lt n 65536 ≡ true → field n ≡ n
half_stands n e = grind (arith, nat_tests)

-- a constant's instruction, as what it does
pub record DoesAs (op : Bin) (n : ℕ) (made : (to from : Opnd) → Instr) : Type 0 where
  pub does : ℕ → Given
  pub is : (to y : Opnd) → shape (made to y) ≡ From1 to (Operand y) does
  pub same : (u : ℕ) → does u ≡ operate op u n

pub taken : {I : Type 0} (b : Bool) (one other : I) → (if b then Some one else None) ≡ Some other → (b ≡ true) × (one
    ≡ other)
taken {I} true one other e = (refl, some_is one other e)
  where
    some_is : (a b : I) → Some a ≡ Some b → a ≡ b
    some_is a b e = cc
taken {I} false one other e = absurd (none_is other e)
  where
    none_is : (a : I) → None ≡ Some a → ⊥
    none_is a e = cc

some_is : {I : Type 0} (a b : I) → Some a ≡ Some b → a ≡ b
some_is a b e = cc

none_is : {I : Type 0} (a : I) → None ≡ Some a → ⊥
none_is a e = cc

no : false ≡ true → ⊥
no e = cc

-- the difference from an int that isn't the least
not_least : (n : ℕ) → n < 2 ^ 32 → is_small (negated n) ≡ true → n ≢ 2 ^ 31
not_least n h e = grind (arith, nat_tests, common_steps)

difference_is : (a n : ℕ) → n < 2 ^ 32 → n ≢ 2 ^ 31 → exact_sum a (negated n) ≡ exact_difference a n
difference_is a n h k = ap (λ z. within (signed a +ℤ z)) (signed_negated n h k) ∙ ap within (turned (signed a)
    (signed n))
  where
    turned : (y z : ℤ) → y +ℤ (pos 0 -ℤ z) ≡ y -ℤ z
    turned y z = grind (arith, ints)

pub field_does : (op : Bin) (n : ℕ) (one : _) → IsWord n → immediate op n ≡ Some one → DoesAs op n (instruction one)
field_does bin.Add n one h e =
    let t = taken (is_small n) _ one e in
    subst (λ i. DoesAs bin.Add n (instruction i)) t.1 (record {
      does = λ a. word (add a (extended (field n)));
      is = λ to y. refl;
      same = λ u. ap (λ m. word (add u m)) (field_stands n t.0);
    })
field_does bin.Sub n one h e =
    let t = taken (is_small (negated n)) _ one e in
    subst (λ i. DoesAs bin.Sub n (instruction i)) t.1 (record {
      does = λ a. word (add a (extended (field (negated n))));
      is = λ to y. refl;
      same = λ u. ap (λ m. word (add u m)) (field_stands (negated n) t.0) ∙ ap word (sym (sub_is_add u n h));
    })
field_does bin.AddTrap n one h e =
    let t = taken (is_small n) _ one e in
    subst (λ i. DoesAs bin.AddTrap n (instruction i)) t.1 (record {
      does = λ a. exactly (exact_sum a (extended (field n)));
      is = λ to y. refl;
      same = λ u. ap (λ m. exactly (exact_sum u m)) (field_stands n t.0);
    })
field_does bin.SubTrap n one h e =
    let t = taken (is_small (negated n)) _ one e in
    subst (λ i. DoesAs bin.SubTrap n (instruction i)) t.1 (record {
      does = λ a. exactly (exact_sum a (extended (field (negated n))));
      is = λ to y. refl;
      same = λ u. ap (λ m. exactly (exact_sum u m)) (field_stands (negated n) t.0) ∙ ap exactly (difference_is u n h
          (not_least n h t.0));
    })
field_does bin.And n one h e =
    let t = taken (nat_lt n 65536) _ one e in
    subst (λ i. DoesAs bin.And n (instruction i)) t.1 (record {
      does = λ a. word (bit_and a (field n));
      is = λ to y. refl;
      same = λ u. ap (λ m. word (bit_and u m)) (half_stands n t.0);
    })
field_does bin.Or n one h e =
    let t = taken (nat_lt n 65536) _ one e in
    subst (λ i. DoesAs bin.Or n (instruction i)) t.1 (record {
      does = λ a. word (bit_or a (field n));
      is = λ to y. refl;
      same = λ u. ap (λ m. word (bit_or u m)) (half_stands n t.0);
    })
field_does bin.Xor n one h e =
    let t = taken (nat_lt n 65536) _ one e in
    subst (λ i. DoesAs bin.Xor n (instruction i)) t.1 (record {
      does = λ a. word (bit_xor a (field n));
      is = λ to y. refl;
      same = λ u. ap (λ m. word (bit_xor u m)) (half_stands n t.0);
    })
field_does bin.ShiftLeft n one h e =
    subst (λ i. DoesAs bin.ShiftLeft n (instruction i)) (some_is _ one e)
    (record { does = λ a. word (shift_left a (n % 32)); is = λ to y. refl; same = λ u. refl })
field_does bin.ShiftRight n one h e =
    subst (λ i. DoesAs bin.ShiftRight n (instruction i)) (some_is _ one e)
    (record { does = λ a. word (shift_right a (n % 32)); is = λ to y. refl; same = λ u. refl })
field_does bin.ShiftSigned n one h e =
    subst (λ i. DoesAs bin.ShiftSigned n (instruction i)) (some_is _ one e)
    (record { does = λ a. word (shift_signed a (n % 32)); is = λ to y. refl; same = λ u. refl })
field_does bin.Mul n one h e = absurd (none_is one e)
field_does bin.Div n one h e = absurd (none_is one e)
field_does bin.MulHigh n one h e = absurd (none_is one e)

-- sides that change places
pub commuted : (op : Bin) (u v : ℕ) → commutes op ≡ true → operate op u v ≡ operate op v u
commuted bin.Add u v e = let c : u + v ≡ v + u = omega arith in ap (λ n. word (n % 2 ^ 32)) c
commuted bin.AddTrap u v e = ap (λ z. exactly (within z)) (turn (signed u) (signed v))
  where
    turn : (y z : ℤ) → y +ℤ z ≡ z +ℤ y
    turn y z = grind (arith, ints)
commuted bin.And u v e = ap word (and_comm u v)
commuted bin.Or u v e = ap word (or_comm u v)
commuted bin.Xor u v e = ap word (xor_comm u v)
commuted bin.Sub u v e = absurd (no e)
commuted bin.Mul u v e = absurd (no e)
commuted bin.Div u v e = absurd (no e)
commuted bin.ShiftLeft u v e = absurd (no e)
commuted bin.ShiftRight u v e = absurd (no e)
commuted bin.ShiftSigned u v e = absurd (no e)
commuted bin.SubTrap u v e = absurd (no e)
commuted bin.MulHigh u v e = absurd (no e)
