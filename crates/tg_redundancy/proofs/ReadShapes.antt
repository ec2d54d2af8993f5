-- An instruction that reads has the shape of its reading.
use Rattle.std.proofs.Common.{ℕ, ◌≡◌, Option, Some, None, refl, sym, ap, ◌∙◌, nat_lt}
use Rattle.tg_base.specs.Words.{add, exact_sum, extended, shift_left, flag}
use Rattle.tg_tree.specs.Memory.{load}
use Rattle.tg_tree.specs.Operators.{word, exactly}
use Rattle.tg_instr.specs.declared.operands.Opnd.{Opnd}
use Rattle.tg_instr.specs.declared.operands.Opnd.TheVariants.{Temp, Reg}
use Rattle.tg_instr.specs.declared.instr.Instr.{Instr}
use Rattle.tg_instr.specs.declared.instr.Instr.TheVariants.{Sll, Add, Addu, Sltu, Addi, Addiu, Lw, FrameLoad}
use Rattle.tg_instr.specs.Shapes.{Operand, InstructionShape, From1, From2, Copy, Loads, FromSlot, shape}
use Rattle.tg_redundancy.specs.declared.readings.Reading.{Reading}
use Rattle.tg_redundancy.specs.declared.readings.Reading.TheVariants.{Moved, Loaded, InSlot, Sum, Plus, ExactSum, ExactPlus, Shifted, Lower}
use Rattle.tg_redundancy.specs.mirror.Readings.{temp, given, reading_of}

abbrev pub shape_of : (to : ℕ) → Reading → InstructionShape
shape_of t (Moved x) = Copy (temp t) x
shape_of t (Loaded n base) = Loads (temp t) base (extended n) load
shape_of t (InSlot k) = FromSlot (temp t) k
shape_of t (Sum x y) = From2 (temp t) x y (λ a b. word (add a b))
shape_of t (Plus x n) = From1 (temp t) (Operand x) (λ a. word (add a (extended n)))
shape_of t (ExactSum x y) = From2 (temp t) x y (λ a b. exactly (exact_sum a b))
shape_of t (ExactPlus x n) = From1 (temp t) (Operand x) (λ a. exactly (exact_sum a (extended n)))
shape_of t (Shifted x n) = From1 (temp t) (Operand x) (λ a. word (shift_left a n))
shape_of t (Lower x y) = From2 (temp t) x y (λ a b. word (flag (nat_lt a b)))

abbrev of : ℕ → Reading → Option (ℕ × Reading)
of t r = Some (t, r)

of_is : (i t : ℕ) (q r : Reading) → of i q ≡ of t r → ◌≡◌ {A = ℕ × Reading} (i, q) (t, r)
of_is i t q r e = some_is (i, q) (t, r) e
  where
    some_is : (x y : ℕ × Reading) → Some x ≡ Some y → x ≡ y
    some_is x y e = cc

given_is : (to : Opnd) (q : Reading) (t : ℕ) (r : Reading) → given to q ≡ of t r → (to ≡ temp t) × (q ≡ r)
given_is (Temp i) q t r e = let p = of_is i.0 t q r e in (ap (λ z. temp z.0) p, ap (λ z. z.1) p)
given_is (Reg i) q t r e = cc

none_given : (o : Option (ℕ × Reading)) (t : ℕ) (r : Reading) → o ≡ None → o ≡ of t r → ⊥
none_given o t r n e = let i = sym n ∙ e in cc

pub reading_is : (one : Instr) (t : ℕ) (r : Reading) → reading_of one ≡ of t r → shape one ≡ shape_of t r
reading_is (Lw to n x) t r e = let p = given_is to (Loaded n x) t r e in ap (λ z. Loads z x (extended n) load) p.0 ∙ ap (shape_of t) p.1
reading_is (FrameLoad to j) t r e = let p = given_is to (InSlot j) t r e in ap (λ z. FromSlot z j) p.0 ∙ ap (shape_of t) p.1
reading_is (Addu to x y) t r e = let p = given_is to (Sum x y) t r e in ap (λ z. shape (Addu z x y)) p.0 ∙ ap (shape_of t) p.1
reading_is (Addiu to x n) t r e = let p = given_is to (Plus x n) t r e in ap (λ z. shape (Addiu z x n)) p.0 ∙ ap (shape_of t) p.1
reading_is (Add to x y) t r e = let p = given_is to (ExactSum x y) t r e in ap (λ z. shape (Add z x y)) p.0 ∙ ap (shape_of t) p.1
reading_is (Addi to x n) t r e = let p = given_is to (ExactPlus x n) t r e in ap (λ z. shape (Addi z x n)) p.0 ∙ ap (shape_of t) p.1
reading_is (Sll to x n) t r e = let p = given_is to (Shifted x n) t r e in ap (λ z. shape (Sll z x n)) p.0 ∙ ap (shape_of t) p.1
reading_is (Sltu to x y) t r e = let p = given_is to (Lower x y) t r e in ap (λ z. shape (Sltu z x y)) p.0 ∙ ap (shape_of t) p.1
reading_is _ t r e = absurd (none_given _ t r refl e)
