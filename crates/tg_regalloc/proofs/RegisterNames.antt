-- The registers that an instruction names with other operands.
use Rattle.std.proofs.Common.{ℕ, ◌≡◌, Bool, true, false, Option, Some, None, refl, arith}
use Rattle.std.specs.Prelude.{IsTrue}
use Rattle.std.proofs.lemmas.Bool.Decides.{nat_tests}
use Rattle.tg_tree.specs.declared.operators.Rel.{Rel}
use Rattle.tg_instr.specs.declared.operands.Opnd.{Opnd}
use Rattle.tg_instr.specs.declared.operands.Opnd.TheVariants.{Temp, Reg}
use Rattle.tg_instr.specs.declared.instr.Test.{Test}
use Rattle.tg_instr.specs.declared.instr.Instr.{Instr}
use Rattle.tg_instr.specs.declared.instr.Instr.TheVariants.{Sll, Srl, Sra, Mfhi, Mflo, Mult, Div, Add, Sub, Addu, Subu, And, Or, Xor, Nor, Slt, Sltu}
use Rattle.tg_instr.specs.declared.instr.Instr.TheVariants.{Addi, Addiu, Slti, Sltiu, Andi, Ori, Xori, Lui, Lb, Lbu, Lw, Sb, Sw, Move, FrameLoad}
use Rattle.tg_instr.specs.declared.instr.Instr.TheVariants.{FrameStore, FrameAddress, Address, Branch}
use Rattle.tg_instr.specs.Operands.{is_one_row}
use Rattle.tg_instr.specs.Renaming.{named, renamed, tested}
use Rattle.tg_instr.proofs.Tests.{left_holds, right_holds, both_hold}
use Rattle.tg_instr.specs.Codes.{is_allocated, has_register, names_registers}
use Rattle.tg_regalloc.specs.Conditions.{is_fixed}

pub fixed_allocated : (q : ℕ) → is_fixed q ≡ true → is_allocated q ≡ true
fixed_allocated q h = grind (arith, nat_tests)

module _ (p q : ℕ → Bool) (weaker : (r : ℕ) → p r ≡ true → q r ≡ true) where
  register_weaker : (o : Option Opnd) → IsTrue (has_register p o) → IsTrue (has_register q o)
  register_weaker (Some (Temp t)) h = refl
  register_weaker (Some (Reg r)) h = weaker r h
  register_weaker None h = refl

  pub names_weaker : (one : Instr) → IsTrue (names_registers p one) → IsTrue (names_registers q one)
  names_weaker one h =
      let rest = right_holds (has_register p (named one).to) _ h in
      both_hold _ _ (register_weaker (named one).to (left_holds _ _ h))
      (both_hold _ _ (register_weaker (named one).first (left_holds _ _ rest))
      (register_weaker (named one).second (right_holds (has_register p (named one).first) _ rest)))

first_tested : (allowed : ℕ → Bool) (rel : Rel) (y z : Opnd) (fits : Bool) (e : is_one_row rel y z ≡ fits) (test : Test) →
    IsTrue (has_register allowed (Some test.left)) → IsTrue (has_register allowed (Some y)) →
    IsTrue (has_register allowed (Some (tested rel y z fits e test).left))
first_tested allowed rel y z true e test k h = h
first_tested allowed rel y z false e test k h = k

second_tested : (allowed : ℕ → Bool) (rel : Rel) (y z : Opnd) (fits : Bool) (e : is_one_row rel y z ≡ fits) (test : Test) →
    IsTrue (has_register allowed (Some test.right)) → IsTrue (has_register allowed (Some z)) →
    IsTrue (has_register allowed (Some (tested rel y z fits e test).right))
second_tested allowed rel y z true e test k h = h
second_tested allowed rel y z false e test k h = k

to_renamed : (allowed : ℕ → Bool) (one : Instr) (x y z : Opnd) → IsTrue (has_register allowed (Some x)) →
    IsTrue (has_register allowed (named (renamed one x y z)).to)
to_renamed allowed (Sll rd rt n) x y z h = h
to_renamed allowed (Srl rd rt n) x y z h = h
to_renamed allowed (Sra rd rt n) x y z h = h
to_renamed allowed (Mfhi rd) x y z h = h
to_renamed allowed (Mflo rd) x y z h = h
to_renamed allowed (Add rd rs rt) x y z h = h
to_renamed allowed (Sub rd rs rt) x y z h = h
to_renamed allowed (Addu rd rs rt) x y z h = h
to_renamed allowed (Subu rd rs rt) x y z h = h
to_renamed allowed (And rd rs rt) x y z h = h
to_renamed allowed (Or rd rs rt) x y z h = h
to_renamed allowed (Xor rd rs rt) x y z h = h
to_renamed allowed (Nor rd rs rt) x y z h = h
to_renamed allowed (Slt rd rs rt) x y z h = h
to_renamed allowed (Sltu rd rs rt) x y z h = h
to_renamed allowed (Addi rt rs n) x y z h = h
to_renamed allowed (Addiu rt rs n) x y z h = h
to_renamed allowed (Slti rt rs n) x y z h = h
to_renamed allowed (Sltiu rt rs n) x y z h = h
to_renamed allowed (Andi rt rs n) x y z h = h
to_renamed allowed (Ori rt rs n) x y z h = h
to_renamed allowed (Xori rt rs n) x y z h = h
to_renamed allowed (Lui rt n) x y z h = h
to_renamed allowed (Lb rt n rs) x y z h = h
to_renamed allowed (Lbu rt n rs) x y z h = h
to_renamed allowed (Lw rt n rs) x y z h = h
to_renamed allowed (Move to from) x y z h = h
to_renamed allowed (FrameLoad to k) x y z h = h
to_renamed allowed (FrameAddress to) x y z h = h
to_renamed allowed (Address to label) x y z h = h
to_renamed allowed _ x y z h = refl

first_renamed : (allowed : ℕ → Bool) (one : Instr) (x y z : Opnd) → IsTrue (has_register allowed (named one).first) →
    IsTrue (has_register allowed (Some y)) → IsTrue (has_register allowed (named (renamed one x y z)).first)
first_renamed allowed (Sll rd rt n) x y z own h = h
first_renamed allowed (Srl rd rt n) x y z own h = h
first_renamed allowed (Sra rd rt n) x y z own h = h
first_renamed allowed (Mult rs rt) x y z own h = h
first_renamed allowed (Div rs rt) x y z own h = h
first_renamed allowed (Add rd rs rt) x y z own h = h
first_renamed allowed (Sub rd rs rt) x y z own h = h
first_renamed allowed (Addu rd rs rt) x y z own h = h
first_renamed allowed (Subu rd rs rt) x y z own h = h
first_renamed allowed (And rd rs rt) x y z own h = h
first_renamed allowed (Or rd rs rt) x y z own h = h
first_renamed allowed (Xor rd rs rt) x y z own h = h
first_renamed allowed (Nor rd rs rt) x y z own h = h
first_renamed allowed (Slt rd rs rt) x y z own h = h
first_renamed allowed (Sltu rd rs rt) x y z own h = h
first_renamed allowed (Addi rt rs n) x y z own h = h
first_renamed allowed (Addiu rt rs n) x y z own h = h
first_renamed allowed (Slti rt rs n) x y z own h = h
first_renamed allowed (Sltiu rt rs n) x y z own h = h
first_renamed allowed (Andi rt rs n) x y z own h = h
first_renamed allowed (Ori rt rs n) x y z own h = h
first_renamed allowed (Xori rt rs n) x y z own h = h
first_renamed allowed (Lb rt n rs) x y z own h = h
first_renamed allowed (Lbu rt n rs) x y z own h = h
first_renamed allowed (Lw rt n rs) x y z own h = h
first_renamed allowed (Sb rt n rs) x y z own h = h
first_renamed allowed (Sw rt n rs) x y z own h = h
first_renamed allowed (Move to from) x y z own h = h
first_renamed allowed (FrameStore from k) x y z own h = h
first_renamed allowed (Branch test m) x y z own h = first_tested allowed test.rel y z (is_one_row test.rel y z) refl test own h
first_renamed allowed _ x y z own h = refl

second_renamed : (allowed : ℕ → Bool) (one : Instr) (x y z : Opnd) → IsTrue (has_register allowed (named one).second) →
    IsTrue (has_register allowed (Some z)) → IsTrue (has_register allowed (named (renamed one x y z)).second)
second_renamed allowed (Mult rs rt) x y z own h = h
second_renamed allowed (Div rs rt) x y z own h = h
second_renamed allowed (Add rd rs rt) x y z own h = h
second_renamed allowed (Sub rd rs rt) x y z own h = h
second_renamed allowed (Addu rd rs rt) x y z own h = h
second_renamed allowed (Subu rd rs rt) x y z own h = h
second_renamed allowed (And rd rs rt) x y z own h = h
second_renamed allowed (Or rd rs rt) x y z own h = h
second_renamed allowed (Xor rd rs rt) x y z own h = h
second_renamed allowed (Nor rd rs rt) x y z own h = h
second_renamed allowed (Slt rd rs rt) x y z own h = h
second_renamed allowed (Sltu rd rs rt) x y z own h = h
second_renamed allowed (Sb rt n rs) x y z own h = h
second_renamed allowed (Sw rt n rs) x y z own h = h
second_renamed allowed (Branch test m) x y z own h = second_tested allowed test.rel y z (is_one_row test.rel y z) refl test own h
second_renamed allowed _ x y z own h = refl

pub names_renamed : (allowed : ℕ → Bool) (one : Instr) (x y z : Opnd) → IsTrue (names_registers allowed one) → IsTrue (has_register allowed (Some x)) →
    IsTrue (has_register allowed (Some y)) → IsTrue (has_register allowed (Some z)) → IsTrue (names_registers allowed (renamed one x y z))
names_renamed allowed one x y z h hx hy hz =
    let rest = right_holds (has_register allowed (named one).to) _ h in
    both_hold _ _ (to_renamed allowed one x y z hx)
    (both_hold _ _ (first_renamed allowed one x y z (left_holds _ _ rest) hy)
    (second_renamed allowed one x y z (right_holds (has_register allowed (named one).first) _ rest) hz))
