-- Lines that are rows and lead to no label: most instructions are such lines.
use Rattle.std.proofs.Common.{ℕ, ◌≡◌, ◌<◌, ◌≤◌, ◌+◌, ◌-◌, ◌/◌, ◌%◌, ◌^◌, List, [], ◌∷◌, ◌++◌, Bool, true, false, refl, sym, arith, subst}
use Rattle.std.specs.Prelude.{IsTrue, Option, Some, None, IfSome, nat_lt, nat_le, if◌then◌else◌}
use Rattle.std.specs.List.{AllByRecursion}
use Rattle.std.proofs.lemmas.Bool.Decides.{nat_tests}
use Rattle.tg_isa.specs.declared.mips.Mips.{Mips}
use Rattle.tg_isa.specs.declared.mips.Mips.TheVariants as row
use Rattle.tg_isa.specs.Rows.{IsRow}
use Rattle.tg_asm_text.specs.Writing.{takes_label, coded_row}
use Rattle.tg_asm_text.specs.Items.{Fixed}
use Rattle.tg_asm_text.specs.Placement.{Positions, WordsReach, WordReaches}
use Rattle.tg_instr.specs.declared.instr.Instr.{Instr}
use Rattle.tg_instr.specs.declared.instr.Instr.TheVariants.{FrameLoad, FrameStore, FrameAddress, Address, Mark, Jump, Branch, Call, Fault, Return}
use Rattle.tg_emit.specs.declared.assembly.Line.{Line}
use Rattle.tg_emit.specs.declared.assembly.Line.TheVariants.{Label, One, La, Statics}
use Rattle.tg_emit.specs.mirror.Rows.{register_of, row_of}
use Rattle.tg_emit.specs.Ranges.{InstructionFits}
use Rattle.tg_emit.specs.Conditions.{has_code}
use Rattle.tg_emit.specs.mirror.Lines.{alone, in_at, above_stack, lowered, load_at, store_at, slot_offset, row_lines, instruction_lines}
use Rattle.tg_emit_laws.specs.Images.{AreCode}
use Rattle.tg_emit_laws.proofs.CodeLines.{coded_in, given_in}
use Rattle.tg_emit_laws.proofs.Apart.{each_append}

abbrev pub IsPlain : Line → Type 0
IsPlain (Label name) = ⊥
IsPlain (One one target) = IsRow one × (takes_label one ≡ false)
IsPlain (La register target) = ⊥
IsPlain (Statics bytes) = ⊥

abbrev pub ArePlain : List Line → Type 0
ArePlain ls = AllByRecursion IsPlain ls

no_label : (b : Bool) (P : Type 0) → b ≡ false → IsTrue b → P
no_label true P h k = cc
no_label false P h k = cc

pub plain_code : (ls : List Line) → ArePlain ls → AreCode ls
plain_code [] h = tt
plain_code (One one target ∷ ls) h = ((h.0.0, no_label (takes_label one) _ h.0.1), plain_code ls h.1)
plain_code (Label name ∷ ls) h = absurd h.0
plain_code (La register target ∷ ls) h = absurd h.0
plain_code (Statics bytes ∷ ls) h = absurd h.0

pub plain_given : (ls : List Line) → ArePlain ls → given_in ls ≡ []
plain_given [] h = refl
plain_given (One one target ∷ ls) h = plain_given ls h.1
plain_given (Label name ∷ ls) h = absurd h.0
plain_given (La register target ∷ ls) h = absurd h.0
plain_given (Statics bytes ∷ ls) h = absurd h.0

fixed_row : (one : Mips) (target : List ℕ) → takes_label one ≡ false → coded_row one target ≡ Fixed one
fixed_row (row.J n) target h = cc
fixed_row (row.Jal n) target h = cc
fixed_row (row.Beq rs rt n) target h = cc
fixed_row (row.Bne rs rt n) target h = cc
fixed_row (row.Blez rs n) target h = cc
fixed_row (row.Bgtz rs n) target h = cc
fixed_row (row.Bltz rs n) target h = cc
fixed_row (row.Bgez rs n) target h = cc
fixed_row _ target h = refl

pub plain_reach : (ps : Positions) (n at : ℕ) (ls : List Line) → ArePlain ls → WordsReach ps n at (coded_in ls)
plain_reach ps n at [] h = tt
plain_reach ps n at (One one target ∷ ls) h = (subst (WordReaches ps n at) (sym (fixed_row one target h.0.1)) tt, plain_reach ps n (at + 1) ls h.1)
plain_reach ps n at (Label name ∷ ls) h = absurd h.0
plain_reach ps n at (La register target ∷ ls) h = absurd h.0
plain_reach ps n at (Statics bytes ∷ ls) h = absurd h.0

-- tests of numbers
below_test : (a b : ℕ) → nat_lt a b ≡ true → a < b
below_test a b h = grind (arith, nat_tests)

within_test : (a b : ℕ) → nat_le a b ≡ true → a ≤ b
within_test a b h = grind (arith, nat_tests)

in_at_plain : (n : ℕ) → n < 2 ^ 29 → ArePlain (in_at n)
in_at_plain n h = (((omega arith, omega arith), refl), (((omega arith, omega arith, omega arith), refl), tt))

pub above_plain : (r n : ℕ) → r < 32 → n < 2 ^ 29 → ArePlain (above_stack r n)
above_plain r n k h = by (nat_lt n 32768) refl
  where
    by : (b : Bool) → nat_lt n 32768 ≡ b → ArePlain (if b then alone (row.Addiu r 29 n) ∷ [] else in_at n ++ alone (row.Addu r 29 1) ∷ [])
    by true e = let l = below_test n 32768 e in (((k, omega arith, omega arith), refl), tt)
    by false e = each_append IsPlain (in_at n) (alone (row.Addu r 29 1) ∷ []) (in_at_plain n h) (((k, omega arith, omega arith), refl), tt)

pub lowered_plain : (n : ℕ) → 0 < n → n < 2 ^ 29 → ArePlain (lowered n)
lowered_plain n z h = by (nat_le n 32768) refl
  where
    by : (b : Bool) → nat_le n 32768 ≡ b → ArePlain (if b then alone (row.Addiu 29 29 (65536 - n)) ∷ [] else in_at n ++ alone (row.Subu 29 29 1) ∷ [])
    by true e = let l = within_test n 32768 e in (((omega arith, omega arith, omega arith), refl), tt)
    by false e = each_append IsPlain (in_at n) (alone (row.Subu 29 29 1) ∷ []) (in_at_plain n h) (((omega arith, omega arith, omega arith), refl), tt)

pub load_plain : (r n : ℕ) → r < 32 → n < 2 ^ 29 → ArePlain (load_at r n)
load_plain r n k h = by (nat_lt n 32768) refl
  where
    by : (b : Bool) → nat_lt n 32768 ≡ b →
        ArePlain (if b then alone (row.Lw r n 29) ∷ [] else alone (row.Lui 1 ((n + 32768) / 65536)) ∷ alone (row.Addu 1 1 29) ∷ alone
        (row.Lw r (n % 65536) 1) ∷ [])
    by true e = let l = below_test n 32768 e in (((k, omega arith, omega arith), refl), tt)
    by false e = (((omega arith, omega arith), refl), (((omega arith, omega arith, omega arith), refl), (((k, omega arith, omega arith), refl), tt)))

pub store_plain : (r n : ℕ) → r < 32 → n < 2 ^ 29 → ArePlain (store_at r n)
store_plain r n k h = by (nat_lt n 32768) refl
  where
    by : (b : Bool) → nat_lt n 32768 ≡ b →
        ArePlain (if b then alone (row.Sw r n 29) ∷ [] else alone (row.Lui 1 ((n + 32768) / 65536)) ∷ alone (row.Addu 1 1 29) ∷ alone
        (row.Sw r (n % 65536) 1) ∷ [])
    by true e = let l = below_test n 32768 e in (((k, omega arith, omega arith), refl), tt)
    by false e = (((omega arith, omega arith), refl), (((omega arith, omega arith, omega arith), refl), (((k, omega arith, omega arith), refl), tt)))

-- a row that stands for an instruction takes no label
row_alone : (one : Instr) → IfSome (row_of one) (λ r. takes_label r ≡ false)
row_alone (FrameLoad to k) = tt
row_alone (FrameStore from k) = tt
row_alone (FrameAddress to) = tt
row_alone (Address to literal) = tt
row_alone (Mark m) = tt
row_alone (Jump m) = tt
row_alone (Branch test m) = tt
row_alone (Call callee) = tt
row_alone (Fault n) = tt
row_alone Return = tt
row_alone _ = refl

row_plain : (found : Option Mips) → IfSome found IsRow → IfSome found (λ r. takes_label r ≡ false) → ArePlain (row_lines found)
row_plain (Some one) h k = ((h, k), tt)
row_plain None h k = tt

-- instructions that give no label and lead to none
abbrev pub is_plain : Instr → Bool
is_plain (Address to literal) = false
is_plain (Mark m) = false
is_plain (Jump m) = false
is_plain (Branch test m) = false
is_plain (Call callee) = false
is_plain one = true

pub plain_instruction : (turned : Bool) (label size place : ℕ) (one : Instr) → size < 2 ^ 29 → InstructionFits one → IsTrue (has_code one) →
    IsTrue (is_plain one) → ArePlain (instruction_lines turned label size place one)
plain_instruction turned label size place (FrameLoad to k) h f c p = load_plain (register_of to) (slot_offset size k) f.numbers (omega arith)
plain_instruction turned label size place (FrameStore from k) h f c p = store_plain (register_of from) (slot_offset size k) f.numbers (omega arith)
plain_instruction turned label size place (FrameAddress to) h f c p = above_plain (register_of to) size f.numbers h
plain_instruction turned label size place (Address to literal) h f c p = cc
plain_instruction turned label size place (Mark m) h f c p = cc
plain_instruction turned label size place (Jump m) h f c p = cc
plain_instruction turned label size place (Branch test m) h f c p = cc
plain_instruction turned label size place (Call callee) h f c p = cc
plain_instruction turned label size place (Fault n) h f c p = ((below_test n (2 ^ 20) c, refl), tt)
plain_instruction turned label size place Return h f c p =
    each_append IsPlain (above_stack 29 size) (alone (row.Jr 31) ∷ []) (above_plain 29 size (omega arith) h) ((omega arith, refl), tt)
plain_instruction turned label size place one h f c p = row_plain (row_of one) f.row (row_alone one)
