-- What an instruction names is among what it uses and defines.
use Rattle.std.proofs.Common.{ℕ, ◌≡◌, ◌≢◌, refl, ap, ◌∙◌}
use Rattle.std.specs.Prelude.{IsTrue}
use Rattle.tg_tree.specs.declared.operators.Rel.{Rel}
use Rattle.tg_tree.specs.declared.operators.Rel.TheVariants.{Equal, NotEqual, Less, LessEqual, Greater, GreaterEqual, Below, NotBelow}
use Rattle.tg_instr.specs.declared.operands.Opnd.{Opnd}
use Rattle.tg_instr.specs.declared.operands.Opnd.TheVariants.{Temp, Reg}
use Rattle.tg_instr.specs.declared.instr.Instr.{Instr}
use Rattle.tg_instr.specs.declared.instr.Instr.TheVariants.{Sll, Srl, Sra, Mfhi, Mflo, Mult, Div, Add, Sub, Addu, Subu, And, Or, Xor, Nor, Slt, Sltu}
use Rattle.tg_instr.specs.declared.instr.Instr.TheVariants.{Addi, Addiu, Slti, Sltiu, Andi, Ori, Xori, Lui, Lb, Lbu, Lw, Sb, Sw, Move, FrameLoad}
use Rattle.tg_instr.specs.declared.instr.Instr.TheVariants.{FrameStore, FrameAddress, Address, Branch}
use Rattle.tg_instr.specs.Codes.{has_temps_below}
use Rattle.tg_instr.specs.Operands.{is_one_row, is_zero}
use Rattle.tg_instr.specs.Renaming.{named, stays_one_row}
use Rattle.tg_instr.proofs.Tests.{left_holds, right_holds}
use Rattle.tg_regalloc.specs.Painting.{painted, painted_named}
use Rattle.tg_regalloc.specs.glue.Below.{is_option_below}
use Rattle.tg_regalloc.specs.mirror.InFrame.{through, through_named, through_slots, instruction_in_frame}

pub to_below : (most : ℕ) (one : Instr) → IsTrue (has_temps_below most one) → IsTrue (is_option_below most (named one).to)
to_below most (Sll rd rt n) h = left_holds _ _ (right_holds _ _ h)
to_below most (Srl rd rt n) h = left_holds _ _ (right_holds _ _ h)
to_below most (Sra rd rt n) h = left_holds _ _ (right_holds _ _ h)
to_below most (Mfhi rd) h = left_holds _ _ h
to_below most (Mflo rd) h = left_holds _ _ h
to_below most (Mult rs rt) h = refl
to_below most (Div rs rt) h = refl
to_below most (Add rd rs rt) h = left_holds _ _ (right_holds _ _ h)
to_below most (Sub rd rs rt) h = left_holds _ _ (right_holds _ _ h)
to_below most (Addu rd rs rt) h = left_holds _ _ (right_holds _ _ h)
to_below most (Subu rd rs rt) h = left_holds _ _ (right_holds _ _ h)
to_below most (And rd rs rt) h = left_holds _ _ (right_holds _ _ h)
to_below most (Or rd rs rt) h = left_holds _ _ (right_holds _ _ h)
to_below most (Xor rd rs rt) h = left_holds _ _ (right_holds _ _ h)
to_below most (Nor rd rs rt) h = left_holds _ _ (right_holds _ _ h)
to_below most (Slt rd rs rt) h = left_holds _ _ (right_holds _ _ h)
to_below most (Sltu rd rs rt) h = left_holds _ _ (right_holds _ _ h)
to_below most (Addi rt rs n) h = left_holds _ _ (right_holds _ _ h)
to_below most (Addiu rt rs n) h = left_holds _ _ (right_holds _ _ h)
to_below most (Slti rt rs n) h = left_holds _ _ (right_holds _ _ h)
to_below most (Sltiu rt rs n) h = left_holds _ _ (right_holds _ _ h)
to_below most (Andi rt rs n) h = left_holds _ _ (right_holds _ _ h)
to_below most (Ori rt rs n) h = left_holds _ _ (right_holds _ _ h)
to_below most (Xori rt rs n) h = left_holds _ _ (right_holds _ _ h)
to_below most (Lui rt n) h = left_holds _ _ h
to_below most (Lb rt n rs) h = left_holds _ _ (right_holds _ _ h)
to_below most (Lbu rt n rs) h = left_holds _ _ (right_holds _ _ h)
to_below most (Lw rt n rs) h = left_holds _ _ (right_holds _ _ h)
to_below most (Sb rt n rs) h = refl
to_below most (Sw rt n rs) h = refl
to_below most (Move to from) h = left_holds _ _ (right_holds _ _ h)
to_below most (FrameLoad to k) h = left_holds _ _ h
to_below most (FrameStore from k) h = refl
to_below most (FrameAddress to) h = left_holds _ _ h
to_below most (Address to label) h = left_holds _ _ h
to_below most (Branch test m) h = refl
to_below most _ h = refl

pub first_below : (most : ℕ) (one : Instr) → IsTrue (has_temps_below most one) → IsTrue (is_option_below most (named one).first)
first_below most (Sll rd rt n) h = left_holds _ _ (left_holds _ _ h)
first_below most (Srl rd rt n) h = left_holds _ _ (left_holds _ _ h)
first_below most (Sra rd rt n) h = left_holds _ _ (left_holds _ _ h)
first_below most (Mfhi rd) h = refl
first_below most (Mflo rd) h = refl
first_below most (Mult rs rt) h = left_holds _ _ (left_holds _ _ h)
first_below most (Div rs rt) h = left_holds _ _ (left_holds _ _ h)
first_below most (Add rd rs rt) h = left_holds _ _ (left_holds _ _ h)
first_below most (Sub rd rs rt) h = left_holds _ _ (left_holds _ _ h)
first_below most (Addu rd rs rt) h = left_holds _ _ (left_holds _ _ h)
first_below most (Subu rd rs rt) h = left_holds _ _ (left_holds _ _ h)
first_below most (And rd rs rt) h = left_holds _ _ (left_holds _ _ h)
first_below most (Or rd rs rt) h = left_holds _ _ (left_holds _ _ h)
first_below most (Xor rd rs rt) h = left_holds _ _ (left_holds _ _ h)
first_below most (Nor rd rs rt) h = left_holds _ _ (left_holds _ _ h)
first_below most (Slt rd rs rt) h = left_holds _ _ (left_holds _ _ h)
first_below most (Sltu rd rs rt) h = left_holds _ _ (left_holds _ _ h)
first_below most (Addi rt rs n) h = left_holds _ _ (left_holds _ _ h)
first_below most (Addiu rt rs n) h = left_holds _ _ (left_holds _ _ h)
first_below most (Slti rt rs n) h = left_holds _ _ (left_holds _ _ h)
first_below most (Sltiu rt rs n) h = left_holds _ _ (left_holds _ _ h)
first_below most (Andi rt rs n) h = left_holds _ _ (left_holds _ _ h)
first_below most (Ori rt rs n) h = left_holds _ _ (left_holds _ _ h)
first_below most (Xori rt rs n) h = left_holds _ _ (left_holds _ _ h)
first_below most (Lui rt n) h = refl
first_below most (Lb rt n rs) h = left_holds _ _ (left_holds _ _ h)
first_below most (Lbu rt n rs) h = left_holds _ _ (left_holds _ _ h)
first_below most (Lw rt n rs) h = left_holds _ _ (left_holds _ _ h)
first_below most (Sb rt n rs) h = left_holds _ _ (left_holds _ _ h)
first_below most (Sw rt n rs) h = left_holds _ _ (left_holds _ _ h)
first_below most (Move to from) h = left_holds _ _ (left_holds _ _ h)
first_below most (FrameLoad to k) h = refl
first_below most (FrameStore from k) h = left_holds _ _ (left_holds _ _ h)
first_below most (FrameAddress to) h = refl
first_below most (Address to label) h = refl
first_below most (Branch test m) h = left_holds _ _ (left_holds _ _ h)
first_below most _ h = refl

pub second_below : (most : ℕ) (one : Instr) → IsTrue (has_temps_below most one) → IsTrue (is_option_below most (named one).second)
second_below most (Sll rd rt n) h = refl
second_below most (Srl rd rt n) h = refl
second_below most (Sra rd rt n) h = refl
second_below most (Mfhi rd) h = refl
second_below most (Mflo rd) h = refl
second_below most (Mult rs rt) h = left_holds _ _ (right_holds _ _ (left_holds _ _ h))
second_below most (Div rs rt) h = left_holds _ _ (right_holds _ _ (left_holds _ _ h))
second_below most (Add rd rs rt) h = left_holds _ _ (right_holds _ _ (left_holds _ _ h))
second_below most (Sub rd rs rt) h = left_holds _ _ (right_holds _ _ (left_holds _ _ h))
second_below most (Addu rd rs rt) h = left_holds _ _ (right_holds _ _ (left_holds _ _ h))
second_below most (Subu rd rs rt) h = left_holds _ _ (right_holds _ _ (left_holds _ _ h))
second_below most (And rd rs rt) h = left_holds _ _ (right_holds _ _ (left_holds _ _ h))
second_below most (Or rd rs rt) h = left_holds _ _ (right_holds _ _ (left_holds _ _ h))
second_below most (Xor rd rs rt) h = left_holds _ _ (right_holds _ _ (left_holds _ _ h))
second_below most (Nor rd rs rt) h = left_holds _ _ (right_holds _ _ (left_holds _ _ h))
second_below most (Slt rd rs rt) h = left_holds _ _ (right_holds _ _ (left_holds _ _ h))
second_below most (Sltu rd rs rt) h = left_holds _ _ (right_holds _ _ (left_holds _ _ h))
second_below most (Addi rt rs n) h = refl
second_below most (Addiu rt rs n) h = refl
second_below most (Slti rt rs n) h = refl
second_below most (Sltiu rt rs n) h = refl
second_below most (Andi rt rs n) h = refl
second_below most (Ori rt rs n) h = refl
second_below most (Xori rt rs n) h = refl
second_below most (Lui rt n) h = refl
second_below most (Lb rt n rs) h = refl
second_below most (Lbu rt n rs) h = refl
second_below most (Lw rt n rs) h = refl
second_below most (Sb rt n rs) h = left_holds _ _ (right_holds _ _ (left_holds _ _ h))
second_below most (Sw rt n rs) h = left_holds _ _ (right_holds _ _ (left_holds _ _ h))
second_below most (Move to from) h = refl
second_below most (FrameLoad to k) h = refl
second_below most (FrameStore from k) h = refl
second_below most (FrameAddress to) h = refl
second_below most (Address to label) h = refl
second_below most (Branch test m) h = left_holds _ _ (right_holds _ _ (left_holds _ _ h))
second_below most _ h = refl

-- registers stay, so a row of the table stays one
row_mapped : (f g : Opnd → Opnd) → ((r : ℕ) → g (Reg r) ≡ Reg r) → (rel : Rel) (left right : Opnd) → IsTrue (is_one_row rel left right) →
    IsTrue (is_one_row rel (f left) (g right))
row_mapped f g e Equal left right h = refl
row_mapped f g e NotEqual left right h = refl
row_mapped f g e Below left right h = h
row_mapped f g e NotBelow left right h = h
row_mapped f g e Less left (Reg r) h = ap is_zero (e r) ∙ h
row_mapped f g e LessEqual left (Reg r) h = ap is_zero (e r) ∙ h
row_mapped f g e Greater left (Reg r) h = ap is_zero (e r) ∙ h
row_mapped f g e GreaterEqual left (Reg r) h = ap is_zero (e r) ∙ h
row_mapped f g e Less left (Temp t) h = cc
row_mapped f g e LessEqual left (Temp t) h = cc
row_mapped f g e Greater left (Temp t) h = cc
row_mapped f g e GreaterEqual left (Temp t) h = cc

pub stays : (one : Instr) → IsTrue (stays_one_row one (through_named 8 (named one).first) (through_named 9 (named one).second))
stays (Branch test m) = row_mapped (through 8) (through 9) (λ r. refl) test.rel test.left test.right test.is_one_row
stays _ = refl

pub stays_painted : (colour : ℕ → ℕ) (one : Instr) →
    IsTrue (stays_one_row one (painted_named colour (named one).first) (painted_named colour (named one).second))
stays_painted colour (Branch test m) = row_mapped (painted colour) (painted colour) (λ r. refl) test.rel test.left test.right test.is_one_row
stays_painted colour _ = refl

pub no_move : (base : ℕ) (one : Instr) → ((to from : Opnd) → one ≢ Move to from) → instruction_in_frame base one ≡ through_slots base one (named one)
no_move base (Move to from) h = absurd (h to from refl)
no_move base _ h = refl
