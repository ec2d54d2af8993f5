-- The row of the instruction table for an instruction that is one, over registers (MIPS I manual,
-- appendix A).
use Rattle.std.specs.Prelude.{ℕ, Option, Some, None}
use Rattle.tg_isa.specs.declared.mips.Mips.{Mips}
use Rattle.tg_isa.specs.declared.mips.Mips.TheVariants as row
use Rattle.tg_tree.specs.declared.operators.Rel.{Rel}
use Rattle.tg_tree.specs.declared.operators.Rel.TheVariants.{Equal, NotEqual, Less, LessEqual}
use Rattle.tg_tree.specs.declared.operators.Rel.TheVariants.{Greater, GreaterEqual}
use Rattle.tg_tree.specs.Operators.{opposite}
use Rattle.tg_instr.specs.declared.operands.Opnd.{Opnd}
use Rattle.tg_instr.specs.declared.operands.Opnd.TheVariants.{Temp, Reg}
use Rattle.tg_instr.specs.declared.instr.Instr.{Instr}
use Rattle.tg_instr.specs.declared.instr.Test.{Test}
use Rattle.tg_instr.specs.declared.instr.Instr.TheVariants.{Sll, Srl, Sra, Mfhi, Mflo, Mult, Div}
use Rattle.tg_instr.specs.declared.instr.Instr.TheVariants.{Add, Sub, Addu, Subu, And, Or, Xor, Nor}
use Rattle.tg_instr.specs.declared.instr.Instr.TheVariants.{Slt, Sltu, Addi, Addiu, Slti, Sltiu}
use Rattle.tg_instr.specs.declared.instr.Instr.TheVariants.{Andi, Ori, Xori, Lui, Lb, Lbu, Lw, Sb}
use Rattle.tg_instr.specs.declared.instr.Instr.TheVariants.{Sw, Move, Service}

-- a temporary has none; code that is emitted names no temporary
abbrev pub register_of : Opnd → ℕ
register_of (Reg r) = r
register_of (Temp t) = 0

abbrev pub row_of : Instr → Option Mips
row_of (Sll rd rt n) = Some (row.Sll (register_of rd) (register_of rt) n)
row_of (Srl rd rt n) = Some (row.Srl (register_of rd) (register_of rt) n)
row_of (Sra rd rt n) = Some (row.Sra (register_of rd) (register_of rt) n)
row_of (Mfhi rd) = Some (row.Mfhi (register_of rd))
row_of (Mflo rd) = Some (row.Mflo (register_of rd))
row_of (Mult rs rt) = Some (row.Mult (register_of rs) (register_of rt))
row_of (Div rs rt) = Some (row.Div (register_of rs) (register_of rt))
row_of (Add rd rs rt) = Some (row.Add (register_of rd) (register_of rs) (register_of rt))
row_of (Sub rd rs rt) = Some (row.Sub (register_of rd) (register_of rs) (register_of rt))
row_of (Addu rd rs rt) = Some (row.Addu (register_of rd) (register_of rs) (register_of rt))
row_of (Subu rd rs rt) = Some (row.Subu (register_of rd) (register_of rs) (register_of rt))
row_of (And rd rs rt) = Some (row.And (register_of rd) (register_of rs) (register_of rt))
row_of (Or rd rs rt) = Some (row.Or (register_of rd) (register_of rs) (register_of rt))
row_of (Xor rd rs rt) = Some (row.Xor (register_of rd) (register_of rs) (register_of rt))
row_of (Nor rd rs rt) = Some (row.Nor (register_of rd) (register_of rs) (register_of rt))
row_of (Slt rd rs rt) = Some (row.Slt (register_of rd) (register_of rs) (register_of rt))
row_of (Sltu rd rs rt) = Some (row.Sltu (register_of rd) (register_of rs) (register_of rt))
row_of (Addi rt rs n) = Some (row.Addi (register_of rt) (register_of rs) n)
row_of (Addiu rt rs n) = Some (row.Addiu (register_of rt) (register_of rs) n)
row_of (Slti rt rs n) = Some (row.Slti (register_of rt) (register_of rs) n)
row_of (Sltiu rt rs n) = Some (row.Sltiu (register_of rt) (register_of rs) n)
row_of (Andi rt rs n) = Some (row.Andi (register_of rt) (register_of rs) n)
row_of (Ori rt rs n) = Some (row.Ori (register_of rt) (register_of rs) n)
row_of (Xori rt rs n) = Some (row.Xori (register_of rt) (register_of rs) n)
row_of (Lui rt n) = Some (row.Lui (register_of rt) n)
row_of (Lb rt n rs) = Some (row.Lb (register_of rt) n (register_of rs))
row_of (Lbu rt n rs) = Some (row.Lbu (register_of rt) n (register_of rs))
row_of (Lw rt n rs) = Some (row.Lw (register_of rt) n (register_of rs))
row_of (Sb rt n rs) = Some (row.Sb (register_of rt) n (register_of rs))
row_of (Sw rt n rs) = Some (row.Sw (register_of rt) n (register_of rs))
row_of (Move to from) = Some (row.Addu (register_of to) 0 (register_of from))
row_of Service = Some row.Syscall
row_of _ = None

-- the branch of a comparison between two registers; that with a signed order has $zero on its
-- right, and none is without sign
abbrev pub branch_on : Rel → (left right : ℕ) → Mips
branch_on Equal left right = row.Beq left right 0
branch_on NotEqual left right = row.Bne left right 0
branch_on Less left right = row.Bltz left 0
branch_on LessEqual left right = row.Blez left 0
branch_on Greater left right = row.Bgtz left 0
branch_on GreaterEqual left right = row.Bgez left 0
branch_on _ left right = row.Beq 0 0 0

abbrev pub branch_of : Test → Mips
branch_of test = branch_on test.rel (register_of test.left) (register_of test.right)

abbrev pub opposite_branch_of : Test → Mips
opposite_branch_of test =
    branch_on (opposite test.rel) (register_of test.left) (register_of test.right)
