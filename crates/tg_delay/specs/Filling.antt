-- Lines for a machine with delayed branches, which does the row behind each jump or branch before
-- it goes on (MIPS I manual, appendix A). In that delay slot stands the row from before the jump or
-- branch, where it may be moved there, else one that does nothing.
use Rattle.std.specs.Prelude.{ℕ, ◌+◌, ◌==◌, ◌&&◌, ◌||◌, not, Bool, true, false, List, [], ◌∷◌, ◌++◌}
use Rattle.std.specs.Prelude.{nat_lt, nat_le, if◌then◌else◌, codes}
use Rattle.std.specs.List.{list_any}
use Rattle.std.specs.Fmt.{decimal}
use Rattle.tg_isa.specs.declared.mips.Mips.{Mips}
use Rattle.tg_isa.specs.declared.mips.Mips.TheVariants.{Sll, Srl, Sra, Jr, Jalr, Syscall, Break}
use Rattle.tg_isa.specs.declared.mips.Mips.TheVariants.{Mfhi, Mflo, Mult, Div, Add, Sub, Addu, Subu}
use Rattle.tg_isa.specs.declared.mips.Mips.TheVariants.{And, Or, Xor, Nor, Slt, Sltu, J, Jal, Beq}
use Rattle.tg_isa.specs.declared.mips.Mips.TheVariants.{Bne, Blez, Bgtz, Bltz, Bgez, Addi, Addiu}
use Rattle.tg_isa.specs.declared.mips.Mips.TheVariants.{Slti, Sltiu, Andi, Ori, Xori, Lui, Lb, Lbu}
use Rattle.tg_isa.specs.declared.mips.Mips.TheVariants.{Lw, Sb, Sw}
use Rattle.tg_emit.specs.declared.assembly.Line.{Line}
use Rattle.tg_emit.specs.declared.assembly.Line.TheVariants.{Label, One}
use Rattle.tg_emit.specs.mirror.Lines.{alone, words}

-- the registers that a row reads
abbrev pub reads : Mips → List ℕ
reads (Sll rd rt n) = rt ∷ []
reads (Srl rd rt n) = rt ∷ []
reads (Sra rd rt n) = rt ∷ []
reads (Jr rs) = rs ∷ []
reads (Jalr rd rs) = rs ∷ []
reads Syscall = 2 ∷ 4 ∷ []
reads (Mult rs rt) = rs ∷ rt ∷ []
reads (Div rs rt) = rs ∷ rt ∷ []
reads (Add rd rs rt) = rs ∷ rt ∷ []
reads (Sub rd rs rt) = rs ∷ rt ∷ []
reads (Addu rd rs rt) = rs ∷ rt ∷ []
reads (Subu rd rs rt) = rs ∷ rt ∷ []
reads (And rd rs rt) = rs ∷ rt ∷ []
reads (Or rd rs rt) = rs ∷ rt ∷ []
reads (Xor rd rs rt) = rs ∷ rt ∷ []
reads (Nor rd rs rt) = rs ∷ rt ∷ []
reads (Slt rd rs rt) = rs ∷ rt ∷ []
reads (Sltu rd rs rt) = rs ∷ rt ∷ []
reads (Beq rs rt n) = rs ∷ rt ∷ []
reads (Bne rs rt n) = rs ∷ rt ∷ []
reads (Blez rs n) = rs ∷ []
reads (Bgtz rs n) = rs ∷ []
reads (Bltz rs n) = rs ∷ []
reads (Bgez rs n) = rs ∷ []
reads (Addi rt rs n) = rs ∷ []
reads (Addiu rt rs n) = rs ∷ []
reads (Slti rt rs n) = rs ∷ []
reads (Sltiu rt rs n) = rs ∷ []
reads (Andi rt rs n) = rs ∷ []
reads (Ori rt rs n) = rs ∷ []
reads (Xori rt rs n) = rs ∷ []
reads (Lb rt n rs) = rs ∷ []
reads (Lbu rt n rs) = rs ∷ []
reads (Lw rt n rs) = rs ∷ []
reads (Sb rt n rs) = rt ∷ rs ∷ []
reads (Sw rt n rs) = rt ∷ rs ∷ []
reads one = []

-- a register that is written; a write to $zero is none, since it keeps its 0
abbrev pub written : (register : ℕ) → List ℕ
written r = if r == 0 then [] else r ∷ []

-- the register that a row writes, where it writes one
abbrev pub writes : Mips → List ℕ
writes (Sll rd rt n) = written rd
writes (Srl rd rt n) = written rd
writes (Sra rd rt n) = written rd
writes (Jalr rd rs) = written rd
writes Syscall = written 2
writes (Mfhi rd) = written rd
writes (Mflo rd) = written rd
writes (Add rd rs rt) = written rd
writes (Sub rd rs rt) = written rd
writes (Addu rd rs rt) = written rd
writes (Subu rd rs rt) = written rd
writes (And rd rs rt) = written rd
writes (Or rd rs rt) = written rd
writes (Xor rd rs rt) = written rd
writes (Nor rd rs rt) = written rd
writes (Slt rd rs rt) = written rd
writes (Sltu rd rs rt) = written rd
writes (Jal n) = written 31
writes (Addi rt rs n) = written rt
writes (Addiu rt rs n) = written rt
writes (Slti rt rs n) = written rt
writes (Sltiu rt rs n) = written rt
writes (Andi rt rs n) = written rt
writes (Ori rt rs n) = written rt
writes (Xori rt rs n) = written rt
writes (Lui rt n) = written rt
writes (Lb rt n rs) = written rt
writes (Lbu rt n rs) = written rt
writes (Lw rt n rs) = written rt
writes one = []

abbrev pub is_among : List ℕ → ℕ → Bool
is_among registers r = list_any (λ q. r == q) registers

-- some register is among both
abbrev pub touch : List ℕ → (those : List ℕ) → Bool
touch registers those = list_any (λ q. is_among registers q) those

-- a row that jumps or branches
abbrev pub controls : Mips → Bool
controls (J n) = true
controls (Jal n) = true
controls (Jr rs) = true
controls (Jalr rd rs) = true
controls (Beq rs rt n) = true
controls (Bne rs rt n) = true
controls (Blez rs n) = true
controls (Bgtz rs n) = true
controls (Bltz rs n) = true
controls (Bgez rs n) = true
controls one = false

-- a row that is never moved into a delay slot
abbrev pub stays : Mips → Bool
stays Syscall = true
stays (Break n) = true
stays one = controls one

-- A row may go into the delay slot of the one behind it: that one jumps or branches, and neither
-- of the two writes what the other reads or writes, as a call writes $ra.
abbrev pub movable : (one other : Mips) → Bool
movable one other =
    controls other && (not (stays one)
    && (not (touch (writes one) (reads other))
    && (not (touch (reads one) (writes other)) && not (touch (writes one) (writes other)))))

-- a row that does nothing: its word is 0
abbrev pub nop : Line
nop = alone (Sll 0 0 0)

-- a row in front of lines, with its delay slot where it has one
abbrev pub slotted : Mips → (target : List ℕ) → List Line → List Line
slotted one target rest =
    if controls one then One one target ∷ nop ∷ rest else One one target ∷ rest

-- lines with a delay slot behind each jump and branch; a row goes into one slot at most
abbrev pub filled : List Line → List Line
filled [] = []
filled (One one target ∷ One other there ∷ rest) =
    if movable one other then One other there ∷ One one target ∷ filled rest else
    slotted one target (filled (One other there ∷ rest))
filled (One one target ∷ rest) = slotted one target (filled rest)
filled (line ∷ rest) = line ∷ filled rest

-- the branch that is taken exactly where this one isn't
abbrev pub opposite : Mips → Mips
opposite (Beq rs rt n) = Bne rs rt n
opposite (Bne rs rt n) = Beq rs rt n
opposite (Blez rs n) = Bgtz rs n
opposite (Bgtz rs n) = Blez rs n
opposite (Bltz rs n) = Bgez rs n
opposite (Bgez rs n) = Bltz rs n
opposite one = one

-- a row that branches
abbrev pub branches : Mips → Bool
branches (Beq rs rt n) = true
branches (Bne rs rt n) = true
branches (Blez rs n) = true
branches (Bgtz rs n) = true
branches (Bltz rs n) = true
branches (Bgez rs n) = true
branches one = false

-- how many rows branch
abbrev pub branches_in : List Line → ℕ
branches_in [] = 0
branches_in (One one target ∷ rest) =
    if branches one then 1 + branches_in rest else branches_in rest
branches_in (line ∷ rest) = branches_in rest

-- the label behind a branch that is turned round, by how many branches stand behind that one
abbrev pub around_name : ℕ → List ℕ
around_name k = codes "b" ++ decimal k

-- a row in front of lines; a branch is turned round over a jump
abbrev pub turned : Mips → (target around : List ℕ) → List Line → List Line
turned one target around rest =
    if branches one then One (opposite one) around ∷ One (J 0) target ∷ Label around ∷ rest else
    One one target ∷ rest

-- each branch as the opposite one over a jump, which reaches further
abbrev pub turned_round : List Line → List Line
turned_round [] = []
turned_round (One one target ∷ rest) =
    turned one target (around_name (branches_in rest)) (turned_round rest)
turned_round (line ∷ rest) = line ∷ turned_round rest

-- Branches still reach once there are slots: one reaches 32,767 words, slots at most double the
-- code, and in code of more than 32,000 words each branch is turned round already.
abbrev pub near : List Line → Bool
near lines = nat_le (words lines) 16000 || nat_lt 32000 (words lines)

abbrev pub delayed : List Line → List Line
delayed lines = filled (if near lines then lines else turned_round lines)
