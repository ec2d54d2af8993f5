-- The operands that an instruction's text names, and the instruction with others in their places. A
-- call, a service and a return name none: what they use and define besides is fixed.
use Rattle.std.specs.Prelude.{Option, Some, None, Bool, true, false, ◌≡◌, refl}
use Rattle.tg_tree.specs.declared.operators.Rel.{Rel}
use Rattle.tg_instr.specs.declared.operands.Opnd.{Opnd}
use Rattle.tg_instr.specs.declared.instr.Test.{Test}
use Rattle.tg_instr.specs.declared.instr.Instr.{Instr}
use Rattle.tg_instr.specs.declared.instr.Instr.TheVariants.{Sll, Srl, Sra, Mfhi, Mflo, Mult, Div}
use Rattle.tg_instr.specs.declared.instr.Instr.TheVariants.{Add, Sub, Addu, Subu, And, Or, Xor, Nor}
use Rattle.tg_instr.specs.declared.instr.Instr.TheVariants.{Slt, Sltu, Addi, Addiu, Slti, Sltiu}
use Rattle.tg_instr.specs.declared.instr.Instr.TheVariants.{Andi, Ori, Xori, Lui, Lb, Lbu, Lw, Sb}
use Rattle.tg_instr.specs.declared.instr.Instr.TheVariants.{Sw, Move, FrameLoad, FrameStore}
use Rattle.tg_instr.specs.declared.instr.Instr.TheVariants.{FrameAddress, Address, Mark, Jump}
use Rattle.tg_instr.specs.declared.instr.Instr.TheVariants.{Branch, Call, Service, Fault, Return}
use Rattle.tg_instr.specs.declared.renaming.Named.{Named}
use Rattle.tg_instr.specs.Operands.{is_one_row}

abbrev pub names : Option Opnd → Option Opnd → Option Opnd → Named
names to first second = record { to = to; first = first; second = second }

abbrev pub named : Instr → Named
named (Sll rd rt n) = names (Some rd) (Some rt) None
named (Srl rd rt n) = names (Some rd) (Some rt) None
named (Sra rd rt n) = names (Some rd) (Some rt) None
named (Mfhi rd) = names (Some rd) None None
named (Mflo rd) = names (Some rd) None None
named (Mult rs rt) = names None (Some rs) (Some rt)
named (Div rs rt) = names None (Some rs) (Some rt)
named (Add rd rs rt) = names (Some rd) (Some rs) (Some rt)
named (Sub rd rs rt) = names (Some rd) (Some rs) (Some rt)
named (Addu rd rs rt) = names (Some rd) (Some rs) (Some rt)
named (Subu rd rs rt) = names (Some rd) (Some rs) (Some rt)
named (And rd rs rt) = names (Some rd) (Some rs) (Some rt)
named (Or rd rs rt) = names (Some rd) (Some rs) (Some rt)
named (Xor rd rs rt) = names (Some rd) (Some rs) (Some rt)
named (Nor rd rs rt) = names (Some rd) (Some rs) (Some rt)
named (Slt rd rs rt) = names (Some rd) (Some rs) (Some rt)
named (Sltu rd rs rt) = names (Some rd) (Some rs) (Some rt)
named (Addi rt rs n) = names (Some rt) (Some rs) None
named (Addiu rt rs n) = names (Some rt) (Some rs) None
named (Slti rt rs n) = names (Some rt) (Some rs) None
named (Sltiu rt rs n) = names (Some rt) (Some rs) None
named (Andi rt rs n) = names (Some rt) (Some rs) None
named (Ori rt rs n) = names (Some rt) (Some rs) None
named (Xori rt rs n) = names (Some rt) (Some rs) None
named (Lui rt n) = names (Some rt) None None
named (Lb rt n rs) = names (Some rt) (Some rs) None
named (Lbu rt n rs) = names (Some rt) (Some rs) None
named (Lw rt n rs) = names (Some rt) (Some rs) None
named (Sb rt n rs) = names None (Some rt) (Some rs)
named (Sw rt n rs) = names None (Some rt) (Some rs)
named (Move to from) = names (Some to) (Some from) None
named (FrameLoad to k) = names (Some to) None None
named (FrameStore from k) = names None (Some from) None
named (FrameAddress to) = names (Some to) None None
named (Address to label) = names (Some to) None None
named (Branch test m) = names None (Some test.left) (Some test.right)
named _ = names None None None

-- a test of two other operands, where they make one row too
abbrev pub tested :
    (rel : Rel) (left right : Opnd) (fits : Bool) → is_one_row rel left right ≡ fits → Test → Test
tested rel left right true is_row test =
    record { rel = rel; left = left; right = right; is_one_row = is_row }
tested rel left right false is_row test = test

abbrev pub renamed_test : Test → (left right : Opnd) → Test
renamed_test test left right =
    tested test.rel left right (is_one_row test.rel left right) refl test

abbrev pub renamed : Instr → (to first second : Opnd) → Instr
renamed (Sll rd rt n) x y z = Sll x y n
renamed (Srl rd rt n) x y z = Srl x y n
renamed (Sra rd rt n) x y z = Sra x y n
renamed (Mfhi rd) x y z = Mfhi x
renamed (Mflo rd) x y z = Mflo x
renamed (Mult rs rt) x y z = Mult y z
renamed (Div rs rt) x y z = Div y z
renamed (Add rd rs rt) x y z = Add x y z
renamed (Sub rd rs rt) x y z = Sub x y z
renamed (Addu rd rs rt) x y z = Addu x y z
renamed (Subu rd rs rt) x y z = Subu x y z
renamed (And rd rs rt) x y z = And x y z
renamed (Or rd rs rt) x y z = Or x y z
renamed (Xor rd rs rt) x y z = Xor x y z
renamed (Nor rd rs rt) x y z = Nor x y z
renamed (Slt rd rs rt) x y z = Slt x y z
renamed (Sltu rd rs rt) x y z = Sltu x y z
renamed (Addi rt rs n) x y z = Addi x y n
renamed (Addiu rt rs n) x y z = Addiu x y n
renamed (Slti rt rs n) x y z = Slti x y n
renamed (Sltiu rt rs n) x y z = Sltiu x y n
renamed (Andi rt rs n) x y z = Andi x y n
renamed (Ori rt rs n) x y z = Ori x y n
renamed (Xori rt rs n) x y z = Xori x y n
renamed (Lui rt n) x y z = Lui x n
renamed (Lb rt n rs) x y z = Lb x n y
renamed (Lbu rt n rs) x y z = Lbu x n y
renamed (Lw rt n rs) x y z = Lw x n y
renamed (Sb rt n rs) x y z = Sb y n z
renamed (Sw rt n rs) x y z = Sw y n z
renamed (Move to from) x y z = Move x y
renamed (FrameLoad to k) x y z = FrameLoad x k
renamed (FrameStore from k) x y z = FrameStore y k
renamed (FrameAddress to) x y z = FrameAddress x
renamed (Address to label) x y z = Address x label
renamed (Branch test m) x y z = Branch (renamed_test test y z) m
renamed (Mark m) x y z = Mark m
renamed (Jump m) x y z = Jump m
renamed (Call label) x y z = Call label
renamed (Fault n) x y z = Fault n
renamed Service x y z = Service
renamed Return x y z = Return

-- the operands in the places of those that a branch names make one row
abbrev pub stays_one_row : Instr → (first second : Opnd) → Bool
stays_one_row (Branch test m) y z = is_one_row test.rel y z
stays_one_row _ y z = true
