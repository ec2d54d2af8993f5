-- What the code's instructions keep to: temporaries, labels and numbers are words, registers are
-- below 32, and fields with a sign have 16 bits.
use Rattle.std.specs.Prelude.{ℕ, ◌<◌, ◌^◌, List, [], ◌∷◌}
use Rattle.tg_instr.specs.declared.operands.Opnd.{Opnd}
use Rattle.tg_instr.specs.declared.operands.Opnd.TheVariants.{Temp, Reg}
use Rattle.tg_instr.specs.declared.instr.Instr.{Instr}
use Rattle.tg_instr.specs.declared.instr.Instr.TheVariants.{Sll, Srl, Sra, Mfhi, Mflo, Mult, Div}
use Rattle.tg_instr.specs.declared.instr.Instr.TheVariants.{Add, Sub, Addu, Subu, And, Or, Xor, Nor}
use Rattle.tg_instr.specs.declared.instr.Instr.TheVariants.{Slt, Sltu, Addi, Addiu, Slti, Sltiu}
use Rattle.tg_instr.specs.declared.instr.Instr.TheVariants.{Andi, Ori, Xori, Lui, Lb, Lbu, Lw, Sb}
use Rattle.tg_instr.specs.declared.instr.Instr.TheVariants.{Sw, Move, FrameLoad, FrameStore}
use Rattle.tg_instr.specs.declared.instr.Instr.TheVariants.{FrameAddress, Address, Mark, Jump}
use Rattle.tg_instr.specs.declared.instr.Instr.TheVariants.{Branch, Call, Service, Fault, Return}
use Rattle.tg_show_laws.specs.Fitting.{IsWord}

abbrev pub IsField : ℕ → Type 0
IsField n = n < 2 ^ 16

abbrev pub OperandFits : Opnd → Type 0
OperandFits (Temp t) = IsWord t.0
OperandFits (Reg r) = r < 32

abbrev pub FieldsFit : Instr → Type 0
FieldsFit (Sll x y n) = OperandFits x × OperandFits y × IsWord n
FieldsFit (Srl x y n) = OperandFits x × OperandFits y × IsWord n
FieldsFit (Sra x y n) = OperandFits x × OperandFits y × IsWord n
FieldsFit (Mfhi x) = OperandFits x
FieldsFit (Mflo x) = OperandFits x
FieldsFit (Mult x y) = OperandFits x × OperandFits y
FieldsFit (Div x y) = OperandFits x × OperandFits y
FieldsFit (Add x y z) = OperandFits x × OperandFits y × OperandFits z
FieldsFit (Sub x y z) = OperandFits x × OperandFits y × OperandFits z
FieldsFit (Addu x y z) = OperandFits x × OperandFits y × OperandFits z
FieldsFit (Subu x y z) = OperandFits x × OperandFits y × OperandFits z
FieldsFit (And x y z) = OperandFits x × OperandFits y × OperandFits z
FieldsFit (Or x y z) = OperandFits x × OperandFits y × OperandFits z
FieldsFit (Xor x y z) = OperandFits x × OperandFits y × OperandFits z
FieldsFit (Nor x y z) = OperandFits x × OperandFits y × OperandFits z
FieldsFit (Slt x y z) = OperandFits x × OperandFits y × OperandFits z
FieldsFit (Sltu x y z) = OperandFits x × OperandFits y × OperandFits z
FieldsFit (Addi x y n) = OperandFits x × OperandFits y × IsField n
FieldsFit (Addiu x y n) = OperandFits x × OperandFits y × IsField n
FieldsFit (Slti x y n) = OperandFits x × OperandFits y × IsField n
FieldsFit (Sltiu x y n) = OperandFits x × OperandFits y × IsField n
FieldsFit (Andi x y n) = OperandFits x × OperandFits y × IsWord n
FieldsFit (Ori x y n) = OperandFits x × OperandFits y × IsWord n
FieldsFit (Xori x y n) = OperandFits x × OperandFits y × IsWord n
FieldsFit (Lui x n) = OperandFits x × IsWord n
FieldsFit (Lb x n y) = OperandFits x × IsField n × OperandFits y
FieldsFit (Lbu x n y) = OperandFits x × IsField n × OperandFits y
FieldsFit (Lw x n y) = OperandFits x × IsField n × OperandFits y
FieldsFit (Sb x n y) = OperandFits x × IsField n × OperandFits y
FieldsFit (Sw x n y) = OperandFits x × IsField n × OperandFits y
FieldsFit (Move x y) = OperandFits x × OperandFits y
FieldsFit (FrameLoad x n) = OperandFits x × IsWord n
FieldsFit (FrameStore x n) = OperandFits x × IsWord n
FieldsFit (FrameAddress x) = OperandFits x
FieldsFit (Address x label) = OperandFits x × IsWord label.0
FieldsFit (Mark m) = IsWord m
FieldsFit (Jump m) = IsWord m
FieldsFit (Branch test m) = OperandFits test.left × OperandFits test.right × IsWord m
FieldsFit (Call label) = IsWord label.0
FieldsFit Service = Unit {0}
FieldsFit (Fault n) = IsWord n
FieldsFit Return = Unit {0}

abbrev pub AllFit : List Instr → Type 0
AllFit [] = Unit {0}
AllFit (one ∷ rest) = FieldsFit one × AllFit rest
