-- Instructions whose fields fit their bits (MIPS I manual, appendix A).
use Rattle.std.specs.Prelude.{◌^◌, ◌<◌}
use Rattle.tg_isa.specs.declared.mips.Mips.{Mips}
use Rattle.tg_isa.specs.declared.mips.Mips.TheVariants.{Sll, Srl, Sra, Jr, Jalr, Syscall, Break}
use Rattle.tg_isa.specs.declared.mips.Mips.TheVariants.{Mfhi, Mflo, Mult, Div, Add, Sub, Addu, Subu}
use Rattle.tg_isa.specs.declared.mips.Mips.TheVariants.{And, Or, Xor, Nor, Slt, Sltu, J, Jal, Beq}
use Rattle.tg_isa.specs.declared.mips.Mips.TheVariants.{Bne, Blez, Bgtz, Bltz, Bgez, Addi, Addiu}
use Rattle.tg_isa.specs.declared.mips.Mips.TheVariants.{Slti, Sltiu, Andi, Ori, Xori, Lui, Lb, Lbu}
use Rattle.tg_isa.specs.declared.mips.Mips.TheVariants.{Lw, Sb, Sw}

-- each field of an instruction fits its bits
abbrev pub IsRow : Mips → Type 0
IsRow (Sll rd rt shamt) = (rd < 2 ^ 5) × (rt < 2 ^ 5) × (shamt < 2 ^ 5)
IsRow (Srl rd rt shamt) = (rd < 2 ^ 5) × (rt < 2 ^ 5) × (shamt < 2 ^ 5)
IsRow (Sra rd rt shamt) = (rd < 2 ^ 5) × (rt < 2 ^ 5) × (shamt < 2 ^ 5)
IsRow (Jr rs) = rs < 2 ^ 5
IsRow (Jalr rd rs) = (rd < 2 ^ 5) × (rs < 2 ^ 5)
IsRow Syscall = Unit {0}
IsRow (Break code) = code < 2 ^ 20
IsRow (Mfhi rd) = rd < 2 ^ 5
IsRow (Mflo rd) = rd < 2 ^ 5
IsRow (Mult rs rt) = (rs < 2 ^ 5) × (rt < 2 ^ 5)
IsRow (Div rs rt) = (rs < 2 ^ 5) × (rt < 2 ^ 5)
IsRow (Add rd rs rt) = (rd < 2 ^ 5) × (rs < 2 ^ 5) × (rt < 2 ^ 5)
IsRow (Sub rd rs rt) = (rd < 2 ^ 5) × (rs < 2 ^ 5) × (rt < 2 ^ 5)
IsRow (Addu rd rs rt) = (rd < 2 ^ 5) × (rs < 2 ^ 5) × (rt < 2 ^ 5)
IsRow (Subu rd rs rt) = (rd < 2 ^ 5) × (rs < 2 ^ 5) × (rt < 2 ^ 5)
IsRow (And rd rs rt) = (rd < 2 ^ 5) × (rs < 2 ^ 5) × (rt < 2 ^ 5)
IsRow (Or rd rs rt) = (rd < 2 ^ 5) × (rs < 2 ^ 5) × (rt < 2 ^ 5)
IsRow (Xor rd rs rt) = (rd < 2 ^ 5) × (rs < 2 ^ 5) × (rt < 2 ^ 5)
IsRow (Nor rd rs rt) = (rd < 2 ^ 5) × (rs < 2 ^ 5) × (rt < 2 ^ 5)
IsRow (Slt rd rs rt) = (rd < 2 ^ 5) × (rs < 2 ^ 5) × (rt < 2 ^ 5)
IsRow (Sltu rd rs rt) = (rd < 2 ^ 5) × (rs < 2 ^ 5) × (rt < 2 ^ 5)
IsRow (J target) = target < 2 ^ 26
IsRow (Jal target) = target < 2 ^ 26
IsRow (Beq rs rt number) = (rs < 2 ^ 5) × (rt < 2 ^ 5) × (number < 2 ^ 16)
IsRow (Bne rs rt number) = (rs < 2 ^ 5) × (rt < 2 ^ 5) × (number < 2 ^ 16)
IsRow (Blez rs number) = (rs < 2 ^ 5) × (number < 2 ^ 16)
IsRow (Bgtz rs number) = (rs < 2 ^ 5) × (number < 2 ^ 16)
IsRow (Bltz rs number) = (rs < 2 ^ 5) × (number < 2 ^ 16)
IsRow (Bgez rs number) = (rs < 2 ^ 5) × (number < 2 ^ 16)
IsRow (Addi rt rs number) = (rt < 2 ^ 5) × (rs < 2 ^ 5) × (number < 2 ^ 16)
IsRow (Addiu rt rs number) = (rt < 2 ^ 5) × (rs < 2 ^ 5) × (number < 2 ^ 16)
IsRow (Slti rt rs number) = (rt < 2 ^ 5) × (rs < 2 ^ 5) × (number < 2 ^ 16)
IsRow (Sltiu rt rs number) = (rt < 2 ^ 5) × (rs < 2 ^ 5) × (number < 2 ^ 16)
IsRow (Andi rt rs number) = (rt < 2 ^ 5) × (rs < 2 ^ 5) × (number < 2 ^ 16)
IsRow (Ori rt rs number) = (rt < 2 ^ 5) × (rs < 2 ^ 5) × (number < 2 ^ 16)
IsRow (Xori rt rs number) = (rt < 2 ^ 5) × (rs < 2 ^ 5) × (number < 2 ^ 16)
IsRow (Lui rt number) = (rt < 2 ^ 5) × (number < 2 ^ 16)
IsRow (Lb rt number rs) = (rt < 2 ^ 5) × (number < 2 ^ 16) × (rs < 2 ^ 5)
IsRow (Lbu rt number rs) = (rt < 2 ^ 5) × (number < 2 ^ 16) × (rs < 2 ^ 5)
IsRow (Lw rt number rs) = (rt < 2 ^ 5) × (number < 2 ^ 16) × (rs < 2 ^ 5)
IsRow (Sb rt number rs) = (rt < 2 ^ 5) × (number < 2 ^ 16) × (rs < 2 ^ 5)
IsRow (Sw rt number rs) = (rt < 2 ^ 5) × (number < 2 ^ 16) × (rs < 2 ^ 5)
