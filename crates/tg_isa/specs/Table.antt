-- The instruction table: each row's word, and the row of a word (MIPS I manual, appendix A).
use Rattle.std.specs.Prelude.{ℕ, ◌+◌, ◌*◌, ◌/◌, ◌%◌, ◌^◌, ◌==◌, ◌&&◌, if◌then◌else◌, Option, Some}
use Rattle.std.specs.Prelude.{None}
use Rattle.tg_isa.specs.declared.mips.Mips.{Mips}
use Rattle.tg_isa.specs.declared.mips.Mips.TheVariants.{Sll, Srl, Sra, Jr, Jalr, Syscall, Break}
use Rattle.tg_isa.specs.declared.mips.Mips.TheVariants.{Mfhi, Mflo, Mult, Div, Add, Sub, Addu, Subu}
use Rattle.tg_isa.specs.declared.mips.Mips.TheVariants.{And, Or, Xor, Nor, Slt, Sltu, J, Jal, Beq}
use Rattle.tg_isa.specs.declared.mips.Mips.TheVariants.{Bne, Blez, Bgtz, Bltz, Bgez, Addi, Addiu}
use Rattle.tg_isa.specs.declared.mips.Mips.TheVariants.{Slti, Sltiu, Andi, Ori, Xori, Lui, Lb, Lbu}
use Rattle.tg_isa.specs.declared.mips.Mips.TheVariants.{Lw, Sb, Sw}

-- a word with opcode 0, by its fields from rs on; and one with another opcode
abbrev pub register_form : (rs rt rd shamt funct : ℕ) → ℕ
register_form rs rt rd shamt funct = rs * 2 ^ 21 + rt * 2 ^ 16 + rd * 2 ^ 11 + shamt * 2 ^ 6 + funct

abbrev pub immediate_form : (opcode rs rt immediate : ℕ) → ℕ
immediate_form opcode rs rt immediate = opcode * 2 ^ 26 + rs * 2 ^ 21 + rt * 2 ^ 16 + immediate

-- a word with a target or a code
abbrev pub jump_form : (opcode target : ℕ) → ℕ
jump_form opcode target = opcode * 2 ^ 26 + target

abbrev pub code_form : (code funct : ℕ) → ℕ
code_form code funct = code * 2 ^ 6 + funct

-- the word of an instruction, a row of the table a line; a field that a row doesn't use is 0
abbrev pub word_of : Mips → ℕ
word_of (Sll rd rt shamt) = register_form 0 rt rd shamt 0x00
word_of (Srl rd rt shamt) = register_form 0 rt rd shamt 0x02
word_of (Sra rd rt shamt) = register_form 0 rt rd shamt 0x03
word_of (Jr rs) = register_form rs 0 0 0 0x08
word_of (Jalr rd rs) = register_form rs 0 rd 0 0x09
word_of Syscall = register_form 0 0 0 0 0x0C
word_of (Break code) = code_form code 0x0D
word_of (Mfhi rd) = register_form 0 0 rd 0 0x10
word_of (Mflo rd) = register_form 0 0 rd 0 0x12
word_of (Mult rs rt) = register_form rs rt 0 0 0x18
word_of (Div rs rt) = register_form rs rt 0 0 0x1A
word_of (Add rd rs rt) = register_form rs rt rd 0 0x20
word_of (Sub rd rs rt) = register_form rs rt rd 0 0x22
word_of (Addu rd rs rt) = register_form rs rt rd 0 0x21
word_of (Subu rd rs rt) = register_form rs rt rd 0 0x23
word_of (And rd rs rt) = register_form rs rt rd 0 0x24
word_of (Or rd rs rt) = register_form rs rt rd 0 0x25
word_of (Xor rd rs rt) = register_form rs rt rd 0 0x26
word_of (Nor rd rs rt) = register_form rs rt rd 0 0x27
word_of (Slt rd rs rt) = register_form rs rt rd 0 0x2A
word_of (Sltu rd rs rt) = register_form rs rt rd 0 0x2B
word_of (J target) = jump_form 0x02 target
word_of (Jal target) = jump_form 0x03 target
word_of (Beq rs rt number) = immediate_form 0x04 rs rt number
word_of (Bne rs rt number) = immediate_form 0x05 rs rt number
word_of (Blez rs number) = immediate_form 0x06 rs 0 number
word_of (Bgtz rs number) = immediate_form 0x07 rs 0 number
word_of (Bltz rs number) = immediate_form 0x01 rs 0 number
word_of (Bgez rs number) = immediate_form 0x01 rs 1 number
word_of (Addi rt rs number) = immediate_form 0x08 rs rt number
word_of (Addiu rt rs number) = immediate_form 0x09 rs rt number
word_of (Slti rt rs number) = immediate_form 0x0A rs rt number
word_of (Sltiu rt rs number) = immediate_form 0x0B rs rt number
word_of (Andi rt rs number) = immediate_form 0x0C rs rt number
word_of (Ori rt rs number) = immediate_form 0x0D rs rt number
word_of (Xori rt rs number) = immediate_form 0x0E rs rt number
word_of (Lui rt number) = immediate_form 0x0F 0 rt number
word_of (Lb rt number rs) = immediate_form 0x20 rs rt number
word_of (Lbu rt number rs) = immediate_form 0x24 rs rt number
word_of (Lw rt number rs) = immediate_form 0x23 rs rt number
word_of (Sb rt number rs) = immediate_form 0x28 rs rt number
word_of (Sw rt number rs) = immediate_form 0x2B rs rt number

-- the fields of a word
abbrev pub opcode_field : ℕ → ℕ
opcode_field w = w / 2 ^ 26

abbrev pub rs_field : ℕ → ℕ
rs_field w = w / 2 ^ 21 % 2 ^ 5

abbrev pub rt_field : ℕ → ℕ
rt_field w = w / 2 ^ 16 % 2 ^ 5

abbrev pub rd_field : ℕ → ℕ
rd_field w = w / 2 ^ 11 % 2 ^ 5

abbrev pub shamt_field : ℕ → ℕ
shamt_field w = w / 2 ^ 6 % 2 ^ 5

abbrev pub funct_field : ℕ → ℕ
funct_field w = w % 2 ^ 6

abbrev pub immediate_field : ℕ → ℕ
immediate_field w = w % 2 ^ 16

abbrev pub target_field : ℕ → ℕ
target_field w = w % 2 ^ 26

abbrev pub code_field : ℕ → ℕ
code_field w = w / 2 ^ 6 % 2 ^ 20

-- the row of a word with opcode 0
abbrev pub decode_register_form : ℕ → Option Mips
decode_register_form w =
    if funct_field w == 0x00 && rs_field w == 0
    then Some (Sll (rd_field w) (rt_field w) (shamt_field w)) else
    if funct_field w == 0x02 && rs_field w == 0
    then Some (Srl (rd_field w) (rt_field w) (shamt_field w)) else
    if funct_field w == 0x03 && rs_field w == 0
    then Some (Sra (rd_field w) (rt_field w) (shamt_field w)) else
    if funct_field w == 0x08 && (rt_field w == 0 && (rd_field w == 0 && shamt_field w == 0))
    then Some (Jr (rs_field w)) else
    if funct_field w == 0x09 && (rt_field w == 0 && shamt_field w == 0)
    then Some (Jalr (rd_field w) (rs_field w)) else
    if funct_field w == 0x0C && w / 2 ^ 6 == 0 then Some Syscall else
    if funct_field w == 0x0D then Some (Break (code_field w)) else
    if funct_field w == 0x10 && (w / 2 ^ 16 == 0 && shamt_field w == 0)
    then Some (Mfhi (rd_field w)) else
    if funct_field w == 0x12 && (w / 2 ^ 16 == 0 && shamt_field w == 0)
    then Some (Mflo (rd_field w)) else
    if funct_field w == 0x18 && (rd_field w == 0 && shamt_field w == 0)
    then Some (Mult (rs_field w) (rt_field w)) else
    if funct_field w == 0x1A && (rd_field w == 0 && shamt_field w == 0)
    then Some (Div (rs_field w) (rt_field w)) else
    if funct_field w == 0x20 && shamt_field w == 0
    then Some (Add (rd_field w) (rs_field w) (rt_field w)) else
    if funct_field w == 0x22 && shamt_field w == 0
    then Some (Sub (rd_field w) (rs_field w) (rt_field w)) else
    if funct_field w == 0x21 && shamt_field w == 0
    then Some (Addu (rd_field w) (rs_field w) (rt_field w)) else
    if funct_field w == 0x23 && shamt_field w == 0
    then Some (Subu (rd_field w) (rs_field w) (rt_field w)) else
    if funct_field w == 0x24 && shamt_field w == 0
    then Some (And (rd_field w) (rs_field w) (rt_field w)) else
    if funct_field w == 0x25 && shamt_field w == 0
    then Some (Or (rd_field w) (rs_field w) (rt_field w)) else
    if funct_field w == 0x26 && shamt_field w == 0
    then Some (Xor (rd_field w) (rs_field w) (rt_field w)) else
    if funct_field w == 0x27 && shamt_field w == 0
    then Some (Nor (rd_field w) (rs_field w) (rt_field w)) else
    if funct_field w == 0x2A && shamt_field w == 0
    then Some (Slt (rd_field w) (rs_field w) (rt_field w)) else
    if funct_field w == 0x2B && shamt_field w == 0
    then Some (Sltu (rd_field w) (rs_field w) (rt_field w)) else
    None

-- the row of a word with opcode 1
abbrev pub decode_compared_form : ℕ → Option Mips
decode_compared_form w =
    if rt_field w == 0 then Some (Bltz (rs_field w) (immediate_field w)) else
    if rt_field w == 1 then Some (Bgez (rs_field w) (immediate_field w)) else
    None

-- the row of a word, where it has one: the inverse of `word_of`, which `encode` and `decode`
-- promise
abbrev pub decode_of : ℕ → Option Mips
decode_of w =
    if opcode_field w == 0x00 then decode_register_form w else
    if opcode_field w == 0x01 then decode_compared_form w else
    if opcode_field w == 0x02 then Some (J (target_field w)) else
    if opcode_field w == 0x03 then Some (Jal (target_field w)) else
    if opcode_field w == 0x04 then Some (Beq (rs_field w) (rt_field w) (immediate_field w)) else
    if opcode_field w == 0x05 then Some (Bne (rs_field w) (rt_field w) (immediate_field w)) else
    if opcode_field w == 0x06 && rt_field w == 0
    then Some (Blez (rs_field w) (immediate_field w)) else
    if opcode_field w == 0x07 && rt_field w == 0
    then Some (Bgtz (rs_field w) (immediate_field w)) else
    if opcode_field w == 0x08 then Some (Addi (rt_field w) (rs_field w) (immediate_field w)) else
    if opcode_field w == 0x09 then Some (Addiu (rt_field w) (rs_field w) (immediate_field w)) else
    if opcode_field w == 0x0A then Some (Slti (rt_field w) (rs_field w) (immediate_field w)) else
    if opcode_field w == 0x0B then Some (Sltiu (rt_field w) (rs_field w) (immediate_field w)) else
    if opcode_field w == 0x0C then Some (Andi (rt_field w) (rs_field w) (immediate_field w)) else
    if opcode_field w == 0x0D then Some (Ori (rt_field w) (rs_field w) (immediate_field w)) else
    if opcode_field w == 0x0E then Some (Xori (rt_field w) (rs_field w) (immediate_field w)) else
    if opcode_field w == 0x0F && rs_field w == 0
    then Some (Lui (rt_field w) (immediate_field w)) else
    if opcode_field w == 0x20 then Some (Lb (rt_field w) (immediate_field w) (rs_field w)) else
    if opcode_field w == 0x24 then Some (Lbu (rt_field w) (immediate_field w) (rs_field w)) else
    if opcode_field w == 0x23 then Some (Lw (rt_field w) (immediate_field w) (rs_field w)) else
    if opcode_field w == 0x28 then Some (Sb (rt_field w) (immediate_field w) (rs_field w)) else
    if opcode_field w == 0x2B then Some (Sw (rt_field w) (immediate_field w) (rs_field w)) else
    None
