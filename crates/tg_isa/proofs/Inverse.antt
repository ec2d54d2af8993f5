-- The row of an instruction's word is that instruction.
use Rattle.std.proofs.Common.{◌≡◌, ◌≢◌, ap, Option, None, IfNone, ◌<◌, ◌/◌, ◌%◌, ℕ, arith, refl, Some, lit<}
use Rattle.tg_isa.specs.declared.mips.Mips.{Mips}
use Rattle.tg_isa.specs.declared.mips.Mips.TheVariants.{Sll, Srl, Sra, Jr, Jalr, Syscall, Break, Mfhi, Mflo, Mult, Div, Add, Sub, Addu, Subu, And, Or}
use Rattle.tg_isa.specs.declared.mips.Mips.TheVariants.{Xor, Nor, Slt, Sltu, J, Jal, Beq, Bne, Blez, Bgtz, Bltz, Bgez, Addi, Addiu, Slti, Sltiu, Andi}
use Rattle.tg_isa.specs.declared.mips.Mips.TheVariants.{Ori, Xori, Lui, Lb, Lbu, Lw, Sb, Sw}
use Rattle.tg_isa.specs.Table.{register_form, immediate_form, jump_form, code_form, word_of, decode_of}
use Rattle.tg_isa.specs.Rows.{IsRow}

-- the fields of a word, by name
record Fields (w opcode rs rt rd shamt funct : ℕ) : Type 0 where
  opcode_is : w / 67108864 ≡ opcode
  rs_is : w / 2097152 % 32 ≡ rs
  rt_is : w / 65536 % 32 ≡ rt
  rd_is : w / 2048 % 32 ≡ rd
  shamt_is : w / 64 % 32 ≡ shamt
  funct_is : w % 64 ≡ funct

register_fields : (rs rt rd shamt funct : ℕ) → rs < 32 → rt < 32 → rd < 32 → shamt < 32 → funct < 64 →
    Fields (register_form rs rt rd shamt funct) 0 rs rt rd shamt funct
register_fields rs rt rd shamt funct a b c d e = record {
  opcode_is = omega arith;
  rs_is = omega arith;
  rt_is = omega arith;
  rd_is = omega arith;
  shamt_is = omega arith;
  funct_is = omega arith;
}

record ImmediateFields (w opcode rs rt number : ℕ) : Type 0 where
  opcode_is : w / 67108864 ≡ opcode
  rs_is : w / 2097152 % 32 ≡ rs
  rt_is : w / 65536 % 32 ≡ rt
  number_is : w % 65536 ≡ number

immediate_fields : (opcode rs rt number : ℕ) → rs < 32 → rt < 32 → number < 65536 → ImmediateFields (immediate_form opcode rs rt number) opcode rs rt number
immediate_fields opcode rs rt number a b c =
    record { opcode_is = omega arith; rs_is = omega arith; rt_is = omega arith; number_is = omega arith }

record TargetFields (w opcode target : ℕ) : Type 0 where
  opcode_is : w / 67108864 ≡ opcode
  target_is : w % 67108864 ≡ target

target_fields : (opcode target : ℕ) → target < 67108864 → TargetFields (jump_form opcode target) opcode target
target_fields opcode target a = record { opcode_is = omega arith; target_is = omega arith }

record CodeFields (w code funct : ℕ) : Type 0 where
  opcode_is : w / 67108864 ≡ 0
  code_is : w / 64 % 1048576 ≡ code
  funct_is : w % 64 ≡ funct

code_fields : (code funct : ℕ) → code < 1048576 → funct < 64 → CodeFields (code_form code funct) code funct
code_fields code funct a b = record { opcode_is = omega arith; code_is = omega arith; funct_is = omega arith }

sll_row : (w rd rt shamt : ℕ) → Fields w 0 0 rt rd shamt 0 → decode_of w ≡ Some (Sll rd rt shamt)
sll_row w rd rt shamt f = simp (f.opcode_is, f.rs_is, f.rt_is, f.rd_is, f.shamt_is, f.funct_is)

srl_row : (w rd rt shamt : ℕ) → Fields w 0 0 rt rd shamt 2 → decode_of w ≡ Some (Srl rd rt shamt)
srl_row w rd rt shamt f = simp (f.opcode_is, f.rs_is, f.rt_is, f.rd_is, f.shamt_is, f.funct_is)

sra_row : (w rd rt shamt : ℕ) → Fields w 0 0 rt rd shamt 3 → decode_of w ≡ Some (Sra rd rt shamt)
sra_row w rd rt shamt f = simp (f.opcode_is, f.rs_is, f.rt_is, f.rd_is, f.shamt_is, f.funct_is)

jr_row : (w rs : ℕ) → Fields w 0 rs 0 0 0 8 → decode_of w ≡ Some (Jr rs)
jr_row w rs f = simp (f.opcode_is, f.rs_is, f.rt_is, f.rd_is, f.shamt_is, f.funct_is)

jalr_row : (w rd rs : ℕ) → Fields w 0 rs 0 rd 0 9 → decode_of w ≡ Some (Jalr rd rs)
jalr_row w rd rs f = simp (f.opcode_is, f.rs_is, f.rt_is, f.rd_is, f.shamt_is, f.funct_is)

break_row : (w code : ℕ) → CodeFields w code 13 → decode_of w ≡ Some (Break code)
break_row w code f = simp (f.opcode_is, f.code_is, f.funct_is)

mfhi_row : (w rd : ℕ) → w / 65536 ≡ 0 → Fields w 0 0 0 rd 0 16 → decode_of w ≡ Some (Mfhi rd)
mfhi_row w rd upper f = simp (upper, f.opcode_is, f.rs_is, f.rt_is, f.rd_is, f.shamt_is, f.funct_is)

mflo_row : (w rd : ℕ) → w / 65536 ≡ 0 → Fields w 0 0 0 rd 0 18 → decode_of w ≡ Some (Mflo rd)
mflo_row w rd upper f = simp (upper, f.opcode_is, f.rs_is, f.rt_is, f.rd_is, f.shamt_is, f.funct_is)

mult_row : (w rs rt : ℕ) → Fields w 0 rs rt 0 0 24 → decode_of w ≡ Some (Mult rs rt)
mult_row w rs rt f = simp (f.opcode_is, f.rs_is, f.rt_is, f.rd_is, f.shamt_is, f.funct_is)

div_row : (w rs rt : ℕ) → Fields w 0 rs rt 0 0 26 → decode_of w ≡ Some (Div rs rt)
div_row w rs rt f = simp (f.opcode_is, f.rs_is, f.rt_is, f.rd_is, f.shamt_is, f.funct_is)

add_row : (w rd rs rt : ℕ) → Fields w 0 rs rt rd 0 32 → decode_of w ≡ Some (Add rd rs rt)
add_row w rd rs rt f = simp (f.opcode_is, f.rs_is, f.rt_is, f.rd_is, f.shamt_is, f.funct_is)

sub_row : (w rd rs rt : ℕ) → Fields w 0 rs rt rd 0 34 → decode_of w ≡ Some (Sub rd rs rt)
sub_row w rd rs rt f = simp (f.opcode_is, f.rs_is, f.rt_is, f.rd_is, f.shamt_is, f.funct_is)

addu_row : (w rd rs rt : ℕ) → Fields w 0 rs rt rd 0 33 → decode_of w ≡ Some (Addu rd rs rt)
addu_row w rd rs rt f = simp (f.opcode_is, f.rs_is, f.rt_is, f.rd_is, f.shamt_is, f.funct_is)

subu_row : (w rd rs rt : ℕ) → Fields w 0 rs rt rd 0 35 → decode_of w ≡ Some (Subu rd rs rt)
subu_row w rd rs rt f = simp (f.opcode_is, f.rs_is, f.rt_is, f.rd_is, f.shamt_is, f.funct_is)

and_row : (w rd rs rt : ℕ) → Fields w 0 rs rt rd 0 36 → decode_of w ≡ Some (And rd rs rt)
and_row w rd rs rt f = simp (f.opcode_is, f.rs_is, f.rt_is, f.rd_is, f.shamt_is, f.funct_is)

or_row : (w rd rs rt : ℕ) → Fields w 0 rs rt rd 0 37 → decode_of w ≡ Some (Or rd rs rt)
or_row w rd rs rt f = simp (f.opcode_is, f.rs_is, f.rt_is, f.rd_is, f.shamt_is, f.funct_is)

xor_row : (w rd rs rt : ℕ) → Fields w 0 rs rt rd 0 38 → decode_of w ≡ Some (Xor rd rs rt)
xor_row w rd rs rt f = simp (f.opcode_is, f.rs_is, f.rt_is, f.rd_is, f.shamt_is, f.funct_is)

nor_row : (w rd rs rt : ℕ) → Fields w 0 rs rt rd 0 39 → decode_of w ≡ Some (Nor rd rs rt)
nor_row w rd rs rt f = simp (f.opcode_is, f.rs_is, f.rt_is, f.rd_is, f.shamt_is, f.funct_is)

slt_row : (w rd rs rt : ℕ) → Fields w 0 rs rt rd 0 42 → decode_of w ≡ Some (Slt rd rs rt)
slt_row w rd rs rt f = simp (f.opcode_is, f.rs_is, f.rt_is, f.rd_is, f.shamt_is, f.funct_is)

sltu_row : (w rd rs rt : ℕ) → Fields w 0 rs rt rd 0 43 → decode_of w ≡ Some (Sltu rd rs rt)
sltu_row w rd rs rt f = simp (f.opcode_is, f.rs_is, f.rt_is, f.rd_is, f.shamt_is, f.funct_is)

j_row : (w target : ℕ) → TargetFields w 2 target → decode_of w ≡ Some (J target)
j_row w target f = simp (f.opcode_is, f.target_is)

jal_row : (w target : ℕ) → TargetFields w 3 target → decode_of w ≡ Some (Jal target)
jal_row w target f = simp (f.opcode_is, f.target_is)

beq_row : (w rs rt number : ℕ) → ImmediateFields w 4 rs rt number → decode_of w ≡ Some (Beq rs rt number)
beq_row w rs rt number f = simp (f.opcode_is, f.rs_is, f.rt_is, f.number_is)

bne_row : (w rs rt number : ℕ) → ImmediateFields w 5 rs rt number → decode_of w ≡ Some (Bne rs rt number)
bne_row w rs rt number f = simp (f.opcode_is, f.rs_is, f.rt_is, f.number_is)

blez_row : (w rs number : ℕ) → ImmediateFields w 6 rs 0 number → decode_of w ≡ Some (Blez rs number)
blez_row w rs number f = simp (f.opcode_is, f.rs_is, f.rt_is, f.number_is)

bgtz_row : (w rs number : ℕ) → ImmediateFields w 7 rs 0 number → decode_of w ≡ Some (Bgtz rs number)
bgtz_row w rs number f = simp (f.opcode_is, f.rs_is, f.rt_is, f.number_is)

bltz_row : (w rs number : ℕ) → ImmediateFields w 1 rs 0 number → decode_of w ≡ Some (Bltz rs number)
bltz_row w rs number f = simp (f.opcode_is, f.rs_is, f.rt_is, f.number_is)

bgez_row : (w rs number : ℕ) → ImmediateFields w 1 rs 1 number → decode_of w ≡ Some (Bgez rs number)
bgez_row w rs number f = simp (f.opcode_is, f.rs_is, f.rt_is, f.number_is)

addi_row : (w rt rs number : ℕ) → ImmediateFields w 8 rs rt number → decode_of w ≡ Some (Addi rt rs number)
addi_row w rt rs number f = simp (f.opcode_is, f.rs_is, f.rt_is, f.number_is)

addiu_row : (w rt rs number : ℕ) → ImmediateFields w 9 rs rt number → decode_of w ≡ Some (Addiu rt rs number)
addiu_row w rt rs number f = simp (f.opcode_is, f.rs_is, f.rt_is, f.number_is)

slti_row : (w rt rs number : ℕ) → ImmediateFields w 10 rs rt number → decode_of w ≡ Some (Slti rt rs number)
slti_row w rt rs number f = simp (f.opcode_is, f.rs_is, f.rt_is, f.number_is)

sltiu_row : (w rt rs number : ℕ) → ImmediateFields w 11 rs rt number → decode_of w ≡ Some (Sltiu rt rs number)
sltiu_row w rt rs number f = simp (f.opcode_is, f.rs_is, f.rt_is, f.number_is)

andi_row : (w rt rs number : ℕ) → ImmediateFields w 12 rs rt number → decode_of w ≡ Some (Andi rt rs number)
andi_row w rt rs number f = simp (f.opcode_is, f.rs_is, f.rt_is, f.number_is)

ori_row : (w rt rs number : ℕ) → ImmediateFields w 13 rs rt number → decode_of w ≡ Some (Ori rt rs number)
ori_row w rt rs number f = simp (f.opcode_is, f.rs_is, f.rt_is, f.number_is)

xori_row : (w rt rs number : ℕ) → ImmediateFields w 14 rs rt number → decode_of w ≡ Some (Xori rt rs number)
xori_row w rt rs number f = simp (f.opcode_is, f.rs_is, f.rt_is, f.number_is)

lui_row : (w rt number : ℕ) → ImmediateFields w 15 0 rt number → decode_of w ≡ Some (Lui rt number)
lui_row w rt number f = simp (f.opcode_is, f.rs_is, f.rt_is, f.number_is)

lb_row : (w rt number rs : ℕ) → ImmediateFields w 32 rs rt number → decode_of w ≡ Some (Lb rt number rs)
lb_row w rt number rs f = simp (f.opcode_is, f.rs_is, f.rt_is, f.number_is)

lbu_row : (w rt number rs : ℕ) → ImmediateFields w 36 rs rt number → decode_of w ≡ Some (Lbu rt number rs)
lbu_row w rt number rs f = simp (f.opcode_is, f.rs_is, f.rt_is, f.number_is)

lw_row : (w rt number rs : ℕ) → ImmediateFields w 35 rs rt number → decode_of w ≡ Some (Lw rt number rs)
lw_row w rt number rs f = simp (f.opcode_is, f.rs_is, f.rt_is, f.number_is)

sb_row : (w rt number rs : ℕ) → ImmediateFields w 40 rs rt number → decode_of w ≡ Some (Sb rt number rs)
sb_row w rt number rs f = simp (f.opcode_is, f.rs_is, f.rt_is, f.number_is)

sw_row : (w rt number rs : ℕ) → ImmediateFields w 43 rs rt number → decode_of w ≡ Some (Sw rt number rs)
sw_row w rt number rs f = simp (f.opcode_is, f.rs_is, f.rt_is, f.number_is)

-- `decode_of` undoes `word_of`
pub decode_of-word_of : (one : Mips) → IsRow one → decode_of (word_of one) ≡ Some one
decode_of-word_of (Sll rd rt shamt) h = sll_row _ rd rt shamt (register_fields 0 rt rd shamt 0 (lit< tt) h.1 h.0 h.2 (lit< tt))
decode_of-word_of (Srl rd rt shamt) h = srl_row _ rd rt shamt (register_fields 0 rt rd shamt 2 (lit< tt) h.1 h.0 h.2 (lit< tt))
decode_of-word_of (Sra rd rt shamt) h = sra_row _ rd rt shamt (register_fields 0 rt rd shamt 3 (lit< tt) h.1 h.0 h.2 (lit< tt))
decode_of-word_of (Jr rs) h = jr_row _ rs (register_fields rs 0 0 0 8 h (lit< tt) (lit< tt) (lit< tt) (lit< tt))
decode_of-word_of (Jalr rd rs) h = jalr_row _ rd rs (register_fields rs 0 rd 0 9 h.1 (lit< tt) h.0 (lit< tt) (lit< tt))
decode_of-word_of Syscall h = refl
decode_of-word_of (Break code) h = break_row _ code (code_fields code 13 h (lit< tt))
decode_of-word_of (Mfhi rd) h = mfhi_row _ rd (omega (arith, h)) (register_fields 0 0 rd 0 16 (lit< tt) (lit< tt) h (lit< tt) (lit< tt))
decode_of-word_of (Mflo rd) h = mflo_row _ rd (omega (arith, h)) (register_fields 0 0 rd 0 18 (lit< tt) (lit< tt) h (lit< tt) (lit< tt))
decode_of-word_of (Mult rs rt) h = mult_row _ rs rt (register_fields rs rt 0 0 24 h.0 h.1 (lit< tt) (lit< tt) (lit< tt))
decode_of-word_of (Div rs rt) h = div_row _ rs rt (register_fields rs rt 0 0 26 h.0 h.1 (lit< tt) (lit< tt) (lit< tt))
decode_of-word_of (Add rd rs rt) h = add_row _ rd rs rt (register_fields rs rt rd 0 32 h.1 h.2 h.0 (lit< tt) (lit< tt))
decode_of-word_of (Sub rd rs rt) h = sub_row _ rd rs rt (register_fields rs rt rd 0 34 h.1 h.2 h.0 (lit< tt) (lit< tt))
decode_of-word_of (Addu rd rs rt) h = addu_row _ rd rs rt (register_fields rs rt rd 0 33 h.1 h.2 h.0 (lit< tt) (lit< tt))
decode_of-word_of (Subu rd rs rt) h = subu_row _ rd rs rt (register_fields rs rt rd 0 35 h.1 h.2 h.0 (lit< tt) (lit< tt))
decode_of-word_of (And rd rs rt) h = and_row _ rd rs rt (register_fields rs rt rd 0 36 h.1 h.2 h.0 (lit< tt) (lit< tt))
decode_of-word_of (Or rd rs rt) h = or_row _ rd rs rt (register_fields rs rt rd 0 37 h.1 h.2 h.0 (lit< tt) (lit< tt))
decode_of-word_of (Xor rd rs rt) h = xor_row _ rd rs rt (register_fields rs rt rd 0 38 h.1 h.2 h.0 (lit< tt) (lit< tt))
decode_of-word_of (Nor rd rs rt) h = nor_row _ rd rs rt (register_fields rs rt rd 0 39 h.1 h.2 h.0 (lit< tt) (lit< tt))
decode_of-word_of (Slt rd rs rt) h = slt_row _ rd rs rt (register_fields rs rt rd 0 42 h.1 h.2 h.0 (lit< tt) (lit< tt))
decode_of-word_of (Sltu rd rs rt) h = sltu_row _ rd rs rt (register_fields rs rt rd 0 43 h.1 h.2 h.0 (lit< tt) (lit< tt))
decode_of-word_of (J target) h = j_row _ target (target_fields 2 target h)
decode_of-word_of (Jal target) h = jal_row _ target (target_fields 3 target h)
decode_of-word_of (Beq rs rt number) h = beq_row _ rs rt number (immediate_fields 4 rs rt number h.0 h.1 h.2)
decode_of-word_of (Bne rs rt number) h = bne_row _ rs rt number (immediate_fields 5 rs rt number h.0 h.1 h.2)
decode_of-word_of (Blez rs number) h = blez_row _ rs number (immediate_fields 6 rs 0 number h.0 (lit< tt) h.1)
decode_of-word_of (Bgtz rs number) h = bgtz_row _ rs number (immediate_fields 7 rs 0 number h.0 (lit< tt) h.1)
decode_of-word_of (Bltz rs number) h = bltz_row _ rs number (immediate_fields 1 rs 0 number h.0 (lit< tt) h.1)
decode_of-word_of (Bgez rs number) h = bgez_row _ rs number (immediate_fields 1 rs 1 number h.0 (lit< tt) h.1)
decode_of-word_of (Addi rt rs number) h = addi_row _ rt rs number (immediate_fields 8 rs rt number h.1 h.0 h.2)
decode_of-word_of (Addiu rt rs number) h = addiu_row _ rt rs number (immediate_fields 9 rs rt number h.1 h.0 h.2)
decode_of-word_of (Slti rt rs number) h = slti_row _ rt rs number (immediate_fields 10 rs rt number h.1 h.0 h.2)
decode_of-word_of (Sltiu rt rs number) h = sltiu_row _ rt rs number (immediate_fields 11 rs rt number h.1 h.0 h.2)
decode_of-word_of (Andi rt rs number) h = andi_row _ rt rs number (immediate_fields 12 rs rt number h.1 h.0 h.2)
decode_of-word_of (Ori rt rs number) h = ori_row _ rt rs number (immediate_fields 13 rs rt number h.1 h.0 h.2)
decode_of-word_of (Xori rt rs number) h = xori_row _ rt rs number (immediate_fields 14 rs rt number h.1 h.0 h.2)
decode_of-word_of (Lui rt number) h = lui_row _ rt number (immediate_fields 15 0 rt number (lit< tt) h.0 h.1)
decode_of-word_of (Lb rt number rs) h = lb_row _ rt number rs (immediate_fields 32 rs rt number h.2 h.0 h.1)
decode_of-word_of (Lbu rt number rs) h = lbu_row _ rt number rs (immediate_fields 36 rs rt number h.2 h.0 h.1)
decode_of-word_of (Lw rt number rs) h = lw_row _ rt number rs (immediate_fields 35 rs rt number h.2 h.0 h.1)
decode_of-word_of (Sb rt number rs) h = sb_row _ rt number rs (immediate_fields 40 rs rt number h.2 h.0 h.1)
decode_of-word_of (Sw rt number rs) h = sw_row _ rt number rs (immediate_fields 43 rs rt number h.2 h.0 h.1)

-- a word that has no row is no instruction's
pub none_outside : (w : ℕ) (found : Option Mips) → found ≡ decode_of w → IfNone found ((one : Mips) → IsRow one → word_of one ≢ w)
none_outside w (Some one) e = tt
none_outside w None e = λ one fits is. let found = decode_of-word_of one fits in cc (ap decode_of is)
