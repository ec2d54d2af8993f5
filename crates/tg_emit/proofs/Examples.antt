-- Lines and texts of small codes, computed.
use Rattle.std.proofs.Common.{ℕ, ◌≡◌, List, [], ◌∷◌, ◌++◌, Bool, true, false, refl}
use Rattle.std.specs.Prelude.{codes}
use Rattle.std.specs.Fmt.{digits}
use Rattle.tg_isa.specs.declared.mips.Mips.TheVariants as row
use Rattle.tg_tree.specs.declared.operators.Rel.TheVariants.{LessEqual}
use Rattle.tg_instr.specs.declared.operands.Opnd.TheVariants.{Reg}
use Rattle.tg_instr.specs.declared.instr.Instr.{Instr}
use Rattle.tg_instr.specs.declared.instr.Instr.TheVariants.{Addiu, FrameLoad, FrameStore, FrameAddress, Address, Mark, Jump, Branch, Call, Return, Move}
use Rattle.tg_emit.specs.declared.assembly.Line.TheVariants.{Label, One, La, Statics}
use Rattle.tg_emit.specs.mirror.Lines.{alone, entry, load_at, store_at, code_lines, words}
use Rattle.tg_emit.specs.mirror.Text.{text_of}

-- a slot beyond the reach of a field: $at gets 65536 and $sp, and the field is -25536
far_slot : load_at 8 40000 ≡ alone (row.Lui 1 1) ∷ alone (row.Addu 1 1 29) ∷ alone (row.Lw 8 40000 1) ∷ []
far_slot = refl

last_near_slot : store_at 8 32764 ≡ alone (row.Sw 8 32764 29) ∷ []
last_near_slot = refl

large_frame : entry 33 65544 ≡ Label (codes "f33") ∷ alone (row.Lui 1 1) ∷ alone (row.Ori 1 1 8) ∷ alone (row.Subu 29 29 1) ∷ alone (row.Lw 0 0 29) ∷ []
unfolding digits
large_frame = refl

-- counts $t0 down to 0
abbrev down : List Instr
down =
    FrameLoad (Reg 8) 0 ∷ Mark 5 ∷ Addiu (Reg 8) (Reg 8) 65535
    ∷ Branch (record { rel = LessEqual; left = Reg 8; right = Reg 0; is_one_row = refl }) 7
    ∷ Jump 5 ∷ Mark 7 ∷ Move (Reg 2) (Reg 8) ∷ Return ∷ []

abbrev text : Bool → List ℕ
text turned = text_of (entry 32 8 ++ code_lines turned 32 8 0 down ++ Label (codes "s40") ∷ Statics (1 ∷ 255 ∷ []) ∷ [])

near_text : text false ≡
    codes "\t.text\n\t.globl main\nmain:\n\taddiu $sp, $sp, -8\n\tlw $zero, 0($sp)\n\tlw $t0, 4($sp)\nmain.5:\n\taddiu $t0, $t0, -1\n\tblez $t0, main.7\n\tj main.5\nmain.7:\n\taddu $v0, $zero, $t0\n\taddiu $sp, $sp, 8\n\tjr $ra\n\t.data\ns40:\n\t.byte 1, 255\n"
unfolding digits
near_text = refl

-- after the opposite branch, which is at the place 3, a jump
far_text : text true ≡
    codes "\t.text\n\t.globl main\nmain:\n\taddiu $sp, $sp, -8\n\tlw $zero, 0($sp)\n\tlw $t0, 4($sp)\nmain.5:\n\taddiu $t0, $t0, -1\n\tbgtz $t0, main_3\n\tj main.7\nmain_3:\n\tj main.5\nmain.7:\n\taddu $v0, $zero, $t0\n\taddiu $sp, $sp, 8\n\tjr $ra\n\t.data\ns40:\n\t.byte 1, 255\n"
unfolding digits
far_text = refl

other_lines : code_lines false 33 16 0 (FrameStore (Reg 9) 1 ∷ FrameAddress (Reg 9) ∷ Address (Reg 4) (record { 0 = 40 }) ∷
    Call (record { 0 = 34 }) ∷ []) ≡ alone (row.Sw 9 8 29) ∷ alone (row.Addiu 9 29 16) ∷ La 4 (codes "s40") ∷ One (row.Jal 0) (codes "f34") ∷ []
unfolding digits
other_lines = refl

words_of_lines : words (Label [] ∷ alone row.Syscall ∷ La 4 [] ∷ Statics (1 ∷ []) ∷ []) ≡ 3
words_of_lines = refl
