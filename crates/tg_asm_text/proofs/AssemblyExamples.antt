-- Texts, assembled as the definition says.
use Rattle.std.specs.Prelude.{◌≡◌, List, [], ◌∷◌, ℕ, codes, Result, Ok, Err}
use Rattle.std.proofs.Common.{refl}
use Rattle.tg_asm_text.specs.declared.keywords.AsmRule.{AsmRule}
use Rattle.tg_asm_text.specs.declared.keywords.AsmRule.TheVariants.{A1, A2, A3, A4, A5, A6, A7, A9}
use Rattle.tg_asm_text.specs.Assembly.{Assembled, Fault, assembled}

-- a text of code alone
abbrev image : List ℕ → List ℕ → Result Assembled Fault
image code statics = Ok (record { code = code; statics = statics; entry = 0x00400000 })

abbrev fault : AsmRule → ℕ → Result Assembled Fault
fault rule line = Err (record { rule = rule; line = line })

hi : assembled (codes ".data\nm: .asciiz \"hi\"\n.text\nmain: la $a0, m\nli $v0, 4\nsyscall\nli $a0, 7\nli $v0, 17\nsyscall") ≡
    image (0x3C041001 ∷ 0x34840000 ∷ 0x24020004 ∷ 0x0000000C ∷ 0x24040007 ∷ 0x24020011 ∷ 0x0000000C ∷ []) (104 ∷ 105 ∷ 0 ∷ [])
hi = refl

label_twice : assembled (codes "main:\nmain:") ≡ fault A4 2
label_twice = refl

overflow : assembled (codes ".text\nmain: lui $t0, 0x8000\naddi $t0, $t0, -1") ≡ image (0x3C088000 ∷ 0x2108FFFF ∷ []) []
overflow = refl

unaligned : assembled (codes ".text\nmain: lw $t0, 2($zero)") ≡ image (0x8C080002 ∷ []) []
unaligned = refl

bad_service : assembled (codes "main: li $v0, 5\nsyscall") ≡ image (0x24020005 ∷ 0x0000000C ∷ []) []
bad_service = refl

back_to_its_caller : assembled (codes "main: jr $ra") ≡ image (0x03E00008 ∷ []) []
back_to_its_caller = refl

nothing : assembled (codes "main: nop") ≡ image (0 ∷ []) []
nothing = refl

stack_full : assembled (codes "main: lui $t0, 0x4000\nsw $t0, 0($t0)") ≡ image (0x3C084000 ∷ 0xAD080000 ∷ []) []
stack_full = refl

word_in_the_code : assembled (codes ".text\nmain: .word 1") ≡ fault A1 2
word_in_the_code = refl

break_nine : assembled (codes "main: break 9") ≡ image (0x0000024D ∷ []) []
break_nine = refl

-- the words that a table of the machine's manual gives
words : assembled (codes "main: addu $v0, $a0, $a1\nlw $t0, 4($sp)\nbreak 7\nx: beq $zero, $zero, x\nnop") ≡
    image (0x00851021 ∷ 0x8FA80004 ∷ 0x000001CD ∷ 0x1000FFFF ∷ 0 ∷ []) []
words = refl

jumps : assembled (codes "f: jalr $t0\njal f\nmain: bne $a0 $0 g\nj main\ng: break") ≡
    Ok (record { code = 0x0100F809 ∷ 0x0C100000 ∷ 0x14800001 ∷ 0x08100002 ∷ 0x0000000D ∷ []; statics = []; entry = 0x00400008 })
jumps = refl

numbers : assembled (codes "main: li $t0, -32768\nli $t0, 65535\nli $t0, 65536\nmove $s0 $t0") ≡
    image (0x24088000 ∷ 0x3408FFFF ∷ 0x3C080001 ∷ 0x35080000 ∷ 0x00088021 ∷ []) []
numbers = refl

-- labels of the statics stand after the padding, and at the end before it
padding : assembled (codes "main: nop\n.data\n.byte 1, -1\nx:\n.word x, y, 0xFFFFFFFF\n.align 3\n.byte 2\ny:") ≡
    image (0 ∷ []) (1 ∷ 255 ∷ 0 ∷ 0 ∷ 4 ∷ 0 ∷ 1 ∷ 16 ∷ 17 ∷ 0 ∷ 1 ∷ 16 ∷ 255 ∷ 255 ∷ 255 ∷ 255 ∷ 2 ∷ [])
padding = refl

unknown : assembled (codes "main:\n foo $t0") ≡ fault A2 2
unknown = refl

bad_register : assembled (codes "main: move $t0, $32") ≡ fault A3 1
bad_register = refl

too_great : assembled (codes "main: addi $t0, $t0, 32768") ≡ fault A7 1
too_great = refl

too_far_below : assembled (codes "main: addi $t0, $t0, -32769") ≡ fault A7 1
too_far_below = refl

unknown_label : assembled (codes "main: nop\nj x") ≡ fault A5 2
unknown_label = refl

branch_to_the_statics : assembled (codes "main: nop\nb: blez $t0, m\n.data\nm:") ≡ fault A6 2
branch_to_the_statics = refl

jump_to_the_end : assembled (codes "main: j e\ne:") ≡ fault A6 1
jump_to_the_end = refl

no_main : assembled (codes "x:\nnop\n") ≡ fault A9 2
no_main = refl

main_at_the_end : assembled (codes "nop\nmain:") ≡ fault A9 2
main_at_the_end = refl

main_in_the_statics : assembled (codes ".data\nmain: .word 1\n\n") ≡ fault A9 3
main_in_the_statics = refl

-- the first line comes before an earlier rule
first_line : assembled (codes "main: foo\n,") ≡ fault A2 1
first_line = refl

-- on one line the rules have their order
order : assembled (codes "x: nop\nx: addi $t0, $t0, 99999999999999999999") ≡ fault A7 2
order = refl
