-- Texts put together from lines, and their images.
use Rattle.std.specs.Prelude.{◌≡◌, List, [], ◌∷◌, ◌++◌, codes}
use Rattle.std.proofs.Common.{refl}
use Rattle.tg_isa.specs.declared.mips.Mips.TheVariants as row
use Rattle.tg_asm_text.specs.declared.keywords.Segment.TheVariants.{Statics}
use Rattle.tg_asm_text.specs.Assembly.{Assembled, assembled}
use Rattle.tg_asm_text.specs.Placement.{image_of}
use Rattle.tg_asm_text.specs.Texts.{Line, Enter, Label, One, La, Align, Words, Bytes, Text, text_of, readings_of}
use Rattle.std.specs.Prelude.{Ok}

-- a program with a branch, a call, a literal after one byte, and words
program : List Line
program =
    Label (codes "main") ∷ La 4 (codes "text") ∷ Label (codes "again") ∷ One (row.Jal 0) (codes "f") ∷ One (row.Bne 2 0 0) (codes "again")
    ∷ Label (codes "f") ∷ One (row.Addiu 29 29 65528) [] ∷ One (row.Beq 0 0 0) (codes "f") ∷ Enter Statics ∷ Bytes (7 ∷ 255 ∷ [])
    ∷ Label (codes "text") ∷ Words (2 ∷ 4294967295 ∷ []) ∷ Text (104 ∷ 10 ∷ 34 ∷ 92 ∷ 0 ∷ 9 ∷ 200 ∷ []) ∷ Align 2 ∷ Label (codes "end") ∷ []

-- the label of the words is after their padding
program_image : Assembled
program_image = record {
  code = 0x3C041001 ∷ 0x34840004 ∷ 0x0C100004 ∷ 0x1440FFFE ∷ 0x27BDFFF8 ∷ 0x1000FFFE ∷ [];
  statics = 7 ∷ 255 ∷ 0 ∷ 0 ∷ 2 ∷ 0 ∷ 0 ∷ 0 ∷ 255 ∷ 255 ∷ 255 ∷ 255 ∷ 104 ∷ 10 ∷ 34 ∷ 92 ∷ 0 ∷ 9 ∷ 200 ∷ 0 ∷ [];
  entry = 0x00400000;
}

image_computed : image_of (readings_of program) ≡ program_image
unfolding program program_image
image_computed = refl

-- as it is written
text_assembled : assembled
    (codes "main:\nla $a0, text\nagain:\njal f\nbne $v0, $zero, again\nf:\naddiu $sp, $sp, -8\nbeq $zero, $zero, f\n.data\n.byte 7, 255\ntext:\n.word 2, 4294967295\n.ascii \"h\\n\\\"\\\\\\0\\t" ++ (200 ∷ codes "\"\n.align 2\nend:\n")) ≡ Ok program_image
unfolding program_image
text_assembled = refl

-- lines without numbers
plain_text : text_of (Label (codes "main") ∷ La 4 (codes "text") ∷ One (row.Bne 2 0 0) (codes "main") ∷ One row.Syscall [] ∷
    Enter Statics ∷ Label (codes "text") ∷ Text (104 ∷ 10 ∷ 34 ∷ 92 ∷ 0 ∷ 9 ∷ 200 ∷ []) ∷ []) ≡
    codes "main:\n\tla $a0, text\n\tbne $v0, $zero, main\n\tsyscall\n\t.data\ntext:\n\t.ascii \"h\\n\\\"\\\\\\0\\t" ++ (200 ∷ codes "\"\n")
plain_text = refl
