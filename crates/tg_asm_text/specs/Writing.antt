-- An instruction as a line of assembly text, and how the line is read (SPIM manual, assembler
-- syntax).
use Rattle.std.specs.Prelude.{ℕ, ◌-◌, List, [], ◌∷◌, ◌++◌, ◌≡◌, Bool, true, false, nat_lt}
use Rattle.std.specs.Prelude.{if◌then◌else◌, Ok}
use Rattle.std.specs.Fmt.{decimal}
use Rattle.tg_isa.specs.declared.mips.Mips.{Mips}
use Rattle.tg_isa.specs.declared.mips.Mips.TheVariants as row
use Rattle.tg_asm_text.specs.declared.keywords.Keyword.{Keyword}
use Rattle.tg_asm_text.specs.declared.keywords.Keyword.TheVariants.{Sll, Srl, Sra, Jr, Jalr}
use Rattle.tg_asm_text.specs.declared.keywords.Keyword.TheVariants.{Syscall, Break, Mfhi, Mflo}
use Rattle.tg_asm_text.specs.declared.keywords.Keyword.TheVariants.{Mult, Div, Add, Sub, Addu, Subu}
use Rattle.tg_asm_text.specs.declared.keywords.Keyword.TheVariants.{And, Or, Xor, Nor, Slt, Sltu, J}
use Rattle.tg_asm_text.specs.declared.keywords.Keyword.TheVariants.{Jal, Beq, Bne, Blez, Bgtz, Bltz}
use Rattle.tg_asm_text.specs.declared.keywords.Keyword.TheVariants.{Bgez, Addi, Addiu, Slti, Sltiu}
use Rattle.tg_asm_text.specs.declared.keywords.Keyword.TheVariants.{Andi, Ori, Xori, Lui, Lb, Lbu}
use Rattle.tg_asm_text.specs.declared.keywords.Keyword.TheVariants.{Lw, Sb, Sw}
use Rattle.tg_asm_text.specs.declared.keywords.Segment.TheVariants.{Code}
use Rattle.tg_isa.specs.Names.{register_name}
use Rattle.tg_asm_text.specs.Lines.{lines}
use Rattle.tg_asm_text.specs.Items.{keyword_text, Coded, Fixed, Branch, Jump, Words}
use Rattle.tg_asm_text.specs.Assembly.{reading, with_offset, with_target}

-- the word of a row
abbrev pub keyword_of : Mips → Keyword
keyword_of (row.Sll rd rt n) = Sll
keyword_of (row.Srl rd rt n) = Srl
keyword_of (row.Sra rd rt n) = Sra
keyword_of (row.Jr rs) = Jr
keyword_of (row.Jalr rd rs) = Jalr
keyword_of row.Syscall = Syscall
keyword_of (row.Break n) = Break
keyword_of (row.Mfhi rd) = Mfhi
keyword_of (row.Mflo rd) = Mflo
keyword_of (row.Mult rs rt) = Mult
keyword_of (row.Div rs rt) = Div
keyword_of (row.Add rd rs rt) = Add
keyword_of (row.Sub rd rs rt) = Sub
keyword_of (row.Addu rd rs rt) = Addu
keyword_of (row.Subu rd rs rt) = Subu
keyword_of (row.And rd rs rt) = And
keyword_of (row.Or rd rs rt) = Or
keyword_of (row.Xor rd rs rt) = Xor
keyword_of (row.Nor rd rs rt) = Nor
keyword_of (row.Slt rd rs rt) = Slt
keyword_of (row.Sltu rd rs rt) = Sltu
keyword_of (row.J n) = J
keyword_of (row.Jal n) = Jal
keyword_of (row.Beq rs rt n) = Beq
keyword_of (row.Bne rs rt n) = Bne
keyword_of (row.Blez rs n) = Blez
keyword_of (row.Bgtz rs n) = Bgtz
keyword_of (row.Bltz rs n) = Bltz
keyword_of (row.Bgez rs n) = Bgez
keyword_of (row.Addi rt rs n) = Addi
keyword_of (row.Addiu rt rs n) = Addiu
keyword_of (row.Slti rt rs n) = Slti
keyword_of (row.Sltiu rt rs n) = Sltiu
keyword_of (row.Andi rt rs n) = Andi
keyword_of (row.Ori rt rs n) = Ori
keyword_of (row.Xori rt rs n) = Xori
keyword_of (row.Lui rt n) = Lui
keyword_of (row.Lb rt n rs) = Lb
keyword_of (row.Lbu rt n rs) = Lbu
keyword_of (row.Lw rt n rs) = Lw
keyword_of (row.Sb rt n rs) = Sb
keyword_of (row.Sw rt n rs) = Sw

-- the 16 bits of a number with a sign, and such a number with its register
abbrev pub signed_text : ℕ → List ℕ
signed_text n = if nat_lt n 32768 then decimal n else 45 ∷ decimal (65536 - n)

abbrev pub based_text : ℕ → ℕ → List ℕ
based_text n base = signed_text n ++ 40 ∷ register_name base ++ 41 ∷ []

-- the operands of a row in the order of the text
abbrev pub written : Mips → List ℕ → List (List ℕ)
written (row.Sll rd rt n) target = register_name rd ∷ register_name rt ∷ decimal n ∷ []
written (row.Srl rd rt n) target = register_name rd ∷ register_name rt ∷ decimal n ∷ []
written (row.Sra rd rt n) target = register_name rd ∷ register_name rt ∷ decimal n ∷ []
written (row.Jr rs) target = register_name rs ∷ []
written (row.Jalr rd rs) target = register_name rd ∷ register_name rs ∷ []
written row.Syscall target = []
written (row.Break n) target = decimal n ∷ []
written (row.Mfhi rd) target = register_name rd ∷ []
written (row.Mflo rd) target = register_name rd ∷ []
written (row.Mult rs rt) target = register_name rs ∷ register_name rt ∷ []
written (row.Div rs rt) target = register_name rs ∷ register_name rt ∷ []
written (row.Add rd rs rt) target = register_name rd ∷ register_name rs ∷ register_name rt ∷ []
written (row.Sub rd rs rt) target = register_name rd ∷ register_name rs ∷ register_name rt ∷ []
written (row.Addu rd rs rt) target = register_name rd ∷ register_name rs ∷ register_name rt ∷ []
written (row.Subu rd rs rt) target = register_name rd ∷ register_name rs ∷ register_name rt ∷ []
written (row.And rd rs rt) target = register_name rd ∷ register_name rs ∷ register_name rt ∷ []
written (row.Or rd rs rt) target = register_name rd ∷ register_name rs ∷ register_name rt ∷ []
written (row.Xor rd rs rt) target = register_name rd ∷ register_name rs ∷ register_name rt ∷ []
written (row.Nor rd rs rt) target = register_name rd ∷ register_name rs ∷ register_name rt ∷ []
written (row.Slt rd rs rt) target = register_name rd ∷ register_name rs ∷ register_name rt ∷ []
written (row.Sltu rd rs rt) target = register_name rd ∷ register_name rs ∷ register_name rt ∷ []
written (row.J n) target = target ∷ []
written (row.Jal n) target = target ∷ []
written (row.Beq rs rt n) target = register_name rs ∷ register_name rt ∷ target ∷ []
written (row.Bne rs rt n) target = register_name rs ∷ register_name rt ∷ target ∷ []
written (row.Blez rs n) target = register_name rs ∷ target ∷ []
written (row.Bgtz rs n) target = register_name rs ∷ target ∷ []
written (row.Bltz rs n) target = register_name rs ∷ target ∷ []
written (row.Bgez rs n) target = register_name rs ∷ target ∷ []
written (row.Addi rt rs n) target = register_name rt ∷ register_name rs ∷ signed_text n ∷ []
written (row.Addiu rt rs n) target = register_name rt ∷ register_name rs ∷ signed_text n ∷ []
written (row.Slti rt rs n) target = register_name rt ∷ register_name rs ∷ signed_text n ∷ []
written (row.Sltiu rt rs n) target = register_name rt ∷ register_name rs ∷ signed_text n ∷ []
written (row.Andi rt rs n) target = register_name rt ∷ register_name rs ∷ decimal n ∷ []
written (row.Ori rt rs n) target = register_name rt ∷ register_name rs ∷ decimal n ∷ []
written (row.Xori rt rs n) target = register_name rt ∷ register_name rs ∷ decimal n ∷ []
written (row.Lui rt n) target = register_name rt ∷ decimal n ∷ []
written (row.Lb rt n rs) target = register_name rt ∷ based_text n rs ∷ []
written (row.Lbu rt n rs) target = register_name rt ∷ based_text n rs ∷ []
written (row.Lw rt n rs) target = register_name rt ∷ based_text n rs ∷ []
written (row.Sb rt n rs) target = register_name rt ∷ based_text n rs ∷ []
written (row.Sw rt n rs) target = register_name rt ∷ based_text n rs ∷ []

-- operands after a word, parted by commas
abbrev pub further : List (List ℕ) → List ℕ
further [] = []
further (o ∷ os) = 44 ∷ 32 ∷ o ++ further os

abbrev pub joined : List (List ℕ) → List ℕ
joined [] = []
joined (o ∷ os) = 32 ∷ o ++ further os

-- the line of a row, with a label where its form takes one
abbrev pub line_of : Mips → List ℕ → List ℕ
line_of one target = keyword_text (keyword_of one) ++ joined (written one target)

-- whether the form of a row takes a label
abbrev pub takes_label : Mips → Bool
takes_label (row.J n) = true
takes_label (row.Jal n) = true
takes_label (row.Beq rs rt n) = true
takes_label (row.Bne rs rt n) = true
takes_label (row.Blez rs n) = true
takes_label (row.Bgtz rs n) = true
takes_label (row.Bltz rs n) = true
takes_label (row.Bgez rs n) = true
takes_label one = false

-- a row with 0 as the field of its label, and the word that its line is
abbrev pub unlabelled_row : Mips → Mips
unlabelled_row one = with_target (with_offset one 0) 0

abbrev pub coded_row : Mips → List ℕ → Coded
coded_row (row.Beq rs rt n) target = Branch (row.Beq rs rt 0) target
coded_row (row.Bne rs rt n) target = Branch (row.Bne rs rt 0) target
coded_row (row.Blez rs n) target = Branch (row.Blez rs 0) target
coded_row (row.Bgtz rs n) target = Branch (row.Bgtz rs 0) target
coded_row (row.Bltz rs n) target = Branch (row.Bltz rs 0) target
coded_row (row.Bgez rs n) target = Branch (row.Bgez rs 0) target
coded_row (row.J n) target = Jump (row.J 0) target
coded_row (row.Jal n) target = Jump (row.Jal 0) target
coded_row one target = Fixed one

-- A text is one line, which the assembly relation reads as an instruction, with a label in the
-- place of its field.
pub record ReadsBack (one : Mips) (target text : List ℕ) : Type 0 where
  pub line : lines text ≡ text ∷ []
  pub read : reading Code text ≡ Ok (record {
    labels = [];
    item = Words (coded_row one target ∷ []);
  })
