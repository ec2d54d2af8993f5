-- The text of lines (SPIM manual, assembler syntax).
use Rattle.std.specs.Prelude.{ℕ, List, [], ◌∷◌, ◌++◌, Bool, true, false, codes}
use Rattle.std.specs.Fmt.{decimal}
use Rattle.tg_isa.specs.Names.{register_name}
use Rattle.tg_asm_text.specs.Writing.{line_of}
use Rattle.tg_emit.specs.declared.assembly.Line.{Line}
use Rattle.tg_emit.specs.declared.assembly.Line.TheVariants.{Label, One, La, Statics}

-- numbers after others
abbrev pub further_numbers : List ℕ → List ℕ
further_numbers [] = []
further_numbers (b ∷ bytes) = 44 ∷ 32 ∷ decimal b ++ further_numbers bytes

-- bytes of the statics; none at all are still an item
abbrev pub bytes_text : List ℕ → List ℕ
bytes_text [] = codes "\t.space 0"
bytes_text (b ∷ bytes) = codes "\t.byte " ++ decimal b ++ further_numbers bytes

abbrev pub line_text : Line → List ℕ
line_text (Label name) = name ++ codes ":"
line_text (One one target) = codes "\t" ++ line_of one target
line_text (La register target) = codes "\tla " ++ register_name register ++ codes ", " ++ target
line_text (Statics bytes) = bytes_text bytes

-- whether a line stands in the statics: bytes, and a label that stands before them
abbrev pub is_in_statics : Line → List Line → Bool
is_in_statics (Statics bytes) rest = true
is_in_statics (Label name) (Statics bytes ∷ rest) = true
is_in_statics _ _ = false

-- the directive between two lines
abbrev pub switched : (from to : Bool) → List ℕ
switched false true = codes "\t.data\n"
switched true false = codes "\t.text\n"
switched _ _ = []

abbrev pub lines_text : (in_statics : Bool) → List Line → List ℕ
lines_text before [] = []
lines_text before (line ∷ rest) =
    switched before (is_in_statics line rest)
    ++ line_text line ++ 10 ∷ lines_text (is_in_statics line rest) rest

-- the program's body is known to a loader by its name
abbrev pub text_of : List Line → List ℕ
text_of lines = codes "\t.text\n\t.globl main\n" ++ lines_text false lines
