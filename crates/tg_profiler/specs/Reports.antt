-- The reports of the three kinds of watchers, on whole lists of fetches.
use Rattle.std.specs.Prelude.{ℕ, ◌+◌, ◌-◌, List, [], ◌∷◌, ◌++◌, length, map, drop, count_by, codes}
use Rattle.std.specs.Prelude.{Bool, ◌==◌, if◌then◌else◌, Option, Some, None}
use Rattle.std.specs.Fmt.{decimal}
use Rattle.std.specs.List.{list_any}
use Rattle.std.specs.Str.{bytes_eq}
use Rattle.tg_isa.specs.declared.mips.Mips.{Mips}
use Rattle.tg_asm_text.specs.declared.keywords.Keyword.{Keyword}
use Rattle.tg_asm_text.specs.declared.keywords.Keyword.TheVariants.{Sll, Srl, Sra, Jr, Jalr}
use Rattle.tg_asm_text.specs.declared.keywords.Keyword.TheVariants.{Syscall, Break, Mfhi, Mflo}
use Rattle.tg_asm_text.specs.declared.keywords.Keyword.TheVariants.{Mult, Div, Add, Sub, Addu, Subu}
use Rattle.tg_asm_text.specs.declared.keywords.Keyword.TheVariants.{And, Or, Xor, Nor, Slt, Sltu, J}
use Rattle.tg_asm_text.specs.declared.keywords.Keyword.TheVariants.{Jal, Beq, Bne, Blez, Bgtz, Bltz}
use Rattle.tg_asm_text.specs.declared.keywords.Keyword.TheVariants.{Bgez, Addi, Addiu, Slti, Sltiu}
use Rattle.tg_asm_text.specs.declared.keywords.Keyword.TheVariants.{Andi, Ori, Xori, Lui, Lb, Lbu}
use Rattle.tg_asm_text.specs.declared.keywords.Keyword.TheVariants.{Lw, Sb, Sw}
use Rattle.tg_asm_text.specs.Items.{keyword_text}
use Rattle.tg_isa.specs.Table.{decode_of}
use Rattle.tg_asm_text.specs.Writing.{keyword_of}
use Rattle.tg_machine.specs.declared.fetches.Seen.{Seen}
use Rattle.tg_profiler.specs.Watching.{Report}
use Rattle.tg_profiler.specs.Words.{word_in_hex}

-- Profile: how many fetches there were, and how many of each row, in the order of the instruction
-- table (MIPS I manual, appendix A), then of words outside it; a row that wasn't fetched has no line

abbrev pub table : List Keyword
table =
    Sll ∷ Srl ∷ Sra ∷ Jr ∷ Jalr ∷ Syscall ∷ Break ∷ Mfhi ∷ Mflo ∷ Mult ∷ Div ∷ Add ∷ Sub ∷ Addu
    ∷ Subu ∷ And ∷ Or ∷ Xor ∷ Nor ∷ Slt ∷ Sltu ∷ J ∷ Jal ∷ Beq ∷ Bne ∷ Blez ∷ Bgtz ∷ Bltz ∷ Bgez
    ∷ Addi ∷ Addiu ∷ Slti ∷ Sltiu ∷ Andi ∷ Ori ∷ Xori ∷ Lui ∷ Lb ∷ Lbu ∷ Lw ∷ Sb ∷ Sw ∷ []

unfoldable pub counted_names : List (List ℕ)
counted_names = map keyword_text table ++ codes "bad" ∷ []

-- the name under which a word is counted
abbrev pub row_text : Option Mips → List ℕ
row_text (Some one) = keyword_text (keyword_of one)
row_text None = codes "bad"

unfoldable pub is_counted : List ℕ → Seen → Bool
is_counted name x = bytes_eq (row_text (decode_of x.word)) name

abbrev pub count_of : List ℕ → List Seen → ℕ
count_of name seen = count_by (is_counted name) seen

abbrev pub count_line : List ℕ → ℕ → List ℕ
count_line name count = name ++ 32 ∷ decimal count

abbrev pub count_lines : (names : List (List ℕ)) → List Seen → List (List ℕ)
count_lines [] seen = []
count_lines (name ∷ names) seen =
    if count_of name seen == 0 then count_lines names seen else
    count_line name (count_of name seen) ∷ count_lines names seen

abbrev pub profile_report : Report
profile_report seen code =
    count_line (codes "steps") (length seen) ∷ count_lines counted_names seen

-- Coverage: how many different places there were, and how many words the code has

abbrev pub is_seen : (place : ℕ) → List Seen → Bool
is_seen place seen = list_any (λ x. x.place == place) seen

abbrev pub covered : List Seen → ℕ
covered [] = 0
covered (x ∷ seen) = if is_seen x.place seen then covered seen else covered seen + 1

abbrev pub covered_line : (count code : ℕ) → List ℕ
covered_line count code = codes "covered " ++ decimal count ++ codes " of " ++ decimal code

abbrev pub coverage_report : Report
coverage_report seen code = covered_line (covered seen) code ∷ []

-- Trace: the last 16 fetches, oldest first, each with its place and its word

abbrev pub seen_line : Seen → List ℕ
seen_line x = word_in_hex x.place ++ 32 ∷ word_in_hex x.word

abbrev pub trace_report : Report
trace_report seen code = map seen_line (drop (length seen - 16) seen)
