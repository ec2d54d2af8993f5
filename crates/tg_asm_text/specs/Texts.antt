-- Texts that are put together from lines, and what their lines are read as (SPIM manual, assembler
-- syntax).
use Rattle.std.specs.Prelude.{ℕ, ◌^◌, ◌<◌, ◌≤◌, List, [], ◌∷◌, ◌++◌, length, map, All, Bool, false}
use Rattle.std.specs.Prelude.{IsTrue, ◌==◌, ◌||◌, if◌then◌else◌, codes}
use Rattle.std.specs.Fmt.{decimal}
use Rattle.tg_machine_state.specs.State.{most_bytes}
use Rattle.tg_isa.specs.declared.mips.Mips.{Mips}
use Rattle.tg_asm_text.specs.declared.keywords.Segment.{Segment}
use Rattle.tg_asm_text.specs.declared.keywords.Segment.TheVariants.{Code, Statics}
use Rattle.tg_isa.specs.Names.{register_name}
use Rattle.tg_isa.specs.Rows.{IsRow}
use Rattle.tg_asm_text.specs.Lines.{is_in_range}
use Rattle.tg_asm_text.specs.Operands.{Signed, is_label}
use Rattle.tg_asm_text.specs.Items as items
use Rattle.tg_asm_text.specs.Assembly.{Reading}
use Rattle.tg_asm_text.specs.Placement.{segment_behind}
use Rattle.tg_asm_text.specs.Writing.{joined, line_of, takes_label, unlabelled_row, coded_row}

-- A line: what follows goes to a segment; a name for a loader; a label; an instruction, with the
-- label that its form takes; the address of a label into a register; padding to a multiple of a
-- power of 2; zeros, words, bytes, or the bytes of a string.
pub data Line : Type 0 where
  Enter : Segment → Line
  Globl : List ℕ → Line
  Label : List ℕ → Line
  One : Mips → (target : List ℕ) → Line
  La : (register : ℕ) → (label : List ℕ) → Line
  Align : (power : ℕ) → Line
  Space : ℕ → Line
  Words : List ℕ → Line
  Bytes : List ℕ → Line
  Text : List ℕ → Line

-- a byte of a string as it is written, with its escape
abbrev pub escaped : ℕ → List ℕ
escaped c =
    if c == 10 then 92 ∷ 110 ∷ [] else
    if c == 9 then 92 ∷ 116 ∷ [] else
    if c == 0 then 92 ∷ 48 ∷ [] else
    if c == 34 then 92 ∷ 34 ∷ [] else
    if c == 92 then 92 ∷ 92 ∷ [] else
    c ∷ []

abbrev pub escaped_text : List ℕ → List ℕ
escaped_text [] = []
escaped_text (c ∷ text) = escaped c ++ escaped_text text

-- the bytes that a string can hold
abbrev pub is_in_string : ℕ → Bool
is_in_string c = is_in_range 32 126 c || (is_in_range 128 255 c || (c == 10 || (c == 9 || c == 0)))

-- a line as it is written, without its newline; items stand after a tab
abbrev pub written_line : Line → List ℕ
written_line (Enter Code) = codes "\t.text"
written_line (Enter Statics) = codes "\t.data"
written_line (Globl name) = codes "\t.globl" ++ joined (name ∷ [])
written_line (Label name) = name ++ codes ":"
written_line (One one target) = codes "\t" ++ line_of one target
written_line (La r label) = codes "\tla" ++ joined (register_name r ∷ label ∷ [])
written_line (Align power) = codes "\t.align" ++ joined (decimal power ∷ [])
written_line (Space n) = codes "\t.space" ++ joined (decimal n ∷ [])
written_line (Words ns) = codes "\t.word" ++ joined (map decimal ns)
written_line (Bytes ns) = codes "\t.byte" ++ joined (map decimal ns)
written_line (Text bytes) = codes "\t.ascii \"" ++ (escaped_text bytes ++ codes "\"")

-- a text: each line ends by its newline
abbrev pub text_of : List Line → List ℕ
text_of [] = []
text_of (l ∷ ls) = written_line l ++ (10 ∷ text_of ls)

-- what a line is read as
abbrev pub unsigned : ℕ → Signed
unsigned n = record { negative = false; size = n }

abbrev pub reads_item : items.Item → Reading
reads_item i = record { labels = []; item = i }

abbrev pub reading_of : Line → Reading
reading_of (Enter segment) = reads_item (items.Section segment)
reading_of (Globl name) = reads_item items.Nothing
reading_of (Label name) = record { labels = name ∷ []; item = items.Nothing }
reading_of (One one target) = reads_item (items.Words (coded_row one target ∷ []))
reading_of (La r label) = reads_item (items.Words (items.Upper r label ∷ items.Lower r label ∷ []))
reading_of (Align power) = reads_item (items.Data' (2 ^ power) [])
reading_of (Space n) = reads_item (items.Data' 1 (items.Zeros n ∷ []))
reading_of (Words ns) = reads_item (items.Data' 4 (map (λ n. items.Value (unsigned n)) ns))
reading_of (Bytes ns) = reads_item (items.Data' 1 (map (λ n. items.Single (unsigned n)) ns))
reading_of (Text bytes) = reads_item (items.Data' 1 (items.Bytes bytes ∷ []))

-- what a text is read as; after the last newline an empty line follows
abbrev pub readings_of : List Line → List Reading
readings_of [] = reads_item items.Nothing ∷ []
readings_of (l ∷ ls) = reading_of l ∷ readings_of ls

-- a line that may stand in a segment, and whose fields fit
abbrev pub StandsIn : Segment → Line → Type 0
StandsIn segment (Enter other) = Unit {0}
StandsIn segment (Globl name) = IsTrue (is_label name)
StandsIn segment (Label name) = IsTrue (is_label name)
StandsIn Code (One one target) =
    IsRow (unlabelled_row one) × (IsTrue (takes_label one) → IsTrue (is_label target))
StandsIn Code (La r label) = (r < 32) × IsTrue (is_label label)
StandsIn Statics (Align power) = power ≤ 3
StandsIn Statics (Space n) = n ≤ most_bytes
StandsIn Statics (Words ns) = (0 < length ns) × All (λ n. n < 2 ^ 32) ns
StandsIn Statics (Bytes ns) = (0 < length ns) × All (λ n. n < 2 ^ 8) ns
StandsIn Statics (Text bytes) = All (λ c. IsTrue (is_in_string c)) bytes
StandsIn Code l = ⊥
StandsIn Statics l = ⊥

abbrev pub AreLines : Segment → List Line → Type 0
AreLines segment [] = Unit {0}
AreLines segment (l ∷ ls) =
    StandsIn segment l × AreLines (segment_behind segment (reading_of l).item) ls
