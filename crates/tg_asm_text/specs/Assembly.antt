-- The assembly relation: which image a text is, or its first fault with its line (SPIM manual,
-- assembler syntax).
use Rattle.std.specs.Prelude.{ℕ, ◌+◌, ◌-◌, ◌/◌, ◌%◌, ◌^◌, List, [], ◌∷◌, ◌++◌, length, replicate}
use Rattle.std.specs.Prelude.{slice_index_or, ◌==◌, nat_le, nat_lt, if◌then◌else◌, codes, Option}
use Rattle.std.specs.Prelude.{Some, None, Result, Ok, Err}
use Rattle.std.specs.Str.{bytes_eq}
use Rattle.tg_machine_state.specs.State.{code_base, statics_base, most_words, most_bytes}
use Rattle.tg_base.specs.Words.{add, mul}
use Rattle.tg_isa.specs.declared.mips.Mips.{Mips}
use Rattle.tg_isa.specs.declared.mips.Mips.TheVariants as row
use Rattle.tg_asm_text.specs.declared.keywords.Keyword.{Keyword}
use Rattle.tg_asm_text.specs.declared.keywords.Segment.{Segment}
use Rattle.tg_asm_text.specs.declared.keywords.Segment.TheVariants.{Code, Statics}
use Rattle.tg_asm_text.specs.declared.keywords.AsmRule.{AsmRule}
use Rattle.tg_asm_text.specs.declared.keywords.AsmRule.TheVariants.{A1, A2, A4, A5, A6, A8, A9}
use Rattle.tg_isa.specs.Table.{word_of}
use Rattle.tg_asm_text.specs.Lines.{lines, Cut, cut, Operand}
use Rattle.tg_asm_text.specs.Operands.{field}
use Rattle.tg_asm_text.specs.Items.{keyword, may_stand_in, Item, Nothing, Section, Words, Data'}
use Rattle.tg_asm_text.specs.Items.{item, Coded, Fixed, Branch, Jump, Upper, Lower, Datum, Value}
use Rattle.tg_asm_text.specs.Items.{AddressOfLabel, Single, Bytes, Zeros, widths}

-- Lines to items: the labels and the item of a line that stands in a segment, or the first fault of
-- A1, A2, A3, A7.
pub record Reading : Type 0 where
  pub labels : List (List ℕ)
  pub item : Item

abbrev pub with_labels : List (List ℕ) → Result Item AsmRule → Result Reading AsmRule
with_labels labels (Ok i) = Ok (record { labels = labels; item = i })
with_labels labels (Err e) = Err e

abbrev pub read_known : Segment → List (List ℕ) → List Operand → Option Keyword →
    Result Reading AsmRule
read_known segment labels os (Some k) =
    if may_stand_in k segment then with_labels labels (item k os) else Err A1
read_known segment labels os None = Err A2

abbrev pub read_word : Segment → List (List ℕ) → List Operand → List ℕ → Result Reading AsmRule
read_word segment labels os [] = Ok (record { labels = labels; item = Nothing })
read_word segment labels os (c ∷ word) = read_known segment labels os (keyword (c ∷ word))

abbrev pub read_cut : Segment → Option Cut → Result Reading AsmRule
read_cut segment (Some c) = read_word segment c.labels c.operands c.word
read_cut segment None = Err A1

abbrev pub reading : Segment → List ℕ → Result Reading AsmRule
reading segment line = read_cut segment (cut line)

-- Items to places. A label stands for a word of the code, or for an item of the statics, by its
-- number.
pub data LabelTarget : Type 0 where
  InCode : ℕ → LabelTarget
  InStatics : ℕ → LabelTarget

-- The segment in force, the words of code so far, where each item of the statics begins and where
-- they end so far,
-- and the labels so far.
pub record Layout : Type 0 where
  pub segment : Segment
  pub words : ℕ
  pub starts : List ℕ
  pub size : ℕ
  pub labels : List (List ℕ × LabelTarget)

abbrev pub blank : Layout
blank = record { segment = Code; words = 0; starts = []; size = 0; labels = [] }

-- the place of the next item of the segment in force
abbrev pub next_spot : Layout → Segment → LabelTarget
next_spot l Code = InCode l.words
next_spot l Statics = InStatics (length l.starts)

-- labels to places: the spot of a label
abbrev pub spot_among : List (List ℕ × LabelTarget) → List ℕ → Option LabelTarget
spot_among [] name = None
spot_among (e ∷ es) name = if bytes_eq name e.0 then Some e.1 else spot_among es name

abbrev pub spot_of : Layout → List ℕ → Option LabelTarget
spot_of l name = spot_among l.labels name

abbrev pub add_label : Layout → List ℕ → Layout
add_label l name = record l { labels = l.labels ++ (name, next_spot l l.segment) ∷ [] }

abbrev pub add_new : Layout → List ℕ → Option LabelTarget → Result Layout AsmRule
add_new l name (Some s) = Err A4
add_new l name None = Ok (add_label l name)

abbrev pub add_one : Layout → List ℕ → Result Layout AsmRule
add_one l name = add_new l name (spot_of l name)

abbrev pub add_labels : Layout → List (List ℕ) → Result Layout AsmRule
add_labels l [] = Ok l
add_labels l (name ∷ more) =
    elim (add_one l name) as (λ _. Result Layout AsmRule) [
      | Ok m ↦ add_labels m more
      | Err e ↦ Err e
    ]

-- the first multiple of a number from a place on
abbrev pub round_up : ℕ → ℕ → ℕ
round_up n multiple = n + (multiple - n % multiple) % multiple

abbrev pub add_words : Layout → ℕ → Result Layout AsmRule
add_words l n =
    if nat_le (l.words + n) most_words then Ok (record l { words = l.words + n }) else Err A8

abbrev pub add_data : Layout → (start size : ℕ) → Result Layout AsmRule
add_data l start size =
    if nat_le (start + size) most_bytes
    then Ok (record l { starts = l.starts ++ start ∷ []; size = start + size })
    else Err A8

abbrev pub add_item : Item → Layout → Result Layout AsmRule
add_item Nothing l = Ok l
add_item (Section segment) l = Ok (record l { segment = segment })
add_item (Words ws) l = add_words l (length ws)
add_item (Data' multiple ds) l = add_data l (round_up l.size multiple) (widths ds)

abbrev pub labelled_item : Item → Result Layout AsmRule → Result Layout AsmRule
labelled_item i (Ok l) = add_item i l
labelled_item i (Err e) = Err e

abbrev pub add_reading : Layout → Result Reading AsmRule → Result Layout AsmRule
add_reading l (Ok r) = labelled_item r.item (add_labels l r.labels)
add_reading l (Err e) = Err e

abbrev pub add_line : Layout → List ℕ → Result Layout AsmRule
add_line l line = add_reading l (reading l.segment line)

-- a fault, and its line
pub record Fault : Type 0 where
  pub rule : AsmRule
  pub line : ℕ

-- all lines from a number on: their layout, or the first that has a fault of A1, A2, A3, A7, A4, A8
abbrev pub layout : ℕ → Layout → List (List ℕ) → Result Layout Fault
layout n l [] = Ok l
layout n l (line ∷ more) =
    elim (add_line l line) as (λ _. Result Layout Fault) [
      | Ok m ↦ layout (n + 1) m more
      | Err e ↦ Err (record { rule = e; line = n })
    ]

-- Places to words, by the layout of the whole text.
abbrev pub target_address : Layout → LabelTarget → ℕ
target_address l (InCode i) = add code_base (mul 4 i)
target_address l (InStatics k) = add statics_base (slice_index_or l.starts k l.size)

abbrev pub label_address : Layout → Option LabelTarget → Result ℕ AsmRule
label_address l (Some s) = Ok (target_address l s)
label_address l None = Err A5

-- a row with a field for its label
abbrev pub with_offset : Mips → ℕ → Mips
with_offset (row.Beq rs rt n) k = row.Beq rs rt k
with_offset (row.Bne rs rt n) k = row.Bne rs rt k
with_offset (row.Blez rs n) k = row.Blez rs k
with_offset (row.Bgtz rs n) k = row.Bgtz rs k
with_offset (row.Bltz rs n) k = row.Bltz rs k
with_offset (row.Bgez rs n) k = row.Bgez rs k
with_offset one k = one

abbrev pub with_target : Mips → ℕ → Mips
with_target (row.J n) k = row.J k
with_target (row.Jal n) k = row.Jal k
with_target one k = one

-- the branch at a word to another: forwards, or backwards
abbrev pub branch_word : Mips → (at to : ℕ) → Result ℕ AsmRule
branch_word one at to =
    if nat_lt at to then (
    if nat_le (to - (at + 1)) 32767
    then Ok (word_of (with_offset one (to - (at + 1))))
    else Err A6
    ) else
    if nat_le (at + 1 - to) 32768
    then Ok (word_of (with_offset one (2 ^ 16 - (at + 1 - to))))
    else Err A6

abbrev pub branch_to : Mips → (at : ℕ) → Option LabelTarget → Result ℕ AsmRule
branch_to one at (Some (InCode to)) = branch_word one at to
branch_to one at (Some (InStatics k)) = Err A6
branch_to one at None = Err A5

-- a jump, but not to the code's end
abbrev pub jump_to : Layout → Mips → Option LabelTarget → Result ℕ AsmRule
jump_to l one (Some (InCode to)) =
    if nat_lt to l.words then Ok (word_of (with_target one (code_base / 4 + to))) else Err A6
jump_to l one (Some (InStatics k)) = Err A6
jump_to l one None = Err A5

abbrev pub upper : ℕ → Result ℕ AsmRule → Result ℕ AsmRule
upper r (Ok place) = Ok (word_of (row.Lui r (place / 2 ^ 16)))
upper r (Err e) = Err e

abbrev pub lower : ℕ → Result ℕ AsmRule → Result ℕ AsmRule
lower r (Ok place) = Ok (word_of (row.Ori r r (place % 2 ^ 16)))
lower r (Err e) = Err e

abbrev pub word : Layout → (at : ℕ) → Coded → Result ℕ AsmRule
word l at (Fixed one) = Ok (word_of one)
word l at (Branch one label) = branch_to one at (spot_of l label)
word l at (Jump one label) = jump_to l one (spot_of l label)
word l at (Upper r label) = upper r (label_address l (spot_of l label))
word l at (Lower r label) = lower r (label_address l (spot_of l label))

-- the four bytes of a word
abbrev pub word_bytes : ℕ → List ℕ
word_bytes v = v % 256 ∷ v / 256 % 256 ∷ v / 65536 % 256 ∷ v / 16777216 % 256 ∷ []

abbrev pub place_bytes : Result ℕ AsmRule → Result (List ℕ) AsmRule
place_bytes (Ok place) = Ok (word_bytes place)
place_bytes (Err e) = Err e

abbrev pub datum_bytes : Layout → Datum → Result (List ℕ) AsmRule
datum_bytes l (Value n) = Ok (word_bytes (field 32 n))
datum_bytes l (AddressOfLabel label) = place_bytes (label_address l (spot_of l label))
datum_bytes l (Single n) = Ok (field 8 n ∷ [])
datum_bytes l (Bytes bytes) = Ok bytes
datum_bytes l (Zeros n) = Ok (replicate n 0)

-- The segment in force, and the code and the statics so far.
pub record Made : Type 0 where
  pub segment : Segment
  pub code : List ℕ
  pub statics : List ℕ

abbrev pub unmade : Made
unmade = record { segment = Code; code = []; statics = [] }

abbrev pub make_words : Layout → Made → List Coded → Result Made AsmRule
make_words l m [] = Ok m
make_words l m (c ∷ more) =
    elim (word l (length m.code) c) as (λ _. Result Made AsmRule) [
      | Ok w ↦ make_words l (record m { code = m.code ++ w ∷ [] }) more
      | Err e ↦ Err e
    ]

abbrev pub make_data : Layout → Made → List Datum → Result Made AsmRule
make_data l m [] = Ok m
make_data l m (d ∷ more) =
    elim (datum_bytes l d) as (λ _. Result Made AsmRule) [
      | Ok bytes ↦ make_data l (record m { statics = m.statics ++ bytes }) more
      | Err e ↦ Err e
    ]

abbrev pub pad : Made → ℕ → Made
pad m multiple =
    record m {
      statics = m.statics
          ++ replicate (round_up (length m.statics) multiple - length m.statics) 0;
    }

abbrev pub make_item : Layout → Made → Item → Result Made AsmRule
make_item l m Nothing = Ok m
make_item l m (Section segment) = Ok (record m { segment = segment })
make_item l m (Words ws) = make_words l m ws
make_item l m (Data' multiple ds) = make_data l (pad m multiple) ds

abbrev pub make_reading : Layout → Made → Result Reading AsmRule → Result Made AsmRule
make_reading l m (Ok r) = make_item l m r.item
make_reading l m (Err e) = Err e

abbrev pub make_line : Layout → Made → List ℕ → Result Made AsmRule
make_line l m line = make_reading l m (reading m.segment line)

-- all lines from a number on: what they make, or the first that has a fault of A5, A6
abbrev pub make : ℕ → Layout → Made → List (List ℕ) → Result Made Fault
make n l m [] = Ok m
make n l m (line ∷ more) =
    elim (make_line l m line) as (λ _. Result Made Fault) [
      | Ok next ↦ make (n + 1) l next more
      | Err e ↦ Err (record { rule = e; line = n })
    ]

-- An image: the code, the statics and the place where it begins.
pub record Assembled : Type 0 where
  pub code : List ℕ
  pub statics : List ℕ
  pub entry : ℕ

-- the number of the last line: bytes 10 with a byte after them, and one more
abbrev pub count_line : ℕ → List ℕ → ℕ → ℕ
count_line c [] n = n
count_line c (d ∷ text) n = if c == 10 then n + 1 else n

abbrev pub last_line_number : List ℕ → ℕ
last_line_number [] = 1
last_line_number (c ∷ text) = count_line c text (last_line_number text)

-- the entry is the place of `main`, which is in the code and not at its end
abbrev pub entry_at : Layout → Option LabelTarget → Option ℕ
entry_at l (Some (InCode i)) = if nat_lt i l.words then Some (target_address l (InCode i)) else None
entry_at l (Some (InStatics k)) = None
entry_at l None = None

abbrev pub entry_point : Layout → Option ℕ
entry_point l = entry_at l (spot_of l (codes "main"))

abbrev pub enter : List ℕ → Made → Option ℕ → Result Assembled Fault
enter text m (Some place) = Ok (record { code = m.code; statics = m.statics; entry = place })
enter text m None = Err (record { rule = A9; line = last_line_number text })

abbrev pub finish : List ℕ → Layout → Result Made Fault → Result Assembled Fault
finish text l (Ok m) = enter text m (entry_point l)
finish text l (Err f) = Err f

abbrev pub fill_in : List ℕ → Result Layout Fault → Result Assembled Fault
fill_in text (Ok l) = finish text l (make 1 l unmade (lines text))
fill_in text (Err f) = Err f

-- the image of a text, or its first fault
abbrev pub assembled : List ℕ → Result Assembled Fault
assembled text = fill_in text (layout 1 blank (lines text))
