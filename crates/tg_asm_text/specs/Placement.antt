-- Where the items and the labels of a text stand, and the image that they make (SPIM manual,
-- assembler syntax).
use Rattle.std.specs.Prelude.{ℕ, ◌+◌, ◌-◌, ◌*◌, ◌/◌, ◌%◌, ◌^◌, ◌≡◌, ◌≢◌, ◌<◌, ◌≤◌, ⊤, List, [], ◌∷◌}
use Rattle.std.specs.Prelude.{◌++◌, length, map, replicate, AllPairs, if◌then◌else◌, codes, Option}
use Rattle.std.specs.Prelude.{Some, None, Ok, IsSome}
use Rattle.std.specs.Str.{bytes_eq}
use Rattle.tg_machine_state.specs.State.{code_base, statics_base, most_words, most_bytes}
use Rattle.tg_isa.specs.declared.mips.Mips.TheVariants as row
use Rattle.tg_asm_text.specs.declared.keywords.Segment.{Segment}
use Rattle.tg_asm_text.specs.declared.keywords.Segment.TheVariants.{Code, Statics}
use Rattle.tg_isa.specs.Table.{word_of}
use Rattle.tg_asm_text.specs.Operands.{field}
use Rattle.tg_asm_text.specs.Items.{Item, Section, Words, Data', Coded, Fixed, Branch, Jump, Upper}
use Rattle.tg_asm_text.specs.Items.{Lower, Datum, Value, AddressOfLabel, Single, Bytes, Zeros}
use Rattle.tg_asm_text.specs.Items.{widths}
use Rattle.tg_asm_text.specs.Assembly.{Reading, reading, Assembled, round_up, with_offset}
use Rattle.tg_asm_text.specs.Assembly.{with_target, word_bytes}

-- the segment in force after an item
abbrev pub segment_behind : Segment → Item → Segment
segment_behind segment (Section other) = other
segment_behind segment i = segment

-- These lines are read so, from a segment on.
abbrev pub Reads : Segment → List (List ℕ) → List Reading → Type 0
Reads segment [] [] = ⊤
Reads segment [] (r ∷ rs) = ⊥
Reads segment (line ∷ lines) [] = ⊥
Reads segment (line ∷ lines) (r ∷ rs) =
    (reading segment line ≡ Ok r) × Reads (segment_behind segment r.item) lines rs

-- the code: the words of all items in order
abbrev pub item_words : Item → List Coded
item_words (Words ws) = ws
item_words i = []

abbrev pub code_in : List Reading → List Coded
code_in [] = []
code_in (r ∷ rs) = item_words r.item ++ code_in rs

-- where the statics end after an item, and after all items, from a byte on
abbrev pub byte_behind : ℕ → Item → ℕ
byte_behind byte (Data' multiple ds) = round_up byte multiple + widths ds
byte_behind byte i = byte

abbrev pub last_byte : ℕ → List Reading → ℕ
last_byte byte [] = byte
last_byte byte (r ∷ rs) = last_byte (byte_behind byte r.item) rs

-- where the next item of the statics begins, after its padding, or where the statics end
abbrev pub begins_at : ℕ → Item → (later : ℕ) → ℕ
begins_at byte (Data' multiple ds) later = round_up byte multiple
begins_at byte i later = later

abbrev pub next_byte : ℕ → List Reading → ℕ
next_byte byte [] = byte
next_byte byte (r ∷ rs) = begins_at byte r.item (next_byte byte rs)

-- A position: a word of the code, or a byte of the statics.
pub data Position : Type 0 where
  AtWord : ℕ → Position
  AtByte : ℕ → Position

abbrev pub address_at : Position → ℕ
address_at (AtWord n) = code_base + 4 * n
address_at (AtByte n) = statics_base + n

-- where the next item of a segment begins, after so many words and bytes
abbrev pub next_position : Segment → (word byte : ℕ) → List Reading → Position
next_position Code word byte rs = AtWord word
next_position Statics word byte rs = AtByte (next_byte byte rs)

-- A label stands where the next item of its segment begins.
abbrev pub Positions : Type 0
Positions = List (List ℕ × Position)

abbrev pub positions_from : Segment → (word byte : ℕ) → List Reading → Positions
positions_from segment word byte [] = []
positions_from segment word byte (r ∷ rs) =
    map (λ name. (name, next_position segment word byte (r ∷ rs))) r.labels
    ++ positions_from (segment_behind segment r.item)
    (word + length (item_words r.item)) (byte_behind byte r.item) rs

abbrev pub positions : List Reading → Positions
positions rs = positions_from Code 0 0 rs

abbrev pub labels_in : List Reading → List (List ℕ)
labels_in [] = []
labels_in (r ∷ rs) = r.labels ++ labels_in rs

abbrev pub position_of : Positions → List ℕ → Option Position
position_of [] name = None
position_of (p ∷ ps) name = if bytes_eq name p.0 then Some p.1 else position_of ps name

-- the address of a label, and the word of the code at which it stands
abbrev pub found_address : Option Position → ℕ
found_address (Some p) = address_at p
found_address None = 0

abbrev pub found_word : Option Position → ℕ
found_word (Some (AtWord n)) = n
found_word (Some (AtByte n)) = 0
found_word None = 0

-- the offset of a branch: words from the next one on, in 16 bits
abbrev pub offset_to : (at to : ℕ) → ℕ
offset_to at to = (to + 2 ^ 16 - (at + 1)) % 2 ^ 16

-- a word of the code
abbrev pub placed_word : Positions → (at : ℕ) → Coded → ℕ
placed_word ps at (Fixed one) = word_of one
placed_word ps at (Branch one label) =
    word_of (with_offset one (offset_to at (found_word (position_of ps label))))
placed_word ps at (Jump one label) =
    word_of (with_target one (code_base / 4 + found_word (position_of ps label)))
placed_word ps at (Upper r label) =
    word_of (row.Lui r (found_address (position_of ps label) / 2 ^ 16))
placed_word ps at (Lower r label) =
    word_of (row.Ori r r (found_address (position_of ps label) % 2 ^ 16))

abbrev pub placed_words : Positions → (at : ℕ) → List Coded → List ℕ
placed_words ps at [] = []
placed_words ps at (c ∷ cs) = placed_word ps at c ∷ placed_words ps (at + 1) cs

-- the bytes of the statics: those of each item, after its padding
abbrev pub placed_datum : Positions → Datum → List ℕ
placed_datum ps (Value n) = word_bytes (field 32 n)
placed_datum ps (AddressOfLabel label) = word_bytes (found_address (position_of ps label))
placed_datum ps (Single n) = field 8 n ∷ []
placed_datum ps (Bytes bytes) = bytes
placed_datum ps (Zeros n) = replicate n 0

abbrev pub placed_data : Positions → List Datum → List ℕ
placed_data ps [] = []
placed_data ps (d ∷ ds) = placed_datum ps d ++ placed_data ps ds

abbrev pub placed_item : Positions → (byte : ℕ) → Item → List ℕ
placed_item ps byte (Data' multiple ds) =
    replicate (round_up byte multiple - byte) 0 ++ placed_data ps ds
placed_item ps byte i = []

abbrev pub placed_bytes : Positions → (byte : ℕ) → List Reading → List ℕ
placed_bytes ps byte [] = []
placed_bytes ps byte (r ∷ rs) =
    placed_item ps byte r.item ++ placed_bytes ps (byte_behind byte r.item) rs

-- the image of readings; its entry is the place of `main`
abbrev pub image_of : List Reading → Assembled
image_of rs = record {
  code = placed_words (positions rs) 0 (code_in rs);
  statics = placed_bytes (positions rs) 0 rs;
  entry = found_address (position_of (positions rs) (codes "main"));
}

-- a branch at a word reaches a label; a jump in so many words of code reaches one
abbrev pub BranchReaches : (at : ℕ) → Option Position → Type 0
BranchReaches at (Some (AtWord to)) = (to ≤ at + 32768) × (at + 1 ≤ to + 32768)
BranchReaches at (Some (AtByte to)) = ⊥
BranchReaches at None = ⊥

abbrev pub JumpReaches : (words : ℕ) → Option Position → Type 0
JumpReaches words (Some (AtWord to)) = to < words
JumpReaches words (Some (AtByte to)) = ⊥
JumpReaches words None = ⊥

-- the label of a word of the code stands, and is within its reach
abbrev pub WordReaches : Positions → (words at : ℕ) → Coded → Type 0
WordReaches ps words at (Fixed one) = ⊤
WordReaches ps words at (Branch one label) = BranchReaches at (position_of ps label)
WordReaches ps words at (Jump one label) = JumpReaches words (position_of ps label)
WordReaches ps words at (Upper r label) = IsSome (position_of ps label)
WordReaches ps words at (Lower r label) = IsSome (position_of ps label)

abbrev pub WordsReach : Positions → (words at : ℕ) → List Coded → Type 0
WordsReach ps words at [] = ⊤
WordsReach ps words at (c ∷ cs) = WordReaches ps words at c × WordsReach ps words (at + 1) cs

-- the labels that data name stand
abbrev pub DatumStands : Positions → Datum → Type 0
DatumStands ps (AddressOfLabel label) = IsSome (position_of ps label)
DatumStands ps d = ⊤

abbrev pub DataStand : Positions → List Datum → Type 0
DataStand ps [] = ⊤
DataStand ps (d ∷ ds) = DatumStands ps d × DataStand ps ds

abbrev pub ItemStands : Positions → Item → Type 0
ItemStands ps (Data' multiple ds) = DataStand ps ds
ItemStands ps i = ⊤

abbrev pub ItemsStand : Positions → List Reading → Type 0
ItemsStand ps [] = ⊤
ItemsStand ps (r ∷ rs) = ItemStands ps r.item × ItemsStand ps rs

-- Readings without a fault of A4, A8, A5, A6, A9.
pub record IsSound (rs : List Reading) : Type 0 where
  pub labels_differ : AllPairs (λ a b. a ≢ b) (labels_in rs)
  pub code_fits : length (code_in rs) ≤ most_words
  pub statics_fit : last_byte 0 rs ≤ most_bytes
  pub words_reach : WordsReach (positions rs) (length (code_in rs)) 0 (code_in rs)
  pub items_stand : ItemsStand (positions rs) rs
  pub main_stands : JumpReaches (length (code_in rs)) (position_of (positions rs) (codes "main"))
