-- The memory of a run of trees: the regions of the machine, where the stack is seen by the slots of
-- open activations.
use Rattle.std.specs.Prelude.{ℕ, zero, suc, ◌+◌, ◌-◌, ◌*◌, ◌/◌, ◌%◌, ◌^◌, ◌==◌, List, [], ◌∷◌, ◌++◌}
use Rattle.std.specs.Prelude.{length, slice_index, slice_set, Option, Some, None, if◌then◌else◌}
use Rattle.std.specs.Int.{to_le_bytes, w32}
use Rattle.tg_machine_state.specs.State.{offset, word_at, set_word, padded, statics_base, heap_base}
use Rattle.tg_tree.specs.Tree.{Literal}

-- A word of the stack: no slot of an open activation; a slot that wasn't stored to since its
-- activation began; what a slot holds; or, in runs of instructions alone, the value that its
-- activation found in a register and must give back.
pub data Cell : Type 0 where
  Closed : Cell
  Unset : Cell
  Has : ℕ → Cell
  Kept : (register : ℕ) → Cell

-- statics and the taken heap as bytes, and the stack by addresses
pub record Memory : Type 0 where
  pub statics : List ℕ
  pub heap : List ℕ
  pub stack : ℕ → Cell

abbrev pub set_cell : ℕ → Cell → (ℕ → Cell) → ℕ → Cell
set_cell a c cells b = if b == a then c else cells b

abbrev pub put : ℕ → Cell → Memory → Memory
put a c m = record m { stack = set_cell a c m.stack }

-- where an address falls
pub data Spot : Type 0 where
  in_statics : ℕ → Spot
  in_heap : ℕ → Spot
  elsewhere : Spot

abbrev pub or_heap : Option ℕ → Option ℕ → Spot
or_heap (Some i) h = in_statics i
or_heap None (Some i) = in_heap i
or_heap None None = elsewhere

abbrev pub spot : Memory → ℕ → Spot
spot m a = or_heap (offset a statics_base (length m.statics)) (offset a heap_base (length m.heap))

-- loads: None where the run goes wrong
abbrev pub cell_word : Cell → Option ℕ
cell_word (Has v) = Some v
cell_word _ = None

abbrev pub word_in : Memory → (address : ℕ) → Spot → Option ℕ
word_in m a (in_statics i) = Some (word_at m.statics i)
word_in m a (in_heap i) = Some (word_at m.heap i)
word_in m a elsewhere = cell_word (m.stack a)

abbrev pub load : Memory → ℕ → Option ℕ
load m a = if a % 4 == 0 then word_in m a (spot m a) else None

-- the byte of a word, the lowest first
abbrev pub byte_of : ℕ → ℕ → ℕ
byte_of v k = v / 256 ^ k % 256

abbrev pub cell_byte : Cell → ℕ → Option ℕ
cell_byte (Has v) k = Some (byte_of v k)
cell_byte _ k = None

abbrev pub byte_in : Memory → (address : ℕ) → Spot → Option ℕ
byte_in m a (in_statics i) = Some (slice_index m.statics i)
byte_in m a (in_heap i) = Some (slice_index m.heap i)
byte_in m a elsewhere = cell_byte (m.stack (a - a % 4)) (a % 4)

abbrev pub load_byte : Memory → ℕ → Option ℕ
load_byte m a = byte_in m a (spot m a)

-- stores: a word into a slot of an open activation, a byte into one that holds a word
abbrev pub put_open : Cell → ℕ → ℕ → Memory → Option Memory
put_open Closed a v m = None
put_open _ a v m = Some (put a (Has v) m)

abbrev pub store_in : Memory → (address : ℕ) → Spot → ℕ → Option Memory
store_in m a (in_statics i) v = Some (record m { statics = set_word m.statics i v })
store_in m a (in_heap i) v = Some (record m { heap = set_word m.heap i v })
store_in m a elsewhere v = put_open (m.stack a) a v m

abbrev pub store : Memory → ℕ → ℕ → Option Memory
store m a v = if a % 4 == 0 then store_in m a (spot m a) v else None

abbrev pub with_byte : ℕ → ℕ → ℕ → ℕ
with_byte w k v = w - byte_of w k * 256 ^ k + v % 256 * 256 ^ k

abbrev pub put_byte : Cell → ℕ → ℕ → ℕ → Memory → Option Memory
put_byte (Has w) a k v m = Some (put a (Has (with_byte w k v)) m)
put_byte _ a k v m = None

abbrev pub store_byte_in : Memory → (address : ℕ) → Spot → ℕ → Option Memory
store_byte_in m a (in_statics i) v = Some (record m { statics = slice_set m.statics i (v % 256) })
store_byte_in m a (in_heap i) v = Some (record m { heap = slice_set m.heap i (v % 256) })
store_byte_in m a elsewhere v = put_byte (m.stack (a - a % 4)) (a - a % 4) (a % 4) v m

abbrev pub store_byte : Memory → ℕ → ℕ → Option Memory
store_byte m a v = store_byte_in m a (spot m a) v

-- Frames. Slot k is the word 4·(k + 1) bytes below the frame address.
abbrev pub slot : (base k : ℕ) → ℕ
slot base k = base - 4 * (k + 1)

-- so many slots become this cell
abbrev pub lay : (base slots : ℕ) → Cell → Memory → Memory
lay base zero c m = m
lay base (suc n) c m = put (slot base n) c (lay base n c m)

-- Strings: a word of length and the bytes, and where they stand in memory zeros after them, up to
-- a multiple of 4.
abbrev pub string_text : List ℕ → List ℕ
string_text bytes = to_le_bytes w32 (length bytes) ++ bytes

abbrev pub string_block : List ℕ → List ℕ
string_block bytes = padded (string_text bytes)

-- Literals stand in the statics in their order, each at a multiple of 4.
abbrev pub statics_of : List Literal → List ℕ
statics_of [] = []
statics_of (l ∷ ls) = padded l.text ++ statics_of ls

abbrev pub literal_from : (at label : ℕ) → List Literal → Option ℕ
literal_from at label [] = None
literal_from at label (l ∷ ls) =
    if l.label == label then Some at else
    literal_from (at + length (padded l.text)) label ls

abbrev pub literal_address : List Literal → ℕ → Option ℕ
literal_address ls label = literal_from statics_base label ls

abbrev pub begin : List Literal → Memory
begin ls = record { statics = statics_of ls; heap = []; stack = λ a. Closed }
