-- What memory has at a call of the runtime: strings and arrays as blocks of bytes.
use Rattle.std.specs.Prelude.{ℕ, zero, suc, ◌+◌, ◌*◌, ◌%◌, ◌≡◌, ◌≤◌, ◌<◌, List, [], ◌++◌, length}
use Rattle.std.specs.Prelude.{Some}
use Rattle.std.specs.Int.{to_le_bytes, w32}
use Rattle.tg_machine_state.specs.State.{word_at, heap_base, most_bytes, most_room}
use Rattle.tg_simulation.specs.Bytes.{AreBytes}
use Rattle.tg_tree.specs.Memory.{Memory, load, string_block}

-- How the heap has an array: a word of length, and the elements.

abbrev pub elements_block : (count value : ℕ) → List ℕ
elements_block zero value = []
elements_block (suc n) value = to_le_bytes w32 value ++ elements_block n value

abbrev pub array_block : (count value : ℕ) → List ℕ
array_block count value = to_le_bytes w32 count ++ elements_block count value

-- The statics end before the heap begins; both are whole words of bytes, and the heap is within
-- what the machine has.
pub record IsWhole (m : Memory) : Type 0 where
  pub statics : length m.statics ≤ most_bytes
  pub static_words : length m.statics % 4 ≡ 0
  pub static_bytes : AreBytes m.statics
  pub heap : length m.heap ≤ most_room
  pub heap_words : length m.heap % 4 ≡ 0
  pub heap_bytes : AreBytes m.heap

-- memory at a call: the taken heap is within its room, of which there is no more than the machine
-- has
pub record IsMemory (room : ℕ) (m : Memory) : Type 0 where
  pub whole : IsWhole m
  pub taken : length m.heap ≤ room
  pub most : room ≤ most_room

-- A string stands at an address, word by word, its padding too; so nothing but its own bytes is
-- there, and a copy of its words has zeros after its bytes. It ends where the taken heap does, or
-- before: so no block that is taken later covers it.
pub record IsStringAt (m : Memory) (a : ℕ) (bytes : List ℕ) : Type 0 where
  pub aligned : a % 4 ≡ 0
  pub below : a + length (string_block bytes) ≤ heap_base + length m.heap
  pub each : AreBytes bytes
  pub words :
      (k : ℕ) →
      4 * k < length (string_block bytes) →
      load m (a + 4 * k) ≡ Some (word_at (string_block bytes) (4 * k))
