-- What the machine holds, and what its addresses answer (MIPS I manual, memory; SPIM manual,
-- regions).
use Rattle.std.specs.Prelude.{ℕ, ◌+◌, ◌-◌, ◌*◌, ◌/◌, ◌%◌, List, [], ◌++◌, length, replicate}
use Rattle.std.specs.Prelude.{slice_index, slice_set, if◌then◌else◌, ◌&&◌, ◌==◌, nat_lt, nat_le}
use Rattle.std.specs.Prelude.{Option, Some, None, Result, Ok, Err}
use Rattle.tg_machine_state.specs.declared.ends.RunEnd.{RunEnd}
use Rattle.tg_machine_state.specs.declared.ends.RunEnd.TheVariants.{StackFull, BadAddress}
use Rattle.tg_machine_state.specs.declared.ends.RunEnd.TheVariants.{Unaligned}

-- Registers, hi and lo are words; code is a list of words, and each region a list of bytes.
-- heap is the part that was taken, and room its greatest length.
pub record MachineState : Type 0 where
  pub registers : List ℕ
  pub hi : ℕ
  pub lo : ℕ
  pub place : ℕ
  pub code : List ℕ
  pub statics : List ℕ
  pub heap : List ℕ
  pub room : ℕ
  pub stack : List ℕ

-- where the regions begin, and where the stack ends
abbrev pub code_base : ℕ
code_base = 0x00400000

abbrev pub statics_base : ℕ
statics_base = 0x10010000

abbrev pub heap_base : ℕ
heap_base = 0x11000000

abbrev pub stack_top : ℕ
stack_top = 0x7FFFFFFC

-- An address from here on, below the stack's floor, means that the stack is full.
abbrev pub stack_reach : ℕ
stack_reach = 0x40000000

-- the greatest number of words of code, and of bytes of statics, of heap and of stack
abbrev pub most_words : ℕ
most_words = 66060288

abbrev pub most_bytes : ℕ
most_bytes = 16711680

abbrev pub most_room : ℕ
most_room = 268435456

abbrev pub floor : MachineState → ℕ
floor s = stack_top - length s.stack

-- the value of a register, and a register with a new value: register 0 keeps its 0
abbrev pub register : MachineState → ℕ → ℕ
register s r = slice_index s.registers r

abbrev pub set_register : MachineState → ℕ → ℕ → MachineState
set_register s r v = if r == 0 then s else record s { registers = slice_set s.registers r v }

abbrev pub go : MachineState → ℕ → MachineState
go s place = record s { place = place }

-- how far an address is above a base, where it is less than a size
abbrev pub offset : ℕ → ℕ → ℕ → Option ℕ
offset a base size = if nat_le base a && nat_lt a (base + size) then Some (a - base) else None

-- the byte of a region on which an address falls, or how the access ends
pub data RegionByte : Type 0 where
  InStack : ℕ → RegionByte
  InHeap : ℕ → RegionByte
  InStatics : ℕ → RegionByte
  Nowhere : RunEnd → RegionByte

-- an address that no region has: below the stack's floor the stack is full
abbrev pub fault : MachineState → ℕ → RunEnd
fault s a = if nat_le stack_reach a && nat_lt a (floor s) then StackFull else BadAddress a

abbrev pub in_statics : MachineState → ℕ → Option ℕ → RegionByte
in_statics s a (Some i) = InStatics i
in_statics s a None = Nowhere (fault s a)

abbrev pub in_heap : MachineState → ℕ → Option ℕ → RegionByte
in_heap s a (Some i) = InHeap i
in_heap s a None = in_statics s a (offset a statics_base (length s.statics))

abbrev pub in_stack : MachineState → ℕ → Option ℕ → RegionByte
in_stack s a (Some i) = InStack i
in_stack s a None = in_heap s a (offset a heap_base (length s.heap))

abbrev pub spot : MachineState → ℕ → RegionByte
spot s a = in_stack s a (offset a (floor s) (length s.stack))

-- the word at a byte of a region, little endian, and the region with a new word there
abbrev pub word_at : List ℕ → ℕ → ℕ
word_at bytes i =
    slice_index bytes i + 256 * slice_index bytes (i + 1)
    + 65536 * slice_index bytes (i + 2) + 16777216 * slice_index bytes (i + 3)

abbrev pub set_word : List ℕ → ℕ → ℕ → List ℕ
set_word bytes i v =
    let low = slice_set (slice_set bytes i (v % 256)) (i + 1) (v / 256 % 256) in
    slice_set (slice_set low (i + 2) (v / 65536 % 256)) (i + 3) (v / 16777216)

-- what stands at a spot
abbrev pub byte_there : MachineState → RegionByte → Result ℕ RunEnd
byte_there s (InStack i) = Ok (slice_index s.stack i)
byte_there s (InHeap i) = Ok (slice_index s.heap i)
byte_there s (InStatics i) = Ok (slice_index s.statics i)
byte_there s (Nowhere e) = Err e

abbrev pub word_there : MachineState → RegionByte → Result ℕ RunEnd
word_there s (InStack i) = Ok (word_at s.stack i)
word_there s (InHeap i) = Ok (word_at s.heap i)
word_there s (InStatics i) = Ok (word_at s.statics i)
word_there s (Nowhere e) = Err e

-- what a load of an address gives
abbrev pub load_byte : MachineState → ℕ → Result ℕ RunEnd
load_byte s a = byte_there s (spot s a)

abbrev pub load_word : MachineState → ℕ → Result ℕ RunEnd
load_word s a = if a % 4 == 0 then word_there s (spot s a) else Err (Unaligned a)

-- what a store makes of the state
abbrev pub set_byte_there : MachineState → RegionByte → ℕ → Result MachineState RunEnd
set_byte_there s (InStack i) v = Ok (record s { stack = slice_set s.stack i (v % 256) })
set_byte_there s (InHeap i) v = Ok (record s { heap = slice_set s.heap i (v % 256) })
set_byte_there s (InStatics i) v = Ok (record s { statics = slice_set s.statics i (v % 256) })
set_byte_there s (Nowhere e) v = Err e

abbrev pub set_word_there : MachineState → RegionByte → ℕ → Result MachineState RunEnd
set_word_there s (InStack i) v = Ok (record s { stack = set_word s.stack i v })
set_word_there s (InHeap i) v = Ok (record s { heap = set_word s.heap i v })
set_word_there s (InStatics i) v = Ok (record s { statics = set_word s.statics i v })
set_word_there s (Nowhere e) v = Err e

abbrev pub store_byte : MachineState → ℕ → ℕ → Result MachineState RunEnd
store_byte s a v = set_byte_there s (spot s a) v

abbrev pub store_word : MachineState → ℕ → ℕ → Result MachineState RunEnd
store_word s a v = if a % 4 == 0 then set_word_there s (spot s a) v else Err (Unaligned a)

-- bytes with zeros after them up to a multiple of 4
abbrev pub padded : List ℕ → List ℕ
padded bytes = bytes ++ replicate ((4 - length bytes % 4) % 4) 0

-- the machine at the start of a program
abbrev pub initial_machine : (code statics : List ℕ) (entry heap stack : ℕ) → MachineState
initial_machine code statics entry heap stack = record {
  registers = slice_set (replicate 32 0) 29 stack_top;
  hi = 0;
  lo = 0;
  place = entry;
  code = code;
  statics = padded statics;
  heap = [];
  room = heap;
  stack = replicate stack 0;
}
