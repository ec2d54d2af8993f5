-- A look at a machine that has run an assembly text up to a stop.
use Rattle.std.specs.Prelude.{ℕ, ◌≡◌, ◌<◌, ◌*◌, ◌/◌, ◌==◌, [], List, length, min, slice_index}
use Rattle.std.specs.Prelude.{if◌then◌else◌, nat_lt, Option, Some, None, Result, Ok, Err}
use Rattle.std.specs.Prelude.{EachIndex, is_some}
use Rattle.tg_base.specs.InMemory.{RoomBytes, empty_room}
use Rattle.tg_base.specs.PlainBytes.{PlainBytes}
use Rattle.tg_machine_state.specs.declared.ends.RunEnd.{RunEnd}
use Rattle.tg_machine_state.specs.State.{MachineState, register, load_word, most_room}
use Rattle.tg_isa.specs.declared.images.Image.{Image}
use Rattle.tg_asm_text.specs.declared.keywords.AsmRule.{AsmRule}
use Rattle.tg_asm_text.specs.Assembly.{assembled}
use Rattle.tg_asm.specs.Images.{image_of}
use Rattle.tg_machine.specs.declared.fetches.Seen.{Seen}
use Rattle.tg_machine.specs.Fetches.{seen_next}
use Rattle.tg_machine.specs.Machines.{Simulated, loaded}
use Rattle.tg_page.specs.declared.looking.Place.{Place}
use Rattle.tg_page.specs.Buffers.{IsPut}
use Rattle.tg_page.specs.Stops.{RunsToStop}

-- what is asked: the text, its input, the bytes of heap and of stack, the most steps and those that
-- pass breakpoints over, the places of breakpoints, and the addresses of words
pub record Request : Type 0 where
  pub text : List ℕ
  pub input : List ℕ
  pub heap : ℕ
  pub stack : ℕ
  pub steps : ℕ
  pub passing : ℕ
  pub breakpoints : List ℕ
  pub addresses : List ℕ

-- the buffers that it fills
pub record Buffers : Type 0 where
  pub registers : List ℕ
  pub words : List ℕ
  pub counts : List ℕ
  pub out : List ℕ

-- a size of heap or of stack: what is asked, in whole words, at most the greatest
abbrev pub room_of : ℕ → ℕ
room_of size = min (size / 4) (most_room / 4) * 4

-- the registers by their numbers, then hi and lo
abbrev pub register_told : MachineState → ℕ → ℕ
register_told s k =
    if nat_lt k 32 then register s k else
    if k == 32 then s.hi else
    if k == 33 then s.lo else 0

abbrev pub AreRegisters : MachineState → List ℕ → Type 0
AreRegisters s registers = EachIndex registers (λ k. slice_index registers k ≡ register_told s k)

-- the word at an address, or 2 ^ 32 where none is served
abbrev pub word_told : Result ℕ RunEnd → ℕ
word_told (Ok word) = word
word_told (Err e) = 4294967296

abbrev pub AreWordsAt : MachineState → (addresses words : List ℕ) → Type 0
AreWordsAt s addresses words =
    EachIndex words (λ k. k < length addresses →
    slice_index words k ≡ word_told (load_word s (slice_index addresses k)))

-- the place of the next fetch, and the word there; 0 where nothing is fetched
abbrev pub place_of : Option Seen → ℕ
place_of (Some x) = x.place
place_of None = 0

abbrev pub word_of : Option Seen → ℕ
word_of (Some x) = x.word
word_of None = 0

-- where a machine is, after so many steps that wrote so many bytes
abbrev pub place_told : Simulated → (made written : ℕ) → Place
place_told m made written = record {
  status = 0;
  line = 0;
  made = made;
  ended = if is_some m.end then 1 else 0;
  place = place_of (seen_next m);
  word = word_of (seen_next m);
  out = written;
}

abbrev pub input_left : PlainBytes → Option (List ℕ)
input_left s = Some s.left

abbrev pub output_taken : RoomBytes → Option (List ℕ)
output_taken s = Some s.taken

-- a machine at the start of the image is run to a stop, on the input and a buffer, and looked at
pub record IsLookedAt (q : Request) (old new : Buffers)
    (image : Image) (place : Place) : Type 0 where
  pub machine : Simulated
  pub source : PlainBytes
  pub sink : RoomBytes
  pub run : RunsToStop input_left (λ _. 0) output_taken (λ s. s.counts.faults)
      q.steps q.passing q.breakpoints (loaded image (room_of q.heap) (room_of q.stack)) machine
      (record { left = q.input; calls = 0 }) source (empty_room (length old.out) []) sink
      old.counts new.counts place.made
  pub told : place ≡ place_told machine place.made place.out
  pub out : IsPut sink.taken old.out new.out place.out
  pub registers : AreRegisters machine.state new.registers
  pub words : AreWordsAt machine.state q.addresses new.words

-- no machine, with a status and a line
abbrev pub nowhere : ℕ → ℕ → Place
nowhere status line = record {
  status = status;
  line = line;
  made = 0;
  ended = 0;
  place = 0;
  word = 0;
  out = 0;
}

-- a look at the image of the text; or 65 with the line of its first fault; or 70 where memory ran
-- out, and then the buffers are as they were
pub data IsLook (q : Request) (old new : Buffers) (place : Place) : Type 0 where
  looked : (image : Image) → assembled q.text ≡ Ok (image_of image) →
      IsLookedAt q old new image place → IsLook q old new place
  faulty : (rule : AsmRule) (line : ℕ) →
      assembled q.text ≡ Err (record { rule = rule; line = line }) →
      place ≡ nowhere 65 line → new ≡ old → IsLook q old new place
  no_memory : place ≡ nowhere 70 0 → new ≡ old → IsLook q old new place
