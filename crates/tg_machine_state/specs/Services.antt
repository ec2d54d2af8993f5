-- The services of the system (SPIM manual, table of system services).
use Rattle.std.specs.Prelude.{ℕ, zero, suc, ◌+◌, ◌*◌, ◌/◌, ◌%◌, List, [], ◌∷◌, ◌++◌, length}
use Rattle.std.specs.Prelude.{replicate, true, false, if◌then◌else◌, ◌==◌, nat_lt, Option, Some}
use Rattle.std.specs.Prelude.{None, Result, Ok, Err, pos}
use Rattle.tg_machine_state.specs.declared.ends.RunEnd.{RunEnd}
use Rattle.tg_machine_state.specs.declared.ends.RunEnd.TheVariants.{Exit, HeapFull, BadAddress}
use Rattle.tg_machine_state.specs.declared.ends.RunEnd.TheVariants.{BadService}
use Rattle.tg_base.specs.Words.{signed}
use Rattle.std.specs.Fmt.{signed_decimal}
use Rattle.tg_machine_state.specs.State.{MachineState, heap_base, register, set_register, load_byte}

-- What one step does: it goes on in a state, ends, asks for a byte of input and goes on in a state
-- with the answer,
-- or writes bytes and then goes on in a state.
pub data Step : Type 0 where
  Goes : MachineState → Step
  Ends : RunEnd → Step
  Reads : MachineState → Step
  Writes : List ℕ → MachineState → Step

-- a number of bytes, rounded up to words
abbrev pub whole_words : ℕ → ℕ
whole_words n = (n + 3) / 4 * 4

-- service 9: more bytes of heap
abbrev pub take_heap : MachineState → ℕ → Step
take_heap s n =
    if nat_lt s.room (length s.heap + n) then Ends HeapFull else
    Goes (set_register (record s { heap = s.heap ++ replicate n 0 }) 2 (heap_base + length s.heap))

-- a byte before a text
abbrev pub before : ℕ → Result (List ℕ) RunEnd → Result (List ℕ) RunEnd
before b (Ok bytes) = Ok (b ∷ bytes)
before b (Err e) = Err e

-- service 4: the bytes from an address on, up to a 0 byte, at most so many; or how the first load
-- that isn't served ends
abbrev pub text_from : ℕ → MachineState → ℕ → Result (List ℕ) RunEnd
text_from zero s a = Err (BadAddress a)
text_from (suc n) s a =
    elim (load_byte s a) as (λ _. Result (List ℕ) RunEnd) [
      | Ok b ↦ elim (b == 0) as (λ _. Result (List ℕ) RunEnd) [
        | true ↦ Ok []
        | false ↦ before b (text_from n s (a + 1))
      ]
      | Err e ↦ Err e
    ]

-- no text is longer than the memory
abbrev pub text_at : MachineState → ℕ → Result (List ℕ) RunEnd
text_at s a = text_from (length s.statics + length s.heap + length s.stack + 1) s a

abbrev pub write_text : MachineState → Result (List ℕ) RunEnd → Step
write_text s (Ok bytes) = Writes bytes s
write_text s (Err e) = Ends e

-- the service that $v0 names, with its argument in $a0, in a state whose place is the next one
abbrev pub service : MachineState → Step
service s =
    let asked = register s 2 in
    let argument = register s 4 in
    if asked == 1 then Writes (signed_decimal (signed argument)) s else
    if asked == 4 then write_text s (text_at s argument) else
    if asked == 9 then take_heap s (whole_words argument) else
    if asked == 10 then Ends (Exit (pos 0)) else
    if asked == 11 then Writes (argument % 256 ∷ []) s else
    if asked == 12 then Reads s else
    if asked == 17 then Ends (Exit (signed argument)) else
    Ends (BadService asked)

-- service 12: $v0 gets the byte that was read, or -1 at the end of input
abbrev pub answered : MachineState → Option ℕ → MachineState
answered s (Some b) = set_register s 2 b
answered s None = set_register s 2 4294967295
