-- What a step of the code leaves, by what the step of the definition does.
use Rattle.std.specs.Prelude.{ℕ, ◌≡◌, ◌≤◌, ◌<◌, ◌+◌, List, [], ◌∷◌, length, slice_index, Option}
use Rattle.std.specs.Prelude.{Some, None, Result, Ok, Err, Bool, true, false}
use Rattle.std.specs.Io.KnownBytes.{Appends, Consumes, Keeps}
use Rattle.tg_machine_state.specs.declared.ends.RunEnd.{RunEnd}
use Rattle.tg_machine_state.specs.declared.ends.RunEnd.TheVariants.{StepLimit, ReadFault}
use Rattle.tg_machine_state.specs.declared.ends.RunEnd.TheVariants.{WriteFault}
use Rattle.tg_base.specs.Causes.{Rose}
use Rattle.tg_base.specs.Writes.{TakesAll, TakesPrefix}
use Rattle.tg_machine_state.specs.State.{MachineState, go, load_byte, stack_top}
use Rattle.tg_machine_state.specs.Services.{Step, Goes, Ends, Reads, Writes, answered, text_at}
use Rattle.tg_machine.specs.Ran.{MeetsEnd, saturating_sum}

-- an end that the machine comes to itself, with no limit of steps and no fault of a source or a
-- sink
abbrev pub IsOwn : RunEnd → Type 0
IsOwn StepLimit = ⊥
IsOwn ReadFault = ⊥
IsOwn WriteFault = ⊥
IsOwn _ = Unit {0}

-- a call that neither reads nor writes left this state, or ended so
abbrev pub IsDone : {T : Type 0} → Step → Result T RunEnd → MachineState → Type 0
IsDone (Goes s) (Ok done) new = new ≡ s
IsDone (Goes s) (Err f) new = ⊥
IsDone (Ends e) (Ok done) new = ⊥
IsDone (Ends e) (Err f) new = (f ≡ e) × IsOwn f
IsDone (Reads s) result new = ⊥
IsDone (Writes bytes s) result new = ⊥

-- a row that neither reads nor writes left this state but for its place, which was answered, or
-- ended so
abbrev pub RowIsDone : Step → Result ℕ RunEnd → MachineState → Type 0
RowIsDone (Goes s) (Ok place) new = go new place ≡ s
RowIsDone (Goes s) (Err f) new = ⊥
RowIsDone (Ends e) (Ok place) new = ⊥
RowIsDone (Ends e) (Err f) new = (f ≡ e) × IsOwn f
RowIsDone (Reads s) result new = ⊥
RowIsDone (Writes bytes s) result new = ⊥

-- A read was answered by the source's next byte; or by its end, which from then on is answered
-- again with no more asked.
abbrev pub Answers : {I : Type 0} → (left : I → Option (List ℕ)) → (input input' : I) →
    (ended ended' : Bool) → Option ℕ → Type 0
Answers left input input' ended ended' (Some b) =
    (b < 256) × Consumes (left input) (left input') (b ∷ []) × (ended ≡ false) × (ended' ≡ false)
Answers left input input' ended ended' None =
    Keeps (left input) (left input') × MeetsEnd left ended true [] input input' × (ended' ≡ true)

-- a read failed, and the source's bytes are as they were
abbrev pub IsUnanswered : {I : Type 0} → (left : I → Option (List ℕ)) → (input input' : I) →
    (ended ended' : Bool) → Type 0
IsUnanswered left input input' ended ended' =
    Keeps (left input) (left input') × (ended ≡ false) × (ended' ≡ false)

-- a read was answered, and the core goes on with the answer; or it failed
abbrev pub HasRead : {T I : Type 0} → (left : I → Option (List ℕ)) (faults : I → ℕ) →
    (after new : MachineState) (input input' : I) (ended ended' : Bool) → Result T RunEnd → Type 0
HasRead left faults after new input input' ended ended' (Ok done) =
    (answer : Option ℕ) × Answers left input input' ended ended' answer
    × (new ≡ answered after answer)
HasRead left faults after new input input' ended ended' (Err e) =
    (e ≡ ReadFault) × IsUnanswered left input input' ended ended'
    × Rose (faults input) (faults input')

-- a write was whole, and is saturating_sum; or it failed
abbrev pub HasWritten : {T : Type 0} → List ℕ →
    (old_taken new_taken : Option (List ℕ)) (old_faults new_faults old_written new_written : ℕ) →
    Result T RunEnd → Type 0
HasWritten bytes old_taken new_taken old_faults new_faults old_written new_written (Ok done) =
    Appends old_taken new_taken bytes × (new_written ≡ saturating_sum old_written (length bytes))
HasWritten bytes old_taken new_taken old_faults new_faults old_written new_written (Err e) =
    (e ≡ WriteFault) × TakesPrefix old_taken new_taken bytes × Rose old_faults new_faults
    × (new_written ≡ old_written)

-- what a step of the code leaves of the core, of the source, of the sink, of the count of bytes
-- written, and of whether the input has ended
abbrev pub Moved : {T I O : Type 0} →
    (left : I → Option (List ℕ)) (read_faults : I → ℕ)
    (taken : O → Option (List ℕ)) (write_faults : O → ℕ) →
    Step → Result T RunEnd → (new : MachineState) (input input' : I) (out out' : O)
    (written written' : ℕ) (ended ended' : Bool) → Type 0
Moved left read_faults taken write_faults (Goes s)
    result new input input' out out' written written' ended ended' =
    IsDone (Goes s) result new × (input' ≡ input) × (out' ≡ out) × (written' ≡ written)
    × (ended' ≡ ended)
Moved left read_faults taken write_faults (Ends e)
    result new input input' out out' written written' ended ended' =
    IsDone (Ends e) result new × (input' ≡ input) × (out' ≡ out) × (written' ≡ written)
    × (ended' ≡ ended)
Moved left read_faults taken write_faults (Reads s)
    result new input input' out out' written written' ended ended' =
    HasRead left read_faults s new input input' ended ended' result
    × (read_faults input ≤ read_faults input') × (out' ≡ out) × (written' ≡ written)
Moved left read_faults taken write_faults (Writes bytes s)
    result new input input' out out' written written' ended ended' =
    HasWritten bytes (taken out) (taken out')
    (write_faults out) (write_faults out') written written' result
    × (write_faults out ≤ write_faults out') × (input' ≡ input) × (new ≡ s)
    × (ended' ≡ ended)

-- these so many bytes are the text at an address, each is loaded, and the 0 after them is below
-- the top of the stack
pub record IsText (s : MachineState) (a n : ℕ) (text : List ℕ) : Type 0 where
  pub found : text_at s a ≡ Ok text
  pub size : length text ≡ n
  pub low : a + n < stack_top
  pub loads : (k : ℕ) → k < n → load_byte s (a + k) ≡ Ok (slice_index text k)

-- the text at an address has so many bytes
abbrev pub HasText : MachineState → (a n : ℕ) → Type 0
HasText s a n = (text : List ℕ) × IsText s a n text

-- these so many bytes stand at an address
abbrev pub IsPiece : MachineState → (a n : ℕ) → List ℕ → Type 0
IsPiece s a n piece =
    (length piece ≡ n)
    × ((k : ℕ) → k < n → load_byte s (a + k) ≡ Ok (slice_index piece k))

-- a sink took so many bytes at an address, or failed and took a prefix of them
abbrev pub TakesPiece : {T E : Type 0} → MachineState → (a n : ℕ) →
    (old new : Option (List ℕ)) → Result T E → Type 0
TakesPiece s a n old new result =
    (piece : List ℕ) × IsPiece s a n piece × TakesAll old new result piece

-- a call that writes the text at an address wrote it whole, or failed; or ended as the text's load
-- does
abbrev pub HasPut : {T : Type 0} → {O : Type 0} → (taken : O → Option (List ℕ)) (faults : O → ℕ) →
    Result (List ℕ) RunEnd → (old new : O) (old_written new_written : ℕ) → Result T RunEnd → Type 0
HasPut taken faults (Ok text) old new old_written new_written result =
    HasWritten text (taken old) (taken new) (faults old) (faults new) old_written new_written result
    × (faults old ≤ faults new)
HasPut taken faults (Err e) old new old_written new_written (Ok done) = ⊥
HasPut taken faults (Err e) old new old_written new_written (Err f) =
    (f ≡ e) × IsOwn f × (new ≡ old) × (new_written ≡ old_written)
