-- What a call that makes at most so many steps leaves of the machine, of the source and of the
-- sink.
use Rattle.std.specs.Prelude.{ℕ, ◌+◌, ◌-◌, ◌^◌, ◌≡◌, ◌≢◌, ◌<◌, ◌≤◌, ◌⊎◌, ⊤, min, List, [], ◌++◌}
use Rattle.std.specs.Prelude.{length, Bool, true, false, Option, Some, None}
use Rattle.std.specs.Io.KnownBytes.{Appends, Consumes, IsAtEnd}
use Rattle.tg_machine_state.specs.declared.ends.RunEnd.{RunEnd}
use Rattle.tg_machine_state.specs.declared.ends.RunEnd.TheVariants.{StepLimit, ReadFault}
use Rattle.tg_machine_state.specs.declared.ends.RunEnd.TheVariants.{WriteFault}
use Rattle.tg_base.specs.Causes.{Rose}
use Rattle.tg_simulation.specs.Bytes.{AreBytes}
use Rattle.tg_machine_state.specs.State.{MachineState}
use Rattle.tg_machine_state.specs.Services.{Reads, Writes}
use Rattle.tg_isa.specs.Effects.{step}
use Rattle.tg_isa.specs.Runs.{Execution, Running, Ended, run, begun, answers}
use Rattle.tg_machine.specs.Machines.{Simulated}

-- the machine is at a service that reads; or at one that writes these bytes
abbrev pub IsReading : MachineState → Type 0
IsReading s = (after : MachineState) × (step s ≡ Reads after)

abbrev pub IsWriting : MachineState → List ℕ → Type 0
IsWriting s bytes = (after : MachineState) × (step s ≡ Writes bytes after)

-- within so many steps the run comes to a service that reads; or to one that writes
pub record ComesToRead (n : ℕ) (w : Execution) : Type 0 where
  pub steps : ℕ
  pub world : Execution
  pub within : steps < n
  pub comes : run steps w ≡ Running world
  pub reading : IsReading world.machine

pub record ComesToWrite (n : ℕ) (w : Execution) : Type 0 where
  pub steps : ℕ
  pub world : Execution
  pub bytes : List ℕ
  pub within : steps < n
  pub comes : run steps w ≡ Running world
  pub writing : IsWriting world.machine bytes

-- How such a call ends at the last world of the run, after which it wrote `front` of a write that
-- failed:
-- as the run of the definition does, or at a read or a write that failed.
pub data Stops (n : ℕ) (w : Execution) (e : RunEnd) (last : Execution)
    (front : List ℕ) : Type 0 where
  still : run n w ≡ Running last → e ≡ StepLimit → front ≡ [] → Stops n w e last front
  ended : run n w ≡ Ended e last → front ≡ [] → Stops n w e last front
  read_failed : (i : ℕ) → i < n → run i w ≡ Running last → IsReading last.machine →
      e ≡ ReadFault → front ≡ [] → Stops n w e last front
  write_failed : (i : ℕ) (rest : List ℕ) → i < n → run i w ≡ Running last →
      IsWriting last.machine (front ++ rest) → e ≡ WriteFault → Stops n w e last front

-- a sum that stops at the greatest u64
abbrev pub saturating_sum : ℕ → ℕ → ℕ
saturating_sum n more = min (n + more) (2 ^ 64 - 1)

-- the input that may follow what was read: none where its end was met
abbrev pub MayFollow : (ended : Bool) → List ℕ → Type 0
MayFollow true rest = rest ≡ []
MayFollow false rest = ⊤

-- The end of the input is met at most once, where the source has no byte left. From then on nothing
-- is read, and the source is left alone.
abbrev pub MeetsEnd : {I : Type 0} → (left : I → Option (List ℕ)) → (ended ended' : Bool) →
    (read : List ℕ) → (input input' : I) → Type 0
MeetsEnd left false false read input input' = ⊤
MeetsEnd left false true read input input' = IsAtEnd (left input')
MeetsEnd left true false read input input' = ⊥
MeetsEnd left true true read input input' = (read ≡ []) × (input' ≡ input)

-- a machine whose input has these bytes and no more, and one that goes on with these bytes left
abbrev pub begun_on : MachineState → (bytes : List ℕ) → Execution
begun_on s bytes = begun s (answers bytes)

abbrev pub standing : MachineState → (rest output : List ℕ) → Execution
standing s rest output = record { machine = s; input = answers rest; output = output }

-- all steps were made, whatever may follow what was read, and the machine goes on from the last
-- state
pub record AllStepsMade (n : ℕ) (old new : Simulated) (read output : List ℕ) (last : MachineState)
    (front : List ℕ) : Type 0 where
  pub running : (rest : List ℕ) → MayFollow new.input_ended rest →
      run n (begun_on old.state (read ++ rest)) ≡ Running (standing last rest output)
  pub end : new.end ≡ None
  pub state : new.state ≡ last
  pub whole : front ≡ []

-- The call reads bytes of the source, runs the machine on every input that begins with them, and
-- writes to the sink what the run writes.
pub record IsSimulation {I O : Type 0}
    (left : I → Option (List ℕ)) (read_faults : I → ℕ)
    (taken : O → Option (List ℕ)) (write_faults : O → ℕ)
    (n : ℕ) (old new : Simulated) (input input' : I) (out out' : O) (e : RunEnd) : Type 0 where
  pub read : List ℕ
  pub output : List ℕ
  pub last : MachineState
  pub front : List ℕ
  -- whatever may follow what was read, and it is left
  pub stops : (rest : List ℕ) → MayFollow new.input_ended rest →
      Stops n (begun_on old.state (read ++ rest)) e (standing last rest output) front
  -- what was read are bytes, and the source gave them
  pub are_bytes : AreBytes read
  pub gives : Consumes (left input) (left input') read
  pub meets_end : MeetsEnd left old.input_ended new.input_ended read input input'
  pub writes : Appends (taken out) (taken out') (output ++ front)
  -- a source is left alone where no service reads, and a sink where none writes
  pub unread : (input' ≡ input) ⊎ ((rest : List ℕ) → MayFollow new.input_ended rest →
      ComesToRead n (begun_on old.state (read ++ rest)))
  pub unwritten : (out' ≡ out) ⊎ ((rest : List ℕ) → MayFollow new.input_ended rest →
      ComesToWrite n (begun_on old.state (read ++ rest)))
  -- counts of faults never fall, and each fault has its cause
  pub reads_later : read_faults input ≤ read_faults input'
  pub writes_later : write_faults out ≤ write_faults out'
  pub read_cause : e ≡ ReadFault → Rose (read_faults input) (read_faults input')
  pub write_cause : e ≡ WriteFault → Rose (write_faults out) (write_faults out')
  -- the machine goes on from the last state, or keeps its end
  pub goes_on : e ≡ StepLimit → AllStepsMade n old new read output last front
  pub keeps : e ≢ StepLimit → new.end ≡ Some e
  pub written : new.written ≡ saturating_sum old.written (length output)
