-- What a call that makes at most so many steps leaves of a machine with delayed branches, of the
-- source and of the sink: the clauses are those of a machine without.
use Rattle.std.specs.Prelude.{ℕ, ◌≡◌, ◌≢◌, ◌<◌, ◌≤◌, ◌⊎◌, List, [], ◌++◌, length, Option, Some}
use Rattle.std.specs.Prelude.{None}
use Rattle.std.specs.Io.KnownBytes.{Appends, Consumes}
use Rattle.tg_base.specs.Causes.{Rose}
use Rattle.tg_machine_state.specs.declared.ends.RunEnd.{RunEnd}
use Rattle.tg_machine_state.specs.declared.ends.RunEnd.TheVariants.{StepLimit, ReadFault}
use Rattle.tg_machine_state.specs.declared.ends.RunEnd.TheVariants.{WriteFault}
use Rattle.tg_simulation.specs.Bytes.{AreBytes}
use Rattle.tg_isa.specs.Runs.{answers}
use Rattle.tg_machine.specs.Ran.{MayFollow, MeetsEnd, saturating_sum}
use Rattle.tg_bare.specs.Delayed.{Bare, Reads, Writes, bare_step}
use Rattle.tg_bare.specs.BareRuns.{BareExecution, Running, Ended, run_bare, bare_begun}
use Rattle.tg_bare.specs.Machines.{BareSimulated}

-- the machine is at a service that reads; or at one that writes these bytes
abbrev pub IsBareReading : Bare → Type 0
IsBareReading b = (after : Bare) × (bare_step b ≡ Reads after)

abbrev pub IsBareWriting : Bare → List ℕ → Type 0
IsBareWriting b bytes = (after : Bare) × (bare_step b ≡ Writes bytes after)

-- within so many steps the run comes to a service that reads; or to one that writes
pub record BareComesToRead (n : ℕ) (w : BareExecution) : Type 0 where
  pub steps : ℕ
  pub world : BareExecution
  pub within : steps < n
  pub comes : run_bare steps w ≡ Running world
  pub reading : IsBareReading world.machine

pub record BareComesToWrite (n : ℕ) (w : BareExecution) : Type 0 where
  pub steps : ℕ
  pub world : BareExecution
  pub bytes : List ℕ
  pub within : steps < n
  pub comes : run_bare steps w ≡ Running world
  pub writing : IsBareWriting world.machine bytes

-- How such a call ends at the last world of the run, after which it wrote `front` of a write that
-- failed: as the run of the definition does, or at a read or a write that failed.
pub data BareStops (n : ℕ) (w : BareExecution) (e : RunEnd) (last : BareExecution)
    (front : List ℕ) : Type 0 where
  still : run_bare n w ≡ Running last → e ≡ StepLimit → front ≡ [] → BareStops n w e last front
  ended : run_bare n w ≡ Ended e last → front ≡ [] → BareStops n w e last front
  read_failed : (i : ℕ) → i < n → run_bare i w ≡ Running last → IsBareReading last.machine →
      e ≡ ReadFault → front ≡ [] → BareStops n w e last front
  write_failed : (i : ℕ) (rest : List ℕ) → i < n → run_bare i w ≡ Running last →
      IsBareWriting last.machine (front ++ rest) → e ≡ WriteFault → BareStops n w e last front

-- a machine that goes on with these bytes left
abbrev pub bare_standing : Bare → (rest output : List ℕ) → BareExecution
bare_standing b rest output = record { machine = b; input = answers rest; output = output }

-- all steps were made, whatever may follow what was read, and the machine goes on from the last one
pub record AllBareStepsMade (n : ℕ) (old new : BareSimulated) (read output : List ℕ) (last : Bare)
    (front : List ℕ) : Type 0 where
  pub running : (rest : List ℕ) → MayFollow new.input_ended rest →
      run_bare n (bare_begun old.machine (read ++ rest)) ≡ Running (bare_standing last rest output)
  pub end : new.end ≡ None
  pub machine : new.machine ≡ last
  pub whole : front ≡ []

-- The call reads bytes of the source, runs the machine on every input that begins with them, and
-- writes to the sink what the run writes.
pub record IsBareSimulation {I O : Type 0}
    (left : I → Option (List ℕ)) (read_faults : I → ℕ)
    (taken : O → Option (List ℕ)) (write_faults : O → ℕ)
    (n : ℕ) (old new : BareSimulated) (input input' : I) (out out' : O) (e : RunEnd) : Type 0 where
  pub read : List ℕ
  pub output : List ℕ
  pub last : Bare
  pub front : List ℕ
  -- whatever may follow what was read, and it is left
  pub stops : (rest : List ℕ) → MayFollow new.input_ended rest →
      BareStops n (bare_begun old.machine (read ++ rest)) e (bare_standing last rest output) front
  -- what was read are bytes, and the source gave them
  pub are_bytes : AreBytes read
  pub gives : Consumes (left input) (left input') read
  pub meets_end : MeetsEnd left old.input_ended new.input_ended read input input'
  pub writes : Appends (taken out) (taken out') (output ++ front)
  -- a source is left alone where no service reads, and a sink where none writes
  pub unread : (input' ≡ input) ⊎ ((rest : List ℕ) → MayFollow new.input_ended rest →
      BareComesToRead n (bare_begun old.machine (read ++ rest)))
  pub unwritten : (out' ≡ out) ⊎ ((rest : List ℕ) → MayFollow new.input_ended rest →
      BareComesToWrite n (bare_begun old.machine (read ++ rest)))
  -- counts of faults never fall, and each fault has its cause
  pub reads_later : read_faults input ≤ read_faults input'
  pub writes_later : write_faults out ≤ write_faults out'
  pub read_cause : e ≡ ReadFault → Rose (read_faults input) (read_faults input')
  pub write_cause : e ≡ WriteFault → Rose (write_faults out) (write_faults out')
  -- the machine goes on from the last one, or keeps its end
  pub goes_on : e ≡ StepLimit → AllBareStepsMade n old new read output last front
  pub keeps : e ≢ StepLimit → new.end ≡ Some e
  pub written : new.written ≡ saturating_sum old.written (length output)
