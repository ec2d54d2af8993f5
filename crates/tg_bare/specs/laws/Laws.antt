-- The laws of calls of the machine with delayed branches.
use Rattle.std.specs.Prelude.{ℕ, ◌≡◌, ◌≢◌, List, Option, Some, None, IfSome}
use Rattle.std.specs.Io.KnownBytes.{Appends}
use Rattle.tg_machine_state.specs.declared.ends.RunEnd.{RunEnd}
use Rattle.tg_machine_state.specs.declared.ends.RunEnd.TheVariants.{StepLimit, ReadFault}
use Rattle.tg_machine_state.specs.declared.ends.RunEnd.TheVariants.{WriteFault}
use Rattle.tg_isa.specs.declared.images.Image.{Image}
use Rattle.tg_isa.specs.Runs.{answers}
use Rattle.tg_bare.specs.Delayed.{initial_bare}
use Rattle.tg_bare.specs.BareRuns.{BareExecution, BareProgress, Running, Ended, run_bare}
use Rattle.tg_bare.specs.BareRuns.{bare_begun}
use Rattle.tg_bare.specs.Machines.{BareSimulated, HasBareEnded, loaded_bare}
use Rattle.tg_bare.specs.Ran.{IsBareSimulation}

-- the end of an outcome, and its world: the steps are used up where the machine still runs
abbrev pub bare_end_in : BareProgress → RunEnd
bare_end_in (Running w) = StepLimit
bare_end_in (Ended e w) = e

abbrev pub bare_world_in : BareProgress → BareExecution
bare_world_in (Running w) = w
bare_world_in (Ended e w) = w

-- what comes of an image with these sizes and steps on an input of these bytes
abbrev pub bare_outcome_on : Image → (heap stack steps : ℕ) (bytes : List ℕ) → BareProgress
bare_outcome_on image heap stack steps bytes =
    run_bare steps
    (bare_begun (initial_bare image.code image.statics image.entry heap stack) bytes)

-- the run ended as this outcome does, wrote what it writes, and left what it leaves
pub record IsBareExact {I O : Type 0}
    (left : I → Option (List ℕ)) (taken : O → Option (List ℕ))
    (input' : I) (out out' : O) (e : RunEnd) (outcome : BareProgress) : Type 0 where
  pub ends : e ≡ bare_end_in outcome
  pub writes : Appends (taken out) (taken out') (bare_world_in outcome).output
  pub rest : List ℕ
  pub told : left input' ≡ Some rest
  pub leaves : (bare_world_in outcome).input ≡ answers rest

-- A run of a machine that was just loaded is exactly that of the definition on the bytes that its
-- source tells, where no read or write ended it.
abbrev pub BareRunsAreExact : (I O : Type 0) → Type 0
BareRunsAreExact I O =
    (left : I → Option (List ℕ)) (read_faults : I → ℕ)
    (taken : O → Option (List ℕ)) (write_faults : O → ℕ)
    (image : Image) (heap stack steps : ℕ) (new : BareSimulated)
    (input input' : I) (out out' : O) (e : RunEnd) (bytes : List ℕ) →
    IsBareSimulation left read_faults taken write_faults steps (loaded_bare image heap stack) new
    input input' out out' e →
    left input ≡ Some bytes → e ≢ ReadFault → e ≢ WriteFault →
    IsBareExact left taken input' out out' e (bare_outcome_on image heap stack steps bytes)

-- what a call of so many steps promises: it runs the machine, or answers the end again
pub record HasBareCalled {I O : Type 0}
    (left : I → Option (List ℕ)) (read_faults : I → ℕ)
    (taken : O → Option (List ℕ)) (write_faults : O → ℕ)
    (n : ℕ) (old new : BareSimulated) (input input' : I) (out out' : O) (e : RunEnd) : Type 0 where
  pub ran : old.end ≡ None →
      IsBareSimulation left read_faults taken write_faults n old new input input' out out' e
  pub again : IfSome old.end (λ g. (e ≡ g) × HasBareEnded old new input input' out out')

-- After a call that answered another end than the limit of steps, a call answers that end again,
-- and leaves the machine, the source and the sink as they are.
abbrev pub BareEndsAgain : (I O : Type 0) → Type 0
BareEndsAgain I O =
    (left : I → Option (List ℕ)) (read_faults : I → ℕ)
    (taken : O → Option (List ℕ)) (write_faults : O → ℕ)
    (k n : ℕ) (old mid new : BareSimulated) (first input input' : I) (start out out' : O)
    (e f : RunEnd) →
    HasBareCalled left read_faults taken write_faults k old mid first input start out e →
    e ≢ StepLimit →
    HasBareCalled left read_faults taken write_faults n mid new input input' out out' f →
    (f ≡ e) × HasBareEnded mid new input input' out out'
