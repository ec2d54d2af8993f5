-- Runs as the bytes of an input settle them.
use Rattle.std.specs.Prelude.{ℕ, ◌≡◌, Bool, true, false, List, [], Option, Some, None, length}
use Rattle.std.specs.Io.KnownBytes.{Appends}
use Rattle.tg_machine_state.specs.declared.ends.RunEnd.{RunEnd}
use Rattle.tg_machine_state.specs.declared.ends.RunEnd.TheVariants.{StepLimit}
use Rattle.tg_machine_state.specs.State.{initial_machine}
use Rattle.tg_simulation.specs.Bytes.{AreBytes}
use Rattle.tg_isa.specs.declared.images.Image.{Image}
use Rattle.tg_isa.specs.Runs.{Execution, Progress, Running, Ended, run, begun, answers}
use Rattle.tg_bare.specs.BareRuns as delayed
use Rattle.tg_bare.specs.BareRuns.{BareExecution, BareProgress}
use Rattle.tg_bare.specs.laws.Laws.{bare_outcome_on}
use Rattle.tg_driver.specs.Calls.{Streams}
use Rattle.tg_machine.specs.Fetches.{fetches}
use Rattle.tg_profiler.specs.Told.{reports_text}
use Rattle.tg_profiler.specs.Watching.{Report}

-- these are the bytes of an input: those that it tells, or some, where it tells none
abbrev pub Tells : Option (List ℕ) → (bytes : List ℕ) → Type 0
Tells None bytes = AreBytes bytes
Tells (Some all) bytes = bytes ≡ all

-- the end of an outcome, and its world: the steps are used up where the machine still runs
abbrev pub end_in : Progress → RunEnd
end_in (Running w) = StepLimit
end_in (Ended e w) = e

abbrev pub world_in : Progress → Execution
world_in (Running w) = w
world_in (Ended e w) = w

-- what comes of the machine with delayed branches, but for its places: the same state, what is left
-- of its input, and its output
abbrev pub plain_world : BareExecution → Execution
plain_world w = record { machine = w.machine.state; input = w.input; output = w.output }

abbrev pub plain_progress : BareProgress → Progress
plain_progress (delayed.Running w) = Running (plain_world w)
plain_progress (delayed.Ended e w) = Ended e (plain_world w)

-- what comes of an image with these sizes and steps on an input of these bytes, on the machine that
-- the flag asks for
abbrev pub outcome_on : (bare : Bool) → Image → (heap stack steps : ℕ) (bytes : List ℕ) → Progress
outcome_on true image heap stack steps bytes =
    plain_progress (bare_outcome_on image heap stack steps bytes)
outcome_on false image heap stack steps bytes =
    run steps
    (begun (initial_machine image.code image.statics image.entry heap stack) (answers bytes))

-- the run ended as it does on these bytes, wrote what it writes there, and left what it leaves
pub record IsExact {I O : Type 0} (s : Streams I O) (bare : Bool)
    (image : Image) (heap stack steps : ℕ) (end : RunEnd) (bytes : List ℕ) : Type 0 where
  pub ends : end ≡ end_in (outcome_on bare image heap stack steps bytes)
  pub writes :
      Appends (s.out.told s.out.before) (s.out.told s.out.after)
      (world_in (outcome_on bare image heap stack steps bytes)).output
  pub left : List ℕ
  pub told : s.input.told s.input.after ≡ Some left
  pub leaves : (world_in (outcome_on bare image heap stack steps bytes)).input ≡ answers left

-- the reports of what the run of an image with these sizes and steps fetches on an input of these
-- bytes; of the machine with delayed branches there are none
abbrev pub reports_on :
    (bare : Bool) → List Report → Image → (heap stack steps : ℕ) (bytes : List ℕ) → List ℕ
reports_on true reporters image heap stack steps bytes = []
reports_on false reporters image heap stack steps bytes =
    let first = initial_machine image.code image.statics image.entry heap stack in
    reports_text reporters (fetches steps (begun first (answers bytes))) (length image.code)
