-- When an image does what a program means on the machine with delayed branches: what it writes,
-- which input it leaves and how it ends, for any number of steps, and what the meaning says, for
-- any number of turns.
use Rattle.std.specs.Prelude.{ℕ, ◌*◌, ◌≡◌, ◌≢◌, ◌≤◌, ◌<◌, ◌⊎◌, List}
use Rattle.tg_machine_state.specs.declared.ends.RunEnd.{RunEnd}
use Rattle.tg_machine_state.specs.declared.ends.RunEnd.TheVariants.{StackFull}
use Rattle.tg_syntax.specs.Tree.{Exp}
use Rattle.tg_simulation.specs.Outcomes.{ended, out_of_fuel, Outcome}
use Rattle.tg_simulation.specs.Bytes.{AreBytes, least_frame}
use Rattle.tg_semantics.specs.Values.{Ending}
use Rattle.tg_semantics.specs.Direct.{evaluate}
use Rattle.tg_semantics.specs.MachineEnds.{machine_end}
use Rattle.tg_asm_text.specs.Assembly.{Assembled}
use Rattle.tg_isa.specs.Runs.{Execution, Progress, Running, Ended}
use Rattle.tg_bare.specs.Delayed.{initial_bare}
use Rattle.tg_bare.specs.BareRuns as bare
use Rattle.tg_bare.specs.BareRuns.{BareExecution, BareProgress, run_bare, bare_begun}
use Rattle.tg_correctness.specs.Images.{AreSizes, EndsAs, IsRunning, IsCutShort, most_steps}

-- A world of this machine as one of the machine without delay slots: with its state, what its reads
-- will answer, and its output.
abbrev pub as_execution : BareExecution → Execution
as_execution w = record { machine = w.machine.state; input = w.input; output = w.output }

abbrev pub as_progress : BareProgress → Progress
as_progress (bare.Running w) = Running (as_execution w)
as_progress (bare.Ended e w) = Ended e (as_execution w)

-- an image on an input, with so many bytes of heap and of stack, after at most so many steps
abbrev pub bare_runs_to : Assembled → (input : List ℕ) → (heap stack steps : ℕ) → Progress
bare_runs_to image input heap stack steps =
    as_progress
    (run_bare steps
    (bare_begun (initial_bare image.code image.statics image.entry heap stack) input))

-- The machine does what the program means, as `RunsAsMeant` says, with so many times the steps.
pub record RunsAsMeantWithin (times stack : ℕ) (means : (turns : ℕ) → Outcome Ending)
    (does : (steps : ℕ) → Progress) : Type 0 where
  -- where the program ends, so does the machine, within so many steps for its cost; or a full stack
  -- has cut it by then
  pub ends :
      (n : ℕ) (e : Ending) → (means n).end ≡ ended e →
      (m : ℕ) × (m ≤ times * most_steps (means n).cost)
      × (EndsAs (means n) (machine_end e) (does m) ⊎ IsCutShort (means n) (does m))
  -- where the program is out of turns, the machine comes to what it has done, with as many steps as
  -- turns at least, and within so many; or a full stack has cut it by then
  pub goes_on :
      (n : ℕ) → (means n).end ≡ out_of_fuel →
      (m : ℕ) × (m ≤ times * most_steps (means n).cost)
      × (((n ≤ m) × IsRunning (means n) (does m)) ⊎ IsCutShort (means n) (does m))
  -- an end of the machine but a full stack is the program's, with as many turns as it took steps
  pub ends_only :
      (m : ℕ) (f : RunEnd) (w : Execution) → does m ≡ Ended f w → f ≢ StackFull →
      (e : Ending) × ((means m).end ≡ ended e) × EndsAs (means m) (machine_end e) (does m)
  -- and a full stack comes only where the weight of what is open was above the stack
  pub cut_only :
      (m : ℕ) (w : Execution) → does m ≡ Ended StackFull w → IsCutShort (means m) (does m)
  -- calls whose frames can't be within the stack fill it
  pub fills :
      (n : ℕ) → stack < least_frame * (means n).deepest →
      (m : ℕ) × (w : Execution) × (does m ≡ Ended StackFull w)

-- how many times the steps that are allowed without delay slots are allowed with them
abbrev pub slot_times : ℕ
slot_times = 4

-- Whatever the input and the sizes, the image does what the program means on this machine.
abbrev pub BareDoesWhatIsMeant : (names : List (List ℕ)) → Exp → Assembled → Type 0
BareDoesWhatIsMeant names program image =
    (input : List ℕ) (heap stack : ℕ) → AreBytes input → AreSizes heap stack →
    RunsAsMeantWithin slot_times stack
    (λ turns. evaluate names program input heap stack turns)
    (λ steps. bare_runs_to image input heap stack steps)
