-- When an image does what a program means: what the machine writes, which input it leaves and how
-- it ends, for any number of steps, and what the meaning says, for any number of turns.
use Rattle.std.specs.Prelude.{ℕ, ◌+◌, ◌*◌, ◌%◌, ◌≡◌, ◌≢◌, ◌≤◌, ◌<◌, ◌⊎◌, List, Some}
use Rattle.tg_machine_state.specs.declared.ends.RunEnd.{RunEnd}
use Rattle.tg_machine_state.specs.declared.ends.RunEnd.TheVariants.{StackFull}
use Rattle.tg_machine_state.specs.State.{initial_machine, most_room}
use Rattle.tg_syntax.specs.Tree.{Exp}
use Rattle.tg_simulation.specs.Outcomes.{ended, out_of_fuel, Outcome}
use Rattle.tg_simulation.specs.Bytes.{AreBytes, IsPrefix, least_frame}
use Rattle.tg_semantics.specs.Values.{Ending}
use Rattle.tg_semantics.specs.Direct.{evaluate}
use Rattle.tg_semantics.specs.MachineEnds.{machine_end}
use Rattle.tg_asm_text.specs.Assembly.{Assembled}
use Rattle.tg_isa.specs.Runs.{Execution, Progress, Running, Ended, run, begun, answers}

-- sizes of heap and stack that a command may ask for
pub record AreSizes (heap stack : ℕ) : Type 0 where
  pub heap_words : heap % 4 ≡ 0
  pub heap_most : heap ≤ most_room
  pub stack_words : stack % 4 ≡ 0
  pub stack_least : 65536 ≤ stack
  pub stack_most : stack ≤ most_room

-- an image on an input, with so many bytes of heap and of stack, after at most so many steps
abbrev pub runs_to : Assembled → (input : List ℕ) → (heap stack steps : ℕ) → Progress
runs_to image input heap stack steps =
    run steps
    (begun (initial_machine image.code image.statics image.entry heap stack) (answers input))

-- what was written is the whole output of the program, and the input that is left is what it
-- leaves
pub record DoesAll (o : Outcome Ending) (w : Execution) : Type 0 where
  pub output : w.output ≡ o.output
  pub input : w.input ≡ answers o.input

-- the machine ended so, or is running, when it had done all that the program does
abbrev pub EndsAs : Outcome Ending → RunEnd → Progress → Type 0
EndsAs o e (Ended f w) = (f ≡ e) × DoesAll o w
EndsAs o e (Running w) = ⊥

abbrev pub IsRunning : Outcome Ending → Progress → Type 0
IsRunning o (Running w) = DoesAll o w
IsRunning o (Ended e w) = ⊥

-- A full stack ended it: the weight of what was open was above the stack, by then all was written
-- that had been before, and what was written is a prefix of the program's output.
abbrev pub IsCutShort : Outcome Ending → Progress → Type 0
IsCutShort o (Ended StackFull w) =
    (past : List ℕ) × (o.output_past_limit ≡ Some past)
    × IsPrefix past w.output × IsPrefix w.output o.output
IsCutShort o _ = ⊥

-- the most steps for what costs so much
abbrev pub most_steps : (cost : ℕ) → ℕ
most_steps cost = 4096 * cost + 65536

-- The machine does what the program means: for what the program comes to with so many turns, and
-- the machine after so many steps.
pub record RunsAsMeant (stack : ℕ) (means : (turns : ℕ) → Outcome Ending)
    (does : (steps : ℕ) → Progress) : Type 0 where
  -- where the program ends, so does the machine, within so many steps for its cost; or a full stack
  -- has cut it by then
  pub ends :
      (n : ℕ) (e : Ending) → (means n).end ≡ ended e →
      (m : ℕ) × (m ≤ most_steps (means n).cost)
      × (EndsAs (means n) (machine_end e) (does m) ⊎ IsCutShort (means n) (does m))
  -- where the program is out of turns, the machine comes to what it has done, with as many steps as
  -- turns at least, and within so many; or a full stack has cut it by then
  pub goes_on :
      (n : ℕ) → (means n).end ≡ out_of_fuel →
      (m : ℕ) × (m ≤ most_steps (means n).cost)
      × (((n ≤ m) × IsRunning (means n) (does m)) ⊎ IsCutShort (means n) (does m))
  -- an end of the machine but a full stack is the program's, with as many turns as it took steps
  pub ends_only :
      (m : ℕ) (f : RunEnd) (w : Execution) → does m ≡ Ended f w → f ≢ StackFull →
      (e : Ending) × ((means m).end ≡ ended e) × EndsAs (means m) (machine_end e) (does m)
  -- and a full stack comes only where the weight of what is open was above the stack
  pub cut_only :
      (m : ℕ) (w : Execution) → does m ≡ Ended StackFull w → IsCutShort (means m) (does m)
  -- calls whose frames can't be within the stack fill it
  pub fills :
      (n : ℕ) → stack < least_frame * (means n).deepest →
      (m : ℕ) × (w : Execution) × (does m ≡ Ended StackFull w)

-- Whatever the input and the sizes, the image does what the program means.
abbrev pub DoesWhatIsMeant : (names : List (List ℕ)) → Exp → Assembled → Type 0
DoesWhatIsMeant names program image =
    (input : List ℕ) (heap stack : ℕ) → AreBytes input → AreSizes heap stack →
    RunsAsMeant stack
    (λ turns. evaluate names program input heap stack turns)
    (λ steps. runs_to image input heap stack steps)
