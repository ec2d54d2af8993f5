-- The mode `gen`: generates a source of as many functions as asked for, runs on an empty input the
-- image of an assembly text that does what the source means, and writes a summary line. It reads no
-- file and no input.
use Rattle.std.specs.Prelude.{◌≡◌, ℕ, List, [], ◌∷◌, ◌++◌, length, codes, Some}
use Rattle.std.specs.Fmt.{decimal}
use Rattle.tg_base.specs.PlainBytes.{PlainBytes}
use Rattle.tg_machine_state.specs.declared.ends.RunEnd.{RunEnd}
use Rattle.tg_machine_state.specs.declared.ends.RunEnd.TheVariants.{WriteFault}
use Rattle.tg_isa.specs.declared.images.Image.{Image}
use Rattle.tg_program_generator.specs.Generated.{generated}
use Rattle.tg_command.specs.Commands.{Asked}
use Rattle.tg_driver.specs.declared.answers.Answer.{Answer}
use Rattle.tg_driver.specs.declared.answers.Answer.TheVariants.{Unwritten, Finished}
use Rattle.tg_driver.specs.Calls.{Shelved, Stream, Streams, stream_of, streams_of, Stays, Takes}
use Rattle.tg_driver.specs.OfFiles.{UntouchedBeforeStart}
use Rattle.tg_driver.specs.MeantRuns.{EndsBy}
use Rattle.tg_driver.specs.Endings.{end_status}
use Rattle.tg_driver.specs.Runs.{HasRun}
use Rattle.tg_driver.specs.Writing.{TextRelation}

-- `functions N source B output O`, and after it ` status S`
abbrev pub counts : (functions source output : ℕ) → List ℕ
counts functions source output =
    (codes "functions " ++ decimal functions)
    ++ ((codes " source " ++ decimal source) ++ (codes " output " ++ decimal output))

abbrev pub summary : (functions source output status : ℕ) → List ℕ
summary functions source output status =
    counts functions source output ++ ((codes " status " ++ decimal status) ++ 10 ∷ [])

-- an empty input, which is as it is after a run
abbrev pub no_input : (after : PlainBytes) → Stream PlainBytes
no_input after =
    stream_of (λ s. Some s.left) (λ _. 0) (record { left = []; calls = 0 }) after

-- After a run that ended so the sink takes the summary of that run, whole, or a write of it fails.
-- After a write that failed it takes nothing more.
abbrev pub TakesSummary :
    {O : Type 0} → Stream O → (functions source written : ℕ) → RunEnd → Answer → Type 0
TakesSummary out functions source written WriteFault answer =
    Stays out × (answer ≡ Finished WriteFault)
TakesSummary out functions source written end answer =
    Takes out (summary functions source written (end_status end)) (Finished end) Unwritten answer

-- the image ran on an empty input with these sizes and steps, with its output to the sink, and
-- ended so; then the summary was written
pub record SumsUp {O : Type 0} (out : Stream O) (functions source : ℕ) (answer : Answer)
    (image : Image) (heap stack steps : ℕ) (end : RunEnd) : Type 0 where
  pub input : PlainBytes
  pub between : O
  pub run :
      HasRun (streams_of (no_input input) (stream_of out.told out.faults out.before between))
      image heap stack steps end
  pub sums_up :
      TakesSummary (stream_of out.told out.faults between out.after)
      functions source run.after.written end answer

-- and so did that of an assembly text that a source of so many functions may have
pub record SumsUpBy {O : Type 0} (texts : TextRelation) (out : Stream O)
    (functions : ℕ) (text : List ℕ) (heap stack steps : ℕ) (answer : Answer) : Type 0 where
  pub end : RunEnd
  pub ends : EndsBy texts (SumsUp out functions (length text) answer) text heap stack steps end

-- what comes of a generated source
abbrev pub IsGeneratedBy : {O : Type 0} → TextRelation → Stream O → Asked → Answer → Type 0
IsGeneratedBy texts out asked answer =
    SumsUpBy texts out asked.number (generated asked.number)
    asked.heap asked.stack asked.steps answer

abbrev pub ByGen :
    {H I O : Type 0} → TextRelation → Shelved H → Streams I O → Asked → Answer → Type 0
ByGen texts shelf s asked answer =
    (shelf.after ≡ shelf.before) × Stays s.input × UntouchedBeforeStart s answer
    × IsGeneratedBy texts s.out asked answer
