-- What a call leaves, whatever it is given: any words, any bytes, streams that fail at any call.
use Rattle.std.specs.Prelude.{ℕ, ◌≡◌, ◌≤◌, ◌⊎◌, Bool, false, List, [], ◌++◌, length, Option}
use Rattle.std.specs.Prelude.{Some, Ok}
use Rattle.tg_machine_state.specs.declared.ends.RunEnd.{RunEnd}
use Rattle.tg_machine_state.specs.declared.ends.RunEnd.TheVariants.{Exit, ReadFault, WriteFault}
use Rattle.tg_base.specs.Files.{IsFilePrefix}
use Rattle.tg_base.specs.Writes.{TakesPrefix}
use Rattle.tg_isa.specs.declared.images.Image.{Image}
use Rattle.tg_asm_text.specs.Assembly.{assembled}
use Rattle.tg_asm.specs.Images.{image_of}
use Rattle.tg_irc_definition.specs.Policies.{Rule as SpillRule}
use Rattle.tg_program_generator.specs.Generated.{generated}
use Rattle.tg_command.specs.declared.modes.Mode.{Mode}
use Rattle.tg_command.specs.declared.modes.Mode.TheVariants.{Check, Build, Run, Exec, Alloc, Gen}
use Rattle.tg_command.specs.declared.modes.Mode.TheVariants.{Show, Format, Bare}
use Rattle.tg_command.specs.Commands.{Asked, Ask}
use Rattle.tg_correctness.specs.Assemblies.{IsAsMeant}
use Rattle.tg_driver.specs.declared.answers.Answer.{Answer}
use Rattle.tg_driver.specs.declared.answers.Answer.TheVariants.{Unreadable, Unwritten, Finished}
use Rattle.tg_driver.specs.Calls.{Stays, HasFailed, Streams, Untouched, IsUnread, Call}
use Rattle.tg_driver.specs.glue.PrivateCalls.{HasStarted}
use Rattle.tg_driver.specs.Passes.{passes_of}
use Rattle.tg_driver.specs.AllocMode.{Lists}
use Rattle.tg_driver.specs.ShowMode.{Shows}
use Rattle.tg_driver.specs.FormatMode.{Formats}
use Rattle.tg_driver.specs.BareMode.{IsMeantForBare}
use Rattle.tg_driver.specs.GenMode.{summary}
use Rattle.tg_driver.specs.glue.PrivateCalls.{ReadsNoInput}
use Rattle.tg_driver.specs.laws.OfTexts.{most_of}
use Rattle.tg_driver.specs.laws.Settled.{Tells, outcome_on, world_in}
use Rattle.tg_driver.specs.laws.Laws.{ReadsFile}
use Rattle.tg_driver.specs.Telling.{IsTold}
use Rattle.tg_driver.specs.glue.PrivateCalls.{IsBeforeStart}

-- what the mode doesn't read is as it was: the input, and in `gen` the shelf
pub record LeavesUnread {H I O E : Type 0} (c : Call H I O E) (asked : Asked) : Type 0 where
  pub input : ReadsNoInput asked.mode → Stays c.streams.input
  pub shelf : asked.mode ≡ Gen → c.shelf.after ≡ c.shelf.before

-- the count of the file that the words name rose; `gen` names none
pub record IsFileUnread {H I O E : Type 0} (c : Call H I O E) : Type 0 where
  pub asked : Asked
  pub ask : Ask c.words asked
  pub reads : ReadsFile asked.mode
  pub unread : IsUnread c.shelf asked.file

-- the image of an assembly text that does what the source means
pub record IsMeantImage (text : List ℕ) (image : Image) : Type 0 where
  pub assembly : List ℕ
  pub meant : IsAsMeant text assembly
  pub assembles : assembled assembly ≡ Ok (image_of image)

-- the image that a mode runs: `exec` that of the text itself
abbrev pub IsImageOf : Mode → (text : List ℕ) → Image → Type 0
IsImageOf Exec text image = assembled text ≡ Ok (image_of image)
IsImageOf mode text image = IsMeantImage text image

-- what the image writes within its steps on one of the machines, its reads answered by an input
-- that tells these bytes, or by some bytes where it tells none
pub record IsOutput (told : Option (List ℕ)) (bare : Bool) (mode : Mode) (asked : Asked)
    (text written : List ℕ) : Type 0 where
  pub image : Image
  pub is_of : IsImageOf mode text image
  pub input : List ℕ
  pub tells : Tells told input
  pub made : ℕ
  pub within : made ≤ asked.steps
  pub written_is :
      written ≡ (world_in (outcome_on bare image asked.heap asked.stack made input)).output

-- what `gen` writes: what the image writes on no input, and the summary
pub record IsSummed (asked : Asked) (text written : List ℕ) : Type 0 where
  pub output : List ℕ
  pub is_output : IsOutput (Some []) false Gen asked text output
  pub count : ℕ
  pub status : ℕ
  pub written_is : written ≡ output ++ summary asked.number (length text) count status

-- what a mode has to write to the output, of its text
abbrev pub HasToWrite :
    SpillRule → (told : Option (List ℕ)) → Mode → Asked → (text written : List ℕ) → Type 0
HasToWrite rule told Check asked text written = ⊥
HasToWrite rule told Build asked text written = IsAsMeant text written
HasToWrite rule told Run asked text written = IsOutput told false Run asked text written
HasToWrite rule told Exec asked text written =
    IsOutput told asked.flags.bare Exec asked text written
HasToWrite rule told Alloc asked text written = Lists (passes_of asked) rule text written
HasToWrite rule told Show asked text written = Shows (passes_of asked) rule text written
HasToWrite rule told Gen asked text written = IsSummed asked text written
HasToWrite rule told Format asked text written = Formats text written
HasToWrite rule told Bare asked text written = IsMeantForBare text written

-- The output took a prefix of what the mode has to write, of the prefix of its file that it reads,
-- or of what `gen` generates.
pub record WritesPrefix {H I O E : Type 0} (c : Call H I O E) : Type 0 where
  pub asked : Asked
  pub ask : Ask c.words asked
  pub text : List ℕ
  pub reads :
      ReadsFile asked.mode →
      IsFilePrefix (c.shelf.files c.shelf.before) asked.file (most_of asked.mode) text
  pub generates : asked.mode ≡ Gen → text ≡ generated asked.number
  pub written : List ℕ
  pub has_to :
      HasToWrite c.rule (c.streams.input.told c.streams.input.before) asked.mode asked text written
  pub takes :
      TakesPrefix
      (c.streams.out.told c.streams.out.before) (c.streams.out.told c.streams.out.after) written

-- a read or a write that ended the run has the count of its stream as its cause
abbrev pub IsCausedEnd : {I O : Type 0} → Streams I O → RunEnd → Type 0
IsCausedEnd s ReadFault = HasFailed s.input
IsCausedEnd s WriteFault = HasFailed s.out
IsCausedEnd s _ = Unit {0}

-- and so has a text or a summary that wasn't written
abbrev pub IsCaused : {I O : Type 0} → Streams I O → Answer → Type 0
IsCaused s Unwritten = HasFailed s.out
IsCaused s (Finished end) = IsCausedEnd s end
IsCaused s _ = Unit {0}

-- the program itself ended the run
abbrev pub IsExit : Answer → Type 0
IsExit (Finished end) = IsOwnEnd end
  where
    IsOwnEnd : RunEnd → Type 0
    IsOwnEnd (Exit code) = Unit {0}
    IsOwnEnd _ = ⊥
IsExit _ = ⊥

-- the count of the input, of the output or of the error sink rose
abbrev pub SomeFailed : {H I O E : Type 0} → Call H I O E → Type 0
SomeFailed c = HasFailed c.streams.input ⊎ HasFailed c.streams.out ⊎ HasFailed c.err

-- What a call with this answer and this status leaves. A refusal touches no stream. Each mode
-- leaves alone what it doesn't read. A file is unreadable where its count rose. What was written is
-- a prefix of what was to be written. A failed read or write has its count as its cause. The error
-- sink took the reports, the line of the answer and its explanation whole, and the status is its
-- own; or its count rose, it took a prefix, and the status is 74.
pub record IsSafe {H I O E : Type 0} (c : Call H I O E)
    (status : ℕ) (reports : List ℕ) (answer : Answer) (explanation : List ℕ) : Type 0 where
  pub refused : IsBeforeStart answer → Untouched c.streams
  pub unread : (asked : Asked) → Ask c.words asked → LeavesUnread c asked
  pub unreadable : answer ≡ Unreadable → IsFileUnread c
  pub front : HasStarted answer → WritesPrefix c
  pub caused : IsCaused c.streams answer
  pub told : IsTold c.err reports answer explanation status
  pub failed : status ≡ 74 → IsExit answer ⊎ SomeFailed c
