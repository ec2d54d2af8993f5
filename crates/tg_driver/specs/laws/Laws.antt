-- What the answers to a call amount to.
use Rattle.std.specs.Prelude.{ℕ, ◌≡◌, ◌≢◌, Bool, false, List, [], ◌++◌, Option, Some}
use Rattle.std.specs.Io.KnownBytes.{Appends}
use Rattle.tg_machine_state.specs.declared.ends.RunEnd.{RunEnd}
use Rattle.tg_machine_state.specs.declared.ends.RunEnd.TheVariants.{ReadFault, WriteFault}
use Rattle.tg_isa.specs.declared.images.Image.{Image}
use Rattle.tg_profiler.specs.Watching.{Report}
use Rattle.tg_program_generator.specs.Generated.{generated}
use Rattle.tg_command.specs.declared.modes.Mode.{Mode}
use Rattle.tg_command.specs.declared.modes.Mode.TheVariants.{Check, Build, Run, Exec, Alloc, Gen}
use Rattle.tg_command.specs.declared.modes.Mode.TheVariants.{Show, Format, Bare}
use Rattle.tg_command.specs.Commands.{Asked, Ask}
use Rattle.tg_driver.specs.declared.answers.Answer.{Answer}
use Rattle.tg_driver.specs.declared.answers.Answer.TheVariants.{Faulty, Written, Finished}
use Rattle.tg_driver.specs.Calls.{HasFailed, Shelved, IsUnread, Call}
use Rattle.tg_correctness.specs.Sources.{IsSource}
use Rattle.tg_driver.specs.Faults.{IsFaultOf}
use Rattle.tg_driver.specs.LargePrograms.{IsBareFaultOf, IsSmallSource}
use Rattle.tg_driver.specs.laws.AsMeant.{EndsAsMeant}
use Rattle.tg_driver.specs.Runs.{RunRelation}
use Rattle.tg_driver.specs.laws.Settled.{end_in, outcome_on}
use Rattle.tg_driver.specs.CheckMode.{IsChecked}
use Rattle.tg_driver.specs.laws.AsMeant.{IsRun}
use Rattle.tg_driver.specs.ExecMode.{IsExecuted}
use Rattle.tg_driver.specs.laws.OfTexts.{IsFaultyOrFormatted}
use Rattle.tg_driver.specs.Statuses.{status_of, line_of}
use Rattle.tg_driver.specs.Watching.{NoneBeforeEnd, if_watched}
use Rattle.tg_driver.specs.laws.Settled.{reports_on}
use Rattle.tg_driver.specs.Answered.{NoneUnasked}
use Rattle.tg_driver.specs.Explained.{IsExplanation, IfAsked, IsExplained}

-- no read and no write ended the run of the answer
pub record IsFaultless (answer : Answer) : Type 0 where
  pub all_read : answer ≢ Finished ReadFault
  pub all_written : answer ≢ Finished WriteFault

-- the shelf tells the files, and the named one has these bytes
pub record HoldsFile {H : Type 0} (shelf : Shelved H) (name bytes : List ℕ) : Type 0 where
  pub at : List ℕ → Option (List ℕ)
  pub tells : shelf.files shelf.before ≡ Some at
  pub holds : at name ≡ Some bytes

-- all modes but `gen` read the file
abbrev pub ReadsFile : Mode → Type 0
ReadsFile Gen = ⊥
ReadsFile _ = Unit {0}

-- the words ask for this, the file has these bytes where it is read, and no count of faults rose
pub record IsGood {H I O E : Type 0} (c : Call H I O E)
    (asked : Asked) (file : List ℕ) : Type 0 where
  pub ask : Ask c.words asked
  pub there : ReadsFile asked.mode → HoldsFile c.shelf asked.file file
  pub readable : IsUnread c.shelf asked.file → ⊥
  pub all_read : HasFailed c.streams.input → ⊥
  pub all_written : HasFailed c.streams.out → ⊥
  pub all_told : HasFailed c.err → ⊥

-- the status is that of the answer, and the error sink took its reports, its line and its
-- explanation; only a run that was to be watched has reports, and only a fault that was to be
-- explained has an explanation
pub record Gives {H I O E : Type 0} (c : Call H I O E)
    (status : ℕ) (reports : List ℕ) (answer : Answer) (explanation : List ℕ) : Type 0 where
  pub status_is : status ≡ status_of answer
  pub text_is :
      Appends (c.err.told c.err.before) (c.err.told c.err.after)
      (reports ++ (line_of answer ++ explanation))
  pub before_end : NoneBeforeEnd reports answer
  pub unasked : NoneUnasked c.words reports
  pub explained : IsExplained c.words c.shelf answer explanation

-- where an input tells its bytes, a run of the image on the machine that the flag asks for ends so
-- on these
abbrev pub EndsAsTold : Option (List ℕ) → (bare : Bool) → RunRelation
EndsAsTold told bare image heap stack steps end =
    (bytes : List ℕ) → told ≡ Some bytes →
    end ≡ end_in (outcome_on bare image heap stack steps bytes)

-- and these are the reports of what it fetches
pub record EndsAndTells (told : Option (List ℕ)) (bare : Bool)
    (reporters : List Report) (reports : List ℕ)
    (image : Image) (heap stack steps : ℕ) (end : RunEnd) : Type 0 where
  pub ends : EndsAsTold told bare image heap stack steps end
  pub tells :
      (bytes : List ℕ) → told ≡ Some bytes →
      reports ≡ reports_on bare reporters image heap stack steps bytes

-- to a source: its first fault, or that a text of it was written
abbrev pub IsFaultyOrWritten : List ℕ → Answer → Type 0
IsFaultyOrWritten text (Faulty fault) = IsFaultOf text fault
IsFaultyOrWritten text Written = IsSource text
IsFaultyOrWritten text _ = ⊥

-- in `bare`: a fault that it tells, or that a text was written of a source that isn't too large
abbrev pub IsFaultyOrDelayed : List ℕ → Answer → Type 0
IsFaultyOrDelayed text (Faulty fault) = IsBareFaultOf text fault
IsFaultyOrDelayed text Written = IsSmallSource text
IsFaultyOrDelayed text _ = ⊥

-- the end of a run of what does what a generated source means, on an empty input
abbrev pub EndsGenerated : Asked → Answer → Type 0
EndsGenerated asked (Finished end) =
    EndsAsMeant (EndsAsTold (Some []) false) (generated asked.number)
    asked.heap asked.stack asked.steps end
EndsGenerated asked _ = ⊥

-- what text and input settle where no read or write fails
abbrev pub Settles : (runs : RunRelation) → Mode → Asked → (text : List ℕ) → Answer → Type 0
Settles runs Check asked text answer = IsChecked text answer
Settles runs Build asked text answer = IsFaultyOrWritten text answer
Settles runs Run asked text answer = IsRun runs asked text answer
Settles runs Exec asked text answer = IsExecuted runs asked text answer
Settles runs Alloc asked text answer = IsFaultyOrWritten text answer
Settles runs Show asked text answer = IsFaultyOrWritten text answer
Settles runs Gen asked text answer = EndsGenerated asked answer
Settles runs Format asked text answer = IsFaultyOrFormatted text answer
Settles runs Bare asked text answer = IsFaultyOrDelayed text answer

-- what text and input settle of a run of the call whose reports are these
abbrev pub settled_runs : {H I O E : Type 0} → Call H I O E → (reports : List ℕ) → Asked → RunRelation
settled_runs c reports asked =
    EndsAndTells (c.streams.input.told c.streams.input.before) asked.flags.bare
    (if_watched asked.flags c.reporters) reports

-- what a text settles of the explanation of an answer to it
abbrev pub SettlesExplanation : Asked → (text : List ℕ) → Answer → (explanation : List ℕ) → Type 0
SettlesExplanation asked text (Faulty fault) explanation =
    IfAsked asked.flags (IsExplanation text fault explanation) explanation
SettlesExplanation asked text answer explanation = explanation ≡ []

-- the status, the reports, the line and the explanation are those of an answer that is so settled
pub record IsSettled {H I O E : Type 0} (c : Call H I O E)
    (status : ℕ) (asked : Asked) (text : List ℕ) : Type 0 where
  pub answer : Answer
  pub reports : List ℕ
  pub explanation : List ℕ
  pub settled : Settles (settled_runs c reports asked) asked.mode asked text answer
  pub explains : SettlesExplanation asked text answer explanation
  pub gives : Gives c status reports answer explanation
