-- Runs that are watched, and what is told of them.
use Rattle.std.specs.Prelude.{ℕ, ◌≡◌, Bool, true, false, List, [], length, if◌then◌else◌}
use Rattle.tg_machine_state.specs.declared.ends.RunEnd.{RunEnd}
use Rattle.tg_isa.specs.declared.images.Image.{Image}
use Rattle.tg_machine.specs.declared.fetches.Seen.{Seen}
use Rattle.tg_machine.specs.Fetches.{IsWatched}
use Rattle.tg_machine.specs.Machines.{Simulated, loaded}
use Rattle.tg_profiler.specs.Told.{reports_text}
use Rattle.tg_profiler.specs.Watching.{Report}
use Rattle.tg_command.specs.declared.flags.Flags.{Flags}
use Rattle.tg_driver.specs.declared.answers.Answer.{Answer}
use Rattle.tg_driver.specs.declared.answers.Answer.TheVariants.{Finished}
use Rattle.tg_driver.specs.Calls.{Streams}
use Rattle.tg_driver.specs.Runs.{RunRelation, HasBareRun}

-- those that were handed in, where the flags ask for them
abbrev pub if_watched : {A : Type 0} → Flags → List A → List A
if_watched flags all = if flags.watch then all else []

-- the machine ran the image on the streams so, and its steps fetched this
pub record HasFetched {I O : Type 0} (s : Streams I O) (image : Image) (heap stack steps : ℕ)
    (end : RunEnd) (seen : List Seen) : Type 0 where
  pub after : Simulated
  pub watched :
      IsWatched s.input.told s.input.faults s.out.told s.out.faults steps
      (loaded image heap stack) after
      s.input.before s.input.after s.out.before s.out.after end seen

-- the machine ran so, and this is the text of the reports of the fetches of that very run
pub record HasToldRun {I O : Type 0} (s : Streams I O) (reporters : List Report)
    (reports : List ℕ) (image : Image) (heap stack steps : ℕ) (end : RunEnd) : Type 0 where
  pub seen : List Seen
  pub fetched : HasFetched s image heap stack steps end seen
  pub reports_are : reports ≡ reports_text reporters seen (length image.code)

-- the machine with delayed branches ran so, and nothing is told of it
pub record HasUntoldRun {I O : Type 0} (s : Streams I O) (reports : List ℕ)
    (image : Image) (heap stack steps : ℕ) (end : RunEnd) : Type 0 where
  pub run : HasBareRun s image heap stack steps end
  pub none : reports ≡ []

-- the machine that the flag asks for ran so, and this is what is told of that very run
abbrev pub HasToldRunBy :
    {I O : Type 0} → Streams I O → (bare : Bool) → List Report → (reports : List ℕ) → RunRelation
HasToldRunBy s true reporters reports = HasUntoldRun s reports
HasToldRunBy s false reporters reports = HasToldRun s reporters reports

-- nothing is told of a run where none has ended
abbrev pub NoneBeforeEnd : (reports : List ℕ) → Answer → Type 0
NoneBeforeEnd reports (Finished end) = Unit {0}
NoneBeforeEnd reports answer = reports ≡ []
