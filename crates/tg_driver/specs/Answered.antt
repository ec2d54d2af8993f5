-- What the program answers to a call.
use Rattle.std.specs.Prelude.{ℕ, ◌≡◌, List, [], false}
use Rattle.tg_command.specs.declared.modes.Mode.TheVariants.{Gen}
use Rattle.tg_command.specs.Commands.{Asked, Ask, IsUsageFault}
use Rattle.tg_driver.specs.declared.answers.Answer.{Answer}
use Rattle.tg_driver.specs.declared.answers.Answer.TheVariants.{Usage, OutOfMemory}
use Rattle.tg_driver.specs.Calls.{Shelved, Streams, Untouched, Call}
use Rattle.tg_driver.specs.Explained.{IsExplained}
use Rattle.tg_driver.specs.Modes.{InModeBy, texts_meant}
use Rattle.tg_driver.specs.Runs.{RunRelation}
use Rattle.tg_driver.specs.Telling.{IsTold}
use Rattle.tg_driver.specs.Watching.{HasToldRunBy, NoneBeforeEnd, if_watched}
use Rattle.tg_driver.specs.Writing.{Texts}

-- where the words ask for `gen`, the shelf is as it was
abbrev pub StaysInGen : {H : Type 0} → (words : List (List ℕ)) → Shelved H → Type 0
StaysInGen words shelf =
    (a : Asked) → Ask words a → a.mode ≡ Gen → shelf.after ≡ shelf.before

-- The answer is due: the words are no command; memory ran out, before anything was read from
-- the input or written, and in `gen` no file was asked for; or the mode that the words ask for
-- gives it, by these texts of sources, and what is said of runs where they ask for this.
pub data IsDueBy {H I O : Type 0} (texts : Texts) (runs : Asked → RunRelation)
    (words : List (List ℕ)) (shelf : Shelved H) (s : Streams I O) (answer : Answer) : Type 0 where
  usage :
      answer ≡ Usage →
      IsUsageFault words →
      shelf.after ≡ shelf.before →
      Untouched s →
      IsDueBy texts runs words shelf s answer
  no_memory :
      answer ≡ OutOfMemory →
      StaysInGen words shelf →
      Untouched s →
      IsDueBy texts runs words shelf s answer
  asked :
      (a : Asked) →
      Ask words a →
      InModeBy texts (runs a) a.mode shelf s a answer →
      IsDueBy texts runs words shelf s answer

-- without the flag no reports are told
abbrev pub NoneUnasked : (words : List (List ℕ)) → (reports : List ℕ) → Type 0
NoneUnasked words reports =
    (a : Asked) → Ask words a → a.flags.watch ≡ false → reports ≡ []

-- what is said of the runs of a call whose reports are these: they are of the machine that the flag
-- asks for
abbrev pub told_runs : {H I O E : Type 0} → Call H I O E → (reports : List ℕ) → Asked → RunRelation
told_runs c reports a =
    HasToldRunBy c.streams a.flags.bare (if_watched a.flags c.reporters) reports

-- The answer is due. The error sink took the reports of its run, its line and its explanation, and
-- the status is its own; or a write of these failed, and the status is 74.
pub record AnswersBy {H I O E : Type 0} (texts : Texts) (c : Call H I O E) (status : ℕ) : Type 0 where
  pub answer : Answer
  pub reports : List ℕ
  pub explanation : List ℕ
  pub due : IsDueBy texts (told_runs c reports) c.words c.shelf c.streams answer
  pub before_end : NoneBeforeEnd reports answer
  pub unasked : NoneUnasked c.words reports
  pub explained : IsExplained c.words c.shelf answer explanation
  pub told : IsTold c.err reports answer explanation status

-- by assembly texts that do what the source means
abbrev pub Answers : {H I O E : Type 0} → Call H I O E → (status : ℕ) → Type 0
Answers c status = AnswersBy (texts_meant c.rule) c status
