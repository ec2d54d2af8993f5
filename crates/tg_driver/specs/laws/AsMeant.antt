-- Answers that are due by assembly texts that do what their source means.
use Rattle.std.specs.Prelude.{List, ℕ}
use Rattle.tg_irc_definition.specs.Policies.{Rule as SpillRule}
use Rattle.tg_command.specs.declared.modes.Mode.{Mode}
use Rattle.tg_command.specs.Commands.{Asked}
use Rattle.tg_driver.specs.declared.answers.Answer.{Answer}
use Rattle.tg_driver.specs.Calls.{Shelved, Streams, Stream}
use Rattle.tg_driver.specs.Runs.{RunRelation}
use Rattle.tg_driver.specs.Modes.{InModeBy, texts_meant}
use Rattle.tg_correctness.specs.Assemblies.{IsAsMeant}
use Rattle.tg_driver.specs.RunMode.{IsRunBy}
use Rattle.tg_driver.specs.GenMode.{SumsUpBy, IsGeneratedBy}
use Rattle.tg_machine_state.specs.declared.ends.RunEnd.{RunEnd}
use Rattle.tg_driver.specs.MeantRuns.{EndsBy}
use Rattle.tg_driver.specs.Answered.{IsDueBy}

-- the answer is due in the mode
abbrev pub InMode :
    {H I O : Type 0} → SpillRule → (runs : RunRelation) →
    Mode → Shelved H → Streams I O → Asked → Answer → Type 0
InMode rule runs mode shelf s asked answer =
    InModeBy (texts_meant rule) runs mode shelf s asked answer

-- to a text in `run`: its first fault, or the end of a run of what does what it means
abbrev pub IsRun : (runs : RunRelation) → Asked → List ℕ → Answer → Type 0
IsRun runs asked text answer = IsRunBy IsAsMeant runs asked text answer

-- in `gen` the image of what does what the source means ran, and the summary was written
abbrev pub SumsUpMeant : {O : Type 0} → Stream O →
    (functions : ℕ) (text : List ℕ) (heap stack steps : ℕ) (answer : Answer) → Type 0
SumsUpMeant out functions text heap stack steps answer =
    SumsUpBy IsAsMeant out functions text heap stack steps answer

abbrev pub IsGenerated : {O : Type 0} → Stream O → Asked → Answer → Type 0
IsGenerated out asked answer = IsGeneratedBy IsAsMeant out asked answer

-- the image of what does what the source means ran so
abbrev pub EndsAsMeant :
    RunRelation → (text : List ℕ) (heap stack steps : ℕ) (end : RunEnd) → Type 0
EndsAsMeant runs text heap stack steps end = EndsBy IsAsMeant runs text heap stack steps end

-- the answer is due to the words
abbrev pub IsDue : {H I O : Type 0} → SpillRule → (runs : Asked → RunRelation) →
    (words : List (List ℕ)) → Shelved H → Streams I O → Answer → Type 0
IsDue rule runs words shelf s answer = IsDueBy (texts_meant rule) runs words shelf s answer
