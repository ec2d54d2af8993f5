-- The mode `run`: reads a source, and runs on the streams the image of an assembly text that the
-- source may have: one that does what the source means.
use Rattle.std.specs.Prelude.{List, ℕ}
use Rattle.tg_command.specs.Commands.{Asked}
use Rattle.tg_driver.specs.declared.answers.Answer.{Answer}
use Rattle.tg_driver.specs.declared.answers.Answer.TheVariants.{Faulty, Finished}
use Rattle.tg_driver.specs.Calls.{Shelved, Streams}
use Rattle.tg_driver.specs.OfFiles.{OfFile, UntouchedBeforeStart}
use Rattle.tg_driver.specs.Faults.{IsFaultOf}
use Rattle.tg_driver.specs.MeantRuns.{EndsBy}
use Rattle.tg_driver.specs.Runs.{RunRelation}
use Rattle.tg_driver.specs.Writing.{TextRelation}

-- to a text: its first fault, or the end of a run of an assembly text that it may have
abbrev pub IsRunBy : TextRelation → (runs : RunRelation) → Asked → List ℕ → Answer → Type 0
IsRunBy texts runs asked text (Faulty fault) = IsFaultOf text fault
IsRunBy texts runs asked text (Finished end) =
    EndsBy texts runs text asked.heap asked.stack asked.steps end
IsRunBy texts runs asked text _ = ⊥

abbrev pub ByRun :
    {H I O : Type 0} → TextRelation → (runs : RunRelation) →
    Shelved H → Streams I O → Asked → Answer → Type 0
ByRun texts runs shelf s asked answer =
    UntouchedBeforeStart s answer
    × OfFile shelf asked.file 262145 (IsRunBy texts runs asked) answer
