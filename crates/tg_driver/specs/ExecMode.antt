-- The mode `exec`: reads assembly text, and runs its image on the streams.
use Rattle.std.specs.Prelude.{ℕ, ◌≡◌, ◌≤◌, ◌<◌, List, length, Ok, Err}
use Rattle.tg_machine_state.specs.declared.ends.RunEnd.{RunEnd}
use Rattle.tg_isa.specs.declared.images.Image.{Image}
use Rattle.tg_asm_text.specs.declared.keywords.AsmRule.{AsmRule}
use Rattle.tg_asm_text.specs.Assembly.{assembled}
use Rattle.tg_asm.specs.Images.{image_of}
use Rattle.tg_command.specs.Commands.{Asked}
use Rattle.tg_driver.specs.declared.answers.Answer.{Answer}
use Rattle.tg_driver.specs.declared.answers.Answer.TheVariants.{BadLine, TooLong, Finished}
use Rattle.tg_driver.specs.Calls.{Shelved, Streams}
use Rattle.tg_driver.specs.OfFiles.{OfFile, UntouchedBeforeStart}
use Rattle.tg_driver.specs.Runs.{RunRelation}

-- the text isn't too long, and this is its first fault
pub record IsBadLine (text : List ℕ) (rule : AsmRule) (line : ℕ) : Type 0 where
  pub short : length text ≤ 67108864
  pub fault : assembled text ≡ Err (record { rule = rule; line = line })

-- it has no fault, and its image runs so with these sizes and steps
pub record EndsImage (runs : RunRelation)
    (asked : Asked) (text : List ℕ) (end : RunEnd) : Type 0 where
  pub short : length text ≤ 67108864
  pub image : Image
  pub assembles : assembled text ≡ Ok (image_of image)
  pub run : runs image asked.heap asked.stack asked.steps end

-- to a text: that it is too long, its first fault, or the end of a run of its image
abbrev pub IsExecuted : (runs : RunRelation) → Asked → List ℕ → Answer → Type 0
IsExecuted runs asked text TooLong = 67108864 < length text
IsExecuted runs asked text (BadLine rule line) = IsBadLine text rule line
IsExecuted runs asked text (Finished end) = EndsImage runs asked text end
IsExecuted runs asked text _ = ⊥

abbrev pub ByExec :
    {H I O : Type 0} → (runs : RunRelation) → Shelved H → Streams I O → Asked → Answer → Type 0
ByExec runs shelf s asked answer =
    UntouchedBeforeStart s answer
    × OfFile shelf asked.file 67108865 (IsExecuted runs asked) answer
