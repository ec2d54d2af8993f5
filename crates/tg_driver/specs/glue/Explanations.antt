-- Explanations as the code carries them.
use Rattle.std.specs.Prelude.{ℕ, ◌≡◌, List, []}
use Rattle.tg_command.specs.declared.flags.Flags.{Flags}
use Rattle.tg_driver.specs.declared.answers.Answer.{Answer}
use Rattle.tg_driver.specs.declared.answers.Answer.TheVariants.{Faulty}
use Rattle.tg_driver.specs.declared.explaining.Explanation.{Explanation}
use Rattle.tg_driver.specs.declared.explaining.Explanation.TheVariants.{Nothing, Lines, NoMemory}
use Rattle.tg_driver.specs.Explained.{TellsWhy, IfAsked, no_memory_line}

abbrev pub text_of : Explanation → List ℕ
text_of Nothing = []
text_of (Lines lines) = lines.items
text_of NoMemory = no_memory_line

-- it explains a text that has a fault, where the flags ask for this; else it is empty
abbrev pub IsExplainedText : Flags → (text : List ℕ) → Answer → (explanation : List ℕ) → Type 0
IsExplainedText flags text (Faulty fault) explanation =
    IfAsked flags (TellsWhy text explanation) explanation
IsExplainedText flags text answer explanation = explanation ≡ []
