-- What is told behind the line of a fault, where it is asked for.
use Rattle.std.specs.Prelude.{ℕ, ◌≡◌, ◌⊎◌, List, [], true, false, codes}
use Rattle.tg_base.specs.Files.{IsFilePrefix}
use Rattle.tg_explain.specs.Lines.{line_of as explaining_line}
use Rattle.tg_explain_source.specs.Explained.{Explains}
use Rattle.tg_command.specs.declared.flags.Flags.{Flags}
use Rattle.tg_command.specs.Commands.{Asked, Ask}
use Rattle.tg_driver.specs.declared.answers.Answer.{Answer}
use Rattle.tg_driver.specs.declared.answers.Answer.TheVariants.{Faulty}
use Rattle.tg_driver.specs.declared.faults.Fault.{Fault}
use Rattle.tg_driver.specs.Calls.{Shelved}
use Rattle.tg_driver.specs.LargePrograms.{IsBareFaultOf}

-- where memory ran out for the explanation
abbrev pub no_memory_line : List ℕ
no_memory_line = explaining_line (codes "no memory to explain it")

-- the lines that explain a text, or that there was no memory for them
abbrev pub TellsWhy : (text explanation : List ℕ) → Type 0
TellsWhy text explanation = Explains text explanation ⊎ (explanation ≡ no_memory_line)

-- the fault is the first one of the text, or in `bare` that of its size, and this explains the text:
-- of a fault of size there is nothing to tell, since the text is a program
pub record IsExplanation (text : List ℕ) (fault : Fault) (explanation : List ℕ) : Type 0 where
  pub is_fault : IsBareFaultOf text fault
  pub tells_why : TellsWhy text explanation

-- so it is of the text that the shelf gave of a file
pub record ExplainsFile {H : Type 0} (shelf : Shelved H) (name : List ℕ)
    (fault : Fault) (explanation : List ℕ) : Type 0 where
  pub text : List ℕ
  pub is_front : IsFilePrefix (shelf.files shelf.before) name 262145 text
  pub explains : IsExplanation text fault explanation

-- where the flags ask for explanations, this is said of one; else it is empty
pub record IfAsked (flags : Flags) (due : Type 0) (explanation : List ℕ) : Type 0 where
  pub asked : flags.explain ≡ true → due
  pub unasked : flags.explain ≡ false → explanation ≡ []

-- behind a fault stands its explanation, where the words ask for it; behind any other answer
-- nothing
abbrev pub IsExplained :
    {H : Type 0} → (words : List (List ℕ)) → Shelved H → Answer → (explanation : List ℕ) → Type 0
IsExplained words shelf (Faulty fault) explanation =
    (a : Asked) → Ask words a →
    IfAsked a.flags (ExplainsFile shelf a.file fault explanation) explanation
IsExplained words shelf answer explanation = explanation ≡ []
