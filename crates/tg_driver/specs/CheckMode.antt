-- The mode `check`: reads a source, and says whether it is a program. It touches no stream.
use Rattle.std.specs.Prelude.{List, ℕ}
use Rattle.tg_command.specs.Commands.{Asked}
use Rattle.tg_driver.specs.declared.answers.Answer.{Answer}
use Rattle.tg_driver.specs.declared.answers.Answer.TheVariants.{Faulty, Accepted}
use Rattle.tg_driver.specs.Calls.{Shelved, Streams, Untouched}
use Rattle.tg_driver.specs.OfFiles.{OfFile}
use Rattle.tg_correctness.specs.Sources.{IsSource}
use Rattle.tg_driver.specs.Faults.{IsFaultOf}

-- to a text: its first fault, or that it is a program
abbrev pub IsChecked : List ℕ → Answer → Type 0
IsChecked text (Faulty fault) = IsFaultOf text fault
IsChecked text Accepted = IsSource text
IsChecked text _ = ⊥

abbrev pub ByCheck : {H I O : Type 0} → Shelved H → Streams I O → Asked → Answer → Type 0
ByCheck shelf s asked answer = Untouched s × OfFile shelf asked.file 262145 IsChecked answer
