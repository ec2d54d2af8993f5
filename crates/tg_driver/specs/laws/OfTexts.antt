-- What is due to the text of a file, whatever a sink takes of it.
use Rattle.std.specs.Prelude.{List, ℕ}
use Rattle.tg_driver.specs.declared.answers.Answer.{Answer}
use Rattle.tg_driver.specs.declared.answers.Answer.TheVariants.{Faulty, Written, Unwritten}
use Rattle.tg_driver.specs.declared.answers.Answer.TheVariants.{Finished}
use Rattle.tg_correctness.specs.Sources.{IsSource, HasTree}
use Rattle.tg_driver.specs.Faults.{IsFaultOf}
use Rattle.tg_driver.specs.LargePrograms.{IsBareFaultOf, IsSmallSource}
use Rattle.tg_syntax.specs.declared.tokens.Spanned.{Spanned}
use Rattle.tg_syntax.specs.Tree.{Exp}
use Rattle.tg_driver.specs.Calls.{Stream}
use Rattle.tg_driver.specs.Writing.{TakesText}
use Rattle.tg_driver.specs.FormatMode.{IsUntypedFault}
use Rattle.tg_command.specs.declared.modes.Mode.{Mode}
use Rattle.tg_command.specs.declared.modes.Mode.TheVariants.{Check, Build, Run, Exec, Alloc, Gen}
use Rattle.tg_command.specs.declared.modes.Mode.TheVariants.{Show, Format, Bare}
use Rattle.tg_command.specs.Commands.{Asked}
use Rattle.tg_driver.specs.Runs.{RunRelation}
use Rattle.tg_driver.specs.CheckMode.{IsChecked}
use Rattle.tg_driver.specs.laws.AsMeant.{IsRun}
use Rattle.tg_driver.specs.ExecMode.{IsExecuted}

-- whatever the sink takes: the source's first fault, or that it is a source
abbrev pub IsWritable : List ℕ → Answer → Type 0
IsWritable source (Faulty fault) = IsFaultOf source fault
IsWritable source Written = IsSource source
IsWritable source Unwritten = IsSource source
IsWritable source _ = ⊥

-- in `bare` that it is a source whose program isn't too large, or is
abbrev pub IsBareWritable : List ℕ → Answer → Type 0
IsBareWritable source (Faulty fault) = IsBareFaultOf source fault
IsBareWritable source Written = IsSmallSource source
IsBareWritable source Unwritten = IsSmallSource source
IsBareWritable source _ = ⊥

-- whatever the sink takes: an end of the run, or that the summary failed
abbrev pub IsGenerable : Answer → Type 0
IsGenerable (Finished end) = Unit {0}
IsGenerable Unwritten = Unit {0}
IsGenerable _ = ⊥

-- the text is a tree
pub record IsTree (text : List ℕ) : Type 0 where
  pub names : List (List ℕ)
  pub tokens : List Spanned
  pub program : Exp
  pub tree : HasTree text names tokens program

-- whatever the sink takes: the source's first fault but of types, or that it is a tree
abbrev pub IsFormattable : List ℕ → Answer → Type 0
IsFormattable source (Faulty fault) = IsUntypedFault source fault
IsFormattable source Written = IsTree source
IsFormattable source Unwritten = IsTree source
IsFormattable source _ = ⊥

-- to a source: its first fault but of types, or that its canonical text was written
abbrev pub IsFaultyOrFormatted : List ℕ → Answer → Type 0
IsFaultyOrFormatted source (Faulty fault) = IsUntypedFault source fault
IsFaultyOrFormatted source Written = IsTree source
IsFaultyOrFormatted source _ = ⊥

-- two sinks took one text, whole
pub record TakeOneText {O P : Type 0} (out : Stream O) (other : Stream P) : Type 0 where
  pub written : List ℕ
  pub takes : TakesText out written Written
  pub takes_too : TakesText other written Written

-- the answer is due to the text of the file, by what is said of runs
abbrev pub IsDueOfText : RunRelation → Mode → Asked → List ℕ → Answer → Type 0
IsDueOfText runs Check asked text answer = IsChecked text answer
IsDueOfText runs Build asked text answer = IsWritable text answer
IsDueOfText runs Run asked text answer = IsRun runs asked text answer
IsDueOfText runs Exec asked text answer = IsExecuted runs asked text answer
IsDueOfText runs Alloc asked text answer = IsWritable text answer
IsDueOfText runs Show asked text answer = IsWritable text answer
IsDueOfText runs Gen asked text answer = IsGenerable answer
IsDueOfText runs Format asked text answer = IsFormattable text answer
IsDueOfText runs Bare asked text answer = IsBareWritable text answer

-- the bytes that a mode asks the shelf for: one more than its file may have
abbrev pub most_of : Mode → ℕ
most_of Exec = 67108865
most_of _ = 262145
