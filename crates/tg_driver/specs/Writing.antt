-- Modes that read a source, and write a text of it to the output: what `build`, `alloc` and
-- `show` share.
use Rattle.std.specs.Prelude.{List, ℕ}
use Rattle.tg_command.specs.Commands.{Asked}
use Rattle.tg_compile.specs.declared.passes.Passes.{Passes}
use Rattle.tg_driver.specs.declared.answers.Answer.{Answer}
use Rattle.tg_driver.specs.declared.answers.Answer.TheVariants.{Faulty, Written, Unwritten}
use Rattle.tg_driver.specs.Calls.{Shelved, Stream, Streams, Stays, Takes}
use Rattle.tg_driver.specs.OfFiles.{OfFile, UntouchedBeforeStart}
use Rattle.tg_driver.specs.Faults.{IsFaultOf}

-- the sink took a text, whole, or a write of it failed
abbrev pub TakesText : {O : Type 0} → Stream O → List ℕ → Answer → Type 0
TakesText out text answer = Takes out text Written Unwritten answer

-- which texts a mode may write of a source
abbrev pub TextRelation : Type 1
TextRelation = (source written : List ℕ) → Type 0

-- which assembly texts a source may have, which of these for the machine with delayed branches,
-- which listings of what the allocator did, and which texts of what each pass made, with the passes
-- that are switched on
pub record Texts : Type 1 where
  pub assembly : Passes → TextRelation
  pub bare : Passes → TextRelation
  pub listing : Passes → TextRelation
  pub shown : Passes → TextRelation

-- the sink took such a text of the source, or a write of it failed
pub record WritesText {O : Type 0} (out : Stream O) (writes : TextRelation)
    (source : List ℕ) (answer : Answer) : Type 0 where
  pub written : List ℕ
  pub is_of : writes source written
  pub takes : TakesText out written answer

-- to a source: its first fault, or what came of writing such a text of it
abbrev pub IsWritten :
    {O : Type 0} → Stream O → (writes : TextRelation) → List ℕ → Answer → Type 0
IsWritten out writes source (Faulty fault) = IsFaultOf source fault
IsWritten out writes source Written = WritesText out writes source Written
IsWritten out writes source Unwritten = WritesText out writes source Unwritten
IsWritten out writes source _ = ⊥

abbrev pub ByWriting :
    {H I O : Type 0} → Shelved H → Streams I O → (writes : TextRelation) → Asked → Answer → Type 0
ByWriting shelf s writes asked answer =
    Stays s.input × UntouchedBeforeStart s answer
    × OfFile shelf asked.file 262145 (IsWritten s.out writes) answer
