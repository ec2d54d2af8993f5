-- The mode `bare`: reads a source, and writes to the output an assembly text that the source may
-- have for the machine with delayed branches: one that does there what the source means.
use Rattle.std.specs.Prelude.{ℕ, List}
use Rattle.tg_command.specs.Commands.{Asked}
use Rattle.tg_bare_compile_proof.specs.Assemblies.{BareIsAsMeant}
use Rattle.tg_driver.specs.declared.answers.Answer.{Answer}
use Rattle.tg_driver.specs.declared.answers.Answer.TheVariants.{Faulty, Written, Unwritten}
use Rattle.tg_driver.specs.Calls.{Shelved, Stream, Streams, Stays}
use Rattle.tg_driver.specs.LargePrograms.{IsBareFaultOf, IsSmall}
use Rattle.tg_driver.specs.OfFiles.{OfFile, UntouchedBeforeStart}
use Rattle.tg_driver.specs.Writing.{TextRelation, WritesText}

-- The text is a source whose program isn't too large, and the assembly text does what it means on
-- that machine.
pub record IsMeantForBare (text assembly : List ℕ) : Type 0 where
  pub meant : BareIsAsMeant text assembly
  pub small : IsSmall meant.program

-- to a source: its first fault, or that it is too large, or what came of writing such a text of it
abbrev pub IsBareWritten :
    {O : Type 0} → Stream O → (writes : TextRelation) → List ℕ → Answer → Type 0
IsBareWritten out writes source (Faulty fault) = IsBareFaultOf source fault
IsBareWritten out writes source Written = WritesText out writes source Written
IsBareWritten out writes source Unwritten = WritesText out writes source Unwritten
IsBareWritten out writes source _ = ⊥

abbrev pub ByBare :
    {H I O : Type 0} → (bare : TextRelation) → Shelved H → Streams I O → Asked → Answer → Type 0
ByBare bare shelf s asked answer =
    Stays s.input × UntouchedBeforeStart s answer
    × OfFile shelf asked.file 262145 (IsBareWritten s.out bare) answer
