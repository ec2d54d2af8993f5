-- The mode `format`: reads a source, and writes its canonical text to the output. Its types aren't
-- looked at.
use Rattle.std.specs.Prelude.{ℕ, ◌≡◌, List}
use Rattle.tg_syntax.specs.declared.tokens.Spanned.{Spanned}
use Rattle.tg_syntax.specs.Tree.{Exp}
use Rattle.tg_formatter.specs.Canonical.{canonical, tokens_of}
use Rattle.tg_command.specs.Commands.{Asked}
use Rattle.tg_correctness.specs.Sources.{HasTree}
use Rattle.tg_driver.specs.declared.answers.Answer.{Answer}
use Rattle.tg_driver.specs.declared.answers.Answer.TheVariants.{Faulty, Written, Unwritten}
use Rattle.tg_driver.specs.declared.faults.Fault.{Fault}
use Rattle.tg_driver.specs.Calls.{Shelved, Stream, Streams, Stays}
use Rattle.tg_driver.specs.Faults.{IsFaultOf, IsUntyped}
use Rattle.tg_driver.specs.OfFiles.{OfFile, UntouchedBeforeStart}
use Rattle.tg_driver.specs.Writing.{WritesText}

-- the text is a tree of some tokens, of which this is the canonical text
pub record Formats (text written : List ℕ) : Type 0 where
  pub names : List (List ℕ)
  pub tokens : List Spanned
  pub program : Exp
  pub tree : HasTree text names tokens program
  pub written_is : written ≡ canonical names (tokens_of tokens)

-- the first fault of a text that is no tree
pub record IsUntypedFault (text : List ℕ) (fault : Fault) : Type 0 where
  pub is_fault : IsFaultOf text fault
  pub is_untyped : IsUntyped fault.rule

-- to a source: its first fault but of types, or what came of writing its canonical text
abbrev pub IsFormatted : {O : Type 0} → Stream O → List ℕ → Answer → Type 0
IsFormatted out source (Faulty fault) = IsUntypedFault source fault
IsFormatted out source Written = WritesText out Formats source Written
IsFormatted out source Unwritten = WritesText out Formats source Unwritten
IsFormatted out source _ = ⊥

abbrev pub ByFormat : {H I O : Type 0} → Shelved H → Streams I O → Asked → Answer → Type 0
ByFormat shelf s asked answer =
    Stays s.input × UntouchedBeforeStart s answer
    × OfFile shelf asked.file 262145 (IsFormatted s.out) answer
