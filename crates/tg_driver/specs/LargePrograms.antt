-- Programs that are too large for the machine with delayed branches.
use Rattle.std.specs.Prelude.{ℕ, ◌≡◌, ◌≤◌, ◌<◌, ◌⊎◌, List}
use Rattle.tg_base.specs.Lines.{place_of}
use Rattle.tg_syntax.specs.declared.tokens.Spanned.{Spanned}
use Rattle.tg_syntax.specs.Functions.{program_size}
use Rattle.tg_syntax.specs.Spans.{span_of}
use Rattle.tg_syntax.specs.Tree.{Exp}
use Rattle.tg_correctness.specs.Sources.{IsSourceOf}
use Rattle.tg_driver.specs.declared.faults.Fault.{Fault}
use Rattle.tg_driver.specs.declared.faults.Rule.TheVariants.{Bare}
use Rattle.tg_driver.specs.Faults.{IsFaultOf}

-- the most nodes of a program whose code fits its segment with delay slots
abbrev pub most_nodes : ℕ
most_nodes = 16384

abbrev pub IsSmall : Exp → Type 0
IsSmall program = program_size program ≤ most_nodes

-- The text is a source, and its program, which begins at this byte, is too large for that.
pub record IsTooLargeAt (text : List ℕ) (at : ℕ) : Type 0 where
  pub names : List (List ℕ)
  pub tokens : List Spanned
  pub program : Exp
  pub source : IsSourceOf text names tokens program
  pub large : most_nodes < program_size program
  pub at_is : at ≡ (span_of program).from

-- the fault that this is in `bare`, with line and column of its byte
pub record IsTooLarge (text : List ℕ) (fault : Fault) : Type 0 where
  pub at : ℕ
  pub large : IsTooLargeAt text at
  pub rule : fault.rule ≡ Bare
  pub place : fault.place ≡ place_of text at

-- a fault that `bare` tells: the first one of the text, or that of a source whose program is too
-- large
abbrev pub IsBareFaultOf : List ℕ → Fault → Type 0
IsBareFaultOf text fault = IsFaultOf text fault ⊎ IsTooLarge text fault

-- the text is a source whose program isn't too large
pub record IsSmallSource (text : List ℕ) : Type 0 where
  pub names : List (List ℕ)
  pub tokens : List Spanned
  pub program : Exp
  pub source : IsSourceOf text names tokens program
  pub small : IsSmall program
