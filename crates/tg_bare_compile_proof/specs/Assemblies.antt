-- An assembly text that does what a source means on the machine with delayed branches. No pass of
-- the compiler is named here.
use Rattle.std.specs.Prelude.{ℕ, ◌≡◌, List, Ok}
use Rattle.tg_syntax.specs.declared.tokens.Spanned.{Spanned}
use Rattle.tg_syntax.specs.Tree.{Exp}
use Rattle.tg_asm_text.specs.Assembly.{Assembled, assembled}
use Rattle.tg_correctness.specs.Sources.{IsSourceOf}
use Rattle.tg_bare_compile_proof.specs.Images.{BareDoesWhatIsMeant}

-- The text is a source of a program, and the assembly text has an image that does what the program
-- means on that machine, whatever its input and the sizes of heap and stack.
pub record BareIsAsMeant (text assembly : List ℕ) : Type 0 where
  pub names : List (List ℕ)
  pub tokens : List Spanned
  pub program : Exp
  pub source : IsSourceOf text names tokens program
  pub image : Assembled
  pub assembles : assembled assembly ≡ Ok image
  pub does : BareDoesWhatIsMeant names program image
