-- The first fault of a text that is no source.
use Rattle.std.specs.Prelude.{ℕ, ◌≡◌, List}
use Rattle.tg_base.specs.Lines.{place_of}
use Rattle.tg_syntax.specs.declared.faults.LexRule.{LexRule}
use Rattle.tg_syntax.specs.declared.tokens.Spanned.{Spanned}
use Rattle.tg_syntax.specs.Tree.{Exp}
use Rattle.tg_syntax.specs.LexicalFaults.{HasLexicalFault}
use Rattle.tg_parser.specs.declared.faults.SyntaxRule.{SyntaxRule}
use Rattle.tg_parser.specs.Answers.{HasSyntaxFault}
use Rattle.tg_typecheck.specs.declared.faults.TypeRule.{TypeRule}
use Rattle.tg_typecheck.specs.Accepted.{finding, at_fault}
use Rattle.tg_correctness.specs.Sources.{HasTokens, HasTree}
use Rattle.tg_driver.specs.declared.faults.Rule.{Rule}
use Rattle.tg_driver.specs.declared.faults.Rule.TheVariants.{Lexical, Syntactic, Typed, Bare}
use Rattle.tg_driver.specs.declared.faults.Fault.{Fault}

-- The text's first fault, with its rule and its byte: that of its bytes, or where it is tokens that
-- of these, or where they are a tree that of its types.
pub data HasFault (text : List ℕ) : Rule → ℕ → Type 0 where
  lexical :
      {rule : LexRule} {at : ℕ} → HasLexicalFault text rule at → HasFault text (Lexical rule) at
  syntactic :
      {names : List (List ℕ)} {tokens : List Spanned} {rule : SyntaxRule} {at : ℕ} →
      HasTokens text names tokens →
      HasSyntaxFault tokens rule at →
      HasFault text (Syntactic rule) at
  ill_typed :
      {names : List (List ℕ)} {tokens : List Spanned} {program : Exp} {rule : TypeRule} {at : ℕ} →
      HasTree text names tokens program →
      finding names program ≡ at_fault rule at →
      HasFault text (Typed rule) at

-- a rule of bytes or of tokens
abbrev pub IsUntyped : Rule → Type 0
IsUntyped (Lexical rule) = Unit {0}
IsUntyped (Syntactic rule) = Unit {0}
IsUntyped (Typed rule) = ⊥
IsUntyped Bare = ⊥

-- the fault as it is told, with line and column of its byte
pub record IsFaultOf (text : List ℕ) (fault : Fault) : Type 0 where
  pub at : ℕ
  pub has : HasFault text fault.rule at
  pub place : fault.place ≡ place_of text at
