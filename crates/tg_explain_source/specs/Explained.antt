-- The lines that explain a source.
use Rattle.std.specs.Prelude.{ℕ, ◌≡◌, List, []}
use Rattle.tg_syntax.specs.declared.faults.LexRule.{LexRule}
use Rattle.tg_syntax.specs.declared.tokens.Spanned.{Spanned}
use Rattle.tg_syntax.specs.Tree.{Exp}
use Rattle.tg_syntax.specs.LexicalFaults.{HasLexicalFault}
use Rattle.tg_parser.specs.declared.faults.SyntaxRule.{SyntaxRule}
use Rattle.tg_parser.specs.Answers.{HasSyntaxFault}
use Rattle.tg_explain.specs.declared.details.SyntaxDetail.{SyntaxDetail}
use Rattle.tg_explain.specs.Details.{IsExplained}
use Rattle.tg_explain.specs.Lexical.{lexical_lines}
use Rattle.tg_explain.specs.Lines.{syntax_lines}
use Rattle.tg_typecheck.specs.declared.faults.TypeRule.{TypeRule}
use Rattle.tg_typecheck.specs.Accepted.{finding, at_fault}
use Rattle.tg_explain_types.specs.Details.{explained}
use Rattle.tg_explain_types.specs.Lines.{type_lines}
use Rattle.tg_correctness.specs.Sources.{HasTokens, HasTree, IsSource}

-- These lines explain the text: they tell what its first fault is about, which is one of its bytes,
-- of its tokens or of the types of its tree. Of a program there is nothing to tell.
pub data Explains (text lines : List ℕ) : Type 0 where
  lexical :
      {rule : LexRule} {at : ℕ} →
      HasLexicalFault text rule at →
      lines ≡ lexical_lines text rule at →
      Explains text lines
  syntactic :
      {names : List (List ℕ)} {tokens : List Spanned} {at : ℕ} →
      (rule : SyntaxRule) →
      HasTokens text names tokens →
      HasSyntaxFault tokens rule at →
      (detail : SyntaxDetail) →
      IsExplained tokens at detail →
      lines ≡ syntax_lines text rule detail →
      Explains text lines
  ill_typed :
      {names : List (List ℕ)} {tokens : List Spanned} {program : Exp} {rule : TypeRule} {at : ℕ} →
      HasTree text names tokens program →
      finding names program ≡ at_fault rule at →
      lines ≡ type_lines text at (explained text program rule at) →
      Explains text lines
  accepted : IsSource text → lines ≡ [] → Explains text lines
