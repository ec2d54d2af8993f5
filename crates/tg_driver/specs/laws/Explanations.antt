-- What an explanation says of a fault S1.
use Rattle.std.specs.Prelude.{ℕ, ◌≡◌, List}
use Rattle.std.specs.List.{Contains}
use Rattle.tg_syntax.specs.declared.tokens.Spanned.{Spanned}
use Rattle.tg_syntax.specs.SyntaxFaults.{IsAt, HasUnexpected}
use Rattle.tg_parser.specs.declared.faults.SyntaxRule.TheVariants.{S1}
use Rattle.tg_explain.specs.declared.details.SyntaxDetail.{SyntaxDetail}
use Rattle.tg_explain.specs.declared.kinds.TokenKind.{TokenKind}
use Rattle.tg_explain.specs.Expected.{CanFollow}
use Rattle.tg_explain.specs.Lines.{syntax_lines}
use Rattle.tg_correctness.specs.Sources.{HasTokens}
use Rattle.tg_explain_source.specs.Explained.{Explains}

-- the lines tell which kinds of tokens are expected at this byte: a kind is among them if and only
-- if some program begins with the tokens before and one of that kind
pub record TellsExpected (text : List ℕ) (tokens : List Spanned) (at : ℕ)
    (lines : List ℕ) : Type 0 where
  pub front : List Spanned
  pub one : Spanned
  pub is_at : IsAt tokens front one at
  pub detail : SyntaxDetail
  pub lines_are : lines ≡ syntax_lines text S1 detail
  pub exactly :
      (kind : TokenKind) →
      (Contains detail.expected kind → CanFollow front kind)
      × (CanFollow front kind → Contains detail.expected kind)

-- so do the lines that explain a text whose tokens have S1 at this byte
abbrev pub ExpectedAreTold : Type 0
ExpectedAreTold =
    (text lines : List ℕ) (names : List (List ℕ)) (tokens : List Spanned) (at : ℕ) →
    HasTokens text names tokens → HasUnexpected tokens at → Explains text lines →
    TellsExpected text tokens at lines
