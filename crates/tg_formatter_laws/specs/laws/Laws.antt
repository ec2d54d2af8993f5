-- What the canonical text of tokens promises.
use Rattle.std.specs.Prelude.{ℕ, ◌≡◌, List}
use Rattle.tg_base.specs.Interned.{AreDistinct}
use Rattle.tg_syntax.specs.declared.tokens.Token.{Token}
use Rattle.tg_syntax.specs.declared.tokens.Spanned.{Spanned}
use Rattle.tg_syntax.specs.Tree.{Exp}
use Rattle.tg_syntax.specs.Lexing.{Lexes}
use Rattle.tg_syntax.specs.Grammar.{IsProgram}
use Rattle.tg_syntax.specs.SyntaxFaults.{IsShallow}
use Rattle.tg_formatter.specs.Canonical.{canonical, tokens_of}
use Rattle.tg_formatter.specs.Writable.{AreWritable}
use Rattle.tg_formatter_laws.specs.Spans.{without_spans}

-- What a lexer answers can be written.
abbrev pub LexedAreWritable : Type 0
LexedAreWritable =
    (names : List (List ℕ)) (at : ℕ) (text : List ℕ) (tokens : List Spanned) →
    Lexes names at text tokens → AreWritable names (tokens_of tokens)

-- the text from a byte on is these tokens, wherever they stand in it
pub record ReadsAgain (names : List (List ℕ)) (at : ℕ)
    (text : List ℕ) (tokens : List Token) : Type 0 where
  pub read : List Spanned
  pub lexed : Lexes names at text read
  pub same : tokens_of read ≡ tokens

-- What is written has the tokens that were to be written, whatever its length.
abbrev pub SameTokens : Type 0
SameTokens =
    (names : List (List ℕ)) (tokens : List Token) → AreWritable names tokens →
    ReadsAgain names 0 (canonical names tokens) tokens

-- What is read of a canonical text is written as that text. A text has one list of tokens where no
-- name stands twice.
abbrev pub FormattingAgain : Type 0
FormattingAgain =
    (names : List (List ℕ)) (tokens : List Token) → AreWritable names tokens → AreDistinct names →
    (read : List Spanned) → Lexes names 0 (canonical names tokens) read →
    canonical names (tokens_of read) ≡ canonical names tokens

-- the tokens are the tree, but for its places
pub record IsProgramLike (tokens : List Spanned) (tree : Exp) : Type 0 where
  pub again : Exp
  pub parsed : IsProgram tokens again
  pub same : without_spans again ≡ without_spans tree

-- The same tokens elsewhere are the same tree.
abbrev pub SameTree : Type 0
SameTree =
    (tokens others : List Spanned) (tree : Exp) → IsProgram tokens tree →
    tokens_of others ≡ tokens_of tokens → IsProgramLike others tree

-- and are nested as deep
abbrev pub SameNesting : Type 0
SameNesting =
    (tokens others : List Spanned) → tokens_of others ≡ tokens_of tokens → IsShallow tokens →
    IsShallow others
