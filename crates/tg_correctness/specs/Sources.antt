-- What a text is: the tokens, the tree and the program of a source.
use Rattle.std.specs.Prelude.{ℕ, ◌≡◌, ◌≤◌, List, [], length}
use Rattle.tg_syntax.specs.declared.tokens.Spanned.{Spanned}
use Rattle.tg_syntax.specs.Tree.{Exp}
use Rattle.tg_syntax.specs.Lexing.{Lexes}
use Rattle.tg_syntax.specs.Grammar.{IsProgram}
use Rattle.tg_syntax.specs.SyntaxFaults.{IsShallow}
use Rattle.tg_lexer.specs.Numbering.{all_named, idents}
use Rattle.tg_typecheck.specs.declared.notes.Note.{Note}
use Rattle.tg_typecheck.specs.Accepted.{finding, accepted}

-- The text is these tokens. Its names are the texts of its identifiers, each once, in the order in
-- which they first come.
pub record HasTokens (text : List ℕ) (names : List (List ℕ)) (tokens : List Spanned) : Type 0 where
  pub short : length text ≤ 262144
  pub names_are : names ≡ all_named [] (idents text tokens)
  pub lexed : Lexes names 0 text tokens

-- The text is this tree, and its tokens don't nest too deep.
pub record HasTree (text : List ℕ) (names : List (List ℕ)) (tokens : List Spanned)
    (program : Exp) : Type 0 where
  pub has_tokens : HasTokens text names tokens
  pub parsed : IsProgram tokens program
  pub shallow : IsShallow tokens

-- The text is this program, which has no fault of types.
pub record IsSourceOf (text : List ℕ) (names : List (List ℕ)) (tokens : List Spanned)
    (program : Exp) : Type 0 where
  pub tree : HasTree text names tokens program
  pub notes : List Note
  pub well_typed : finding names program ≡ accepted notes

-- the text is a program
pub record IsSource (text : List ℕ) : Type 0 where
  pub names : List (List ℕ)
  pub tokens : List Spanned
  pub program : Exp
  pub source : IsSourceOf text names tokens program
