-- Where the tokens of a text are spelled.
use Rattle.std.specs.Prelude.{ℕ, ◌+◌, ◌≡◌, List, [], ◌∷◌, ◌++◌, length}
use Rattle.tg_syntax.specs.declared.tokens.Token.{Token}
use Rattle.tg_syntax.specs.declared.tokens.Token.TheVariants.{End}
use Rattle.tg_syntax.specs.declared.tokens.Spanned.{Spanned}
use Rattle.tg_syntax.specs.Spellings.{Spells}
use Rattle.tg_syntax.specs.Lexing.{Lexes}

-- The text's bytes in the token's span spell it, where names are numbered by their places in a
-- list; the end stands after all.
abbrev pub SpellsOrEnds : List (List ℕ) → (bytes after : List ℕ) → Token → Type 0
SpellsOrEnds names bytes after End = (bytes ≡ []) × (after ≡ [])
SpellsOrEnds names bytes after one = Spells names bytes one

pub record IsSpelled (names : List (List ℕ)) (text : List ℕ) (t : Spanned) : Type 0 where
  pub before : List ℕ
  pub bytes : List ℕ
  pub after : List ℕ
  pub whole : text ≡ before ++ (bytes ++ after)
  pub from_is : t.span.from ≡ length before
  pub to_is : t.span.to ≡ length before + length bytes
  pub spells : SpellsOrEnds names bytes after t.token

abbrev pub AreSpelled : List (List ℕ) → (text : List ℕ) → List Spanned → Type 0
AreSpelled names text [] = Unit {0}
AreSpelled names text (t ∷ ts) = IsSpelled names text t × AreSpelled names text ts

-- the span of each token of a text covers its bytes
abbrev pub SpansTokens : Type 0
SpansTokens =
    (names : List (List ℕ)) (text : List ℕ) (tokens : List Spanned) → Lexes names 0 text tokens →
    AreSpelled names text tokens
