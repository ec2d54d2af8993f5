-- The tokens that can be written so that they are read again.
use Rattle.std.specs.Prelude.{ℕ, ◌≡◌, ◌≢◌, ◌≤◌, ◌<◌, List, [], ◌∷◌, slice_get, Some, All}
use Rattle.tg_syntax.specs.declared.tokens.Word.{Word}
use Rattle.tg_syntax.specs.declared.tokens.Token.{Token}
use Rattle.tg_syntax.specs.declared.tokens.Token.TheVariants.{Ident, Int, Text, End}
use Rattle.tg_syntax.specs.Spellings.{word_text, IsName}

-- the text of an identifier: no reserved word
pub record IsIdentifier (text : List ℕ) : Type 0 where
  pub name : IsName text
  pub no_word : (w : Word) → text ≢ word_text w

-- a token that has a spelling: an identifier has its text among the names, an int is at most
-- 2147483647, and a string has bytes
abbrev pub HasSpelling : (names : List (List ℕ)) → Token → Type 0
HasSpelling names (Ident n) =
    (text : List ℕ) × (slice_get names n.0 ≡ Some text) × IsIdentifier text
HasSpelling names (Int n) = n ≤ 2147483647
HasSpelling names (Text bytes) = All (λ b. b < 256) bytes
HasSpelling names End = ⊥
HasSpelling names _ = Unit {0}

-- tokens, and the end as the last one
abbrev pub AreWritable : (names : List (List ℕ)) → List Token → Type 0
AreWritable names [] = ⊥
AreWritable names (End ∷ []) = Unit {0}
AreWritable names (one ∷ tokens) = HasSpelling names one × AreWritable names tokens
