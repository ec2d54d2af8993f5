-- The token relation: which list of tokens a text is (Appel, chapter 2 and appendix A).
use Rattle.std.specs.Prelude.{ℕ, suc, ◌+◌, ◌≡◌, ◌≢◌, List, [], ◌∷◌, ◌++◌, length, IsTrue}
use Rattle.tg_syntax.specs.declared.tokens.Token.{Token}
use Rattle.tg_syntax.specs.declared.tokens.Token.TheVariants.{End}
use Rattle.tg_syntax.specs.declared.tokens.Spanned.{Spanned}
use Rattle.tg_syntax.specs.Spellings.{Spells, HasTokenForm, is_white_space}

-- the text begins with these two bytes
abbrev pub BeginsWithPair : ℕ → ℕ → List ℕ → Type 0
BeginsWithPair a b (x ∷ y ∷ rest) = (x ≡ a) × (y ≡ b)
BeginsWithPair a b _ = ⊥

abbrev pub OpensComment : List ℕ → Type 0
OpensComment text = BeginsWithPair 47 42 text

abbrev pub ClosesComment : List ℕ → Type 0
ClosesComment text = BeginsWithPair 42 47 text

-- with its last bytes the text closes so many comments that are open, and before them it leaves
-- none closed; comments nest
pub data Closes : ℕ → List ℕ → Type 0 where
  done : Closes 0 []
  closes : {depth : ℕ} {more : List ℕ} → Closes depth more → Closes (suc depth) (42 ∷ 47 ∷ more)
  opens :
      {depth : ℕ} {more : List ℕ} →
      Closes (suc (suc depth)) more →
      Closes (suc depth) (47 ∷ 42 ∷ more)
  byte :
      {depth : ℕ} (b : ℕ) {more : List ℕ} →
      (OpensComment (b ∷ more) → ⊥) → (ClosesComment (b ∷ more) → ⊥) → Closes (suc depth) more →
      Closes (suc depth) (b ∷ more)

abbrev pub spanned : Token → ℕ → ℕ → Spanned
spanned token from to = record { token = token; span = record { from = from; to = to } }

-- a token is as long as possible: no longer prefix of the text has the form of one
abbrev pub IsLongest : List ℕ → List ℕ → Type 0
IsLongest bytes rest =
    (more after : List ℕ) → rest ≡ more ++ after → more ≢ [] → HasTokenForm (bytes ++ more) → ⊥

-- The text from a byte on is these tokens and the end, with blanks and comments between them.
pub data Lexes (names : List (List ℕ)) : ℕ → List ℕ → List Spanned → Type 0 where
  ends : (at : ℕ) → Lexes names at [] (spanned End at at ∷ [])
  blank :
      {at : ℕ} (b : ℕ) {rest : List ℕ} {tokens : List Spanned} →
      IsTrue (is_white_space b) → Lexes names (at + 1) rest tokens →
      Lexes names at (b ∷ rest) tokens
  comment :
      {at : ℕ} (inside : List ℕ) {rest : List ℕ} {tokens : List Spanned} →
      Closes 1 inside → Lexes names (at + 2 + length inside) rest tokens →
      Lexes names at (47 ∷ 42 ∷ inside ++ rest) tokens
  token :
      {at : ℕ} (bytes : List ℕ) (one : Token) {rest : List ℕ} {tokens : List Spanned} →
      Spells names bytes one → IsLongest bytes rest → (OpensComment (bytes ++ rest) → ⊥) →
      Lexes names (at + length bytes) rest tokens →
      Lexes names at (bytes ++ rest) (spanned one at (at + length bytes) ∷ tokens)
