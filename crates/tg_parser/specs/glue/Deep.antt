-- The first token after which the nesting is above 256.
use Rattle.std.specs.Prelude.{ℕ, ◌≡◌, List, [], ◌∷◌, ◌++◌, length}
use Rattle.tg_syntax.specs.declared.tokens.Spanned.{Spanned}
use Rattle.tg_syntax.specs.SyntaxFaults.{IsShallow}

pub record IsFirstDeep (tokens : List Spanned) (place : ℕ) : Type 0 where
  pub front : List Spanned
  pub one : Spanned
  pub after : List Spanned
  pub whole : tokens ≡ front ++ one ∷ after
  pub at_place : length front ≡ place
  pub shallow : IsShallow front
  pub deep : IsShallow (front ++ one ∷ []) → ⊥

-- all tokens, or those up to the first that is too deep
pub data IsReadable (tokens : List Spanned) : List Spanned → Type 0 where
  all : IsShallow tokens → IsReadable tokens tokens
  cut :
      {place : ℕ} (found : IsFirstDeep tokens place) →
      IsReadable tokens (found.front ++ found.one ∷ [])
