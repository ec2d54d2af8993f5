-- The first fault of syntax in a list of tokens that ends by its one end. The end counts as a
-- token.
use Rattle.std.specs.Prelude.{ℕ, ◌≡◌, List, [], ◌∷◌, ◌++◌}
use Rattle.tg_syntax.specs.declared.tokens.Token.TheVariants.{End}
use Rattle.tg_syntax.specs.declared.tokens.Spanned.{Spanned}
use Rattle.tg_syntax.specs.Tree.{Exp}
use Rattle.tg_syntax.specs.Grammar.{IsProgram}
use Rattle.tg_syntax.specs.Nesting.{NestsWithin}

-- some program begins so
pub record BeginsProgram (front : List Spanned) : Type 0 where
  pub rest : List Spanned
  pub tree : Exp
  pub is : IsProgram (front ++ rest) tree

-- the nesting stays within 256
abbrev pub IsShallow : List Spanned → Type 0
IsShallow tokens = NestsWithin 256 (0 ∷ []) tokens

-- a token of the list, which begins at a byte, with those before it
pub record IsAt (tokens front : List Spanned) (one : Spanned) (at : ℕ) : Type 0 where
  pub after : List Spanned
  pub whole : tokens ≡ front ++ one ∷ after
  pub place : at ≡ one.span.from

-- S1 comes first, and stands at this byte: after the tokens before it some program could go on, and
-- with it none can
pub record HasUnexpected (tokens : List Spanned) (at : ℕ) : Type 0 where
  pub front : List Spanned
  pub one : Spanned
  pub is_at : IsAt tokens front one at
  pub could : BeginsProgram front
  pub cannot : BeginsProgram (front ++ one ∷ []) → ⊥
  pub shallow : IsShallow front

-- S2 comes first, and stands at this byte: after this token the nesting is above 256, and some
-- program begins so
pub record HasTooDeep (tokens : List Spanned) (at : ℕ) : Type 0 where
  pub front : List Spanned
  pub one : Spanned
  pub is_at : IsAt tokens front one at
  pub could : BeginsProgram (front ++ one ∷ [])
  pub shallow : IsShallow front
  pub deep : IsShallow (front ++ one ∷ []) → ⊥

-- no end stands in the list
abbrev pub HasNoEnd : List Spanned → Type 0
HasNoEnd [] = Unit {0}
HasNoEnd (t ∷ tokens) = (t.token ≡ End → ⊥) × HasNoEnd tokens

-- a list that ends by its one end
pub record EndsOnce (tokens : List Spanned) : Type 0 where
  pub body : List Spanned
  pub end : Spanned
  pub whole : tokens ≡ body ++ end ∷ []
  pub is_end : end.token ≡ End
  pub once : HasNoEnd body
