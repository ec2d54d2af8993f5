-- The kinds of tokens with which a list of tokens can go on.
use Rattle.std.specs.Prelude.{◌≡◌, List, [], ◌∷◌, ◌++◌}
use Rattle.tg_syntax.specs.declared.tokens.Spanned.{Spanned}
use Rattle.tg_syntax.specs.SyntaxFaults.{BeginsProgram, IsShallow, HasNoEnd}
use Rattle.tg_explain.specs.declared.kinds.TokenKind.{TokenKind}
use Rattle.tg_explain.specs.Kinds.{kind_of, token_table}

-- some program begins with these tokens and one of this kind; nesting isn't counted, as in S1
pub record CanFollow (before : List Spanned) (kind : TokenKind) : Type 0 where
  pub one : Spanned
  pub is_of : kind_of one.token ≡ kind
  pub begins : BeginsProgram (before ++ one ∷ [])

-- those of a table's kinds that can follow, in its order
pub data ArePicked (before : List Spanned) : (table kinds : List TokenKind) → Type 0 where
  no_more : ArePicked before [] []
  picked :
      {kind : TokenKind} {table kinds : List TokenKind} →
      CanFollow before kind → ArePicked before table kinds →
      ArePicked before (kind ∷ table) (kind ∷ kinds)
  passed :
      {kind : TokenKind} {table kinds : List TokenKind} →
      (CanFollow before kind → ⊥) → ArePicked before table kinds →
      ArePicked before (kind ∷ table) kinds

-- all kinds that can follow, in the order of the table of tokens
abbrev pub AreExpected : (before : List Spanned) (kinds : List TokenKind) → Type 0
AreExpected before kinds = ArePicked before token_table kinds

-- tokens without a fault so far: some program begins so, the nesting is within 256, and the end
-- isn't among them
pub record IsFaultless (before : List Spanned) : Type 0 where
  pub could : BeginsProgram before
  pub shallow : IsShallow before
  pub no_end : HasNoEnd before
