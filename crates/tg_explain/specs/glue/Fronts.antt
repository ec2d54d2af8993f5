-- The first token that begins at a byte or behind it, as the code finds it.
use Rattle.std.specs.Prelude.{ℕ, ◌≡◌, List, [], ◌∷◌, ◌++◌, length, nat_lt}
use Rattle.std.specs.List.{prefix_len}
use Rattle.tg_syntax.specs.declared.tokens.Spanned.{Spanned}
use Rattle.tg_explain.specs.declared.kinds.TokenKind.{TokenKind}
use Rattle.tg_explain.specs.Kinds.{kind_of}

-- so many tokens begin before a byte
abbrev pub count_before : (at : ℕ) → List Spanned → ℕ
count_before at tokens = prefix_len (λ t. nat_lt t.span.from at) tokens

-- so many tokens begin before the byte, and the one behind them is of this kind
pub record IsFirstFrom (at : ℕ) (tokens : List Spanned) (count : ℕ) (kind : TokenKind) : Type 0 where
  pub count_is : count ≡ count_before at tokens
  pub kind_is :
      (before : List Spanned) (one : Spanned) (after : List Spanned) →
      tokens ≡ before ++ one ∷ after → length before ≡ count → kind ≡ kind_of one.token
