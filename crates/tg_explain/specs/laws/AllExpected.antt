-- The table of tokens has each kind, so all that can follow are among the expected ones.
use Rattle.std.specs.Prelude.{List}
use Rattle.std.specs.List.{Contains}
use Rattle.tg_syntax.specs.declared.tokens.Spanned.{Spanned}
use Rattle.tg_explain.specs.declared.kinds.TokenKind.{TokenKind}
use Rattle.tg_explain.specs.Expected.{CanFollow, AreExpected}

-- a kind is among the expected ones if and only if some program begins with the tokens before and
-- one of that kind
abbrev pub ExpectsAll : Type 0
ExpectsAll =
    (before : List Spanned) (kinds : List TokenKind) (kind : TokenKind) → AreExpected before kinds →
    (Contains kinds kind → CanFollow before kind) × (CanFollow before kind → Contains kinds kind)
