-- Openers: brackets and words that wait for a token which closes them. The last one that no token
-- closes is still open.
use Rattle.std.specs.Prelude.{◌≡◌, List, [], ◌∷◌, ◌++◌, Bool, true, false, Option, Some, None}
use Rattle.tg_syntax.specs.declared.tokens.Word.TheVariants.{WDo, WEnd, WFor, WIf, WLet, WThen}
use Rattle.tg_syntax.specs.declared.tokens.Word.TheVariants.{WWhile}
use Rattle.tg_syntax.specs.declared.tokens.Sign.TheVariants.{LeftParen, RightParen, LeftBracket}
use Rattle.tg_syntax.specs.declared.tokens.Sign.TheVariants.{RightBracket, LeftBrace, RightBrace}
use Rattle.tg_syntax.specs.declared.tokens.Token.{Token}
use Rattle.tg_syntax.specs.declared.tokens.Token.TheVariants.{Word, Sign}
use Rattle.tg_syntax.specs.declared.tokens.Spanned.{Spanned}
use Rattle.tg_explain.specs.declared.openers.Opener.{Opener}
use Rattle.tg_explain.specs.declared.openers.Opener.TheVariants.{Paren, Bracket, Brace, Let, If}
use Rattle.tg_explain.specs.declared.openers.Opener.TheVariants.{While, For}
use Rattle.tg_explain.specs.declared.openers.Opening.{Opening}

abbrev pub opener_of : Token → Option Opener
opener_of (Sign LeftParen) = Some Paren
opener_of (Sign LeftBracket) = Some Bracket
opener_of (Sign LeftBrace) = Some Brace
opener_of (Word WLet) = Some Let
opener_of (Word WIf) = Some If
opener_of (Word WWhile) = Some While
opener_of (Word WFor) = Some For
opener_of _ = None

-- the token that closes an opener
abbrev pub closer_of : Opener → Token
closer_of Paren = Sign RightParen
closer_of Bracket = Sign RightBracket
closer_of Brace = Sign RightBrace
closer_of Let = Word WEnd
closer_of If = Word WThen
closer_of While = Word WDo
closer_of For = Word WDo

abbrev pub is_closer : Token → Bool
is_closer (Sign RightParen) = true
is_closer (Sign RightBracket) = true
is_closer (Sign RightBrace) = true
is_closer (Word WEnd) = true
is_closer (Word WThen) = true
is_closer (Word WDo) = true
is_closer _ = false

-- tokens of which each opener is closed by one of them, and each closer closes one of them
pub data IsBalanced : List Spanned → Type 0 where
  nothing : IsBalanced []
  other :
      (one : Spanned) →
      opener_of one.token ≡ None → is_closer one.token ≡ false →
      IsBalanced (one ∷ [])
  closed :
      {inside : List Spanned} (one last : Spanned) {opener : Opener} →
      opener_of one.token ≡ Some opener → IsBalanced inside → last.token ≡ closer_of opener →
      IsBalanced (one ∷ inside ++ last ∷ [])
  joined : {a b : List Spanned} → IsBalanced a → IsBalanced b → IsBalanced (a ++ b)

-- the last opener of the tokens that no token closes: those behind it are balanced
pub record IsLastOpen (tokens : List Spanned) (opening : Opening) : Type 0 where
  pub before : List Spanned
  pub one : Spanned
  pub behind : List Spanned
  pub whole : tokens ≡ before ++ one ∷ behind
  pub opens : opener_of one.token ≡ Some opening.opener
  pub place : opening.span ≡ one.span
  pub balanced : IsBalanced behind

-- no opener of the tokens is such a one
abbrev pub HasNoOpen : List Spanned → Type 0
HasNoOpen tokens = (opening : Opening) → IsLastOpen tokens opening → ⊥
