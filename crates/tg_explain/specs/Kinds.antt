-- Kinds of tokens: each reserved word and each sign is one, and all identifiers, all ints, all
-- strings and the end are one each (Appel, appendix A).
use Rattle.std.specs.Prelude.{List, [], ◌∷◌}
use Rattle.tg_syntax.specs.declared.tokens.Word.TheVariants.{WArray, WBreak, WDo, WElse, WEnd, WFor}
use Rattle.tg_syntax.specs.declared.tokens.Word.TheVariants.{WFunction, WIf, WIn, WLet, WNil, WOf}
use Rattle.tg_syntax.specs.declared.tokens.Word.TheVariants.{WThen, WTo, WType, WVar, WWhile}
use Rattle.tg_syntax.specs.declared.tokens.Sign.TheVariants.{Comma, Colon, Semicolon, LeftParen}
use Rattle.tg_syntax.specs.declared.tokens.Sign.TheVariants.{RightParen, LeftBracket, RightBracket}
use Rattle.tg_syntax.specs.declared.tokens.Sign.TheVariants.{LeftBrace, RightBrace, Dot, Plus}
use Rattle.tg_syntax.specs.declared.tokens.Sign.TheVariants.{Minus, Times, Divide, Equal, NotEqual}
use Rattle.tg_syntax.specs.declared.tokens.Sign.TheVariants.{Less, LessEqual, Greater, GreaterEqual}
use Rattle.tg_syntax.specs.declared.tokens.Sign.TheVariants.{And, Or, Assign}
use Rattle.tg_syntax.specs.declared.tokens.Token.{Token}
use Rattle.tg_syntax.specs.declared.tokens.Token.TheVariants as token
use Rattle.tg_syntax.specs.declared.tokens.Spanned.{Spanned}
use Rattle.tg_explain.specs.declared.kinds.TokenKind.{TokenKind}
use Rattle.tg_explain.specs.declared.kinds.TokenKind.TheVariants.{Word, Sign, Ident, Int, Text, End}

abbrev pub kind_of : Token → TokenKind
kind_of (token.Word w) = Word w
kind_of (token.Sign s) = Sign s
kind_of (token.Ident n) = Ident
kind_of (token.Int n) = Int
kind_of (token.Text bytes) = Text
kind_of token.End = End

-- the table of tokens: the reserved words, the signs, and then the other kinds
abbrev pub token_table : List TokenKind
token_table =
    Word WArray ∷ Word WBreak ∷ Word WDo ∷ Word WElse ∷ Word WEnd ∷ Word WFor ∷
    Word WFunction ∷ Word WIf ∷ Word WIn ∷ Word WLet ∷ Word WNil ∷ Word WOf ∷
    Word WThen ∷ Word WTo ∷ Word WType ∷ Word WVar ∷ Word WWhile ∷
    Sign Comma ∷ Sign Colon ∷ Sign Semicolon ∷ Sign LeftParen ∷ Sign RightParen ∷
    Sign LeftBracket ∷ Sign RightBracket ∷ Sign LeftBrace ∷ Sign RightBrace ∷ Sign Dot ∷
    Sign Plus ∷ Sign Minus ∷ Sign Times ∷ Sign Divide ∷ Sign Equal ∷ Sign NotEqual ∷
    Sign Less ∷ Sign LessEqual ∷ Sign Greater ∷ Sign GreaterEqual ∷ Sign And ∷ Sign Or ∷
    Sign Assign ∷ Ident ∷ Int ∷ Text ∷ End ∷ []

-- a token of a kind
abbrev pub token_of : TokenKind → Token
token_of (Word w) = token.Word w
token_of (Sign s) = token.Sign s
token_of Ident = token.Ident (record { 0 = 0 })
token_of Int = token.Int 0
token_of Text = token.Text []
token_of End = token.End

-- with an empty span at the front
abbrev pub sample : TokenKind → Spanned
sample k = record { token = token_of k; span = record { from = 0; to = 0 } }
