-- The canonical text of tokens: one layout for all sources that have the same tokens. Comments are
-- no tokens, so they are lost.
use Rattle.std.specs.Prelude.{ℕ, zero, suc, ◌+◌, ◌-◌, ◌/◌, ◌%◌, List, [], ◌∷◌, ◌++◌, map}
use Rattle.std.specs.Prelude.{Bool, true, false, ◌||◌, ◌&&◌, ◌==◌, not, codes, Option, Some, None}
use Rattle.std.specs.Prelude.{if◌then◌else◌, slice_index_or}
use Rattle.std.specs.Fmt.{decimal}
use Rattle.tg_syntax.specs.declared.tokens.Sign.TheVariants.{Comma, Colon, Semicolon, LeftParen}
use Rattle.tg_syntax.specs.declared.tokens.Sign.TheVariants.{RightParen, LeftBracket, RightBracket}
use Rattle.tg_syntax.specs.declared.tokens.Sign.TheVariants.{LeftBrace, RightBrace, Dot, Minus}
use Rattle.tg_syntax.specs.declared.tokens.Word.TheVariants.{WBreak, WEnd, WFunction, WIn, WLet}
use Rattle.tg_syntax.specs.declared.tokens.Word.TheVariants.{WNil, WType, WVar}
use Rattle.tg_syntax.specs.declared.tokens.Token.{Token}
use Rattle.tg_syntax.specs.declared.tokens.Token.TheVariants.{Word, Sign, Ident, Int, Text, End}
use Rattle.tg_syntax.specs.declared.tokens.Spanned.{Spanned}
use Rattle.tg_syntax.specs.Spellings.{word_text, sign_text, is_between}

-- How a token is written.

abbrev pub decimal_escape : ℕ → List ℕ
decimal_escape b = 92 ∷ (48 + b / 100) ∷ (48 + b / 10 % 10) ∷ (48 + b % 10) ∷ []

-- a byte of a string: itself from a space to `~`, else by an escape, as a quote and a backslash
abbrev pub quoted_byte : ℕ → List ℕ
quoted_byte b =
    if b == 10 then codes "\\n"
    else if b == 9 then codes "\\t"
    else if b == 34 then codes "\\\""
    else if b == 92 then codes "\\\\"
    else if is_between 32 126 b then b ∷ []
    else decimal_escape b

abbrev pub quoted_text : List ℕ → List ℕ
quoted_text [] = []
quoted_text (b ∷ bytes) = quoted_byte b ++ quoted_text bytes

abbrev pub spelling : (names : List (List ℕ)) → Token → List ℕ
spelling names (Word w) = word_text w
spelling names (Sign s) = sign_text s
spelling names (Ident n) = slice_index_or names n.0 []
spelling names (Int n) = decimal n
spelling names (Text bytes) = 34 ∷ quoted_text bytes ++ 34 ∷ []
spelling names End = []

-- Kinds of tokens.

-- a line begins with these
abbrev pub begins_line : Token → Bool
begins_line (Word WType) = true
begins_line (Word WVar) = true
begins_line (Word WFunction) = true
begins_line (Word WIn) = true
begins_line (Word WEnd) = true
begins_line _ = false

-- and after these
abbrev pub ends_line : Token → Bool
ends_line (Word WIn) = true
ends_line (Sign Semicolon) = true
ends_line _ = false

-- nothing stands before these
abbrev pub is_close_before : Token → Bool
is_close_before (Sign RightParen) = true
is_close_before (Sign RightBracket) = true
is_close_before (Sign RightBrace) = true
is_close_before (Sign Comma) = true
is_close_before (Sign Semicolon) = true
is_close_before (Sign Colon) = true
is_close_before (Sign Dot) = true
is_close_before _ = false

-- or after these
abbrev pub is_close_behind : Token → Bool
is_close_behind (Sign LeftParen) = true
is_close_behind (Sign LeftBracket) = true
is_close_behind (Sign LeftBrace) = true
is_close_behind (Sign Dot) = true
is_close_behind _ = false

abbrev pub is_bracket : Token → Bool
is_bracket (Sign LeftParen) = true
is_bracket (Sign LeftBracket) = true
is_bracket (Sign LeftBrace) = true
is_bracket _ = false

abbrev pub is_minus : Token → Bool
is_minus (Sign Minus) = true
is_minus _ = false

-- what stands in brackets after these belongs to them
abbrev pub takes_bracket : Token → Bool
takes_bracket (Ident n) = true
takes_bracket (Sign RightBracket) = true
takes_bracket _ = false

-- an operand ends with these, so that a minus after them has two
abbrev pub ends_operand : Token → Bool
ends_operand (Ident n) = true
ends_operand (Int n) = true
ends_operand (Text bytes) = true
ends_operand (Word WNil) = true
ends_operand (Word WBreak) = true
ends_operand (Word WEnd) = true
ends_operand (Sign RightParen) = true
ends_operand (Sign RightBracket) = true
ends_operand (Sign RightBrace) = true
ends_operand _ = false

-- a line begins further in while one of these is open
abbrev pub opens : Token → Bool
opens (Word WLet) = true
opens (Sign LeftParen) = true
opens (Sign LeftBracket) = true
opens (Sign LeftBrace) = true
opens _ = false

-- and these close it
abbrev pub closes : Token → Bool
closes (Word WEnd) = true
closes (Sign RightParen) = true
closes (Sign RightBracket) = true
closes (Sign RightBrace) = true
closes _ = false

-- before these their own `let` isn't counted
abbrev pub is_in_or_end : Token → Bool
is_in_or_end (Word WIn) = true
is_in_or_end (Word WEnd) = true
is_in_or_end _ = false

-- What stands between tokens.

-- what a token is written after: the one before it, whether that is a minus with one operand, and
-- how many of `let`, `(`, `[` and `{` are open
pub record Behind : Type 0 where
  pub before : Option Token
  pub is_unary : Bool
  pub depth : ℕ

abbrev pub at_start : Behind
at_start = record { before = None; is_unary = false; depth = 0 }

abbrev pub is_unary_minus : Option Token → Token → Bool
is_unary_minus None one = is_minus one
is_unary_minus (Some a) one = is_minus one && not (ends_operand a)

abbrev pub depth_after : ℕ → Token → ℕ
depth_after depth one =
    if opens one then depth + 1 else if closes one then depth - 1 else depth

-- what the next token is written after, once this one is
abbrev pub behind_one : Behind → Token → Behind
behind_one b one = record {
  before = Some one;
  is_unary = is_unary_minus b.before one;
  depth = depth_after b.depth one;
}

-- two blanks for each that is open
abbrev pub indentation : ℕ → List ℕ
indentation zero = []
indentation (suc depth) = 32 ∷ 32 ∷ indentation depth

abbrev pub line : (depth : ℕ) → Token → List ℕ
line depth one = 10 ∷ indentation (if is_in_or_end one then depth - 1 else depth)

-- whether two tokens stand close, where the first is a minus with one operand or not
abbrev pub are_close : (a : Token) → (is_unary : Bool) → (one : Token) → Bool
are_close a is_unary one =
    is_close_before one || (is_close_behind a || (is_unary || (is_bracket one && takes_bracket a)))

abbrev pub between_tokens : (a : Token) → (is_unary : Bool) → (depth : ℕ) → Token → List ℕ
between_tokens a is_unary depth End = 10 ∷ []
between_tokens a is_unary depth one =
    if begins_line one || ends_line a then line depth one
    else if are_close a is_unary one then []
    else 32 ∷ []

-- what stands between the token before and this one; nothing stands before the first
abbrev pub gap_behind : Option Token → (is_unary : Bool) → (depth : ℕ) → Token → List ℕ
gap_behind None is_unary depth one = []
gap_behind (Some a) is_unary depth one = between_tokens a is_unary depth one

abbrev pub space_before : Behind → Token → List ℕ
space_before b one = gap_behind b.before b.is_unary b.depth one

-- The text.

abbrev pub text_behind : (names : List (List ℕ)) → Behind → List Token → List ℕ
text_behind names b [] = []
text_behind names b (one ∷ tokens) =
    space_before b one ++ (spelling names one ++ text_behind names (behind_one b one) tokens)

abbrev pub canonical : (names : List (List ℕ)) → List Token → List ℕ
canonical names tokens = text_behind names at_start tokens

abbrev pub tokens_of : List Spanned → List Token
tokens_of tokens = map (λ t. t.token) tokens
