-- The tokens of a text stand in order.
use Rattle.std.proofs.Common.{ℕ, ◌+◌, ◌<◌, ◌≤◌, List, [], ◌∷◌, length, refl, subst, sym, arith}
use Rattle.tg_syntax.specs.declared.tokens.Word.{Word}
use Rattle.tg_syntax.specs.declared.tokens.Word.TheVariants.{WArray, WBreak, WDo, WElse, WEnd, WFor, WFunction, WIf, WIn, WLet, WNil, WOf, WThen, WTo}
use Rattle.tg_syntax.specs.declared.tokens.Word.TheVariants.{WType, WVar, WWhile}
use Rattle.tg_syntax.specs.declared.tokens.Sign.{Sign}
use Rattle.tg_syntax.specs.declared.tokens.Sign.TheVariants.{Comma, Colon, Semicolon, LeftParen, RightParen, LeftBracket, RightBracket, LeftBrace}
use Rattle.tg_syntax.specs.declared.tokens.Sign.TheVariants.{RightBrace, Dot, Plus, Minus, Times, Divide, Equal, NotEqual, Less, LessEqual, Greater}
use Rattle.tg_syntax.specs.declared.tokens.Sign.TheVariants.{GreaterEqual, And, Or, Assign}
use Rattle.tg_syntax.specs.declared.tokens.Token.{Token}
use Rattle.tg_syntax.specs.declared.tokens.Token.TheVariants as token
use Rattle.tg_syntax.specs.declared.tokens.Spanned.{Spanned}
use Rattle.std.specs.Str.Parse.{IsNumeral}
use Rattle.tg_syntax.proofs.Numerals.{none_is_numeral}
use Rattle.tg_syntax.specs.Spellings.{word_text, sign_text, IsName, Spells}
use Rattle.tg_syntax.specs.Lexing.{Lexes, ends, blank, comment, token as one_token}
use Rattle.tg_syntax_laws.specs.laws.Places.{StandFrom}

abbrev Full : List ℕ → Type 0
Full [] = ⊥
Full (b ∷ bytes) = Unit {0}

full_word : (w : Word) → Full (word_text w)
full_word WArray = tt
full_word WBreak = tt
full_word WDo = tt
full_word WElse = tt
full_word WEnd = tt
full_word WFor = tt
full_word WFunction = tt
full_word WIf = tt
full_word WIn = tt
full_word WLet = tt
full_word WNil = tt
full_word WOf = tt
full_word WThen = tt
full_word WTo = tt
full_word WType = tt
full_word WVar = tt
full_word WWhile = tt

full_sign : (s : Sign) → Full (sign_text s)
full_sign Comma = tt
full_sign Colon = tt
full_sign Semicolon = tt
full_sign LeftParen = tt
full_sign RightParen = tt
full_sign LeftBracket = tt
full_sign RightBracket = tt
full_sign LeftBrace = tt
full_sign RightBrace = tt
full_sign Dot = tt
full_sign Plus = tt
full_sign Minus = tt
full_sign Times = tt
full_sign Divide = tt
full_sign Equal = tt
full_sign NotEqual = tt
full_sign Less = tt
full_sign LessEqual = tt
full_sign Greater = tt
full_sign GreaterEqual = tt
full_sign And = tt
full_sign Or = tt
full_sign Assign = tt

full_name : (bytes : List ℕ) → IsName bytes → Full bytes
full_name [] h = h
full_name (b ∷ bytes) h = tt

full_digits : (bytes : List ℕ) → IsNumeral 10 bytes → Full bytes
full_digits [] h = none_is_numeral h
full_digits (b ∷ bytes) h = tt

full : (names : List (List ℕ)) (bytes : List ℕ) (one : Token) → Spells names bytes one → Full bytes
full names bytes (token.Word w) h = subst Full (sym h) (full_word w)
full names bytes (token.Sign s) h = subst Full (sym h) (full_sign s)
full names bytes (token.Ident n) h = full_name bytes h.0
full names bytes (token.Int n) h = full_digits bytes h.0
full names bytes (token.Text t) h = subst Full (sym h.1) tt
full names bytes token.End h = absurd h

long : (bytes : List ℕ) → Full bytes → 0 < length bytes
long [] h = absurd h
long (b ∷ bytes) h = omega arith

sooner : (tokens : List Spanned) (a b : ℕ) → a ≤ b → StandFrom b tokens → StandFrom a tokens
sooner [] a b h s = tt
sooner (t ∷ ts) a b h s = (omega arith, s.1, s.2, s.3)

pub tokens_stand : {names : List (List ℕ)} {at : ℕ} {text : List ℕ} {tokens : List Spanned} → Lexes names at text tokens → StandFrom at tokens
tokens_stand (ends at) = (omega arith, omega arith, (λ n. absurd (n refl)), tt)
tokens_stand (blank {at} b {tokens} h r) = sooner tokens at (at + 1) (omega arith) (tokens_stand r)
tokens_stand (comment {at} inside {tokens} c r) = sooner tokens at (at + 2 + length inside) (omega arith) (tokens_stand r)
tokens_stand {names} (one_token {at} bytes one s long_one not_comment r) =
    let n = long bytes (full names bytes one s) in
    (omega arith, omega arith, (λ not_end. omega arith), tokens_stand r)
