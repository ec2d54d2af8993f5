-- How tokens are spelled (Appel, appendix A).
use Rattle.std.specs.Prelude.{ℕ, ◌%◌, ◌≡◌, ◌≢◌, ◌≤◌, List, [], ◌∷◌, ◌++◌, Bool, ◌||◌, ◌&&◌, ◌==◌}
use Rattle.std.specs.Prelude.{nat_le, IsTrue, not, codes, slice_get, Some}
use Rattle.std.specs.Str.Parse.{IsNumeral, AllDigits, digits_value}
use Rattle.tg_syntax.specs.declared.tokens.Word.{Word}
use Rattle.tg_syntax.specs.declared.tokens.Word.TheVariants.{WArray, WBreak, WDo, WElse, WEnd, WFor}
use Rattle.tg_syntax.specs.declared.tokens.Word.TheVariants.{WFunction, WIf, WIn, WLet, WNil, WOf}
use Rattle.tg_syntax.specs.declared.tokens.Word.TheVariants.{WThen, WTo, WType, WVar, WWhile}
use Rattle.tg_syntax.specs.declared.tokens.Sign.{Sign}
use Rattle.tg_syntax.specs.declared.tokens.Sign.TheVariants.{Comma, Colon, Semicolon, LeftParen}
use Rattle.tg_syntax.specs.declared.tokens.Sign.TheVariants.{RightParen, LeftBracket, RightBracket}
use Rattle.tg_syntax.specs.declared.tokens.Sign.TheVariants.{LeftBrace, RightBrace, Dot, Plus}
use Rattle.tg_syntax.specs.declared.tokens.Sign.TheVariants.{Minus, Times, Divide, Equal, NotEqual}
use Rattle.tg_syntax.specs.declared.tokens.Sign.TheVariants.{Less, LessEqual, Greater, GreaterEqual}
use Rattle.tg_syntax.specs.declared.tokens.Sign.TheVariants.{And, Or, Assign}
use Rattle.tg_syntax.specs.declared.tokens.Token.{Token}
use Rattle.tg_syntax.specs.declared.tokens.Token.TheVariants as token

abbrev pub word_text : Word → List ℕ
word_text WArray = codes "array"
word_text WBreak = codes "break"
word_text WDo = codes "do"
word_text WElse = codes "else"
word_text WEnd = codes "end"
word_text WFor = codes "for"
word_text WFunction = codes "function"
word_text WIf = codes "if"
word_text WIn = codes "in"
word_text WLet = codes "let"
word_text WNil = codes "nil"
word_text WOf = codes "of"
word_text WThen = codes "then"
word_text WTo = codes "to"
word_text WType = codes "type"
word_text WVar = codes "var"
word_text WWhile = codes "while"

abbrev pub sign_text : Sign → List ℕ
sign_text Comma = codes ","
sign_text Colon = codes ":"
sign_text Semicolon = codes ";"
sign_text LeftParen = codes "("
sign_text RightParen = codes ")"
sign_text LeftBracket = codes "["
sign_text RightBracket = codes "]"
sign_text LeftBrace = codes "{"
sign_text RightBrace = codes "}"
sign_text Dot = codes "."
sign_text Plus = codes "+"
sign_text Minus = codes "-"
sign_text Times = codes "*"
sign_text Divide = codes "/"
sign_text Equal = codes "="
sign_text NotEqual = codes "<>"
sign_text Less = codes "<"
sign_text LessEqual = codes "<="
sign_text Greater = codes ">"
sign_text GreaterEqual = codes ">="
sign_text And = codes "&"
sign_text Or = codes "|"
sign_text Assign = codes ":="

-- classes of bytes
abbrev pub is_between : ℕ → ℕ → ℕ → Bool
is_between low high b = nat_le low b && nat_le b high

abbrev pub is_letter : ℕ → Bool
is_letter b = is_between 65 90 b || is_between 97 122 b

abbrev pub is_digit : ℕ → Bool
is_digit b = is_between 48 57 b

-- a letter, a digit or an underscore
abbrev pub is_name_byte : ℕ → Bool
is_name_byte b = is_letter b || (is_digit b || b == 95)

-- a tab, a newline, a form feed, a carriage return or a space
abbrev pub is_white_space : ℕ → Bool
is_white_space b = b == 9 || (b == 10 || (b == 12 || (b == 13 || b == 32)))

-- each byte of a list is of a class
abbrev pub AllAre : (ℕ → Bool) → List ℕ → Type 0
AllAre class [] = Unit {0}
AllAre class (b ∷ bytes) = IsTrue (class b) × AllAre class bytes

-- a letter, and then letters, digits and underscores
abbrev pub IsName : List ℕ → Type 0
IsName [] = ⊥
IsName (b ∷ bytes) = IsTrue (is_letter b) × AllAre is_name_byte bytes

-- What stands between the quotes of a string, and the bytes that it means.
abbrev pub is_plain : ℕ → Bool
is_plain b = (is_between 32 126 b || is_between 128 255 b) && (not (b == 34) && not (b == 92))

pub data Escape : List ℕ → List ℕ → Type 0 where
  newline : Escape (codes "n") (10 ∷ [])
  tab : Escape (codes "t") (9 ∷ [])
  quote : Escape (34 ∷ []) (34 ∷ [])
  backslash : Escape (92 ∷ []) (92 ∷ [])
  -- `^` and a byte from `@` to `_` or from `a` to `z`
  control :
      (b : ℕ) →
      IsTrue (is_between 64 95 b || is_between 97 122 b) →
      Escape (94 ∷ b ∷ []) (b % 32 ∷ [])
  -- three digits, at most 255
  decimal :
      (a b c : ℕ) →
      AllDigits 10 (a ∷ b ∷ c ∷ []) →
      digits_value 10 (a ∷ b ∷ c ∷ []) ≤ 255 →
      Escape (a ∷ b ∷ c ∷ []) (digits_value 10 (a ∷ b ∷ c ∷ []) ∷ [])
  -- blanks up to a backslash mean nothing
  blanks :
      (b : ℕ) (more : List ℕ) → AllAre is_white_space (b ∷ more) → Escape (b ∷ more ++ 92 ∷ []) []

pub data IsQuoted : List ℕ → List ℕ → Type 0 where
  nothing : IsQuoted [] []
  plain :
      (b : ℕ) {bytes meant : List ℕ} →
      IsTrue (is_plain b) → IsQuoted bytes meant →
      IsQuoted (b ∷ bytes) (b ∷ meant)
  escaped :
      {escape more bytes meant : List ℕ} →
      Escape escape more → IsQuoted bytes meant →
      IsQuoted (92 ∷ escape ++ bytes) (more ++ meant)

-- The bytes have the form of a token, whatever the list of names holds and however large an int is.
pub data HasTokenForm : List ℕ → Type 0 where
  -- a reserved word or an identifier
  name : (bytes : List ℕ) → IsName bytes → HasTokenForm bytes
  sign : (s : Sign) → HasTokenForm (sign_text s)
  digits : (bytes : List ℕ) → IsNumeral 10 bytes → HasTokenForm bytes
  quoted : {inside meant : List ℕ} → IsQuoted inside meant → HasTokenForm (34 ∷ inside ++ 34 ∷ [])

-- These bytes spell a token, where names are numbered by their places in a list.
abbrev pub Spells : List (List ℕ) → List ℕ → Token → Type 0
Spells names bytes (token.Word w) = bytes ≡ word_text w
Spells names bytes (token.Sign s) = bytes ≡ sign_text s
Spells names bytes (token.Ident n) =
    IsName bytes × ((w : Word) → bytes ≢ word_text w) × (slice_get names n.0 ≡ Some bytes)
Spells names bytes (token.Int n) =
    IsNumeral 10 bytes × (n ≡ digits_value 10 bytes) × (n ≤ 2147483647)
Spells names bytes (token.Text t) =
    (inside : List ℕ) × (bytes ≡ 34 ∷ inside ++ 34 ∷ []) × IsQuoted inside t
Spells names bytes token.End = ⊥
