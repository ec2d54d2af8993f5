-- What a text begins with.
use Rattle.std.specs.Prelude.{ℕ, ◌+◌, ◌≡◌, ◌≢◌, ◌≤◌, List, [], ◌∷◌, ◌++◌, length, take, drop, Bool}
use Rattle.std.specs.Prelude.{false, ◌==◌, IsTrue, Option, Some, None, Result, Ok, Err, MatchBool}
use Rattle.std.specs.Prelude.{not, ◌&&◌}
use Rattle.tg_base.specs.declared.faulty.Faulty.{Faulty}
use Rattle.tg_base.specs.declared.faulty.Faulty.TheVariants as fault
use Rattle.tg_syntax.specs.declared.faults.LexRule.{LexRule}
use Rattle.tg_syntax.specs.declared.tokens.Token.{Token}
use Rattle.tg_syntax.specs.declared.tokens.Sign.{Sign}
use Rattle.tg_syntax.specs.Spellings.{Spells, sign_text, is_white_space, is_letter, is_digit}
use Rattle.tg_syntax.specs.Spellings.{AllAre, Escape, IsQuoted, is_name_byte}
use Rattle.tg_syntax.specs.Lexing.{IsLongest, OpensComment, ClosesComment, Closes}
use Rattle.tg_syntax.specs.LexicalFaults.{IsBegun, Misfits, FaultAt}
use Rattle.tg_lexer.specs.declared.bytes.Class.{Class}
use Rattle.tg_lexer.specs.declared.bytes.Class.TheVariants as classes
use Rattle.tg_lexer.specs.declared.comments.Mark.{Mark}
use Rattle.tg_lexer.specs.declared.comments.Mark.TheVariants as mark
use Rattle.tg_lexer.specs.declared.escapes.Escaped.{Escaped}
use Rattle.tg_lexer.specs.declared.escapes.Escaped.TheVariants.{Byte, Nothing, Cut, Bad}
use Rattle.tg_lexer.specs.declared.strings.Quoted.{Quoted}
use Rattle.tg_lexer.specs.declared.strings.Quoted.TheVariants.{Whole, Fault}
use Rattle.tg_lexer.specs.declared.lexemes.Lexeme.{Lexeme}
use Rattle.tg_lexer.specs.declared.lexemes.Lexeme.TheVariants.{Gap, One}

-- so many bytes of a class stand first, and none of it follows
pub record IsStretch (class : ℕ → Bool) (text : List ℕ) (size : ℕ) : Type 0 where
  pub within : size ≤ length text
  pub all : AllAre class (take size text)
  pub stops : (b : ℕ) (after : List ℕ) → drop size text ≡ b ∷ after → class b ≡ false

abbrev pub in_class : Class → ℕ → Bool
in_class classes.Blank = is_white_space
in_class classes.Digit = is_digit
in_class classes.NameByte = is_name_byte

-- the text begins with the mark that opens or closes a comment, or with neither
abbrev pub IsMark : List ℕ → Mark → Type 0
IsMark text mark.Opens = OpensComment text
IsMark text mark.Closes = ClosesComment text
IsMark text mark.Byte = (OpensComment text → ⊥) × (ClosesComment text → ⊥)

-- no prefix of the text closes a comment
abbrev pub NeverCloses : List ℕ → Type 0
NeverCloses text = (inside rest : List ℕ) → text ≡ inside ++ rest → Closes 1 inside → ⊥

abbrev pub FoundComment : List ℕ → Option ℕ → Type 0
FoundComment text (Some size) = (size ≤ length text) × Closes 1 (take size text)
FoundComment text None = NeverCloses text

-- these bytes are a sign, or none
abbrev pub IsSign : List ℕ → Option Sign → Type 0
IsSign bytes (Some s) = bytes ≡ sign_text s
IsSign bytes None = (s : Sign) → bytes ≢ sign_text s

-- the longest sign with which the text begins
pub record IsSignPrefix (text : List ℕ) (s : Sign) (size : ℕ) : Type 0 where
  pub whole : text ≡ sign_text s ++ drop size text
  pub size_is : size ≡ length (sign_text s)
  pub longest : IsLongest (sign_text s) (drop size text)

abbrev pub FoundSign : List ℕ → Option (Sign × ℕ) → Type 0
FoundSign text (Some (s, size)) = IsSignPrefix text s size
FoundSign text None =
    (b : ℕ) (rest : List ℕ) → text ≡ b ∷ rest → (s : Sign) (more : List ℕ) → sign_text s ≢ b ∷ more

-- the end or a newline stands where an escape goes on, or another byte that doesn't fit
pub data IsCut : List ℕ → Type 0 where
  ended : (begun : List ℕ) → IsBegun begun → IsCut begun
  line : (begun rest : List ℕ) → Misfits begun 10 → IsCut (begun ++ 10 ∷ rest)

pub data IsBad : List ℕ → Type 0 where
  bad :
      (begun : List ℕ) (b : ℕ) (rest : List ℕ) →
      Misfits begun b → b ≢ 10 →
      IsBad (begun ++ b ∷ rest)

abbrev pub IsEscape : List ℕ → Escaped → Type 0
IsEscape text (Byte b size) = (size ≤ length text) × Escape (take size text) (b ∷ [])
IsEscape text (Nothing size) = (size ≤ length text) × Escape (take size text) []
IsEscape text Cut = IsCut text
IsEscape text Bad = IsBad text

-- a byte that doesn't fit is a newline or another one
abbrev pub IsMisfit : ℕ → Escaped → Type 0
IsMisfit b e = MatchBool (b == 10) (e ≡ Cut) (e ≡ Bad)

-- what stands after an opening quote
pub record IsString (text meant : List ℕ) (size : ℕ) : Type 0 where
  pub inside : List ℕ
  pub rest : List ℕ
  pub whole : text ≡ inside ++ 34 ∷ rest
  pub size_is : size ≡ length inside + 1
  pub quoted : IsQuoted inside meant

abbrev pub IsBehindQuote : ℕ → List ℕ → Quoted → Type 0
IsBehindQuote quote text (Whole meant size) = IsString text meant size
IsBehindQuote quote text (Fault rule place) =
    FaultAt quote (34 ∷ text) rule place × (place ≤ quote + length text)

-- a blank or a comment of so many bytes
pub data IsGap : List ℕ → ℕ → Type 0 where
  blank : (b : ℕ) (rest : List ℕ) → IsTrue (is_white_space b) → IsGap (b ∷ rest) 1
  comment :
      (inside rest : List ℕ) →
      Closes 1 inside →
      IsGap (47 ∷ 42 ∷ inside ++ rest) (2 + length inside)

-- the text's longest prefix that is a token is this one, of so many bytes
pub record IsToken (names : List (List ℕ)) (text : List ℕ) (one : Token) (size : ℕ) : Type 0 where
  pub bytes : List ℕ
  pub rest : List ℕ
  pub whole : text ≡ bytes ++ rest
  pub size_is : size ≡ length bytes
  pub spells : Spells names bytes one
  pub longest : IsLongest bytes rest
  pub no_comment : OpensComment text → ⊥

abbrev pub IsLexeme : List (List ℕ) → List ℕ → Lexeme → Type 0
IsLexeme names text (Gap size) = IsGap text size
IsLexeme names text (One one size) = IsToken names text one size

-- a front of the text is read, or its fault
abbrev pub IsRead : List (List ℕ) → ℕ → List ℕ → Result Lexeme (Faulty LexRule ℕ) → Type 0
IsRead names at text (Ok front) = IsLexeme names text front
IsRead names at text (Err (fault.Bad rule place)) = FaultAt at text rule place
IsRead names at text (Err fault.Memory) = Unit {0}

-- the first byte is of a class
abbrev pub BeginsWith : (ℕ → Bool) → List ℕ → Type 0
BeginsWith class [] = ⊥
BeginsWith class (b ∷ rest) = IsTrue (class b)

-- the first byte is a quote
abbrev pub BeginsQuote : List ℕ → Type 0
BeginsQuote text = BeginsWith (λ b. b == 34) text

-- the first byte begins a sign, if anything
abbrev pub is_other : ℕ → Bool
is_other b = not (is_white_space b) && (not (is_letter b) && (not (is_digit b) && not (b == 34)))

abbrev pub BeginsOther : List ℕ → Type 0
BeginsOther text = BeginsWith is_other text × (OpensComment text → ⊥)
