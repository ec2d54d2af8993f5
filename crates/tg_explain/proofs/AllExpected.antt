-- All kinds that can follow are among the expected ones.
use Rattle.std.proofs.Common.{ℕ, zero, suc, ◌<◌, ◌≡◌, List, [], ◌∷◌, length, get_or, refl, subst, arith}
use Rattle.std.specs.List.{Contains}
use Rattle.tg_syntax.specs.declared.tokens.Word.{Word as WordOf}
use Rattle.tg_syntax.specs.declared.tokens.Word.TheVariants as word
use Rattle.tg_syntax.specs.declared.tokens.Sign.{Sign as SignOf}
use Rattle.tg_syntax.specs.declared.tokens.Sign.TheVariants as sign
use Rattle.tg_syntax.specs.declared.tokens.Spanned.{Spanned}
use Rattle.tg_explain.specs.declared.kinds.TokenKind.{TokenKind}
use Rattle.tg_explain.specs.declared.kinds.TokenKind.TheVariants.{Word, Sign, Ident, Int, Text, End}
use Rattle.tg_explain.specs.Kinds.{token_table}
use Rattle.tg_explain.specs.Expected.{CanFollow, ArePicked, no_more, picked, passed}
use Rattle.tg_explain.specs.laws.AllExpected.{ExpectsAll}

-- a kind stands in a list
data IsAmong (kind : TokenKind) : List TokenKind → Type 0 where
  here : {kinds : List TokenKind} → IsAmong kind (kind ∷ kinds)
  later : {other : TokenKind} {kinds : List TokenKind} → IsAmong kind kinds → IsAmong kind (other ∷ kinds)

among : (kind : TokenKind) (kinds : List TokenKind) (k : ℕ) → k < length kinds → get_or kinds k kind ≡ kind → IsAmong kind kinds
among kind [] k h e = absurd (omega arith)
among kind (x ∷ kinds) zero h e = subst (λ w. IsAmong w (x ∷ kinds)) e here
among kind (x ∷ kinds) (suc k) h e = later (among kind kinds k (omega arith) e)

contained : {kind : TokenKind} {kinds : List TokenKind} → IsAmong kind kinds → Contains kinds kind
contained here = (0, (omega arith), refl)
contained (later h) = let c = contained h in (suc c.0, (omega arith), c.2)

abbrev word_place : WordOf → ℕ
word_place word.WArray = 0
word_place word.WBreak = 1
word_place word.WDo = 2
word_place word.WElse = 3
word_place word.WEnd = 4
word_place word.WFor = 5
word_place word.WFunction = 6
word_place word.WIf = 7
word_place word.WIn = 8
word_place word.WLet = 9
word_place word.WNil = 10
word_place word.WOf = 11
word_place word.WThen = 12
word_place word.WTo = 13
word_place word.WType = 14
word_place word.WVar = 15
word_place word.WWhile = 16

abbrev sign_place : SignOf → ℕ
sign_place sign.Comma = 17
sign_place sign.Colon = 18
sign_place sign.Semicolon = 19
sign_place sign.LeftParen = 20
sign_place sign.RightParen = 21
sign_place sign.LeftBracket = 22
sign_place sign.RightBracket = 23
sign_place sign.LeftBrace = 24
sign_place sign.RightBrace = 25
sign_place sign.Dot = 26
sign_place sign.Plus = 27
sign_place sign.Minus = 28
sign_place sign.Times = 29
sign_place sign.Divide = 30
sign_place sign.Equal = 31
sign_place sign.NotEqual = 32
sign_place sign.Less = 33
sign_place sign.LessEqual = 34
sign_place sign.Greater = 35
sign_place sign.GreaterEqual = 36
sign_place sign.And = 37
sign_place sign.Or = 38
sign_place sign.Assign = 39

word_there : (w : WordOf) → get_or token_table (word_place w) (Word w) ≡ Word w
word_there word.WArray = refl
word_there word.WBreak = refl
word_there word.WDo = refl
word_there word.WElse = refl
word_there word.WEnd = refl
word_there word.WFor = refl
word_there word.WFunction = refl
word_there word.WIf = refl
word_there word.WIn = refl
word_there word.WLet = refl
word_there word.WNil = refl
word_there word.WOf = refl
word_there word.WThen = refl
word_there word.WTo = refl
word_there word.WType = refl
word_there word.WVar = refl
word_there word.WWhile = refl

sign_there : (s : SignOf) → get_or token_table (sign_place s) (Sign s) ≡ Sign s
sign_there sign.Comma = refl
sign_there sign.Colon = refl
sign_there sign.Semicolon = refl
sign_there sign.LeftParen = refl
sign_there sign.RightParen = refl
sign_there sign.LeftBracket = refl
sign_there sign.RightBracket = refl
sign_there sign.LeftBrace = refl
sign_there sign.RightBrace = refl
sign_there sign.Dot = refl
sign_there sign.Plus = refl
sign_there sign.Minus = refl
sign_there sign.Times = refl
sign_there sign.Divide = refl
sign_there sign.Equal = refl
sign_there sign.NotEqual = refl
sign_there sign.Less = refl
sign_there sign.LessEqual = refl
sign_there sign.Greater = refl
sign_there sign.GreaterEqual = refl
sign_there sign.And = refl
sign_there sign.Or = refl
sign_there sign.Assign = refl

word_within : (w : WordOf) → word_place w < 44
word_within word.WArray = omega arith
word_within word.WBreak = omega arith
word_within word.WDo = omega arith
word_within word.WElse = omega arith
word_within word.WEnd = omega arith
word_within word.WFor = omega arith
word_within word.WFunction = omega arith
word_within word.WIf = omega arith
word_within word.WIn = omega arith
word_within word.WLet = omega arith
word_within word.WNil = omega arith
word_within word.WOf = omega arith
word_within word.WThen = omega arith
word_within word.WTo = omega arith
word_within word.WType = omega arith
word_within word.WVar = omega arith
word_within word.WWhile = omega arith

sign_within : (s : SignOf) → sign_place s < 44
sign_within sign.Comma = omega arith
sign_within sign.Colon = omega arith
sign_within sign.Semicolon = omega arith
sign_within sign.LeftParen = omega arith
sign_within sign.RightParen = omega arith
sign_within sign.LeftBracket = omega arith
sign_within sign.RightBracket = omega arith
sign_within sign.LeftBrace = omega arith
sign_within sign.RightBrace = omega arith
sign_within sign.Dot = omega arith
sign_within sign.Plus = omega arith
sign_within sign.Minus = omega arith
sign_within sign.Times = omega arith
sign_within sign.Divide = omega arith
sign_within sign.Equal = omega arith
sign_within sign.NotEqual = omega arith
sign_within sign.Less = omega arith
sign_within sign.LessEqual = omega arith
sign_within sign.Greater = omega arith
sign_within sign.GreaterEqual = omega arith
sign_within sign.And = omega arith
sign_within sign.Or = omega arith
sign_within sign.Assign = omega arith

in_table : (kind : TokenKind) → IsAmong kind token_table
in_table (Word w) = among (Word w) token_table (word_place w) (word_within w) (word_there w)
in_table (Sign s) = among (Sign s) token_table (sign_place s) (sign_within s) (sign_there s)
in_table Ident = among Ident token_table 40 (omega arith) refl
in_table Int = among Int token_table 41 (omega arith) refl
in_table Text = among Text token_table 42 (omega arith) refl
in_table End = among End token_table 43 (omega arith) refl

picked_follow : {before : List Spanned} {table kinds : List TokenKind} {kind : TokenKind} → ArePicked before table kinds → IsAmong kind kinds →
    CanFollow before kind
picked_follow no_more h = elim h [ ]
picked_follow (picked c p) here = c
picked_follow (picked c p) (later h) = picked_follow p h
picked_follow (passed n p) h = picked_follow p h

follow_picked : {before : List Spanned} {table kinds : List TokenKind} {kind : TokenKind} → ArePicked before table kinds → IsAmong kind table →
    CanFollow before kind → IsAmong kind kinds
follow_picked no_more h f = elim h [ ]
follow_picked (picked c p) here f = here
follow_picked (picked c p) (later h) f = later (follow_picked p h f)
follow_picked (passed n p) here f = absurd (n f)
follow_picked (passed n p) (later h) f = follow_picked p h f

pub all_expected : ExpectsAll
all_expected before kinds kind p =
    ((λ c. picked_follow p (among kind kinds c.0 c.1 c.2)), λ f. contained (follow_picked p (in_table kind) f))
