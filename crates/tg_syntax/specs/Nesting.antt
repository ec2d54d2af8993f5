-- The nesting of a list of tokens: how many constructs are open, with a count for each bracket that
-- is open.
use Rattle.std.specs.Prelude.{ℕ, ◌+◌, ◌-◌, ◌≤◌, List, [], ◌∷◌, length, sum}
use Rattle.tg_syntax.specs.declared.tokens.Token.{Token}
use Rattle.tg_syntax.specs.declared.tokens.Token.TheVariants as token
use Rattle.tg_syntax.specs.declared.tokens.Spanned.{Spanned}
use Rattle.tg_syntax.specs.declared.tokens.Word.{Word}
use Rattle.tg_syntax.specs.declared.tokens.Word.TheVariants.{WEnd, WFor, WFunction, WIf, WIn, WLet}
use Rattle.tg_syntax.specs.declared.tokens.Word.TheVariants.{WOf, WType, WVar, WWhile}
use Rattle.tg_syntax.specs.declared.tokens.Sign.{Sign}
use Rattle.tg_syntax.specs.declared.tokens.Sign.TheVariants.{Comma, Semicolon, LeftParen}
use Rattle.tg_syntax.specs.declared.tokens.Sign.TheVariants.{RightParen, LeftBracket, RightBracket}
use Rattle.tg_syntax.specs.declared.tokens.Sign.TheVariants.{LeftBrace, RightBrace, Colon}

-- a bracket begins a count of 0
abbrev pub pushed : List ℕ → List ℕ
pushed counts = 0 ∷ counts

-- its end takes the count away, but for the first one
abbrev pub popped : List ℕ → List ℕ
popped (n ∷ m ∷ counts) = m ∷ counts
popped counts = counts

abbrev pub reset : List ℕ → List ℕ
reset (n ∷ counts) = 0 ∷ counts
reset [] = []

abbrev pub raised : List ℕ → List ℕ
raised (n ∷ counts) = (n + 1) ∷ counts
raised [] = []

abbrev pub after_word : Word → List ℕ → List ℕ
after_word WLet counts = pushed counts
after_word WEnd counts = popped counts
after_word WIn counts = reset counts
after_word WType counts = reset counts
after_word WVar counts = reset counts
after_word WFunction counts = reset counts
after_word WIf counts = raised counts
after_word WWhile counts = raised counts
after_word WFor counts = raised counts
after_word WOf counts = raised counts
after_word _ counts = counts

abbrev pub after_sign : Sign → List ℕ → List ℕ
after_sign LeftParen counts = pushed counts
after_sign LeftBracket counts = pushed counts
after_sign LeftBrace counts = pushed counts
after_sign RightParen counts = popped counts
after_sign RightBrace counts = popped counts
after_sign RightBracket counts = raised (popped counts)
after_sign Semicolon counts = reset counts
after_sign Comma counts = reset counts
after_sign Colon counts = counts
after_sign _ counts = raised counts

-- the counts after a token; at the start there is one count of 0
abbrev pub after_token : Token → List ℕ → List ℕ
after_token (token.Word w) counts = after_word w counts
after_token (token.Sign s) counts = after_sign s counts
after_token _ counts = counts

-- the number of counts besides the first, and the sum of all
abbrev pub nesting_of : List ℕ → ℕ
nesting_of counts = length counts - 1 + sum counts

-- after each token the nesting is within a limit
abbrev pub NestsWithin : ℕ → List ℕ → List Spanned → Type 0
NestsWithin limit counts [] = Unit {0}
NestsWithin limit counts (one ∷ tokens) =
    let after = after_token one.token counts in
    (nesting_of after ≤ limit) × NestsWithin limit after tokens
