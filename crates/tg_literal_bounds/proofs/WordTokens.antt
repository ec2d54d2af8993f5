-- The ints of a text's tokens are below 2^31, and their strings are bytes.
use Rattle.std.proofs.Common.{ℕ, ◌%◌, ◌^◌, ◌≡◌, ◌<◌, List, [], ◌∷◌, ◌++◌, Bool, true, false, refl, inl, inr, arith}
use Rattle.std.specs.Prelude.{IsTrue, ◌&&◌, ◌||◌, nat_le, not, ◌==◌, ◌⊎◌, All}
use Rattle.std.proofs.lemmas.Bool.{leb-true}
use Rattle.std.proofs.lemmas.List.Elements.{All-append, All-cons, All-nil}
use Rattle.std.proofs.Math.Dec.{lit≤}
use Rattle.std.specs.Str.Parse.{digits_value}
use Rattle.tg_syntax.specs.declared.tokens.Token.{Token}
use Rattle.tg_syntax.specs.declared.tokens.Token.TheVariants as token
use Rattle.tg_syntax.specs.declared.tokens.Spanned.{Spanned}
use Rattle.tg_syntax.specs.Spellings.{Spells, Escape, IsQuoted, nothing, plain, escaped, is_plain}
use Rattle.tg_syntax.specs.Lexing.{Lexes, ends, blank, comment, token as one_token}

-- a token's int is below 2^31, its string is bytes; so it is of each of these
abbrev pub IsOfWords : Token → Type 0
IsOfWords (token.Int n) = n < 2 ^ 31
IsOfWords (token.Text bytes) = All (λ b. b < 256) bytes
IsOfWords _ = Unit {0}

abbrev pub AreOfWords : List Spanned → Type 0
AreOfWords [] = Unit {0}
AreOfWords (t ∷ rest) = IsOfWords t.token × AreOfWords rest

one_of : (x y z w v : Bool) → IsTrue (((x && y) || (z && w)) && v) → (y ≡ true) ⊎ (w ≡ true)
one_of x true z w v h = inl refl
one_of x false z true v h = inr refl
one_of true false true false v h = cc
one_of true false false false v h = cc
one_of false false true false v h = cc
one_of false false false false v h = cc

plain_of_words : (b : ℕ) → IsTrue (is_plain b) → b < 256
plain_of_words b h = by (one_of (nat_le 32 b) (nat_le b 126) (nat_le 128 b) (nat_le b 255) (not (b == 34) && not (b == 92)) h)
  where
    by : (nat_le b 126 ≡ true) ⊎ (nat_le b 255 ≡ true) → b < 256
    by (inl e) = let k = leb-true b 126 e in omega (arith, k)
    by (inr e) = let k = leb-true b 255 e in omega (arith, k)

abbrev AreBytes : List ℕ → Type 0
AreBytes bytes = All (λ b. b < 256) bytes

no_bytes : AreBytes []
no_bytes = All-nil (λ b. b < 256)

one_more : (b : ℕ) (bytes : List ℕ) → b < 256 → AreBytes bytes → AreBytes (b ∷ bytes)
one_more b bytes h k = All-cons (λ b. b < 256) b bytes h k

escape_of_words : {escape more : List ℕ} → Escape escape more → AreBytes more
escape_of_words Escape.newline = one_more 10 [] (lit≤ tt) no_bytes
escape_of_words Escape.tab = one_more 9 [] (lit≤ tt) no_bytes
escape_of_words Escape.quote = one_more 34 [] (lit≤ tt) no_bytes
escape_of_words Escape.backslash = one_more 92 [] (lit≤ tt) no_bytes
escape_of_words (Escape.control b h) = one_more (b % 32) [] (omega arith) no_bytes
escape_of_words (Escape.decimal a b c h k) = one_more (digits_value 10 (a ∷ b ∷ c ∷ [])) [] (omega (arith, k)) no_bytes
escape_of_words (Escape.blanks b more h) = no_bytes

quoted_of_words : {inside meant : List ℕ} → IsQuoted inside meant → AreBytes meant
quoted_of_words nothing = no_bytes
quoted_of_words (plain b {bytes} {meant} q h) = one_more b meant (plain_of_words b q) (quoted_of_words h)
quoted_of_words (escaped {escape} {more} {bytes} {meant} h q) = All-append (λ b. b < 256) more meant (escape_of_words h) (quoted_of_words q)

spelled_of_words : (names : List (List ℕ)) (bytes : List ℕ) (one : Token) → Spells names bytes one → IsOfWords one
spelled_of_words names bytes (token.Text t) (inside, e, q) = quoted_of_words q
spelled_of_words names bytes (token.Word w) h = tt
spelled_of_words names bytes (token.Sign s) h = tt
spelled_of_words names bytes (token.Ident n) h = tt
spelled_of_words names bytes (token.Int n) (h, e, k) = omega (arith, k)
spelled_of_words names bytes token.End h = tt

pub tokens_of_words : {names : List (List ℕ)} {at : ℕ} {text : List ℕ} {tokens : List Spanned} → Lexes names at text tokens → AreOfWords tokens
tokens_of_words (ends at) = (tt, tt)
tokens_of_words (blank b h r) = tokens_of_words r
tokens_of_words (comment inside c r) = tokens_of_words r
tokens_of_words {names} (one_token bytes one s longest not_comment r) = (spelled_of_words names bytes one s, tokens_of_words r)

-- parts of tokens
pub left_of_words : (a b : List Spanned) → AreOfWords (a ++ b) → AreOfWords a
left_of_words [] b h = tt
left_of_words (t ∷ a) b h = (h.0, left_of_words a b h.1)

pub right_of_words : (a b : List Spanned) → AreOfWords (a ++ b) → AreOfWords b
right_of_words [] b h = h
right_of_words (t ∷ a) b h = right_of_words a b h.1
