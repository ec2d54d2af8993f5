-- What a lexer answers can be written.
use Rattle.std.proofs.Common.{ℕ, ◌%◌, ◌≡◌, ◌<◌, List, [], ◌∷◌, ◌++◌, true, arith}
use Rattle.std.specs.Prelude.{All, IsTrue}
use Rattle.std.specs.Str.Parse.{digits_value}
use Rattle.std.proofs.lemmas.Bool.Decides.{nat_tests}
use Rattle.std.proofs.lemmas.List.Elements.{All-append, All-cons, All-nil}
use Rattle.tg_syntax.specs.declared.tokens.Token.{Token}
use Rattle.tg_syntax.specs.declared.tokens.Token.TheVariants.{Word, Sign, Ident, Int, Text, End}
use Rattle.tg_syntax.specs.Spellings.{Spells, Escape, IsQuoted, nothing, plain, escaped, is_plain}
use Rattle.tg_syntax.specs.declared.tokens.Spanned.{Spanned}
use Rattle.tg_syntax.specs.Lexing.{Lexes, ends, blank, comment, token}
use Rattle.tg_formatter.specs.Canonical.{tokens_of}
use Rattle.tg_formatter.specs.Writable.{HasSpelling, AreWritable}
use Rattle.tg_formatter_laws.specs.laws.Laws.{LexedAreWritable}

abbrev AreBytes : List ℕ → Type 0
AreBytes bytes = All (λ b. b < 256) bytes

plain_small : (b : ℕ) → is_plain b ≡ true → b < 256
plain_small b h = grind (arith, nat_tests)

one_byte : (b : ℕ) → b < 256 → AreBytes (b ∷ [])
one_byte b h = All-cons (λ b. b < 256) b [] h (All-nil (λ b. b < 256))

escape_small : {escape more : List ℕ} → Escape escape more → AreBytes more
escape_small Escape.newline = one_byte 10 (omega arith)
escape_small Escape.tab = one_byte 9 (omega arith)
escape_small Escape.quote = one_byte 34 (omega arith)
escape_small Escape.backslash = one_byte 92 (omega arith)
escape_small (Escape.control b h) = one_byte (b % 32) (omega arith)
escape_small (Escape.decimal a b c h k) = one_byte (digits_value 10 (a ∷ b ∷ c ∷ [])) (omega (arith, k))
escape_small (Escape.blanks b more h) = All-nil (λ b. b < 256)

quoted_small : {inside meant : List ℕ} → IsQuoted inside meant → AreBytes meant
quoted_small nothing = All-nil (λ b. b < 256)
quoted_small (plain b {bytes} {meant} h q) = All-cons (λ b. b < 256) b meant (plain_small b h) (quoted_small q)
quoted_small (escaped {escape} {more} {bytes} {meant} e q) = All-append (λ b. b < 256) more meant (escape_small e) (quoted_small q)

spelled_more : (names : List (List ℕ)) (bytes : List ℕ) (one : Token) (more : List Token) → Spells names bytes one → AreWritable names more →
    AreWritable names (one ∷ more)
spelled_more names bytes (Word w) more s h = (tt, h)
spelled_more names bytes (Sign m) more s h = (tt, h)
spelled_more names bytes (Ident n) more s h = ((bytes, s.2, record { name = s.0; no_word = s.1 }), h)
spelled_more names bytes (Int n) more s h = (s.2, h)
spelled_more names bytes (Text meant) more s h = (quoted_small s.2, h)
spelled_more names bytes End more s h = absurd s

lexed_writable : {names : List (List ℕ)} {at : ℕ} {text : List ℕ} {tokens : List Spanned} → Lexes names at text tokens →
    AreWritable names (tokens_of tokens)
lexed_writable (ends at) = tt
lexed_writable (blank b h l) = lexed_writable l
lexed_writable (comment inside c l) = lexed_writable l
lexed_writable {names} (token bytes one {tokens = tokens} s longest o l) = spelled_more names bytes one (tokens_of tokens) s (lexed_writable l)

pub lexed_are_writable : LexedAreWritable
lexed_are_writable names at text tokens l = lexed_writable l
