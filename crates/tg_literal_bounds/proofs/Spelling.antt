-- Of a text each token takes a byte at least, and a string its bytes and two quotes.
use Rattle.std.proofs.Common.{ℕ, ◌+◌, ◌≡◌, ◌≤◌, List, [], ◌∷◌, ◌++◌, length, refl, ap, arith, length-append}
use Rattle.std.specs.List.{sum_by}
use Rattle.std.proofs.lemmas.List.Sums.{sum_by-cons}
use Rattle.tg_syntax.specs.declared.tokens.Token.{Token}
use Rattle.tg_syntax.specs.declared.tokens.Token.TheVariants as token
use Rattle.tg_syntax.specs.declared.tokens.Spanned.{Spanned}
use Rattle.tg_syntax.specs.Spellings.{Escape, IsQuoted, nothing, plain, escaped, Spells}
use Rattle.tg_syntax.specs.Lexing.{Lexes, ends, blank, comment, token as one_token, spanned}
use Rattle.tg_lexer.proofs.Onces.{spells_form, form_some}

-- what a token takes of a text, at least
abbrev pub least_bytes : Token → ℕ
least_bytes (token.Text bytes) = 2 + length bytes
least_bytes token.End = 0
least_bytes _ = 1

abbrev pub least_length : List Spanned → ℕ
least_length tokens = sum_by (λ t. least_bytes t.token) tokens

-- an escape means one byte or none
means_one : {escape more : List ℕ} → Escape escape more → length more ≤ 1
means_one Escape.newline = omega arith
means_one Escape.tab = omega arith
means_one Escape.quote = omega arith
means_one Escape.backslash = omega arith
means_one (Escape.control b h) = omega arith
means_one (Escape.decimal a b c h k) = omega arith
means_one (Escape.blanks b more h) = omega arith

means_less : {inside meant : List ℕ} → IsQuoted inside meant → length meant ≤ length inside
means_less nothing = omega arith
means_less (plain b q h) = let k = means_less h in omega (arith, k)
means_less (escaped {escape} {more} {bytes} {meant} h q) =
    let one = means_one h in
    let rest = means_less q in
    omega (arith, one, rest, length-append more meant, length-append escape bytes)

some : (bytes : List ℕ) → (bytes ≡ [] → ⊥) → 1 ≤ length bytes
some [] h = absurd (h refl)
some (b ∷ bytes) h = omega arith

spelled : (names : List (List ℕ)) (bytes : List ℕ) (one : Token) → Spells names bytes one → least_bytes one ≤ length bytes
spelled names bytes (token.Text t) (inside, e, q) =
    let less = means_less q in
    let same : length bytes ≡ length (34 ∷ inside ++ 34 ∷ []) = ap length e in
    omega (arith, less, same, length-append inside (34 ∷ []))
spelled names bytes (token.Word w) h = some bytes (form_some (spells_form names bytes (token.Word w) h))
spelled names bytes (token.Sign s) h = some bytes (form_some (spells_form names bytes (token.Sign s) h))
spelled names bytes (token.Ident n) h = some bytes (form_some (spells_form names bytes (token.Ident n) h))
spelled names bytes (token.Int n) h = some bytes (form_some (spells_form names bytes (token.Int n) h))
spelled names bytes token.End h = absurd h

pub tokens_fit : {names : List (List ℕ)} {at : ℕ} {text : List ℕ} {tokens : List Spanned} → Lexes names at text tokens → least_length tokens ≤ length text
tokens_fit (ends at) = omega arith
tokens_fit (blank b h r) = let k = tokens_fit r in omega (arith, k)
tokens_fit (comment inside {rest} c r) =
    let k = tokens_fit r in
    omega (arith, k, length-append inside rest)
tokens_fit {names} (one_token {at} bytes one {rest} {tokens} s longest not_comment r) =
    let k = tokens_fit r in
    let first = spelled names bytes one s in
    omega (arith, k, first, length-append bytes rest, sum_by-cons (λ t. least_bytes t.token) (spanned one at (at + length bytes)) tokens)
