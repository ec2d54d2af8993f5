-- The bytes in a token's span spell it.
use Rattle.std.proofs.Common.{◌≡◌, ℕ, List, [], ◌∷◌, ◌++◌, length, refl, subst, arith, append_assoc, length-append}
use Rattle.tg_syntax.specs.declared.tokens.Token.{Token}
use Rattle.tg_syntax.specs.declared.tokens.Token.TheVariants as token
use Rattle.tg_syntax.specs.declared.tokens.Spanned.{Spanned}
use Rattle.tg_syntax.specs.Spellings.{Spells}
use Rattle.tg_syntax.specs.Lexing.{Lexes, ends, blank, comment, token as one_token}
use Rattle.tg_lexer.specs.laws.Spelled.{SpellsOrEnds, AreSpelled}

spelled : (names : List (List ℕ)) (bytes after : List ℕ) (one : Token) → Spells names bytes one → SpellsOrEnds names bytes after one
spelled names bytes after token.End h = absurd h
spelled names bytes after (token.Word w) h = h
spelled names bytes after (token.Sign s) h = h
spelled names bytes after (token.Ident n) h = h
spelled names bytes after (token.Int n) h = h
spelled names bytes after (token.Text t) h = h

-- a part of the text is passed over
passed : (names : List (List ℕ)) (before part rest : List ℕ) (tokens : List Spanned) → AreSpelled names ((before ++ part) ++ rest) tokens →
    AreSpelled names (before ++ (part ++ rest)) tokens
passed names before part rest tokens h = subst (λ text. AreSpelled names text tokens) (append_assoc before part rest) h

behind : {names : List (List ℕ)} {at : ℕ} {text : List ℕ} {tokens : List Spanned} → Lexes names at text tokens →
    (before : List ℕ) → at ≡ length before → AreSpelled names (before ++ text) tokens
behind (ends at) before e =
    (record { before = before; bytes = []; after = []; whole = refl; from_is = e; to_is = omega (arith, e); spells = (refl, refl) }, tt)
behind {names} (blank b {rest} {tokens} h r) before e =
    passed names before (b ∷ []) rest tokens (behind r (before ++ b ∷ []) (omega (arith, e, length-append before (b ∷ []))))
behind {names} (comment inside {rest} {tokens} c r) before e =
    passed names before (47 ∷ 42 ∷ inside) rest tokens (behind r (before ++ 47 ∷ 42 ∷ inside) (omega (arith, e, length-append before (47 ∷ 42 ∷ inside))))
behind {names} (one_token bytes one {rest} {tokens} s long not_comment r) before e = (
  record { before = before; bytes = bytes; after = rest; whole = refl; from_is = e; to_is = omega (arith, e); spells = spelled names bytes rest one s },
  passed names before bytes rest tokens (behind r (before ++ bytes) (omega (arith, e, length-append before bytes))),
)

pub tokens_spelled : {names : List (List ℕ)} {text : List ℕ} {tokens : List Spanned} → Lexes names 0 text tokens → AreSpelled names text tokens
tokens_spelled l = behind l [] refl
