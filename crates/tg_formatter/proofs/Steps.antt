-- What one more that is open adds to a line, that strings are written piece by piece, and that tokens
-- which can be written have their names.
use Rattle.std.proofs.Common.{ℕ, zero, suc, ◌+◌, ◌≡◌, List, [], ◌∷◌, ◌++◌, refl, sym, ap, ◌∙◌, add-one, append_assoc}
use Rattle.std.proofs.lemmas.Option.{slice_get_within}
use Rattle.tg_syntax.specs.declared.tokens.Token.{Token}
use Rattle.tg_syntax.specs.declared.tokens.Token.TheVariants.{Word, Sign, Ident, Int, Text, End}
use Rattle.tg_formatter.specs.Canonical.{indentation, quoted_byte, quoted_text}
use Rattle.tg_formatter.specs.Writable.{HasSpelling, AreWritable}
use Rattle.tg_formatter.specs.glue.Reached.{IsNamed, AreNamed}

pub one_deeper : (k : ℕ) → indentation (k + 1) ≡ indentation k ++ 32 ∷ 32 ∷ []
one_deeper zero = refl
one_deeper (suc k) = ap indentation (add-one (suc k)) ∙ ap (λ l. 32 ∷ 32 ∷ l) (ap indentation (sym (add-one k)) ∙ one_deeper k)

pub quoted_append : (bytes rest : List ℕ) → quoted_text (bytes ++ rest) ≡ quoted_text bytes ++ quoted_text rest
quoted_append [] rest = refl
quoted_append (b ∷ bytes) rest =
    ap (λ l. quoted_byte b ++ l) (quoted_append bytes rest) ∙ sym (append_assoc (quoted_byte b) (quoted_text bytes) (quoted_text rest))

-- tokens that can be written have their names
writable_named : (names : List (List ℕ)) (one : Token) → HasSpelling names one → IsNamed names one
writable_named names (Ident n) (text, at, is) = slice_get_within names n.0 text at
writable_named names (Word w) h = tt
writable_named names (Sign s) h = tt
writable_named names (Int n) h = tt
writable_named names (Text bytes) h = tt
writable_named names End h = tt

pub are_named : (names : List (List ℕ)) (tokens : List Token) → AreWritable names tokens → AreNamed names tokens
are_named names [] h = tt
are_named names (End ∷ []) h = (tt, tt)
are_named names (End ∷ one ∷ tokens) h = absurd h.0
are_named names (Word w ∷ tokens) h = (tt, are_named names tokens h.1)
are_named names (Sign s ∷ tokens) h = (tt, are_named names tokens h.1)
are_named names (Ident n ∷ tokens) h = (writable_named names (Ident n) h.0, are_named names tokens h.1)
are_named names (Int n ∷ tokens) h = (tt, are_named names tokens h.1)
are_named names (Text bytes ∷ tokens) h = (tt, are_named names tokens h.1)
