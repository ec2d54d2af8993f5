-- The tokens of a text end by their one end.
use Rattle.std.proofs.Common.{ℕ, ◌+◌, ◌≡◌, List, [], ◌∷◌, length, refl, ap, subst}
use Rattle.tg_syntax.specs.declared.tokens.Token.{Token}
use Rattle.tg_syntax.specs.declared.tokens.Token.TheVariants.{End}
use Rattle.tg_syntax.specs.declared.tokens.Spanned.{Spanned}
use Rattle.tg_syntax.specs.Spellings.{Spells}
use Rattle.tg_syntax.specs.Lexing.{Lexes, ends, blank, comment, token, spanned}
use Rattle.tg_syntax.specs.SyntaxFaults.{EndsOnce}

-- an end isn't spelled
spelled_no_end : (names : List (List ℕ)) (bytes : List ℕ) (one : Token) → Spells names bytes one → one ≡ End → ⊥
spelled_no_end names bytes one s e = let P : Token → Type 0 = λ t. Spells names bytes t in subst P e s

pub ends_once : {names : List (List ℕ)} {at : ℕ} {text : List ℕ} {tokens : List Spanned} → Lexes names at text tokens → EndsOnce tokens
ends_once (ends at) = record { body = []; end = spanned End at at; whole = refl; is_end = refl; once = tt }
ends_once (blank b is l) = ends_once l
ends_once (comment inside c l) = ends_once l
ends_once {names = names} {at = at} (token bytes one s longest o l) =
    let h = ends_once l in
    record {
      body = spanned one at (at + length bytes) ∷ h.body;
      end = h.end;
      whole = ap (λ ts. spanned one at (at + length bytes) ∷ ts) h.whole;
      is_end = h.is_end;
      once = (spelled_no_end names bytes one s, h.once);
    }
