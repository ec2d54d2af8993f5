-- The same tokens are nested as deep.
use Rattle.std.proofs.Common.{ℕ, ◌≡◌, ◌≤◌, List, [], ◌∷◌, sym, ap, subst}
use Rattle.tg_syntax.specs.declared.tokens.Spanned.{Spanned}
use Rattle.tg_syntax.specs.Nesting.{NestsWithin, after_token, nesting_of}
use Rattle.tg_formatter_laws.specs.laws.Laws.{SameNesting}
use Rattle.tg_formatter_laws.proofs.Alike.{HaveSameTokens, are_alike}

nests_alike : (limit : ℕ) (counts : List ℕ) (xs ts : List Spanned) → HaveSameTokens xs ts → NestsWithin limit counts ts → NestsWithin limit counts xs
nests_alike limit counts [] [] h n = tt
nests_alike limit counts [] (t ∷ ts) h n = absurd h
nests_alike limit counts (x ∷ xs) [] h n = absurd h
nests_alike limit counts (x ∷ xs) (t ∷ ts) h n =
    let e : after_token t.token counts ≡ after_token x.token counts = ap (λ o. after_token o counts) (sym h.0) in
    subst (λ after. (nesting_of after ≤ limit) × NestsWithin limit after xs) e (n.0, nests_alike limit (after_token t.token counts) xs ts h.1 n.1)

pub same_nesting : SameNesting
same_nesting tokens others e n = nests_alike 256 (0 ∷ []) others tokens (are_alike others tokens e) n
