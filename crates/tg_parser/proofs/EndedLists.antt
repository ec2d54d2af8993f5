-- Lists that end by their one end, token by token.
use Rattle.std.proofs.Common.{◌≡◌, List, [], ◌∷◌, ◌++◌}
use Rattle.tg_syntax.specs.declared.tokens.Token.TheVariants.{End}
use Rattle.tg_syntax.specs.declared.tokens.Spanned.{Spanned}
use Rattle.tg_syntax.specs.SyntaxFaults.{HasNoEnd, EndsOnce}

pub no_end_more : (tokens : List Spanned) (one : Spanned) → HasNoEnd tokens → (one.token ≡ End → ⊥) → HasNoEnd (tokens ++ one ∷ [])
no_end_more [] one h n = (n, tt)
no_end_more (t ∷ tokens) one h n = (h.0, no_end_more tokens one h.1 n)

pub ends_once : (body tokens : List Spanned) (one : Spanned) → tokens ≡ body ++ one ∷ [] → one.token ≡ End → HasNoEnd body → EndsOnce tokens
ends_once body tokens one whole is_end once = record { body = body; end = one; whole = whole; is_end = is_end; once = once }
