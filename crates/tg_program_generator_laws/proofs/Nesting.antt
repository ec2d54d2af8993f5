-- Generated programs nest little.
use Rattle.std.proofs.Common.{ℕ, zero, suc, ◌≡◌, ◌≤◌, List, [], ◌∷◌, ◌++◌, Bool, true, refl, sym, ap, subst, ◌∙◌, arith, append_assoc}
use Rattle.std.specs.Prelude.{nat_le, ◌&&◌}
use Rattle.std.proofs.lemmas.Bool.{and_parts}
use Rattle.std.proofs.lemmas.Bool.Decides.{nat_tests}
use Rattle.tg_syntax.specs.declared.tokens.Token.TheVariants as token
use Rattle.tg_syntax.specs.declared.tokens.Spanned.{Spanned}
use Rattle.tg_syntax.specs.Nesting.{after_token, nesting_of, NestsWithin}
use Rattle.tg_syntax.specs.SyntaxFaults.{IsShallow}
use Rattle.tg_program_generator_laws.proofs.Lexemes.{tokens_at, past, tokens-append}
use Rattle.tg_program_generator_laws.proofs.Lines.{head, line, lines, last, program}

-- the counts after tokens, and whether they nest within 256
abbrev behind : List ℕ → List Spanned → List ℕ
behind counts [] = counts
behind counts (t ∷ ts) = behind (after_token t.token counts) ts

abbrev is_shallow : List ℕ → List Spanned → Bool
is_shallow counts [] = true
is_shallow counts (t ∷ ts) = let after = after_token t.token counts in nat_le (nesting_of after) 256 && is_shallow after ts

le_from : (a b : ℕ) → nat_le a b ≡ true → a ≤ b
le_from a b h = grind (arith, nat_tests)

nests : (counts : List ℕ) (ts : List Spanned) → is_shallow counts ts ≡ true → NestsWithin 256 counts ts
nests counts [] h = tt
nests counts (t ∷ ts) h =
    let after = after_token t.token counts in
    let p = and_parts (nat_le (nesting_of after) 256) (is_shallow after ts) h in
    (le_from (nesting_of after) 256 p.0, nests after ts p.1)

nests-append : (counts : List ℕ) (a b : List Spanned) → NestsWithin 256 counts a → NestsWithin 256 (behind counts a) b → NestsWithin 256 counts (a ++ b)
nests-append counts [] b h k = k
nests-append counts (t ∷ a) b h k = (h.0, nests-append (after_token t.token counts) a b h.1 k)

behind-append : (counts : List ℕ) (a b : List Spanned) → behind counts (a ++ b) ≡ behind (behind counts a) b
behind-append counts [] b = refl
behind-append counts (t ∷ a) b = behind-append (after_token t.token counts) a b

line_shallow : (n at x : ℕ) → is_shallow (x ∷ 0 ∷ []) (tokens_at at (line n)) ≡ true
line_shallow zero at x = refl
line_shallow (suc k) at x = refl

line_behind : (n at x : ℕ) → behind (x ∷ 0 ∷ []) (tokens_at at (line n)) ≡ 1 ∷ 0 ∷ []
line_behind zero at x = refl
line_behind (suc k) at x = refl

-- the count that stands beside the first after so many lines
abbrev counts_from : ℕ → ℕ
counts_from zero = 3
counts_from (suc n) = 1

lines_behind : (n at : ℕ) → behind (3 ∷ 0 ∷ []) (tokens_at at (lines n)) ≡ counts_from n ∷ 0 ∷ []
lines_behind zero at = refl
lines_behind (suc n) at =
    ap (behind (3 ∷ 0 ∷ [])) (tokens-append at (lines n) (line n))
    ∙ behind-append (3 ∷ 0 ∷ []) (tokens_at at (lines n)) (tokens_at (past at (lines n)) (line n))
    ∙ ap (λ counts. behind counts (tokens_at (past at (lines n)) (line n))) (lines_behind n at) ∙ line_behind n (past at (lines n)) (counts_from n)

lines_nest : (n at : ℕ) → NestsWithin 256 (3 ∷ 0 ∷ []) (tokens_at at (lines n))
lines_nest zero at = tt
lines_nest (suc n) at =
    let to = past at (lines n) in
    let last_line : NestsWithin 256 (behind (3 ∷ 0 ∷ []) (tokens_at at (lines n))) (tokens_at to (line n)) =
    subst (λ counts. NestsWithin 256 counts (tokens_at to (line n))) (sym (lines_behind n at))
    (nests (counts_from n ∷ 0 ∷ []) (tokens_at to (line n)) (line_shallow n to (counts_from n))) in
    subst (λ ts. NestsWithin 256 (3 ∷ 0 ∷ []) ts) (sym (tokens-append at (lines n) (line n)))
    (nests-append (3 ∷ 0 ∷ []) (tokens_at at (lines n)) (tokens_at to (line n)) (lines_nest n at) last_line)

last_shallow : (k at : ℕ) (end : Spanned) → end.token ≡ token.End → NestsWithin 256 (1 ∷ 0 ∷ []) (tokens_at at (last k) ++ end ∷ [])
last_shallow k at end e =
    nests-append (1 ∷ 0 ∷ []) (tokens_at at (last k)) (end ∷ []) (nests (1 ∷ 0 ∷ []) (tokens_at at (last k)) refl)
    (rw e (omega arith, tt))

pub shallow : (k : ℕ) (end : Spanned) → end.token ≡ token.End → IsShallow (tokens_at 0 (program k) ++ end ∷ [])
shallow k end e =
    let n = suc k in
    let at = past 0 head in
    let to = past at (lines n) in
    let more = tokens_at at (lines n) ++ (tokens_at to (last k) ++ end ∷ []) in
    let whole : tokens_at 0 (program k) ++ end ∷ [] ≡ tokens_at 0 head ++ more =
    ap (λ ts. ts ++ end ∷ []) (tokens-append 0 head (lines n ++ last k) ∙ ap (λ ts. tokens_at 0 head ++ ts) (tokens-append at (lines n) (last k)))
    ∙ append_assoc (tokens_at 0 head) (tokens_at at (lines n) ++ tokens_at to (last k)) (end ∷ [])
    ∙ ap (λ ts. tokens_at 0 head ++ ts) (append_assoc (tokens_at at (lines n)) (tokens_at to (last k)) (end ∷ [])) in
    let end_nests : NestsWithin 256 (behind (3 ∷ 0 ∷ []) (tokens_at at (lines n))) (tokens_at to (last k) ++ end ∷ []) =
    subst (λ counts. NestsWithin 256 counts (tokens_at to (last k) ++ end ∷ [])) (sym (lines_behind n at)) (last_shallow k to end e) in
    subst IsShallow (sym whole)
    (nests-append (0 ∷ []) (tokens_at 0 head) more (nests (0 ∷ []) (tokens_at 0 head) refl)
    (nests-append (3 ∷ 0 ∷ []) (tokens_at at (lines n)) (tokens_at to (last k) ++ end ∷ []) (lines_nest n at) end_nests))
