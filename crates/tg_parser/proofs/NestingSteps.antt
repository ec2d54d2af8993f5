-- The nesting of a list of tokens, one token after another.
use Rattle.std.proofs.Common.{ℕ, ◌+◌, ◌≡◌, ◌≤◌, ◌<◌, min, List, [], ◌∷◌, ◌++◌, length, length-take, take, drop, get_or, refl, sym, ap, subst, ◌∙◌, arith}
use Rattle.std.proofs.lemmas.List.{take_more, drop_more, take_all, take-append-drop}
use Rattle.tg_syntax.specs.declared.tokens.Spanned.{Spanned}
use Rattle.tg_syntax.specs.Nesting.{nesting_of, after_token, NestsWithin}
use Rattle.tg_syntax.specs.SyntaxFaults.{IsShallow}
use Rattle.tg_parser.specs.glue.Deep.{IsFirstDeep}

-- the counts after some tokens
unfoldable pub counts_after : List ℕ → List Spanned → List ℕ
counts_after counts [] = counts
counts_after counts (t ∷ ts) = counts_after (after_token t.token counts) ts

counts_behind : (counts : List ℕ) (ts : List Spanned) (t : Spanned) → counts_after counts (ts ++ t ∷ []) ≡ after_token t.token (counts_after counts ts)
unfolding counts_after
counts_behind counts [] t = refl
counts_behind counts (u ∷ ts) t = counts_behind (after_token u.token counts) ts t

within_behind : (counts : List ℕ) (ts : List Spanned) (t : Spanned) → NestsWithin 256 counts (ts ++ t ∷ []) →
    nesting_of (after_token t.token (counts_after counts ts)) ≤ 256
unfolding counts_after
within_behind counts [] t h = h.0
within_behind counts (u ∷ ts) t h = within_behind (after_token u.token counts) ts t h.1

pub within_more : (counts : List ℕ) (ts : List Spanned) (t : Spanned) → NestsWithin 256 counts ts →
    nesting_of (after_token t.token (counts_after counts ts)) ≤ 256 → NestsWithin 256 counts (ts ++ t ∷ [])
unfolding counts_after
within_more counts [] t h k = (k, tt)
within_more counts (u ∷ ts) t h k = (h.0, within_more (after_token u.token counts) ts t h.1 k)

-- the tokens before an index, which leave these counts
pub record Nested (tokens : List Spanned) (index : ℕ) (counts : List ℕ) : Type 0 where
  pub small : nesting_of counts ≤ 256
  pub shallow : IsShallow (take index tokens)
  pub leaves : counts ≡ counts_after (0 ∷ []) (take index tokens)

pub nested_none : (tokens : List Spanned) → Nested tokens 0 (0 ∷ [])
unfolding counts_after
nested_none tokens = record { small = omega arith; shallow = tt; leaves = refl }

more : (tokens : List Spanned) (index : ℕ) (t : Spanned) → index < length tokens → t ≡ get_or tokens index t →
    take (index + 1) tokens ≡ take index tokens ++ t ∷ []
more tokens index t lt e = take_more tokens index t lt ∙ ap (λ x. take index tokens ++ x ∷ []) (sym e)

pub nested_more : (tokens : List Spanned) (index : ℕ) (counts after : List ℕ) (t : Spanned) → Nested tokens index counts →
    index < length tokens → t ≡ get_or tokens index t → after ≡ after_token t.token counts → nesting_of after ≤ 256 → Nested tokens (index + 1) after
nested_more tokens index counts after t h lt e f small =
    let e1 = f ∙ ap (after_token t.token) h.leaves in
    record {
      small = small;
      shallow = rw (more tokens index t lt e) (within_more (0 ∷ []) (take index tokens) t h.shallow (subst (λ c. nesting_of c ≤ 256) e1 small));
      leaves = rw (more tokens index t lt e) (e1 ∙ sym (counts_behind (0 ∷ []) (take index tokens) t));
    }

pub nested_over : (tokens : List Spanned) (index : ℕ) (counts after : List ℕ) (t : Spanned) → Nested tokens index counts →
    index < length tokens → t ≡ get_or tokens index t → after ≡ after_token t.token counts → 256 < nesting_of after → IsFirstDeep tokens index
nested_over tokens index counts after t h lt e f great = record {
  front = take index tokens;
  one = t;
  after = drop (index + 1) tokens;
  whole = sym (take-append-drop index tokens) ∙ ap (λ x. take index tokens ++ x) (drop_more tokens index t lt ∙ ap (λ x. x ∷ drop (index + 1) tokens) (sym e));
  at_place = length-take index tokens ∙ within;
  shallow = h.shallow;
  deep = λ n. too_great (subst (λ c. nesting_of c ≤ 256) (sym (f ∙ ap (after_token t.token) h.leaves)) (within_behind (0 ∷ []) (take index tokens) t n));
}
  where
    within : min index (length tokens) ≡ index
    within = omega arith

    too_great : nesting_of after ≤ 256 → ⊥
    too_great le = omega arith

pub nested_end : (tokens : List Spanned) (index : ℕ) (counts : List ℕ) → Nested tokens index counts → length tokens ≤ index → IsShallow tokens
nested_end tokens index counts h le = subst (λ x. IsShallow x) (take_all index tokens le) h.shallow
