-- A list of tokens has at most one first fault of syntax.
use Rattle.std.proofs.Common.{ℕ, ◌≡◌, List, [], ◌∷◌, ◌++◌, refl, sym, ap, subst, ◌∙◌, append_assoc, append-nil}
use Rattle.tg_syntax.specs.declared.tokens.Spanned.{Spanned}
use Rattle.tg_syntax.specs.Tree.{Exp}
use Rattle.tg_syntax.specs.Grammar.{IsProgram}
use Rattle.tg_syntax.specs.SyntaxFaults.{BeginsProgram, IsShallow, HasUnexpected, HasTooDeep}
use Rattle.tg_parser.specs.declared.faults.SyntaxRule.{SyntaxRule}
use Rattle.tg_parser.specs.declared.faults.SyntaxRule.TheVariants.{S1, S2}
use Rattle.tg_parser.specs.Answers.{HasSyntaxFault}
use Rattle.tg_parser.proofs.ParseSteps.{head_is, rest_is, shallow_front}

-- some program begins so, and the nesting stays within 256
record IsFine (tokens : List Spanned) : Type 0 where
  begins : BeginsProgram tokens
  shallow : IsShallow tokens

begins_front : (a b : List Spanned) → BeginsProgram (a ++ b) → BeginsProgram a
begins_front a b h = record { rest = b ++ h.rest; tree = h.tree; is = subst (λ w. IsProgram w h.tree) (append_assoc a b h.rest) h.is }

fine_front : (a b tokens : List Spanned) → tokens ≡ a ++ b → IsFine tokens → IsFine a
fine_front a b tokens e h = record {
  begins = begins_front a b (subst (λ w. BeginsProgram w) e h.begins);
  shallow = shallow_front (0 ∷ []) a b (subst (λ w. IsShallow w) e h.shallow);
}

-- the list is fine before a token, and not with it
record Breaks (tokens front : List Spanned) (one : Spanned) : Type 0 where
  after : List Spanned
  whole : tokens ≡ front ++ one ∷ after
  before : IsFine front
  behind : IsFine (front ++ one ∷ []) → ⊥

-- two places of a list
data Places : List Spanned → Spanned → List Spanned → Spanned → Type 0 where
  same : {a : List Spanned} {t : Spanned} → Places a t a t
  first : {a b : List Spanned} {t u : Spanned} (c : List Spanned) → b ≡ (a ++ t ∷ []) ++ c → Places a t b u
  second : {a b : List Spanned} {t u : Spanned} (c : List Spanned) → a ≡ (b ++ u ∷ []) ++ c → Places a t b u

places_more : {a b : List Spanned} {t u : Spanned} (p q : Spanned) → p ≡ q → Places a t b u → Places (p ∷ a) t (q ∷ b) u
places_more p q h (same {a} {t}) = subst (λ w. Places (p ∷ a) t (w ∷ a) t) h same
places_more p q h (first {b = b} c k) = first c (ap (λ w. w ∷ b) (sym h) ∙ ap (λ w. p ∷ w) k)
places_more p q h (second {a = a} c k) = second c (ap (λ w. w ∷ a) h ∙ ap (λ w. q ∷ w) k)

places : (a b : List Spanned) (t u : Spanned) (x y : List Spanned) → a ++ t ∷ x ≡ b ++ u ∷ y → Places a t b u
places [] [] t u x y e = subst (λ w. Places [] t [] w) (head_is e) same
places [] (q ∷ b) t u x y e = first b (ap (λ w. w ∷ b) (sym (head_is e)))
places (p ∷ a) [] t u x y e = second a (ap (λ w. w ∷ a) (head_is e))
places (p ∷ a) (q ∷ b) t u x y e = places_more p q (head_is e) (places a b t u x y (rest_is e))

-- it breaks at one place alone
data IsSame : List Spanned → Spanned → List Spanned → Spanned → Type 0 where
  is_same : {a : List Spanned} {t : Spanned} → IsSame a t a t

meets : {a b : List Spanned} {t u : Spanned} (tokens : List Spanned) → Breaks tokens a t → Breaks tokens b u → Places a t b u → IsSame a t b u
meets tokens h k same = is_same
meets tokens h k (first c e) = absurd (h.behind (fine_front _ c _ e k.before))
meets tokens h k (second c e) = absurd (k.behind (fine_front _ c _ e h.before))

one_break : (tokens a b : List Spanned) (t u : Spanned) → Breaks tokens a t → Breaks tokens b u → IsSame a t b u
one_break tokens a b t u h k = meets tokens h k (places a b t u h.after k.after (sym h.whole ∙ k.whole))

unexpected_breaks : (tokens : List Spanned) (at : ℕ) (h : HasUnexpected tokens at) → Breaks tokens h.front h.one
unexpected_breaks tokens at h = record {
  after = h.is_at.after;
  whole = h.is_at.whole;
  before = record { begins = h.could; shallow = h.shallow };
  behind = λ f. h.cannot f.begins;
}

too_deep_breaks : (tokens : List Spanned) (at : ℕ) (h : HasTooDeep tokens at) → Breaks tokens h.front h.one
too_deep_breaks tokens at h = record {
  after = h.is_at.after;
  whole = h.is_at.whole;
  before = record { begins = begins_front h.front (h.one ∷ []) h.could; shallow = h.shallow };
  behind = λ f. h.deep f.shallow;
}

same_place : {a b : List Spanned} {t u : Spanned} {at to : ℕ} → at ≡ t.span.from → to ≡ u.span.from → IsSame a t b u → at ≡ to
same_place p q is_same = p ∙ sym q

not_both : {a b : List Spanned} {t u : Spanned} → (BeginsProgram (a ++ t ∷ []) → ⊥) → BeginsProgram (b ++ u ∷ []) → IsSame a t b u → ⊥
not_both h k is_same = h k

pub faults_once : (tokens : List Spanned) (rule other : SyntaxRule) (at to : ℕ) → HasSyntaxFault tokens rule at →
    HasSyntaxFault tokens other to → (rule ≡ other) × (at ≡ to)
faults_once tokens S1 S1 at to h k = (
  refl,
  same_place h.is_at.place k.is_at.place (one_break tokens h.front k.front h.one k.one (unexpected_breaks tokens at h)
      (unexpected_breaks tokens to k)),
)
faults_once tokens S1 S2 at to h k =
    absurd (not_both h.cannot k.could (one_break tokens h.front k.front h.one k.one (unexpected_breaks tokens at h) (too_deep_breaks tokens to k)))
faults_once tokens S2 S1 at to h k =
    absurd (not_both k.cannot h.could (one_break tokens k.front h.front k.one h.one (unexpected_breaks tokens to k) (too_deep_breaks tokens at h)))
faults_once tokens S2 S2 at to h k =
    (refl, same_place h.is_at.place k.is_at.place (one_break tokens h.front k.front h.one k.one (too_deep_breaks tokens at h) (too_deep_breaks tokens to k)))

-- and nowhere, where it is a program within the nesting
no_break : (tokens front : List Spanned) (one : Spanned) → Breaks tokens front one → IsFine tokens → ⊥
no_break tokens front one h f = h.behind (fine_front (front ++ one ∷ []) h.after tokens (h.whole ∙ sym (append_assoc front (one ∷ []) h.after)) f)

fine_program : (tokens : List Spanned) (tree : Exp) → IsProgram tokens tree → IsShallow tokens → IsFine tokens
fine_program tokens tree h s = record {
  begins = record { rest = []; tree = tree; is = subst (λ w. IsProgram w tree) (sym (append-nil tokens)) h };
  shallow = s;
}

pub fault_excludes_program : (tokens : List Spanned) (rule : SyntaxRule) (at : ℕ) → HasSyntaxFault tokens rule at →
    (tree : Exp) → IsProgram tokens tree → IsShallow tokens → ⊥
fault_excludes_program tokens S1 at h tree p s = no_break tokens h.front h.one (unexpected_breaks tokens at h) (fine_program tokens tree p s)
fault_excludes_program tokens S2 at h tree p s = no_break tokens h.front h.one (too_deep_breaks tokens at h) (fine_program tokens tree p s)
