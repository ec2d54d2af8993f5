-- A text has at most one explanation, and at S1 it tells exactly what can follow.
use Rattle.std.proofs.Common.{ℕ, ◌≡◌, ◌<◌, ◌≤◌, ◌⊎◌, inl, inr, List, [], ◌∷◌, ◌++◌, Option, Some, None, refl, sym, ap, subst, ◌∙◌, arith}
use Rattle.std.specs.Prelude.{MatchOption}
use Rattle.tg_syntax.specs.declared.tokens.Token.TheVariants.{End}
use Rattle.tg_syntax.specs.declared.tokens.Spanned.{Spanned}
use Rattle.tg_syntax.specs.Tree.{Exp}
use Rattle.tg_syntax.specs.SyntaxFaults.{HasNoEnd, EndsOnce, IsAt}
use Rattle.tg_syntax_laws.specs.laws.Places.{StandFrom}
use Rattle.tg_syntax_laws.proofs.Standing.{tokens_stand}
use Rattle.tg_lexer.proofs.TokenEnds.{ends_once}
use Rattle.tg_parser.specs.declared.faults.SyntaxRule.{SyntaxRule}
use Rattle.tg_parser.specs.declared.faults.SyntaxRule.TheVariants.{S1}
use Rattle.tg_explain.specs.declared.kinds.TokenKind.{TokenKind}
use Rattle.tg_explain.specs.declared.openers.Opening.{Opening}
use Rattle.tg_explain.specs.declared.details.SyntaxDetail.{SyntaxDetail}
use Rattle.tg_explain.specs.Kinds.{kind_of, token_table}
use Rattle.tg_explain.specs.Expected.{ArePicked, no_more, picked, passed}
use Rattle.tg_explain.specs.Openers.{HasNoOpen, IsLastOpen}
use Rattle.tg_explain.specs.Details.{IsExplained}
use Rattle.tg_explain.specs.Lexical.{lexical_lines}
use Rattle.tg_explain.specs.Lines.{syntax_lines}
use Rattle.tg_explain.specs.laws.AllExpected.{ExpectsAll}
use Rattle.tg_explain.proofs.Fronts.{no_end_before}
use Rattle.tg_explain.proofs.Openings.{last_is_kept}
use Rattle.tg_typecheck.specs.declared.faults.TypeRule.{TypeRule}
use Rattle.tg_explain_types.specs.Details.{explained}
use Rattle.tg_explain_types.specs.Lines.{type_lines}
use Rattle.tg_correctness.specs.Sources.{HasTokens, HasTree, IsSource}
use Rattle.tg_explain_source.specs.Explained.{Explains}
use Rattle.tg_explain_source.specs.Explained as explains
use Rattle.tg_driver.specs.declared.faults.Rule.{Rule}
use Rattle.tg_driver.specs.declared.faults.Rule.TheVariants.{Lexical, Syntactic, Typed, Bare}
use Rattle.tg_driver.specs.Faults.{HasFault, lexical, syntactic, ill_typed}
use Rattle.tg_driver.specs.Explained.{TellsWhy, no_memory_line}
use Rattle.tg_driver.specs.laws.Explanations.{ExpectedAreTold, TellsExpected}
use Rattle.tg_driver.proofs.TokensOnce.{tokens_once}
use Rattle.tg_driver.proofs.FaultsOnce.{one_fault, tree_once, never_refused}

-- the kinds that can follow are one list
picked_once : {before : List Spanned} {table a b : List TokenKind} → ArePicked before table a → ArePicked before table b → a ≡ b
picked_once no_more no_more = refl
picked_once (picked {kind = kind} can h) (picked other k) = ap (λ more. kind ∷ more) (picked_once h k)
picked_once (picked can h) (passed cannot k) = absurd (cannot can)
picked_once (passed cannot h) (picked can k) = absurd (cannot can)
picked_once (passed cannot h) (passed other k) = picked_once h k

first_is : {A : Type 0} {x y : A} {xs ys : List A} → x ∷ xs ≡ y ∷ ys → x ≡ y
first_is e = cc

rest_is : {A : Type 0} {x y : A} {xs ys : List A} → x ∷ xs ≡ y ∷ ys → xs ≡ ys
rest_is e = cc

-- what is still open is one opener
open_once : (before : List Spanned) (p q : Option Opening) → MatchOption p (HasNoOpen before) (λ o. IsLastOpen before o) →
    MatchOption q (HasNoOpen before) (λ o. IsLastOpen before o) → p ≡ q
open_once before None None h k = refl
open_once before None (Some o) h k = absurd (h o k)
open_once before (Some o) None h k = absurd (k o h)
open_once before (Some o) (Some r) h k = ap Some (first_is (sym (last_is_kept before o h) ∙ last_is_kept before r k))

-- tokens that stand begin each at a byte of its own
from_is : (at : ℕ) (before : List Spanned) (one : Spanned) (after : List Spanned) → HasNoEnd before → StandFrom at (before ++ one ∷ after) → at ≤ one.span.from
from_is at [] one after n s = s.0
from_is at (t ∷ before) one after n s =
    let next : t.span.to ≤ one.span.from = from_is t.span.to before one after n.1 s.3 in
    let here : at ≤ t.span.from = s.0 in
    let long : t.span.from ≤ t.span.to = s.1 in
    omega arith

later : (from : ℕ) (s t : Spanned) (b after : List Spanned) → (s.token ≡ End → ⊥) → HasNoEnd b → StandFrom from (s ∷ b ++ t ∷ after) →
    s.span.from < t.span.from
later from s t b after some n h =
    let next : s.span.to ≤ t.span.from = from_is s.span.to b t after n h.3 in
    let long : s.span.from < s.span.to = h.2 some in
    omega arith

record OneFront (a b : List Spanned) (s t : Spanned) : Type 0 where
  front : a ≡ b
  one : s ≡ t

fronts_once : (from : ℕ) (a b u v : List Spanned) (s t : Spanned) → a ++ s ∷ u ≡ b ++ t ∷ v → s.span.from ≡ t.span.from → HasNoEnd a → HasNoEnd b →
    StandFrom from (a ++ s ∷ u) → OneFront a b s t
fronts_once from [] [] u v s t e same n m h = record { front = refl; one = first_is e }
fronts_once from [] (r ∷ b) u v s t e same n m h =
    let lt = later from r t b v m.0 m.1 (subst (StandFrom from) e h) in
    let here = ap (λ (x : Spanned). x.span.from) (first_is e) in
    absurd (omega (arith, lt, same, here))
fronts_once from (r ∷ a) [] u v s t e same n m h =
    let lt = later from r s a u n.0 n.1 h in
    let here = ap (λ (x : Spanned). x.span.from) (first_is e) in
    absurd (omega (arith, lt, same, here))
fronts_once from (x ∷ a) (y ∷ b) u v s t e same n m h =
    let r = fronts_once x.span.to a b u v s t (rest_is e) same n.1 m.1 h.3 in
    let here : x ≡ y = first_is e in
    record { front = λ i. here i ∷ r.front i; one = r.one }

no_end : (tokens before : List Spanned) (one : Spanned) (at : ℕ) → IsAt tokens before one at → EndsOnce tokens → HasNoEnd before
no_end tokens before one at is e = no_end_before before one is.after e.body e.end (sym is.whole ∙ e.whole) e.once

-- so a fault of syntax is about one thing
detail_once : (tokens : List Spanned) (at : ℕ) (d e : SyntaxDetail) → StandFrom 0 tokens → EndsOnce tokens → IsExplained tokens at d →
    IsExplained tokens at e → d ≡ e
detail_once tokens at d e stand ends h k =
    let one = fronts_once 0 h.before k.before h.is_at.after k.is_at.after h.one k.one (sym h.is_at.whole ∙ k.is_at.whole)
    (sym h.is_at.place ∙ k.is_at.place) (no_end tokens h.before h.one at h.is_at ends) (no_end tokens k.before k.one at k.is_at ends)
    (subst (StandFrom 0) h.is_at.whole stand) in
    let found : d.found ≡ e.found = h.found ∙ ap (λ (x : Spanned). kind_of x.token) one.one ∙ sym k.found in
    let expected : d.expected ≡ e.expected = picked_once (subst (λ f. ArePicked f token_table d.expected) one.front h.expected) k.expected in
    let opening : d.opening ≡ e.opening = open_once k.before d.opening e.opening
    (subst (λ f. MatchOption d.opening (HasNoOpen f) (λ o. IsLastOpen f o)) one.front h.opening) k.opening in
    λ i. record { found = found i; expected = expected i; opening = opening i }

-- the lines of a fault
record SyntaxLines (text : List ℕ) (rule : SyntaxRule) (at : ℕ) (lines : List ℕ) : Type 0 where
  names : List (List ℕ)
  tokens : List Spanned
  has_tokens : HasTokens text names tokens
  detail : SyntaxDetail
  is_explained : IsExplained tokens at detail
  lines_are : lines ≡ syntax_lines text rule detail

record TypeLines (text : List ℕ) (rule : TypeRule) (at : ℕ) (lines : List ℕ) : Type 0 where
  names : List (List ℕ)
  tokens : List Spanned
  program : Exp
  tree : HasTree text names tokens program
  lines_are : lines ≡ type_lines text at (explained text program rule at)

AreLines : (text : List ℕ) → Rule → (at : ℕ) → (lines : List ℕ) → Type 0
AreLines text (Lexical rule) at lines = lines ≡ lexical_lines text rule at
AreLines text (Syntactic rule) at lines = SyntaxLines text rule at lines
AreLines text (Typed rule) at lines = TypeLines text rule at lines
AreLines text Bare at lines = ⊥

data AreOf (text lines : List ℕ) : Type 0 where
  fault : (rule : Rule) (at : ℕ) → HasFault text rule at → AreLines text rule at lines → AreOf text lines
  none : IsSource text → lines ≡ [] → AreOf text lines

are_of : (text lines : List ℕ) → Explains text lines → AreOf text lines
unfolding AreLines
are_of text lines (explains.lexical {rule = rule} {at = at} f e) = fault (Lexical rule) at (lexical f) e
are_of text lines (explains.syntactic {names = names} {tokens = tokens} {at = at} rule has f detail is e) =
    fault (Syntactic rule) at (syntactic has f) (record {
      names = names;
      tokens = tokens;
      has_tokens = has;
      detail = detail;
      is_explained = is;
      lines_are = e;
    })
are_of text lines (explains.ill_typed {names = names} {tokens = tokens} {program = program} {rule = rule} {at = at} tree f e) =
    fault (Typed rule) at (ill_typed tree f) (record { names = names; tokens = tokens; program = program; tree = tree; lines_are = e })
are_of text lines (explains.accepted s e) = none s e

-- two that tell of the same tokens tell the same
same_detail : (text : List ℕ) (rule : SyntaxRule) (at : ℕ) (a : List ℕ) (names : List (List ℕ)) (tokens : List Spanned) (p : SyntaxLines text rule at a) →
    HasTokens text names tokens → IsExplained tokens at p.detail
same_detail text rule at a names tokens p has =
    subst (λ ts. IsExplained ts at p.detail) (tokens_once text p.names names p.tokens tokens p.has_tokens has).same p.is_explained

lines_once : (text : List ℕ) (rule : Rule) (at : ℕ) (a b : List ℕ) → AreLines text rule at a → AreLines text rule at b → a ≡ b
unfolding AreLines
lines_once text (Lexical rule) at a b p q = p ∙ sym q
lines_once text (Syntactic rule) at a b p q =
    let lexed = q.has_tokens.lexed in
    let same = detail_once q.tokens at p.detail q.detail (tokens_stand lexed) (ends_once lexed)
    (same_detail text rule at a q.names q.tokens p q.has_tokens) q.is_explained in
    p.lines_are ∙ ap (λ d. syntax_lines text rule d) same ∙ sym q.lines_are
lines_once text (Typed rule) at a b p q =
    let same = (tree_once text p.names q.names p.tokens q.tokens p.program q.program p.tree q.tree).same in
    p.lines_are ∙ ap (λ x. type_lines text at (explained text x rule at)) same ∙ sym q.lines_are
lines_once text Bare at a b p q = absurd p

-- a text has one explanation
pub explained_once : (text a b : List ℕ) → Explains text a → Explains text b → a ≡ b
explained_once text a b p q = by (are_of text a p) (are_of text b q)
  where
    by : AreOf text a → AreOf text b → a ≡ b
    by (none s e) (none r f) = e ∙ sym f
    by (none s e) (fault rule at has lines) = absurd (never_refused text rule at s has)
    by (fault rule at has lines) (none s e) = absurd (never_refused text rule at s has)
    by (fault r at f p) (fault s to g q) =
        let same = one_fault text r s at to f g in
        let P : ℕ → Type 0 = λ n. AreLines text r n a in
        let Q : Rule → Type 0 = λ x. AreLines text x to a in
        lines_once text s to a b (subst Q same.rule_is (subst P same.place_is p)) q

-- up to the line of no memory
pub why_once : (text one other : List ℕ) → TellsWhy text one → TellsWhy text other →
    (one ≡ other) ⊎ ((one ≡ no_memory_line) ⊎ (other ≡ no_memory_line))
why_once text one other (inl p) (inl q) = inl (explained_once text one other p q)
why_once text one other (inr p) q = inr (inl p)
why_once text one other p (inr q) = inr (inr q)

-- what is told to be expected is all that can follow
pub expected_are_told : ExpectsAll → ExpectedAreTold
unfolding AreLines
expected_are_told all text lines names tokens at has f explains = by (are_of text lines explains)
  where
    of_lines : SyntaxLines text S1 at lines → TellsExpected text tokens at lines
    of_lines p =
        let is = same_detail text S1 at lines names tokens p has in
        record {
          front = is.before;
          one = is.one;
          is_at = is.is_at;
          detail = p.detail;
          lines_are = p.lines_are;
          exactly = λ kind. all is.before p.detail.expected kind is.expected;
        }

    by : AreOf text lines → TellsExpected text tokens at lines
    by (none s e) = absurd (never_refused text (Syntactic S1) at s (syntactic has f))
    by (fault r to g p) =
        let same = one_fault text r (Syntactic S1) to at g (syntactic has f) in
        let P : ℕ → Type 0 = λ n. AreLines text r n lines in
        let Q : Rule → Type 0 = λ x. AreLines text x at lines in
        of_lines (subst Q same.rule_is (subst P same.place_is p))
