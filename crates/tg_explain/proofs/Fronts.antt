-- The tokens before a fault of syntax are those that begin before its byte, and have no fault.
use Rattle.std.proofs.Common.{ℕ, ◌≡◌, ◌<◌, ◌≤◌, ◌+◌, List, [], ◌∷◌, ◌++◌, true, false, Option, refl, sym, ap, subst, ◌∙◌, length, take, drop, get_or, arith}
use Rattle.std.proofs.Common.{length-append}
use Rattle.std.proofs.Math.Seq.{take-append_seam}
use Rattle.std.proofs.lemmas.List.Sums.{prefix_len-drop_yes, prefix_len-drop_no, prefix_len-drop_all}
use Rattle.std.specs.Prelude.{nat_lt, MatchOption}
use Rattle.std.specs.List.{prefix_len}
use Rattle.std.proofs.lemmas.Bool.Decides.{nat_tests}
use Rattle.tg_syntax.specs.declared.tokens.Token.TheVariants.{End}
use Rattle.tg_syntax.specs.declared.tokens.Spanned.{Spanned}
use Rattle.tg_syntax.specs.SyntaxFaults.{BeginsProgram, IsShallow, HasUnexpected, HasTooDeep, HasNoEnd, EndsOnce, IsAt}
use Rattle.tg_syntax_laws.specs.laws.Places.{StandFrom}
use Rattle.tg_parser.specs.declared.faults.SyntaxRule.{SyntaxRule}
use Rattle.tg_parser.specs.declared.faults.SyntaxRule.TheVariants.{S1, S2}
use Rattle.tg_parser.specs.Answers.{HasSyntaxFault}
use Rattle.tg_explain.specs.declared.kinds.TokenKind.{TokenKind}
use Rattle.tg_explain.specs.declared.openers.Opening.{Opening}
use Rattle.tg_explain.specs.Kinds.{kind_of}
use Rattle.tg_explain.specs.Expected.{IsFaultless, AreExpected}
use Rattle.tg_explain.specs.Openers.{HasNoOpen, IsLastOpen}
use Rattle.tg_explain.specs.Details.{IsExplained}
use Rattle.tg_explain.specs.glue.Fronts.{IsFirstFrom, count_before}
use Rattle.tg_explain.proofs.Asked.{begins_front}

-- a fault's token, and those before it, which have no fault
pub record Front (tokens : List Spanned) (at : ℕ) : Type 0 where
  pub before : List Spanned
  pub one : Spanned
  pub is_at : IsAt tokens before one at
  pub could : BeginsProgram before
  pub shallow : IsShallow before

pub front_of : (tokens : List Spanned) (rule : SyntaxRule) (at : ℕ) → HasSyntaxFault tokens rule at → Front tokens at
front_of tokens S1 at h = record { before = h.front; one = h.one; is_at = h.is_at; could = h.could; shallow = h.shallow }
front_of tokens S2 at h =
    record { before = h.front; one = h.one; is_at = h.is_at; could = begins_front h.front (h.one ∷ []) h.could; shallow = h.shallow }

tail_is : {t r : Spanned} {a b : List Spanned} → t ∷ a ≡ r ∷ b → a ≡ b
tail_is h = cc

same_first : {t r : Spanned} {a b : List Spanned} → t ∷ a ≡ r ∷ b → t ≡ r
same_first h = cc

-- no token before another one is the end
pub no_end_before : (before : List Spanned) (one : Spanned) (after body : List Spanned) (end : Spanned) →
    before ++ one ∷ after ≡ body ++ end ∷ [] → HasNoEnd body → HasNoEnd before
no_end_before [] one after body end e h = tt
no_end_before (t ∷ before) one after [] end e h = absurd (at_end before (tail_is e))
  where
    at_end : (before : List Spanned) → before ++ one ∷ after ≡ [] → ⊥
    at_end [] h = cc
    at_end (x ∷ before) h = cc
no_end_before (t ∷ before) one after (r ∷ body) end e h =
    let same : t ≡ r = same_first e in
    ((λ q. h.0 (ap (λ w. w.token) (sym same) ∙ q)), no_end_before before one after body end (tail_is e) h.1)

-- each of those before it begins before it
from_is : (at : ℕ) (before : List Spanned) (one : Spanned) (after : List Spanned) → HasNoEnd before → StandFrom at (before ++ one ∷ after) → at ≤ one.span.from
from_is at [] one after n s = s.0
from_is at (t ∷ before) one after n s =
    let next : t.span.to ≤ one.span.from = from_is t.span.to before one after n.1 s.3 in
    let here : at ≤ t.span.from = s.0 in
    let long : t.span.from ≤ t.span.to = s.1 in
    omega arith

counted : (from : ℕ) (before : List Spanned) (one : Spanned) (after : List Spanned) (at : ℕ) → at ≡ one.span.from → HasNoEnd before →
    StandFrom from (before ++ one ∷ after) → prefix_len (λ t. nat_lt t.span.from at) (before ++ one ∷ after) ≡ length before
counted from [] one after at p n s =
    let no : nat_lt one.span.from at ≡ false = grind (arith, nat_tests) in
    rw no
counted from (t ∷ before) one after at p n s =
    let next : t.span.to ≤ one.span.from = from_is t.span.to before one after n.1 s.3 in
    let long : t.span.from < t.span.to = s.2 n.0 in
    let yes : nat_lt t.span.from at ≡ true = grind (arith, nat_tests) in
    let more = counted t.span.to before one after at p n.1 s.3 in
    rw yes (omega (arith, more))

no_end : (tokens : List Spanned) (at : ℕ) → (f : Front tokens at) → EndsOnce tokens → HasNoEnd f.before
no_end tokens at f e = no_end_before f.before f.one f.is_at.after e.body e.end (sym f.is_at.whole ∙ e.whole) e.once

-- so they are as many as begin before its byte
front_count : (tokens : List Spanned) (at : ℕ) → (f : Front tokens at) → StandFrom 0 tokens → EndsOnce tokens → count_before at tokens ≡ length f.before
front_count tokens at f s e =
    ap (count_before at) f.is_at.whole
    ∙ counted 0 f.before f.one f.is_at.after at f.is_at.place (no_end tokens at f e) (subst (λ w. StandFrom 0 w) f.is_at.whole s)

front_is : (tokens : List Spanned) (at count : ℕ) (kind : TokenKind) → (f : Front tokens at) → StandFrom 0 tokens → EndsOnce tokens →
    IsFirstFrom at tokens count kind → take count tokens ≡ f.before
front_is tokens at count kind f s e first =
    ap (λ k. take k tokens) (first.count_is ∙ front_count tokens at f s e) ∙ ap (take (length f.before)) f.is_at.whole
    ∙ take-append_seam f.before (f.one ∷ f.is_at.after)

-- what is asked of the tokens before a fault
pub faultless : (tokens before : List Spanned) (rule : SyntaxRule) (at count : ℕ) (kind : TokenKind) → StandFrom 0 tokens → EndsOnce tokens →
    HasSyntaxFault tokens rule at → IsFirstFrom at tokens count kind → before ≡ take count tokens → IsFaultless before
faultless tokens before rule at count kind s e h first q =
    let f = front_of tokens rule at h in
    subst IsFaultless (sym (q ∙ front_is tokens at count kind f s e first)) (record { could = f.could; shallow = f.shallow; no_end = no_end tokens at f e })

-- and what a fault is about
pub explained : (tokens before : List Spanned) (rule : SyntaxRule) (at count : ℕ) (found : TokenKind) (expected : List TokenKind) (opening : Option Opening) →
    StandFrom 0 tokens → EndsOnce tokens → HasSyntaxFault tokens rule at → IsFirstFrom at tokens count found → before ≡ take count tokens →
    AreExpected before expected → MatchOption opening (HasNoOpen before) (λ o. IsLastOpen before o) →
    IsExplained tokens at (record { found = found; expected = expected; opening = opening })
explained tokens before rule at count found expected opening s e h first q asked last =
    let f = front_of tokens rule at h in
    let same : before ≡ f.before = q ∙ front_is tokens at count found f s e first in
    record {
      before = f.before;
      one = f.one;
      is_at = f.is_at;
      found = first.kind_is f.before f.one f.is_at.after f.is_at.whole (sym (first.count_is ∙ front_count tokens at f s e));
      expected = subst (λ w. AreExpected w expected) same asked;
      opening = subst (λ w. MatchOption opening (HasNoOpen w) (λ o. IsLastOpen w o)) same last;
    }

-- the first that doesn't begin before a byte
at_seam : (before : List Spanned) (one d : Spanned) (after : List Spanned) → get_or (before ++ one ∷ after) (length before) d ≡ one
at_seam [] one d after = refl
at_seam (t ∷ before) one d after = at_seam before one d after

pub first_here : (at : ℕ) (tokens : List Spanned) (i : ℕ) (one : Spanned) (kind : TokenKind) → i < length tokens → one ≡ get_or tokens i one →
    i + count_before at (drop i tokens) ≡ count_before at tokens → nat_lt one.span.from at ≡ false → kind ≡ kind_of one.token →
    IsFirstFrom at tokens i kind
first_here at tokens i one kind l e inv behind k = record {
  count_is =
      let stops = prefix_len-drop_no (λ t. nat_lt t.span.from at) tokens i one l (ap (λ t. nat_lt t.span.from at) (sym e) ∙ behind) in
      omega (arith, stops, inv);
  kind_is = λ before t after w n.
      k ∙ ap (λ x. kind_of x.token) (e ∙ ap (λ x. get_or x i one) w ∙ ap (λ m. get_or (before ++ t ∷ after) m one) (sym n) ∙ at_seam before t one after);
}

pub first_more : (at : ℕ) (tokens : List Spanned) (i : ℕ) (one : Spanned) → i < length tokens → one ≡ get_or tokens i one →
    i + count_before at (drop i tokens) ≡ count_before at tokens → nat_lt one.span.from at ≡ true →
    i + 1 + count_before at (drop (i + 1) tokens) ≡ count_before at tokens
first_more at tokens i one l e inv ahead =
    let goes = prefix_len-drop_yes (λ t. nat_lt t.span.from at) tokens i one l (ap (λ t. nat_lt t.span.from at) (sym e) ∙ ahead) in
    omega (arith, goes, inv)

pub first_none : (at : ℕ) (tokens : List Spanned) (i : ℕ) (kind : TokenKind) → length tokens ≤ i →
    i + count_before at (drop i tokens) ≡ count_before at tokens → i ≤ length tokens → IsFirstFrom at tokens (length tokens) kind
first_none at tokens i kind l inv le = record {
  count_is =
      let none = prefix_len-drop_all (λ t. nat_lt t.span.from at) tokens i l in
      omega (arith, none, inv);
  kind_is = λ before t after w n. absurd (omega (arith, n, ap length w, length-append before (t ∷ after)));
}
