-- The openers that the code keeps are those that no token closes.
use Rattle.std.proofs.Common.{ℕ, ◌≡◌, List, [], ◌∷◌, ◌++◌, Bool, true, false, Option, Some, None, refl, sym, ap, subst, ◌∙◌, append_assoc, append-nil}
use Rattle.std.proofs.Common.{◌+◌, ◌<◌, length, take, get_or}
use Rattle.std.proofs.Math.Seq.{take-length}
use Rattle.std.proofs.lemmas.List.{take_more}
use Rattle.std.specs.Prelude.{if◌then◌else◌, MatchOption}
use Rattle.tg_base.specs.declared.ids.Span.{Span}
use Rattle.tg_syntax.specs.declared.tokens.Word.TheVariants.{WDo, WEnd, WThen}
use Rattle.tg_syntax.specs.declared.tokens.Sign.TheVariants.{RightParen, RightBracket, RightBrace}
use Rattle.tg_syntax.specs.declared.tokens.Token.{Token}
use Rattle.tg_syntax.specs.declared.tokens.Token.TheVariants.{Word, Sign}
use Rattle.tg_syntax.specs.declared.tokens.Spanned.{Spanned}
use Rattle.tg_explain.specs.declared.openers.Opener.{Opener}
use Rattle.tg_explain.specs.declared.openers.Opener.TheVariants.{Paren, Bracket, Brace, Let, If, While, For}
use Rattle.tg_explain.specs.declared.openers.Opening.{Opening}
use Rattle.tg_explain.specs.Openers.{opener_of, closer_of, is_closer, IsBalanced, nothing, other, closed, joined, IsLastOpen, HasNoOpen}
use Rattle.tg_explain.specs.mirror.Stacks.{closes, after_closer, after_opener, after_one, after_all, IsTop}

pub after_joined : (a b : List Spanned) (s : List Opening) → after_all (a ++ b) s ≡ after_all b (after_all a s)
after_joined [] b s = refl
after_joined (t ∷ a) b s = after_joined a b (after_one t s)

-- a closer opens nothing, and closes its opener
opens_nothing : (o : Opener) → opener_of (closer_of o) ≡ None
opens_nothing Paren = refl
opens_nothing Bracket = refl
opens_nothing Brace = refl
opens_nothing Let = refl
opens_nothing If = refl
opens_nothing While = refl
opens_nothing For = refl

is_one : (o : Opener) → is_closer (closer_of o) ≡ true
is_one Paren = refl
is_one Bracket = refl
is_one Brace = refl
is_one Let = refl
is_one If = refl
is_one While = refl
is_one For = refl

closes_own : (o : Opener) → closes o (closer_of o) ≡ true
closes_own Paren = refl
closes_own Bracket = refl
closes_own Brace = refl
closes_own Let = refl
closes_own If = refl
closes_own While = refl
closes_own For = refl

only_own : (o : Opener) (t : Token) → closes o t ≡ true → t ≡ closer_of o
only_own Paren (Sign RightParen) h = refl
only_own Bracket (Sign RightBracket) h = refl
only_own Brace (Sign RightBrace) h = refl
only_own Let (Word WEnd) h = refl
only_own If (Word WThen) h = refl
only_own While (Word WDo) h = refl
only_own For (Word WDo) h = refl
only_own _ _ h = cc

opened : (one : Spanned) (o : Opener) (s : List Opening) → opener_of one.token ≡ Some o → after_one one s ≡ record { opener = o; span = one.span } ∷ s
opened one o s h = ap (λ w. after_opener w one s) h

closed_by : (one : Spanned) (o : Opener) (opening : Opening) (s : List Opening) → opening.opener ≡ o → one.token ≡ closer_of o →
    after_one one (opening ∷ s) ≡ s
closed_by one o opening s p h =
    ap (λ w. after_opener w one (opening ∷ s)) (ap opener_of h ∙ opens_nothing o)
    ∙ ap (λ w. if w then after_closer one.token (opening ∷ s) else (opening ∷ s)) (ap is_closer h ∙ is_one o)
    ∙ ap (λ w. if w then s else []) (ap (λ w. closes w one.token) p ∙ ap (λ w. closes o w) h ∙ closes_own o)

passed_by : (one : Spanned) (s : List Opening) → opener_of one.token ≡ None → is_closer one.token ≡ false → after_one one s ≡ s
passed_by one s h k = ap (λ w. after_opener w one s) h ∙ ap (λ w. if w then after_closer one.token s else s) k

-- balanced tokens leave the openers as they were
balanced : {tokens : List Spanned} → IsBalanced tokens → (s : List Opening) → after_all tokens s ≡ s
balanced nothing s = refl
balanced (other one h k) s = passed_by one s h k
balanced (closed {inside} one last {opener} h b k) s =
    ap (λ w. after_all (inside ++ last ∷ []) w) (opened one opener s h) ∙ after_joined inside (last ∷ []) (record { opener = opener; span = one.span } ∷ s)
    ∙ ap (λ w. after_one last w) (balanced b (record { opener = opener; span = one.span } ∷ s))
    ∙ closed_by last opener (record { opener = opener; span = one.span }) s refl k
balanced (joined {a} {b} h k) s = after_joined a b s ∙ ap (λ w. after_all b w) (balanced h s) ∙ balanced k s

-- so the last one that no token closes is the last one kept
abbrev standing : Opener → Span → Opening
standing o s = record { opener = o; span = s }

same_opening : (opening : Opening) (one : Spanned) → opening.span ≡ one.span → record { opener = opening.opener; span = one.span } ≡ opening
same_opening opening one q = ap (standing opening.opener) (sym q)

pub last_is_kept : (tokens : List Spanned) (opening : Opening) → (h : IsLastOpen tokens opening) → after_all tokens [] ≡ opening ∷ after_all h.before []
last_is_kept tokens opening h =
    ap (λ w. after_all w []) h.whole ∙ after_joined h.before (h.one ∷ h.behind) []
    ∙ ap (λ w. after_all h.behind w) (opened h.one opening.opener (after_all h.before []) h.opens
    ∙ ap (λ w. w ∷ after_all h.before []) (same_opening opening h.one h.place))
    ∙ balanced h.balanced (opening ∷ after_all h.before [])

none_kept : {opening : Opening} {s t : List Opening} → s ≡ [] → s ≡ opening ∷ t → ⊥
none_kept h k = cc

pub none_open : (tokens : List Spanned) (s : List Opening) → after_all tokens [] ≡ s → s ≡ [] → HasNoOpen tokens
none_open tokens s h k opening l = none_kept (h ∙ k) (last_is_kept tokens opening l)

-- the openers that are kept are open, each behind the one before it
data AreOpen : List Spanned → List Opening → Type 0 where
  no_opener : (tokens : List Spanned) → AreOpen tokens []
  one_open : {before behind : List Spanned} {s : List Opening} (one : Spanned) {opener : Opener} → AreOpen before s → opener_of one.token ≡ Some opener →
      IsBalanced behind → AreOpen (before ++ one ∷ behind) (record { opener = opener; span = one.span } ∷ s)

more_balanced : {tokens more : List Spanned} {s : List Opening} → AreOpen tokens s → IsBalanced more → AreOpen (tokens ++ more) s
more_balanced (no_opener tokens) b = no_opener _
more_balanced {more} (one_open {before} {behind} {s} one {opener} h k c) b =
    subst (λ w. AreOpen w (record { opener = opener; span = one.span } ∷ s)) (sym (append_assoc before (one ∷ behind) more)) (one_open one h k (joined c b))

opens_one : {tokens : List Spanned} {s : List Opening} (one : Spanned) (opener : Opener) → AreOpen tokens s → opener_of one.token ≡ Some opener →
    AreOpen (tokens ++ one ∷ []) (record { opener = opener; span = one.span } ∷ s)
opens_one one opener h k = one_open one h k nothing

closes_one : {tokens : List Spanned} {s : List Opening} {opening : Opening} (last : Spanned) → AreOpen tokens (opening ∷ s) →
    last.token ≡ closer_of opening.opener → AreOpen (tokens ++ last ∷ []) s
closes_one last (one_open {before} {behind} {s} one {opener} h k c) q =
    subst (λ w. AreOpen w s) (sym (append_assoc before (one ∷ behind) (last ∷ []))) (more_balanced h (closed one last k c q))

by_test : {tokens : List Spanned} (last : Spanned) (opening : Opening) (s : List Opening) (b : Bool) → closes opening.opener last.token ≡ b →
    AreOpen tokens (opening ∷ s) → AreOpen (tokens ++ last ∷ []) (if b then s else [])
by_test last opening s true e h = closes_one last h (only_own opening.opener last.token e)
by_test last opening s false e h = no_opener _

by_closer : {tokens : List Spanned} (last : Spanned) (s : List Opening) → AreOpen tokens s → AreOpen (tokens ++ last ∷ []) (after_closer last.token s)
by_closer last [] h = no_opener _
by_closer last (opening ∷ s) h = by_test last opening s (closes opening.opener last.token) refl h

by_other : {tokens : List Spanned} (one : Spanned) (s : List Opening) (b : Bool) → opener_of one.token ≡ None → is_closer one.token ≡ b → AreOpen tokens s →
    AreOpen (tokens ++ one ∷ []) (if b then after_closer one.token s else s)
by_other one s true n e h = by_closer one s h
by_other one s false n e h = more_balanced h (other one n e)

by_opener : {tokens : List Spanned} (one : Spanned) (s : List Opening) (o : Option Opener) → opener_of one.token ≡ o → AreOpen tokens s →
    AreOpen (tokens ++ one ∷ []) (after_opener o one s)
by_opener one s (Some opener) e h = opens_one one opener h e
by_opener one s None e h = by_other one s (is_closer one.token) e refl h

are_open : (before tokens : List Spanned) (s : List Opening) → AreOpen before s → AreOpen (before ++ tokens) (after_all tokens s)
are_open before [] s h = subst (λ w. AreOpen w s) (sym (append-nil before)) h
are_open before (one ∷ tokens) s h =
    subst (λ w. AreOpen w (after_all tokens (after_one one s))) (append_assoc before (one ∷ []) tokens)
    (are_open (before ++ one ∷ []) tokens (after_one one s) (by_opener one s (opener_of one.token) refl h))

top_open : {tokens : List Spanned} {opening : Opening} {s : List Opening} → AreOpen tokens (opening ∷ s) → IsLastOpen tokens opening
top_open (one_open {before} {behind} one h k c) = record { before = before; one = one; behind = behind; whole = refl; opens = k; place = refl; balanced = c }

pub last_open : (tokens : List Spanned) (s : List Opening) (opening : Opening) → after_all tokens [] ≡ s → IsTop opening s → IsLastOpen tokens opening
last_open tokens s opening h t = top_open (subst (λ w. AreOpen tokens w) (h ∙ t.is) (are_open [] tokens [] (no_opener [])))

-- one more token
pub one_more : (tokens : List Spanned) (i : ℕ) (one : Spanned) (s t : List Opening) → i < length tokens → one ≡ get_or tokens i one →
    s ≡ after_all (take i tokens) [] → t ≡ after_one one s → t ≡ after_all (take (i + 1) tokens) []
one_more tokens i one s t h e k q =
    q ∙ ap (λ w. after_one one w) k ∙ sym (after_joined (take i tokens) (one ∷ []) [])
    ∙ ap (λ w. after_all w []) (ap (λ w. take i tokens ++ w ∷ []) e ∙ sym (take_more tokens i one h))

-- and all
pub found : (tokens : List Spanned) (n : ℕ) (s : List Opening) (last : Option Opening) → n ≡ length tokens → s ≡ after_all (take n tokens) [] →
    MatchOption last (s ≡ []) (λ opening. IsTop opening s) → MatchOption last (HasNoOpen tokens) (λ opening. IsLastOpen tokens opening)
found tokens n s None e h k = none_open tokens s (sym (h ∙ ap (λ w. after_all w []) (ap (λ w. take w tokens) e ∙ take-length tokens))) k
found tokens n s (Some opening) e h k = last_open tokens s opening (sym (h ∙ ap (λ w. after_all w []) (ap (λ w. take w tokens) e ∙ take-length tokens))) k
