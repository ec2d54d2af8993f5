-- What the first fault of tokens with one more says of that one, where there was none before it.
use Rattle.std.proofs.Common.{ℕ, ◌≡◌, List, [], ◌∷◌, ◌++◌, Bool, true, false, refl, sym, ap, subst, ◌∙◌, append_assoc, append-nil, arith}
use Rattle.std.proofs.Common.{◌+◌, ◌<◌, length, take, get_or}
use Rattle.std.specs.Prelude.{◌==◌}
use Rattle.std.proofs.lemmas.List.{take_more}
use Rattle.std.proofs.lemmas.Bool.Decides.{nat_tests}
use Rattle.tg_syntax.specs.declared.tokens.Token.TheVariants as token
use Rattle.tg_syntax.specs.declared.tokens.Spanned.{Spanned}
use Rattle.tg_syntax.specs.Tree.{Exp}
use Rattle.tg_syntax.specs.Nesting.{NestsWithin, after_token}
use Rattle.tg_syntax.specs.Grammar.{IsProgram}
use Rattle.tg_syntax.specs.SyntaxFaults.{BeginsProgram, IsShallow, HasUnexpected, HasTooDeep, HasNoEnd, EndsOnce}
use Rattle.tg_parser.specs.declared.faults.SyntaxRule.{SyntaxRule}
use Rattle.tg_parser.specs.declared.faults.SyntaxRule.TheVariants.{S1, S2}
use Rattle.tg_parser.specs.Answers.{HasSyntaxFault}
use Rattle.tg_explain.specs.declared.kinds.TokenKind.{TokenKind}
use Rattle.tg_explain.specs.declared.kinds.TokenKind.TheVariants.{Word, Sign, Ident, Int, Text, End}
use Rattle.tg_explain.specs.Kinds.{kind_of, sample}
use Rattle.tg_explain.specs.Expected.{IsFaultless, CanFollow, ArePicked, no_more, picked, passed}
use Rattle.tg_explain.specs.glue.Asking.{the_end, end_behind, asked, Shows, is_program, too_deep, at_one, elsewhere, shown_by, Decides}
use Rattle.tg_explain.proofs.Likes.{begins_like}

-- a token of a list stands in its front, or behind that
data IsWhere (before rest front : List Spanned) (t : Spanned) (after : List Spanned) : Type 0 where
  inside : (c : List Spanned) → before ≡ (front ++ t ∷ []) ++ c → IsWhere before rest front t after
  behind : (c : List Spanned) → front ≡ before ++ c → c ++ t ∷ after ≡ rest → IsWhere before rest front t after

one_more : {before rest front after : List Spanned} {t : Spanned} (x y : Spanned) → x ≡ y → IsWhere before rest front t after →
    IsWhere (x ∷ before) rest (y ∷ front) t after
one_more x y q (inside c h) = inside c (cc)
one_more x y q (behind c h k) = behind c (cc) k

head_is : {t r : Spanned} {a b : List Spanned} → t ∷ a ≡ r ∷ b → t ≡ r
head_is h = cc

rest_is : {t r : Spanned} {a b : List Spanned} → t ∷ a ≡ r ∷ b → a ≡ b
rest_is h = cc

where_is : (before rest front : List Spanned) (t : Spanned) (after : List Spanned) → before ++ rest ≡ front ++ t ∷ after →
    IsWhere before rest front t after
where_is [] rest front t after h = behind front refl (sym h)
where_is (x ∷ before) rest [] t after h = inside before (ap (λ w. w ∷ before) (head_is h))
where_is (x ∷ before) rest (y ∷ front) t after h = one_more x y (head_is h) (where_is before rest front t after (rest_is h))

pub begins_front : (a b : List Spanned) → BeginsProgram (a ++ b) → BeginsProgram a
begins_front a b h = record { rest = b ++ h.rest; tree = h.tree; is = subst (λ w. IsProgram w h.tree) (append_assoc a b h.rest) h.is }

shallow_front : (counts : List ℕ) (a b : List Spanned) → NestsWithin 256 counts (a ++ b) → NestsWithin 256 counts a
shallow_front counts [] b h = tt
shallow_front counts (t ∷ a) b h = (h.0, shallow_front (after_token t.token counts) a b h.1)

-- a program that begins with the tokens and one more
pub program_begins : (before : List Spanned) (one : Spanned) (more : List Spanned) (tree : Exp) → IsProgram (before ++ one ∷ more) tree →
    BeginsProgram (before ++ one ∷ [])
program_begins before one more tree h = record { rest = more; tree = tree; is = subst (λ w. IsProgram w tree) (sym (append_assoc before (one ∷ []) more)) h }

-- the token that can't stand is the one or stands behind it
record Behind (before rest : List Spanned) (at : ℕ) : Type 0 where
  fault : HasUnexpected (before ++ rest) at
  gap : List Spanned
  front_is : fault.front ≡ before ++ gap
  rest_is : gap ++ fault.one ∷ fault.is_at.after ≡ rest

stands_behind : (before rest : List Spanned) (at : ℕ) → IsFaultless before → HasUnexpected (before ++ rest) at → Behind before rest at
stands_behind before rest at f h = from (where_is before rest h.front h.one h.is_at.after h.is_at.whole)
  where
    from : IsWhere before rest h.front h.one h.is_at.after → Behind before rest at
    from (inside c q) = absurd (h.cannot (begins_front (h.front ++ h.one ∷ []) c (subst (λ w. BeginsProgram w) q f.could)))
    from (behind c q k) = record { fault = h; gap = c; front_is = q; rest_is = k }

no_rest : {C : Type 0} (a : List Spanned) (t : Spanned) (b : List Spanned) → a ++ t ∷ b ≡ [] → C
no_rest [] t b h = cc
no_rest (x ∷ a) t b h = cc

-- so where it doesn't stand at that one's byte, the one can stand
pub stands : (before : List Spanned) (one : Spanned) (more : List Spanned) (at : ℕ) → IsFaultless before → HasUnexpected (before ++ one ∷ more) at →
    (at ≡ one.span.from → ⊥) → BeginsProgram (before ++ one ∷ [])
stands before one more at f h n =
    let b = stands_behind before (one ∷ more) at f h in
    by b.gap b.fault.front b.fault.one b.fault.is_at.after b.front_is b.rest_is b.fault.could b.fault.is_at.place
  where
    by : (gap front : List Spanned) (t : Spanned) (after : List Spanned) → front ≡ before ++ gap → gap ++ t ∷ after ≡ one ∷ more →
        BeginsProgram front → at ≡ t.span.from → BeginsProgram (before ++ one ∷ [])
    by [] front t after q k c p = absurd (n (p ∙ ap (λ w. w.span.from) (head_is k)))
    by (x ∷ gap) front t after q k c p =
        begins_front (before ++ one ∷ []) gap
        (subst (λ w. BeginsProgram w) (q ∙ ap (λ w. before ++ w ∷ gap) (head_is k) ∙ sym (append_assoc before (one ∷ []) gap)) c)

-- and where no token behind the one stands at that byte, it can't
pub stands_not : (before : List Spanned) (one : Spanned) (more : List Spanned) (at : ℕ) → IsFaultless before →
    HasUnexpected (before ++ one ∷ more) at → ((gap : List Spanned) (t : Spanned) (after : List Spanned) → gap ++ t ∷ after ≡ more → at ≡ t.span.from → ⊥) →
    BeginsProgram (before ++ one ∷ []) → ⊥
stands_not before one more at f h n =
    let b = stands_behind before (one ∷ more) at f h in
    by b.gap b.fault.front b.fault.one b.fault.is_at.after b.front_is b.rest_is b.fault.cannot b.fault.is_at.place
  where
    by : (gap front : List Spanned) (t : Spanned) (after : List Spanned) → front ≡ before ++ gap → gap ++ t ∷ after ≡ one ∷ more →
        (BeginsProgram (front ++ t ∷ []) → ⊥) → at ≡ t.span.from → BeginsProgram (before ++ one ∷ []) → ⊥
    by [] front t after q k c p b =
        c (subst (λ w. BeginsProgram w) (sym (ap (λ w. w ++ t ∷ []) (q ∙ append-nil before) ∙ ap (λ w. before ++ w ∷ []) (head_is k))) b)
    by (x ∷ gap) front t after q k c p b = n gap t after (rest_is k) p

-- a token that is too deep is the one or stands behind it, and so the one can stand
pub deep_stands : (before : List Spanned) (one : Spanned) (more : List Spanned) (at : ℕ) → IsFaultless before →
    HasTooDeep (before ++ one ∷ more) at → BeginsProgram (before ++ one ∷ [])
deep_stands before one more at f h = from (where_is before (one ∷ more) h.front h.one h.is_at.after h.is_at.whole)
  where
    by : (gap front : List Spanned) (t : Spanned) (after : List Spanned) → front ≡ before ++ gap → gap ++ t ∷ after ≡ one ∷ more →
        BeginsProgram (front ++ t ∷ []) → BeginsProgram (before ++ one ∷ [])
    by [] front t after q k c = subst (λ w. BeginsProgram w) (ap (λ w. w ++ t ∷ []) (q ∙ append-nil before) ∙ ap (λ w. before ++ w ∷ []) (head_is k)) c
    by (x ∷ gap) front t after q k c =
        begins_front (before ++ one ∷ []) (gap ++ t ∷ [])
        (subst (λ w. BeginsProgram w)
        (ap (λ w. w ++ t ∷ []) q ∙ append_assoc before (x ∷ gap) (t ∷ []) ∙ ap (λ w. before ++ w ∷ (gap ++ t ∷ [])) (head_is k)
        ∙ sym (append_assoc before (one ∷ []) (gap ++ t ∷ []))) c)

    from : IsWhere before (one ∷ more) h.front h.one h.is_at.after → BeginsProgram (before ++ one ∷ [])
    from (inside c q) = absurd (h.deep (shallow_front (0 ∷ []) (h.front ++ h.one ∷ []) c (subst (λ w. IsShallow w) q f.shallow)))
    from (behind c q k) = by c h.front h.one h.is_at.after q k h.could

-- what stands behind the one is an end that begins at byte 1, or nothing
behind_one : (kind : TokenKind) (gap : List Spanned) (t : Spanned) (after : List Spanned) → gap ++ t ∷ after ≡ end_behind kind → t.span.from ≡ 1
behind_one End gap t after h = no_rest gap t after h
behind_one _ [] t after h = ap (λ w. w.span.from) (head_is h)
behind_one _ (x ∷ gap) t after h = no_rest gap t after (rest_is h)

sample_is : (kind : TokenKind) → kind_of (sample kind).token ≡ kind
sample_is (Word w) = refl
sample_is (Sign s) = refl
sample_is Ident = refl
sample_is Int = refl
sample_is Text = refl
sample_is End = refl

follows : (before : List Spanned) (kind : TokenKind) → BeginsProgram (before ++ sample kind ∷ []) → CanFollow before kind
follows before kind h = record { one = sample kind; is_of = sample_is kind; begins = h }

follows_not : (before : List Spanned) (kind : TokenKind) → (BeginsProgram (before ++ sample kind ∷ []) → ⊥) → CanFollow before kind → ⊥
follows_not before kind n h = n (begins_like before h.one (sample kind) (h.is_of ∙ sym (sample_is kind)) h.begins)

-- the answer decides whether the kind can follow
pub decides : (before : List Spanned) (kind : TokenKind) (can : Bool) → IsFaultless before → Shows (before ++ asked kind) can → Decides before kind can
decides before kind true f (is_program {tree} h) = follows before kind (program_begins before (sample kind) (end_behind kind) tree h)
decides before kind true f (too_deep {at} h) = follows before kind (deep_stands before (sample kind) (end_behind kind) at f h)
decides before kind true f (at_one h) = follows before kind (stands before (sample kind) (end_behind kind) 1 f h (λ e. absurd (omega (arith, e))))
decides before kind false f (elsewhere {at} n h) =
    follows_not before kind (stands_not before (sample kind) (end_behind kind) at f h (λ gap t after q p. n (p ∙ behind_one kind gap t after q)))

-- what is asked ends by its one end
no_ends : (a b : List Spanned) → HasNoEnd a → HasNoEnd b → HasNoEnd (a ++ b)
no_ends [] b h k = k
no_ends (t ∷ a) b h k = (h.0, no_ends a b h.1 k)

ended : (before : List Spanned) (one : Spanned) → (one.token ≡ token.End → ⊥) → HasNoEnd before → EndsOnce (before ++ one ∷ the_end ∷ [])
ended before one n h = record {
  body = before ++ one ∷ [];
  end = the_end;
  whole = sym (append_assoc before (one ∷ []) (the_end ∷ []));
  is_end = refl;
  once = no_ends before (one ∷ []) h (n, tt);
}

pub asked_ends : (before : List Spanned) (kind : TokenKind) → IsFaultless before → EndsOnce (before ++ asked kind)
asked_ends before (Word w) f = ended before (sample (Word w)) (λ e. cc) f.no_end
asked_ends before (Sign s) f = ended before (sample (Sign s)) (λ e. cc) f.no_end
asked_ends before Ident f = ended before (sample Ident) (λ e. cc) f.no_end
asked_ends before Int f = ended before (sample Int) (λ e. cc) f.no_end
asked_ends before Text f = ended before (sample Text) (λ e. cc) f.no_end
asked_ends before End f = record { body = before; end = sample End; whole = refl; is_end = refl; once = f.no_end }

-- one more kind of a table is picked or passed
pub picked_more : (before : List Spanned) (table kinds : List TokenKind) (kind : TokenKind) → ArePicked before table kinds → CanFollow before kind →
    ArePicked before (table ++ kind ∷ []) (kinds ++ kind ∷ [])
picked_more before [] kinds kind no_more c = picked c no_more
picked_more before (k ∷ table) kinds kind (picked h p) c = picked h (picked_more before table _ kind p c)
picked_more before (k ∷ table) kinds kind (passed h p) c = passed h (picked_more before table kinds kind p c)

pub passed_more : (before : List Spanned) (table kinds : List TokenKind) (kind : TokenKind) → ArePicked before table kinds →
    (CanFollow before kind → ⊥) → ArePicked before (table ++ kind ∷ []) kinds
passed_more before [] kinds kind no_more c = passed c no_more
passed_more before (k ∷ table) kinds kind (picked h p) c = picked h (passed_more before table _ kind p c)
passed_more before (k ∷ table) kinds kind (passed h p) c = passed h (passed_more before table kinds kind p c)

pub picked_step : (before : List Spanned) (table kinds next : List TokenKind) (i : ℕ) (d : TokenKind) → i < length table →
    ArePicked before (take i table) kinds → CanFollow before (get_or table i d) → next ≡ kinds ++ get_or table i d ∷ [] →
    ArePicked before (take (i + 1) table) next
picked_step before table kinds next i d h p c q =
    subst (λ w. ArePicked before w next) (sym (take_more table i d h))
    (subst (λ w. ArePicked before (take i table ++ get_or table i d ∷ []) w) (sym q) (picked_more before (take i table) kinds (get_or table i d) p c))

pub passed_step : (before : List Spanned) (table kinds next : List TokenKind) (i : ℕ) (d : TokenKind) → i < length table →
    ArePicked before (take i table) kinds → (CanFollow before (get_or table i d) → ⊥) → next ≡ kinds → ArePicked before (take (i + 1) table) next
passed_step before table kinds next i d h p c q =
    subst (λ w. ArePicked before w next) (sym (take_more table i d h))
    (subst (λ w. ArePicked before (take i table ++ get_or table i d ∷ []) w) (sym q) (passed_more before (take i table) kinds (get_or table i d) p c))

-- the first fault shows what it is
by_test : (tokens : List Spanned) (at : ℕ) (b : Bool) → (at == 1) ≡ b → HasUnexpected tokens at → Shows tokens b
by_test tokens at true e h = at_one (subst (λ w. HasUnexpected tokens w) (grind (arith, nat_tests, e)) h)
by_test tokens at false e h = elsewhere (grind (arith, nat_tests, e)) h

pub shown : (tokens : List Spanned) (rule : SyntaxRule) (at : ℕ) → HasSyntaxFault tokens rule at → Shows tokens (shown_by rule at)
shown tokens S1 at h = by_test tokens at (at == 1) refl h
shown tokens S2 at h = too_deep h
