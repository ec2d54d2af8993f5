-- How what the parts of a program do makes up what it does.
use Rattle.std.specs.Prelude.{IsTrue, ◌↔◌, Result, Ok, Err, IsErr}
use Rattle.std.specs.Result.{IsErrAnd}
use Rattle.std.proofs.Common.{ℕ, ◌≡◌, List, [], ◌∷◌, Option, Some, None, Bool, true, false, refl, sym, subst, ◌∙◌}
use Rattle.tg_base.specs.declared.ids.Span.{Span}
use Rattle.tg_syntax.specs.declared.tokens.Spanned.{Spanned}
use Rattle.tg_syntax.specs.declared.tokens.Ident.{Ident}
use Rattle.tg_syntax.specs.declared.tokens.Word.TheVariants.{WElse}
use Rattle.tg_syntax.specs.declared.trees.Op.{Op}
use Rattle.tg_syntax.specs.Tree.{Exp, LValue}
use Rattle.tg_syntax.specs.Tails.{ends_tail, is_short}
use Rattle.tg_syntax.specs.Grammar.{Level}
use Rattle.tg_parser.specs.declared.faults.Stop.{Stop}
use Rattle.tg_parser.specs.declared.faults.Stop.TheVariants.{More}
use Rattle.tg_parser.specs.declared.heads.DeclarationKind.{DeclarationKind}
use Rattle.tg_parser.specs.glue.Given.{Refuses, refuses, wants, no_memory, AnswersJob}
use Rattle.tg_parser.specs.glue.Opens.{Leads, BeginsJob, BeginsTwo, Skips, Operates, Elses}
use Rattle.tg_parser.specs.glue.Heads.{Declares}
use Rattle.tg_parser.proofs.Chains.{want_on, name_on, call_stops, no_truth}
use Rattle.tg_syntax_laws.specs.declared.marks.Mark.{Mark}
use Rattle.tg_syntax_laws.specs.declared.marks.Mark.TheVariants.{OfWord}
use Rattle.tg_syntax_laws.specs.mirror.Steps.{token_of, op_of, Answer, Got, Bad, Out, Job, Of, At, After, Suffix, MoreDecs, Steps, OneSpan, OneName, give, want}
use Rattle.tg_syntax_laws.specs.mirror.Steps.{name, split, oper, test, call}
use Rattle.tg_syntax_laws.specs.mirror.Reading.{Does, give_got, want_got, want_bad, split_yes, split_no, split_out, oper_yes, oper_no, oper_out, test_yes}
use Rattle.tg_syntax_laws.specs.mirror.Reading.{test_no, call_got, more_decs, job, last}

-- one after the other
pub then : {j : Job} {s z w : Steps (Of j)} {ts us vs : List Spanned} → Leads j s ts z us → Leads j z us w vs → Leads j s ts w vs
then h k = record { goes = λ r d. h.goes r (k.goes r d) }

pub gives : {j : Job} {s : Steps (Of j)} {x : Of j} {ts us : List Spanned} → Leads j s ts (give x) us → Does j s ts (Got x us)
gives {j} {x = x} {us = us} h = h.goes (Got x us) (give_got j)

pub raise : {j : Job} {s z : Steps (Of j)} {ts us : List Spanned} {e : Stop} → Leads j s ts z us → Refuses e j z us → Refuses e j s ts
raise h (refuses {after = after} one d) = refuses one (h.goes (Bad one after) d)
raise h (wants d) = wants (h.goes Out d)
raise h (no_memory _) = no_memory _

pub carry : {X : Type 0} (r : Result X Stop) {j : Job} (value : X → Of j) (rest : X → List Spanned) {s z : Steps (Of j)}
    {ts us : List Spanned} → Leads j s ts z us → AnswersJob j value rest r z us → AnswersJob j value rest r s ts
carry (Ok x) value rest h d = h.goes (Got (value x) (rest x)) d
carry (Err e) value rest h d = raise h d

-- a mark, a name, another job
pub want_leads : (j : Job) {m : Mark} {f : Span → Steps (Of j)} {s : Span} {ts rest : List Spanned} →
    Does OneSpan (want m (λ x. give x)) ts (Got s rest) → Leads j (want m f) ts (f s) rest
want_leads j h = record { goes = λ r d. want_on j h d }

pub name_leads : (j : Job) {f : Ident → Steps (Of j)} {x : Ident} {ts rest : List Spanned} →
    Does OneName (name (λ x. give x)) ts (Got x rest) → Leads j (name f) ts (f x) rest
name_leads j h = record { goes = λ r d. name_on j h d }

pub call_leads : (j i : Job) {f : Of i → Steps (Of j)} {x : Of i} {ts rest : List Spanned} → Does i (job i) ts (Got x rest) → Leads j (call i f) ts (f x) rest
call_leads j i h = record { goes = λ r d. call_got j i h d }

-- a job last
pub last_at : {X : Type 0} (r : Result X Stop) (k i : Level) (l : Exp) (value : X → Exp) (rest : X → List Spanned) (ts : List Spanned) →
    AnswersJob (After i l) value rest r (job (After i l)) ts → AnswersJob (At k) value rest r (last (After i l)) ts
last_at (Ok x) k i l value rest ts h = call_got (At k) (After i l) h (give_got (At k))
last_at (Err e) k i l value rest ts h = call_stops (At k) (After i l) h

pub last_suffix : {X : Type 0} (r : Result X Stop) (s : Span) (v : LValue) (z : Span) (w : LValue) (value : X → Span × LValue)
    (rest : X → List Spanned) (ts : List Spanned) → AnswersJob (Suffix z w) value rest r (job (Suffix z w)) ts → AnswersJob (Suffix s v) value rest r (last (Suffix z w)) ts
last_suffix (Ok x) s v z w value rest ts h = call_got (Suffix s v) (Suffix z w) h (give_got (Suffix s v))
last_suffix (Err e) s v z w value rest ts h = call_stops (Suffix s v) (Suffix z w) h

-- the first token is a mark, or not
pub split_is : (j : Job) {m : Mark} {f : Span → Steps (Of j)} {z : Steps (Of j)} {b : Bool} {t : Spanned} {ts rest : List Spanned} →
    ts ≡ t ∷ rest → IsTrue b ↔ (t.token ≡ token_of m) → b ≡ true → Leads j (split m f z) ts (f t.span) rest
split_is j {m} {f} {z} {b} {t} {ts} {rest} e h i = record { goes = λ r d. subst (λ w. Does j (split m f z) w r) (sym e) (split_yes j (h.0 i) d) }

differs : (b : Bool) → b ≡ false → IsTrue b → ⊥
differs true e h = cc
differs false e h = cc

pub split_not : (j : Job) {m : Mark} {f : Span → Steps (Of j)} {z : Steps (Of j)} {b : Bool} {t : Spanned} {ts rest : List Spanned} →
    ts ≡ t ∷ rest → IsTrue b ↔ (t.token ≡ token_of m) → b ≡ false → Leads j (split m f z) ts z ts
split_not j {m} {f} {z} {b} {t} {ts} {rest} e h i = record {
  goes = λ r d. subst (λ w. Does j (split m f z) w r) (sym e)
      (split_no j (λ x. differs b i (h.1 x)) (subst (λ w. Does j z w r) e d));
}

-- a test
pub test_is : (j : Job) {b : Bool} {s z : Steps (Of j)} {ts : List Spanned} → b ≡ true → Leads j (test b s z) ts s ts
test_is j h = record { goes = λ r d. test_yes j h d }

pub test_not : (j : Job) {b : Bool} {s z : Steps (Of j)} {ts : List Spanned} → b ≡ false → Leads j (test b s z) ts z ts
test_not j h = record { goes = λ r d. test_no j h d }

-- the first token is an operator, or not
pub oper_is : (j : Job) {k : Level} {f : Op → ℕ → Steps (Of j)} {z : Steps (Of j)} {t : Spanned} {ts rest : List Spanned} {o : Op} →
    ts ≡ t ∷ rest → Some o ≡ op_of k t.token → Leads j (oper k f z) ts (f o t.span.from) rest
oper_is j {k} {f} {z} {t} {ts} {rest} {o} e h = record { goes = λ r d. subst (λ w. Does j (oper k f z) w r) (sym e) (oper_yes j o (sym h) d) }

pub oper_not : (j : Job) {k : Level} {f : Op → ℕ → Steps (Of j)} {z : Steps (Of j)} {t : Spanned} {ts rest : List Spanned} →
    ts ≡ t ∷ rest → None ≡ op_of k t.token → Leads j (oper k f z) ts z ts
oper_not j {k} {f} {z} {t} {ts} {rest} e h = record {
  goes = λ r d. subst (λ w. Does j (oper k f z) w r) (sym e)
      (oper_no j (sym h) (subst (λ w. Does j z w r) e d));
}

pub oper_none : (j : Job) {k : Level} {f : Op → ℕ → Steps (Of j)} {z : Steps (Of j)} {ts : List Spanned} {e : Stop} →
    (e ≡ More) × (ts ≡ []) → Refuses e j (oper k f z) ts
oper_none j {k} {f} {z} {ts} {e} p = subst (λ x. Refuses x j (oper k f z) ts) (sym p.0)
    (subst (λ w. Refuses More j (oper k f z) w) (sym p.1) (wants (oper_out j)))

-- at an exit by a question mark
pub begins_ended : {X A : Type 0} (value : X → A) (rest : X → List Spanned) (r : Result X Stop) {s : (j : Job) →
    (A → Steps (Of j)) → Steps (Of j)} {ts : List Spanned} {e : Stop} → IsErr r × IsErrAnd r (λ x. x ≡ e) →
    ((j : Job) (f : A → Steps (Of j)) → Refuses e j (s j f) ts) → BeginsJob value rest r s ts
begins_ended value rest (Ok x) h d = absurd (no_truth h.0)
begins_ended value rest (Err x) {s = s} {ts = ts} h d = λ j f. subst (λ y. Refuses y j (s j f) ts) (sym h.1) (d j f)

pub two_ended : {X A B : Type 0} (one : X → A) (other : X → B) (rest : X → List Spanned) (r : Result X Stop)
    {s : (j : Job) → (A → B → Steps (Of j)) → Steps (Of j)} {ts : List Spanned} {e : Stop} → IsErr r × IsErrAnd r (λ x. x ≡ e) →
    ((j : Job) (f : A → B → Steps (Of j)) → Refuses e j (s j f) ts) → BeginsTwo one other rest r s ts
two_ended one other rest (Ok x) h d = absurd (no_truth h.0)
two_ended one other rest (Err x) {s = s} {ts = ts} h d = λ j f. subst (λ y. Refuses y j (s j f) ts) (sym h.1) (d j f)

pub skips_ended : {X : Type 0} (value : X → Span) (rest : X → List Spanned) (r : Result (Option X) Stop) (m : Mark)
    {ts : List Spanned} {e : Stop} → IsErr r × IsErrAnd r (λ x. x ≡ e) → (e ≡ More) × (ts ≡ []) → Skips value rest r m ts
skips_ended value rest (Ok x) m h p = absurd (no_truth h.0)
skips_ended value rest (Err x) m {ts = ts} h p = λ j f z. subst (λ y. Refuses y j (split m f z) ts) (sym (h.1 ∙ p.0))
    (subst (λ w. Refuses More j (split m f z) w) (sym p.1) (wants (split_out j)))

pub operates_ended : {X : Type 0} (op : X → Op) (at : X → ℕ) (rest : X → List Spanned) (r : Result (Option X) Stop)
    (k : Level) (l : Exp) {ts : List Spanned} {e : Stop} → IsErr r × IsErrAnd r (λ x. x ≡ e) → ends_tail l ≡ false →
    (e ≡ More) × (ts ≡ []) → Operates op at rest r k l ts
operates_ended op at rest (Ok x) k l h n p = absurd (no_truth h.0)
operates_ended op at rest (Err x) k l {ts = ts} h n p = λ j f z. subst (λ y. Refuses y j (test (ends_tail l) z (oper k f z)) ts)
    (sym h.1) (raise (test_not j n) (oper_none j p))

pub elses_ended : (r : Result Bool Stop) (x : Exp) {ts : List Spanned} {e : Stop} → IsErr r × IsErrAnd r (λ x. x ≡ e) →
    is_short x ≡ false → (e ≡ More) × (ts ≡ []) → Elses r x ts
elses_ended (Ok b) x h n p = absurd (no_truth h.0)
elses_ended (Err y) x {ts = ts} {e = e} h n p = λ j f z. subst (λ y. Refuses y j (test (is_short x) z (split (OfWord WElse) f z)) ts)
    (sym (h.1 ∙ p.0)) (raise (test_not j n) (subst (λ w. Refuses More j (split (OfWord WElse) f z) w) (sym p.1) (wants (split_out j))))

wanted : (j : Job) {f : Span → Steps (Of j)} {z : Steps (Of j)} {t : Spanned} {rest : List Spanned} {r : Answer (Of j)} →
    t.token ≡ token_of (OfWord WElse) → Does j (want (OfWord WElse) f) (t ∷ rest) r → Does j (split (OfWord WElse) f z) (t ∷ rest) r
wanted j h (want_got _ i d) = split_yes j i d
wanted j h (want_bad _ i) = absurd (i h)

pub elses_is : (b : Bool) (x : Exp) {t : Spanned} {ts rest : List Spanned} → is_short x ≡ false → ts ≡ t ∷ rest →
    IsTrue b ↔ (t.token ≡ token_of (OfWord WElse)) → Elses (Ok b) x ts
elses_is true x {t} {ts} {rest} n e h = λ j f z. then (test_not j n)
    (record {
      goes = λ r d. subst (λ w. Does j (split (OfWord WElse) f z) w r) (sym e)
          (wanted j (h.0 refl) (subst (λ w. Does j (want (OfWord WElse) f) w r) e d));
    })
elses_is false x n e h = λ j f z. then (test_not j n) (split_not j e h refl)

pub declares_ended : {X : Type 0} (kind : X → DeclarationKind) (rest : X → List Spanned) (r : Result (Option X) Stop)
    {ts : List Spanned} {e : Stop} → IsErr r × IsErrAnd r (λ x. x ≡ e) → (e ≡ More) × (ts ≡ []) → Declares kind rest r ts
declares_ended kind rest (Ok x) h p = absurd (no_truth h.0)
declares_ended kind rest (Err x) {ts = ts} h p = λ ds. subst (λ y. Refuses y (MoreDecs ds) (more_decs ds) ts) (sym (h.1 ∙ p.0))
    (subst (λ w. Refuses More (MoreDecs ds) (more_decs ds) w) (sym p.1) (wants (split_out (MoreDecs ds))))
