-- What taking the first token gives, and how programs go on after what was taken.
use Rattle.std.specs.Prelude.{IsTrue, ◌↔◌, Result, Ok, Err, IsErr}
use Rattle.std.specs.Result.{IsErrAnd}
use Rattle.std.proofs.Common.{Bool, true, false, length, arith, ◌≡◌, List, [], ◌∷◌, refl, sym, subst}
use Rattle.tg_base.specs.declared.ids.Span.{Span}
use Rattle.tg_base.specs.declared.ids.Name.{Name}
use Rattle.tg_syntax.specs.declared.tokens.Token.TheVariants as token
use Rattle.tg_syntax.specs.declared.tokens.Spanned.{Spanned}
use Rattle.tg_syntax.specs.declared.tokens.Ident.{Ident}
use Rattle.tg_syntax_laws.specs.declared.marks.Mark.{Mark}
use Rattle.tg_syntax_laws.specs.mirror.Steps.{token_of, Answer, Got, Bad, Job, Of, Steps, OneSpan, OneName, give, want, name, split, call}
use Rattle.tg_syntax_laws.specs.mirror.Reading.{Does, job, give_got, want_got, want_bad, want_out, name_got, name_bad, name_out, split_yes, split_no, split_out}
use Rattle.tg_syntax_laws.specs.mirror.Reading.{call_got, call_bad, call_out}
use Rattle.tg_parser.specs.declared.faults.Stop.{Stop}
use Rattle.tg_parser.specs.declared.faults.Stop.TheVariants.{Wrong, More}
use Rattle.tg_parser.specs.glue.Given.{AnswersJob, Refuses, refuses, wants, no_memory}

-- the first token
pub take_yes : (m : Mark) (ts : List Spanned) (t : Spanned) (rest : List Spanned) → ts ≡ t ∷ rest → t.token ≡ token_of m →
    Does OneSpan (want m (λ s. give s)) ts (Got t.span rest)
take_yes m ts t rest e h = subst (λ w. Does OneSpan (want m (λ s. give s)) w (Got t.span rest)) (sym e) (want_got OneSpan h (give_got OneSpan))

pub take_no : (m : Mark) (ts : List Spanned) (t : Spanned) (rest : List Spanned) → ts ≡ t ∷ rest → (t.token ≡ token_of m → ⊥) →
    Refuses (Wrong t.span.from) OneSpan (want m (λ s. give s)) ts
take_no m ts t rest e h = refuses t (subst (λ w. Does OneSpan (want m (λ s. give s)) w (Bad t rest)) (sym e) (want_bad OneSpan h))

pub take_none : (m : Mark) (ts : List Spanned) → length ts ≡ 0 → Refuses More OneSpan (want m (λ s. give s)) ts
take_none m [] e = wants (want_out OneSpan)
take_none m (t ∷ ts) e = absurd (omega arith)

pub name_is : (ts : List Spanned) (t : Spanned) (rest : List Spanned) (n : Name) → ts ≡ t ∷ rest → t.token ≡ token.Ident n →
    Does OneName (name (λ x. give x)) ts (Got (record { name = n; span = t.span }) rest)
name_is ts t rest n e h = subst (λ w. Does OneName (name (λ x. give x)) w (Got (record { name = n; span = t.span }) rest))
    (sym e) (name_got OneName (record { name = h; span = refl }) (give_got OneName))

pub name_not : (ts : List Spanned) (t : Spanned) (rest : List Spanned) → ts ≡ t ∷ rest → ((n : Name) → t.token ≡ token.Ident n → ⊥) →
    Refuses (Wrong t.span.from) OneName (name (λ x. give x)) ts
name_not ts t rest e h = refuses t (subst (λ w. Does OneName (name (λ x. give x)) w (Bad t rest)) (sym e) (name_bad OneName (λ x i. h x.name i.name)))

pub name_none : (ts : List Spanned) → length ts ≡ 0 → Refuses More OneName (name (λ x. give x)) ts
name_none [] e = wants (name_out OneName)
name_none (t ∷ ts) e = absurd (omega arith)

-- after a mark that was taken
pub want_on : (j : Job) {m : Mark} {f : Span → Steps (Of j)} {s : Span} {ts rest : List Spanned} {r : Answer (Of j)} →
    Does OneSpan (want m (λ s. give s)) ts (Got s rest) → Does j (f s) rest r → Does j (want m f) ts r
want_on j (want_got _ h (give_got _)) d = want_got j h d

pub want_then : (j : Job) {m : Mark} {f : Span → Steps (Of j)} {s : Span} {ts rest : List Spanned} {e : Stop} →
    Does OneSpan (want m (λ s. give s)) ts (Got s rest) → Refuses e j (f s) rest → Refuses e j (want m f) ts
want_then j d (refuses one h) = refuses one (want_on j d h)
want_then j d (wants h) = wants (want_on j d h)
want_then j d (no_memory _) = no_memory j

pub want_stops : (j : Job) {m : Mark} {f : Span → Steps (Of j)} {ts : List Spanned} {e : Stop} →
    Refuses e OneSpan (want m (λ s. give s)) ts → Refuses e j (want m f) ts
want_stops j (refuses one (want_bad _ h)) = refuses one (want_bad j h)
want_stops j (refuses one (want_got _ _ d)) = elim d [ ]
want_stops j (wants (want_got _ _ d)) = elim d [ ]
want_stops j (wants (want_out _)) = wants (want_out j)
want_stops j (no_memory _) = no_memory j

-- after a name that was taken
pub name_on : (j : Job) {f : Ident → Steps (Of j)} {x : Ident} {ts rest : List Spanned} {r : Answer (Of j)} →
    Does OneName (name (λ x. give x)) ts (Got x rest) → Does j (f x) rest r → Does j (name f) ts r
name_on j (name_got _ h (give_got _)) d = name_got j h d

pub name_then : (j : Job) {f : Ident → Steps (Of j)} {x : Ident} {ts rest : List Spanned} {e : Stop} →
    Does OneName (name (λ x. give x)) ts (Got x rest) → Refuses e j (f x) rest → Refuses e j (name f) ts
name_then j d (refuses one h) = refuses one (name_on j d h)
name_then j d (wants h) = wants (name_on j d h)
name_then j d (no_memory _) = no_memory j

pub name_stops : (j : Job) {f : Ident → Steps (Of j)} {ts : List Spanned} {e : Stop} → Refuses e OneName (name (λ x. give x)) ts → Refuses e j (name f) ts
name_stops j (refuses one (name_bad _ h)) = refuses one (name_bad j h)
name_stops j (refuses one (name_got _ _ d)) = elim d [ ]
name_stops j (wants (name_got _ _ d)) = elim d [ ]
name_stops j (wants (name_out _)) = wants (name_out j)
name_stops j (no_memory _) = no_memory j

-- after a job that was done
pub call_then : (j i : Job) {f : Of i → Steps (Of j)} {x : Of i} {ts rest : List Spanned} {e : Stop} →
    Does i (job i) ts (Got x rest) → Refuses e j (f x) rest → Refuses e j (call i f) ts
call_then j i d (refuses one h) = refuses one (call_got j i d h)
call_then j i d (wants h) = wants (call_got j i d h)
call_then j i d (no_memory _) = no_memory j

pub call_stops : (j i : Job) {f : Of i → Steps (Of j)} {ts : List Spanned} {e : Stop} → Refuses e i (job i) ts → Refuses e j (call i f) ts
call_stops j i (refuses one h) = refuses one (call_bad j i h)
call_stops j i (wants h) = wants (call_out j i h)
call_stops j i (no_memory _) = no_memory j

-- at a mark, by a test of it, and at none
pub split_on : (j : Job) {m : Mark} {f : Span → Steps (Of j)} {s : Steps (Of j)} {b : Bool} {t : Spanned} {ts rest : List Spanned} {r : Answer (Of j)} →
    ts ≡ t ∷ rest → IsTrue b ↔ (t.token ≡ token_of m) → b ≡ true → Does j (f t.span) rest r → Does j (split m f s) ts r
split_on j {m} {f} {s} {b} {t} {ts} {rest} {r} e h i d = subst (λ w. Does j (split m f s) w r) (sym e) (split_yes j (h.0 i) d)

pub split_then : (j : Job) {m : Mark} {f : Span → Steps (Of j)} {s : Steps (Of j)} {b : Bool} {t : Spanned} {ts rest : List Spanned} {e : Stop} →
    ts ≡ t ∷ rest → IsTrue b ↔ (t.token ≡ token_of m) → b ≡ true → Refuses e j (f t.span) rest → Refuses e j (split m f s) ts
split_then j p h i (refuses one d) = refuses one (split_on j p h i d)
split_then j p h i (wants d) = wants (split_on j p h i d)
split_then j p h i (no_memory _) = no_memory j

pub split_off : (j : Job) {m : Mark} {f : Span → Steps (Of j)} {s : Steps (Of j)} {b : Bool} {t : Spanned} {ts rest : List Spanned} {r : Answer (Of j)} →
    ts ≡ t ∷ rest → IsTrue b ↔ (t.token ≡ token_of m) → b ≡ false → Does j s ts r → Does j (split m f s) ts r
split_off j {m} {f} {s} {b} {t} {ts} {rest} {r} e h i d = subst (λ w. Does j (split m f s) w r) (sym e)
    (split_no j (λ x. differ (h.1 x)) (subst (λ w. Does j s w r) e d))
  where
    differ : b ≡ true → ⊥
    differ x = cc

pub split_else : (j : Job) {m : Mark} {f : Span → Steps (Of j)} {s : Steps (Of j)} {b : Bool} {t : Spanned} {ts rest : List Spanned} {e : Stop} →
    ts ≡ t ∷ rest → IsTrue b ↔ (t.token ≡ token_of m) → b ≡ false → Refuses e j s ts → Refuses e j (split m f s) ts
split_else j p h i (refuses one d) = refuses one (split_off j p h i d)
split_else j p h i (wants d) = wants (split_off j p h i d)
split_else j p h i (no_memory _) = no_memory j

pub split_none : (j : Job) {m : Mark} {f : Span → Steps (Of j)} {s : Steps (Of j)} {ts : List Spanned} {e : Stop} →
    (e ≡ More) × (ts ≡ []) → Refuses e j (split m f s) ts
split_none j {m} {f} {s} {ts} {e} p = subst (λ x. Refuses x j (split m f s) ts) (sym p.0)
    (subst (λ w. Refuses More j (split m f s) w) (sym p.1) (wants (split_out j)))

-- at an exit by a question mark
pub no_truth : IsTrue false → ⊥
no_truth h = cc

pub ended : {X : Type 0} (j : Job) (value : X → Of j) (rest : X → List Spanned) (result : Result X Stop) (s : Steps (Of j))
    (ts : List Spanned) {e : Stop} → IsErr result × IsErrAnd result (λ x. x ≡ e) → Refuses e j s ts → AnswersJob j value rest result s ts
ended j value rest (Ok x) s ts h d = absurd (no_truth h.0)
ended j value rest (Err x) s ts h d = subst (λ y. Refuses y j s ts) (sym h.1) d
