-- Steps of the descent: levels, the first token, marks that may stand, and a value by another name.
use Rattle.std.specs.Prelude.{Result, Ok, IfSome}
use Rattle.std.proofs.Common.{ℕ, ◌≡◌, List, [], ◌∷◌, Option, Some, None, Bool, true, false, sym, subst}
use Rattle.tg_base.specs.declared.ids.Span.{Span}
use Rattle.tg_syntax.specs.declared.tokens.Spanned.{Spanned}
use Rattle.tg_syntax.specs.declared.tokens.Token.{Token}
use Rattle.tg_syntax.specs.declared.tokens.Word.TheVariants.{WElse}
use Rattle.tg_syntax.specs.declared.trees.Op.{Op}
use Rattle.tg_syntax.specs.Tree.{Exp, LValue, Decs}
use Rattle.tg_syntax.specs.Groups.{snoc_dec}
use Rattle.tg_syntax.specs.Tails.{ends_tail, is_short}
use Rattle.tg_syntax.specs.Grammar.{Level}
use Rattle.tg_parser.specs.declared.faults.Stop.{Stop}
use Rattle.tg_parser.specs.declared.faults.Stop.TheVariants.{Wrong, More}
use Rattle.tg_parser.specs.declared.heads.DeclarationKind.{DeclarationKind}
use Rattle.tg_parser.specs.glue.Given.{Refuses, refuses, wants, AnswersJob}
use Rattle.tg_parser.specs.glue.Opens.{Leads, Skips, Operates, Elses}
use Rattle.tg_parser.specs.glue.Heads.{one_of, Declares}
use Rattle.tg_parser.proofs.Leading.{last_suffix}
use Rattle.tg_syntax_laws.specs.declared.marks.Mark.{Mark}
use Rattle.tg_syntax_laws.specs.declared.marks.Mark.TheVariants.{OfWord}
use Rattle.tg_syntax_laws.specs.mirror.Steps.{Got, Job, Of, At, Suffix, MoreDecs, Steps, give, want, refuse, split, oper, leaf, look, test}
use Rattle.tg_syntax_laws.specs.mirror.Reading.{Does, refuse_bad, leaf_yes, leaf_no, leaf_out, look_at, job, last, more_decs}

-- a value, and a program, that equal others
pub got_is : (j : Job) {s : Steps (Of j)} {x y : Of j} {ts rest : List Spanned} → x ≡ y → Does j s ts (Got y rest) → Does j s ts (Got x rest)
got_is j {s} {x} {y} {ts} {rest} e d = subst (λ v. Does j s ts (Got v rest)) (sym e) d

pub same_leads : (j : Job) {s z : Steps (Of j)} {ts : List Spanned} → s ≡ z → Leads j s ts z ts
same_leads j {s} {z} {ts} e = record { goes = λ r d. subst (λ x. Does j x ts r) (sym e) d }

pub level_does : {a b : Level} {x : Exp} {ts rest : List Spanned} → a ≡ b → Does (At a) (job (At a)) ts (Got x rest) → Does (At b) (job (At b)) ts (Got x rest)
level_does {x = x} {ts = ts} {rest = rest} e d = subst (λ k. Does (At k) (job (At k)) ts (Got x rest)) e d

pub level_refuses : {a b : Level} {ts : List Spanned} {e : Stop} → a ≡ b → Refuses e (At a) (job (At a)) ts → Refuses e (At b) (job (At b)) ts
level_refuses {ts = ts} {e = e} p d = subst (λ k. Refuses e (At k) (job (At k)) ts) p d

pub suffix_does : {s z : Span} {v w : LValue} {x : Span × LValue} {ts rest : List Spanned} → s ≡ z → v ≡ w →
    Does (Suffix s v) (job (Suffix s v)) ts (Got x rest) → Does (Suffix z w) (job (Suffix z w)) ts (Got x rest)
suffix_does {s} {z} {v} {w} {x} {ts} {rest} e h d = subst (λ a. Does (Suffix a w) (job (Suffix a w)) ts (Got x rest)) e
    (subst (λ b. Does (Suffix s b) (job (Suffix s b)) ts (Got x rest)) h d)

pub suffix_refuses : {s z : Span} {v w : LValue} {ts : List Spanned} {e : Stop} → s ≡ z → v ≡ w →
    Refuses e (Suffix s v) (job (Suffix s v)) ts → Refuses e (Suffix z w) (job (Suffix z w)) ts
suffix_refuses {s} {z} {v} {w} {ts} {e} p h d = subst (λ a. Refuses e (Suffix a w) (job (Suffix a w)) ts) p
    (subst (λ b. Refuses e (Suffix s b) (job (Suffix s b)) ts) h d)

pub suffix_same : {X : Type 0} (r : Result X Stop) (s : Span) (v : LValue) (z a : Span) (w b : LValue) (value : X →
    Span × LValue) (rest : X → List Spanned) (ts : List Spanned) → z ≡ a → w ≡ b → AnswersJob (Suffix z w) value rest r (job (Suffix z w)) ts →
    AnswersJob (Suffix s v) value rest r (last (Suffix a b)) ts
suffix_same r s v z a w b value rest ts e h d =
    subst (λ x. AnswersJob (Suffix s v) value rest r (last (Suffix x b)) ts) e
    (subst (λ y. AnswersJob (Suffix s v) value rest r (last (Suffix z y)) ts) h (last_suffix r s v z w value rest ts d))

-- a mark that may stand
pub some_leads : {X : Type 0} (value : X → Span) (rest : X → List Spanned) {o : Option X} {x : X} {m : Mark} {ts : List Spanned} →
    Skips value rest (Ok o) m ts → o ≡ Some x → (j : Job) (f : Span → Steps (Of j)) (z : Steps (Of j)) → Leads j (split m f z) ts (f (value x)) (rest x)
some_leads value rest {m = m} {ts = ts} h e = subst (λ w. Skips value rest (Ok w) m ts) e h

pub none_leads : {X : Type 0} (value : X → Span) (rest : X → List Spanned) {o : Option X} {m : Mark} {ts : List Spanned} →
    Skips value rest (Ok o) m ts → o ≡ None → (j : Job) (f : Span → Steps (Of j)) (z : Steps (Of j)) → Leads j (split m f z) ts z ts
none_leads value rest {m = m} {ts = ts} h e = subst (λ w. Skips value rest (Ok w) m ts) e h

-- an operator that may stand
pub some_operates : {X : Type 0} (op : X → Op) (at : X → ℕ) (rest : X → List Spanned) (l : Exp) {o : Option X} {x : X}
    {k : Level} {ts : List Spanned} → Operates op at rest (Ok o) k l ts → o ≡ Some x → (j : Job) (f : Op → ℕ → Steps (Of j)) (z : Steps (Of j)) →
    Leads j (test (ends_tail l) z (oper k f z)) ts (f (op x) (at x)) (rest x)
some_operates op at rest l {k = k} {ts = ts} h e = subst (λ w. Operates op at rest (Ok w) k l ts) e h

pub none_operates : {X : Type 0} (op : X → Op) (at : X → ℕ) (rest : X → List Spanned) (l : Exp) {o : Option X} {k : Level} {ts : List Spanned} →
    Operates op at rest (Ok o) k l ts → o ≡ None → (j : Job) (f : Op → ℕ → Steps (Of j)) (z : Steps (Of j)) → Leads j (test (ends_tail l) z (oper k f z)) ts z ts
none_operates op at rest l {k = k} {ts = ts} h e = subst (λ w. Operates op at rest (Ok w) k l ts) e h

-- a declaration that may stand
pub some_declares : {X : Type 0} (kind : X → DeclarationKind) (rest : X → List Spanned) {o : Option X} {x : X} {ts : List Spanned} →
    Declares kind rest (Ok o) ts → o ≡ Some x → (ds : Decs) → Leads (MoreDecs ds) (more_decs ds) ts
    (one_of (kind x) (MoreDecs ds) (λ d. last (MoreDecs (snoc_dec ds d)))) (rest x)
some_declares kind rest {ts = ts} h e = subst (λ w. Declares kind rest (Ok w) ts) e h

pub none_declares : {X : Type 0} (kind : X → DeclarationKind) (rest : X → List Spanned) {o : Option X} {ts : List Spanned} →
    Declares kind rest (Ok o) ts → o ≡ None → (ds : Decs) → Leads (MoreDecs ds) (more_decs ds) ts (give ds) ts
none_declares kind rest {ts = ts} h e = subst (λ w. Declares kind rest (Ok w) ts) e h

-- what holds of a value that is there
pub if_some : {X : Type 0} (P : X → Type 0) {o : Option X} {x : X} → IfSome o P → o ≡ Some x → P x
if_some P h e = subst (λ w. IfSome w P) e h

-- `else`
pub elses_yes : (b : Bool) (x : Exp) {ts : List Spanned} → Elses (Ok b) x ts → b ≡ true →
    (j : Job) (f : Span → Steps (Of j)) (z : Steps (Of j)) → Leads j (test (is_short x) z (split (OfWord WElse) f z)) ts (want (OfWord WElse) f) ts
elses_yes true x h e = h
elses_yes false x h e = cc

pub elses_no : (b : Bool) (x : Exp) {ts : List Spanned} → Elses (Ok b) x ts → b ≡ false →
    (j : Job) (f : Span → Steps (Of j)) (z : Steps (Of j)) → Leads j (test (is_short x) z (split (OfWord WElse) f z)) ts z ts
elses_no true x h e = cc
elses_no false x h e = h

-- the first token
pub leaf_is : (j : Job) {g : Spanned → Option (Of j)} {s : Steps (Of j)} {t : Spanned} {ts rest : List Spanned} {x : Of j} →
    ts ≡ t ∷ rest → g t ≡ Some x → Does j (leaf g s) ts (Got x rest)
leaf_is j {g} {s} {t} {ts} {rest} {x} e h = subst (λ w. Does j (leaf g s) w (Got x rest)) (sym e) (leaf_yes j h)

pub leaf_none : (j : Job) {g : Spanned → Option (Of j)} {s : Steps (Of j)} {ts : List Spanned} {e : Stop} → (e ≡ More) × (ts ≡ []) → Refuses e j (leaf g s) ts
leaf_none j {g} {s} {ts} {e} p = subst (λ x. Refuses x j (leaf g s) ts) (sym p.0) (subst (λ w. Refuses More j (leaf g s) w) (sym p.1) (wants (leaf_out j)))

pub look_leads : (j : Job) {g : Spanned → Option (Of j)} {f : Token → Steps (Of j)} {t : Spanned} {ts rest : List Spanned} {z : Steps (Of j)} →
    ts ≡ t ∷ rest → g t ≡ None → f t.token ≡ z → Leads j (leaf g (look f)) ts z ts
look_leads j {g} {f} {t} {ts} {rest} {z} e h i = record {
  goes = λ r d. subst (λ w. Does j (leaf g (look f)) w r) (sym e)
      (leaf_no j h (look_at j (subst (λ x. Does j x (t ∷ rest) r) (sym i) (subst (λ w. Does j z w r) e d))));
}

pub refuse_at : (j : Job) {t : Spanned} {ts rest : List Spanned} → ts ≡ t ∷ rest → Refuses (Wrong t.span.from) j refuse ts
refuse_at j {t} {ts} {rest} e = subst (λ w. Refuses (Wrong t.span.from) j refuse w) (sym e) (refuses t (refuse_bad j))
