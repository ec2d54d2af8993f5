-- What a part of the parser returns, seen from each program that begins with that part.
use Rattle.std.specs.Prelude.{ℕ, List, Result, Ok, Err, Option, Some, None, Bool, true, false}
use Rattle.tg_base.specs.declared.ids.Span.{Span}
use Rattle.tg_syntax.specs.declared.tokens.Spanned.{Spanned}
use Rattle.tg_syntax.specs.declared.tokens.Word.TheVariants.{WElse}
use Rattle.tg_syntax.specs.declared.trees.Op.{Op}
use Rattle.tg_syntax.specs.Tree.{Exp}
use Rattle.tg_syntax.specs.Tails.{ends_tail, is_short}
use Rattle.tg_syntax.specs.Grammar.{Level, Unary}
use Rattle.tg_parser.specs.declared.faults.Stop.{Stop}
use Rattle.tg_parser.specs.glue.Given.{Refuses, AnswersJob}
use Rattle.tg_syntax_laws.specs.declared.marks.Mark.{Mark}
use Rattle.tg_syntax_laws.specs.declared.marks.Mark.TheVariants.{OfWord}
use Rattle.tg_syntax_laws.specs.mirror.Steps.{Job, Of, At, Steps, Answer, Got, split, want, test}
use Rattle.tg_syntax_laws.specs.mirror.Steps.{oper}
use Rattle.tg_syntax_laws.specs.mirror.Reading.{Does, job}

-- a program, at some tokens, does what another one does at others
pub record Leads (j : Job) (s : Steps (Of j)) (ts : List Spanned) (z : Steps (Of j))
    (rest : List Spanned) : Type 0 where
  pub goes : (r : Answer (Of j)) → Does j z rest r → Does j s ts r

-- what a result says of the programs that begin so and go on with a value, or with two, that were
-- read
abbrev pub BeginsJob :
    {X A : Type 0} →
    (X → A) → (X → List Spanned) → Result X Stop → ((j : Job) → (A → Steps (Of j)) → Steps (Of j)) →
    List Spanned →
    Type 0
BeginsJob {A =
    A} value rest (Ok x) s ts = (j : Job) (f : A →
    Steps (Of j)) → Leads j (s j f) ts (f (value x)) (rest x)
BeginsJob {A = A} value rest (Err e) s ts =
    (j : Job) (f : A → Steps (Of j)) → Refuses e j (s j f) ts

abbrev pub BeginsTwo :
    {X A B : Type 0} →
    (X → A) → (X → B) → (X → List Spanned) → Result X Stop →
    ((j : Job) → (A → B → Steps (Of j)) → Steps (Of j)) → List Spanned →
    Type 0
BeginsTwo {A =
    A} {B = B} one other rest (Ok x) s ts = (j : Job) (f : A → B →
    Steps (Of j)) → Leads j (s j f) ts (f (one x) (other x)) (rest x)
BeginsTwo {A =
    A} {B = B} one other rest (Err e) s ts = (j : Job) (f : A → B →
    Steps (Of j)) → Refuses e j (s j f) ts

-- of the programs that go on after a mark, where it stands, and otherwise without it
abbrev pub Skips :
    {X : Type 0} →
    (X → Span) → (X → List Spanned) → Result (Option X) Stop → Mark → List Spanned →
    Type 0
Skips value rest (Ok (Some x)) m ts =
    (j : Job) (f : Span → Steps (Of j)) (z : Steps (Of j)) →
    Leads j (split m f z) ts (f (value x)) (rest x)
Skips value rest (Ok None) m ts =
    (j : Job) (f : Span → Steps (Of j)) (z : Steps (Of j)) → Leads j (split m f z) ts z ts
Skips value rest (Err e) m ts =
    (j : Job) (f : Span → Steps (Of j)) (z : Steps (Of j)) → Refuses e j (split m f z) ts

-- of those that go on after an operator, unless a tail ends the left operand
abbrev pub Operates :
    {X : Type 0} →
    (X → Op) → (X → ℕ) → (X → List Spanned) → Result (Option X) Stop → Level → Exp → List Spanned →
    Type 0
Operates op at rest (Ok (Some x)) k l ts =
    (j : Job) (f : Op → ℕ → Steps (Of j)) (z : Steps (Of j)) →
    Leads j (test (ends_tail l) z (oper k f z)) ts (f (op x) (at x)) (rest x)
Operates op at rest (Ok None) k l ts =
    (j : Job) (f : Op → ℕ → Steps (Of j)) (z : Steps (Of j)) →
    Leads j (test (ends_tail l) z (oper k f z)) ts z ts
Operates op at rest (Err e) k l ts =
    (j : Job) (f : Op → ℕ → Steps (Of j)) (z : Steps (Of j)) →
    Refuses e j (test (ends_tail l) z (oper k f z)) ts

-- of those that go on after `else`, where it belongs to the `if` of an expression
abbrev pub Elses : Result Bool Stop → Exp → List Spanned → Type 0
Elses (Ok true) x ts =
    (j : Job) (f : Span → Steps (Of j)) (z : Steps (Of j)) →
    Leads j (test (is_short x) z (split (OfWord WElse) f z)) ts (want (OfWord WElse) f) ts
Elses (Ok false) x ts =
    (j : Job) (f : Span → Steps (Of j)) (z : Steps (Of j)) →
    Leads j (test (is_short x) z (split (OfWord WElse) f z)) ts z ts
Elses (Err e) x ts =
    (j : Job) (f : Span → Steps (Of j)) (z : Steps (Of j)) →
    Refuses e j (test (is_short x) z (split (OfWord WElse) f z)) ts

-- what is read at the level of unary expressions, up to some tokens, is read so at another level
pub record Passes (k : Level) (l : Exp) (ts : List Spanned) : Type 0 where
  pub goes :
      (start : List Spanned) →
      Does (At Unary) (job (At Unary)) start (Got l ts) →
      Does (At k) (job (At k)) start (Got l ts)

-- what a result says at a level of what begins with an expression of the level of unary ones, and
-- goes on with some tokens
abbrev pub Completes :
    {X : Type 0} →
    Level → (X → Exp) → (X → List Spanned) → Result X Stop → Steps Exp → Exp → List Spanned →
    Type 0
Completes k value rest r s l ts =
    (start : List Spanned) → Does (At Unary) (job (At Unary)) start (Got l ts) →
    AnswersJob (At k) value rest r s start
