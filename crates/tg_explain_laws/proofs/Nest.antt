-- Spans nest, by induction over the grammar: what is read of tokens stands between the bytes between which they stand.
use Rattle.std.proofs.Common.{◌≡◌, ◌≢◌, ℕ, ◌<◌, ◌≤◌, List, [], ◌∷◌, ◌++◌, Option, Some, None, sym, ◌∙◌, subst, arith}
use Rattle.tg_base.specs.declared.ids.Span.{Span}
use Rattle.tg_syntax.specs.declared.tokens.Word.{Word}
use Rattle.tg_syntax.specs.declared.tokens.Sign.{Sign}
use Rattle.tg_syntax.specs.declared.tokens.Token.{Token}
use Rattle.tg_syntax.specs.declared.tokens.Token.TheVariants as token
use Rattle.tg_syntax.specs.declared.tokens.Spanned.{Spanned}
use Rattle.tg_syntax.specs.declared.tokens.Ident.{Ident}
use Rattle.tg_syntax.specs.declared.trees.Param.{Param}
use Rattle.tg_syntax.specs.declared.trees.Op.{Op}
use Rattle.tg_syntax.specs.Spans.{span_of, joined}
use Rattle.tg_syntax.specs.Lexing.{Lexes}
use Rattle.tg_syntax.specs.Tree.{Form, TypeDec, Exp, Binary, LValue, Simple, Field, Index, Exps, no_exps, exp, Inits, no_inits, init, Decs, no_decs}
use Rattle.tg_syntax.specs.Tree.{types, variable, functions, FunDecs, no_functions, function}
use Rattle.tg_syntax.specs.Groups.{snoc, snoc_init, Dec, one_type, one_variable, one_function, one_declaration, snoc_function, snoc_dec}
use Rattle.tg_syntax.specs.Grammar.{Level, IsIdent, AreFields, one_field, more_fields, AreAnyFields, no_fields, some_fields, IsForm, alias, fields}
use Rattle.tg_syntax.specs.Grammar.{array, IsAnnotation, not_annotated, annotated, Reads, whole_assign, whole_up, or_up, or_more, and_up, and_more}
use Rattle.tg_syntax.specs.Grammar.{cmp_up, cmp_two, sum_up, sum_more, term_up, term_more, unary_minus, unary_primary, unary_tail, primary_place}
use Rattle.tg_syntax.specs.Grammar.{primary_nil, primary_int, primary_text, primary_break, primary_sequence, primary_call, primary_record}
use Rattle.tg_syntax.specs.Grammar.{primary_let, tail_then, tail_else, tail_while, tail_for, tail_fill, IsPlace, place_simple, place_field}
use Rattle.tg_syntax.specs.Grammar.{place_index, AreMany, many_one, many_more, AreAny, any_none, any_many, AreInits, one_init, more_inits}
use Rattle.tg_syntax.specs.Grammar.{AreAnyInits, any_no_inits, any_inits, IsDec, dec_type, dec_variable, dec_function, AreDecs, decs_none, decs_more}
use Rattle.tg_syntax.specs.Grammar.{IsProgram, program}
use Rattle.tg_syntax_laws.specs.laws.Places.{StandFrom}
use Rattle.tg_syntax_laws.proofs.Standing.{tokens_stand}
use Rattle.tg_explain_laws.specs.Nested.{Within, ParamsNest, FormNests, TypesNest, KindNests, Nests, PlaceNests, ExpsNest, InitsNest, DecsNest}
use Rattle.tg_explain_laws.specs.Nested.{FunctionsNest}
use Rattle.tg_explain_laws.proofs.Orders.{decs_order}

-- tokens stand between two bytes, in order
abbrev Runs : (from : ℕ) → List Spanned → (to : ℕ) → Type 0
Runs p [] q = p ≤ q
Runs p (t ∷ ts) q = (p ≤ t.span.from) × (t.span.from ≤ t.span.to) × (t.token ≢ token.End → t.span.from < t.span.to) × Runs t.span.to ts q

before_end : (a : List Spanned) (t : Spanned) (p : ℕ) → StandFrom p (a ++ t ∷ []) → Runs p a t.span.from
before_end [] t p h = h.0
before_end (u ∷ a) t p h = (h.0, h.1, h.2, before_end a t u.span.to h.3)

runs_order : (a : List Spanned) (p q : ℕ) → Runs p a q → p ≤ q
runs_order [] p q h = h
runs_order (t ∷ a) p q h = let k = runs_order a t.span.to q h.3 in omega arith

runs_sooner : (a : List Spanned) (o p q : ℕ) → o ≤ p → Runs p a q → Runs o a q
runs_sooner [] o p q k h = omega arith
runs_sooner (t ∷ a) o p q k h = (omega arith, h.1, h.2, h.3)

record Split (a b : List Spanned) (p q : ℕ) : Type 0 where
  middle : ℕ
  first : Runs p a middle
  second : Runs middle b q
  up : p ≤ middle
  down : middle ≤ q

split : (a b : List Spanned) (p q : ℕ) → Runs p (a ++ b) q → Split a b p q
split [] b p q h = record { middle = p; first = omega arith; second = h; up = omega arith; down = runs_order b p q h }
split (t ∷ a) b p q h =
    let s = split a b t.span.to q h.3 in
    record { middle = s.middle; first = (h.0, h.1, h.2, s.first); second = s.second; up = omega arith; down = s.down }

-- only the end may be empty, and tokens of these kinds are no end
abbrev HasBytes : Spanned → Type 0
HasBytes t = t.token ≢ token.End → t.span.from < t.span.to

full : (t : Spanned) {w : Token} → t.token ≡ w → w ≢ token.End → HasBytes t → t.span.from < t.span.to
full t q d h = h (λ e. d (sym q ∙ e))

sign_no_end : (s : Sign) → token.Sign s ≢ token.End
sign_no_end s e = cc

word_no_end : (w : Word) → token.Word w ≢ token.End
word_no_end w e = cc

full_sign : (t : Spanned) {s : Sign} → t.token ≡ token.Sign s → HasBytes t → t.span.from < t.span.to
full_sign t {s} q h = full t q (sign_no_end s) h

full_word : (t : Spanned) {w : Word} → t.token ≡ token.Word w → HasBytes t → t.span.from < t.span.to
full_word t {w} q h = full t q (word_no_end w) h

full_int : (t : Spanned) (n : ℕ) → t.token ≡ token.Int n → HasBytes t → t.span.from < t.span.to
full_int t n q h = full t q (λ e. cc) h

full_text : (t : Spanned) (bytes : List ℕ) → t.token ≡ token.Text bytes → HasBytes t → t.span.from < t.span.to
full_text t bytes q h = full t q (λ e. cc) h

full_ident : (t : Spanned) {x : Ident} → IsIdent t x → HasBytes t → t.span.from < t.span.to
full_ident t i h = full t i.name (λ e. cc) h

ident_within : (t : Spanned) {x : Ident} (p q : ℕ) → IsIdent t x → p ≤ t.span.from → t.span.to ≤ q → HasBytes t →
    Within p q x.span
ident_within t p q i h k f = subst (Within p q) i.span (h, full_ident t i f, k)

-- where an identifier's token ends
ident_end : (t : Spanned) {x : Ident} (P : ℕ → Type 0) → IsIdent t x → P t.span.to → P x.span.to
ident_end t P i h = subst (λ (s : Span). P s.to) i.span h

-- ---- lists with one more at the end

params_snoc : (ps : List Param) (r : Param) (p m n q : ℕ) → ParamsNest p m ps → m ≤ n → Within n q r.name.span → Within r.name.span.to q r.kind.span →
    ParamsNest p q (ps ++ r ∷ [])
params_snoc [] r p m n q h k i j = ((omega arith, i.1, i.2), j, j.2)
params_snoc (o ∷ ps) r p m n q h k i j =
    ((h.0.0, h.0.1, omega arith), (h.1.0, h.1.1, omega arith), params_snoc ps r o.kind.span.to m n q h.2 k i j)

abbrev DecNests : (from to : ℕ) → Dec → Type 0
DecNests p q (one_type d) = Within p q d.name.span × FormNests d.name.span.to q d.form
DecNests p q (one_variable x k e) =
    Within p q x.span × KindNests x.span.to (span_of e).from k × Within x.span.to q (span_of e) × Nests e
DecNests p q (one_function f ps k e) =
    Within p q f.span × (next : ℕ) × ParamsNest f.span.to next ps × KindNests next (span_of e).from k × Within next q (span_of e) × Nests e

types_snoc : (ds : List TypeDec) (d : TypeDec) (p m n q : ℕ) → TypesNest p m ds → m ≤ n → DecNests n q (one_type d) → TypesNest p q (ds ++ d ∷ [])
types_snoc [] d p m n q h k i = ((omega arith, i.0.1, i.0.2), q, i.1, omega arith)
types_snoc (o ∷ ds) d p m n q h k i =
    ((h.0.0, h.0.1, omega arith), h.1, h.2, types_snoc ds d h.1 m n q h.3 k i)

exps_snoc : (es : Exps) (e : Exp) (p m n q : ℕ) → ExpsNest p m es → m ≤ n → Within n q (span_of e) → Nests e → ExpsNest p q (snoc es e)
exps_snoc no_exps e p m n q h k i j = ((omega arith, i.1, i.2), j, i.2)
exps_snoc (exp x xs) e p m n q h k i j = ((h.0.0, h.0.1, omega arith), h.1, exps_snoc xs e (span_of x).to m n q h.2 k i j)

inits_snoc : (is : Inits) (x : Ident) (e : Exp) (p m n q : ℕ) → InitsNest p m is → m ≤ n → Within n q x.span → Within x.span.to q (span_of e) → Nests e →
    InitsNest p q (snoc_init is x e)
inits_snoc no_inits x e p m n q h k i j l = ((omega arith, i.1, i.2), j, l, j.2)
inits_snoc (init y f is) x e p m n q h k i j l =
    ((h.0.0, h.0.1, omega arith), (h.1.0, h.1.1, omega arith), h.2, inits_snoc is x e (span_of f).to m n q h.3 k i j l)

functions_snoc : (fs : FunDecs) (f : Ident) (ps : List Param) (k : Option Ident) (e : Exp) (p m n q : ℕ) → FunctionsNest p m fs → m ≤ n →
    DecNests n q (one_function f ps k e) → FunctionsNest p q (snoc_function fs f ps k e)
functions_snoc no_functions f ps k e p m n q h l i = ((omega arith, i.0.1, i.0.2), i.1, i.2, i.3, i.4, i.5, i.4.2)
functions_snoc (function g qs r b fs) f ps k e p m n q h l i =
    ((h.0.0, h.0.1, omega arith), h.1, h.2, h.3, (h.4.0, h.4.1, omega arith), h.5, functions_snoc fs f ps k e (span_of b).to m n q h.6 l i)

one_nests : (d : Dec) (p n q : ℕ) → p ≤ n → DecNests n q d → DecsNest p q (one_declaration d)
one_nests (one_type d) p n q k i = (q, ((omega arith, i.0.1, i.0.2), q, i.1, omega arith), omega arith)
one_nests (one_variable x kind e) p n q k i = ((omega arith, i.0.1, i.0.2), i.1, i.2, i.3, i.2.2)
one_nests (one_function f ps kind e) p n q k i = (q, ((omega arith, i.0.1, i.0.2), i.1, i.2, i.3, i.4, i.5, i.4.2), omega arith)

dec_order : (d : Dec) (p q : ℕ) → DecNests p q d → p ≤ q
dec_order (one_type d) p q h = omega arith
dec_order (one_variable x k e) p q h = omega arith
dec_order (one_function f ps k e) p q h = omega arith

decs_snoc : (ds : Decs) (d : Dec) (p m q : ℕ) → DecsNest p m ds → DecNests m q d → DecsNest p q (snoc_dec ds d)
decs_snoc no_decs d p m q h i = one_nests d p m q h i
decs_snoc (types ts no_decs) (one_type d) p m q h i = (q, types_snoc ts d p h.0 m q h.1 h.2 i, omega arith)
decs_snoc (types ts no_decs) (one_variable x k e) p m q h i = (h.0, h.1, one_nests (one_variable x k e) h.0 m q h.2 i)
decs_snoc (types ts no_decs) (one_function f ps k e) p m q h i = (h.0, h.1, one_nests (one_function f ps k e) h.0 m q h.2 i)
decs_snoc (types ts (types us rest)) d p m q h i = (h.0, h.1, decs_snoc (types us rest) d h.0 m q h.2 i)
decs_snoc (types ts (variable x k e rest)) d p m q h i = (h.0, h.1, decs_snoc (variable x k e rest) d h.0 m q h.2 i)
decs_snoc (types ts (functions fs rest)) d p m q h i = (h.0, h.1, decs_snoc (functions fs rest) d h.0 m q h.2 i)
decs_snoc (variable x k e rest) d p m q h i =
    let l = dec_order d m q i in
    let n = decs_order rest (span_of e).to m h.4 in
    ((h.0.0, h.0.1, omega arith), h.1, (h.2.0, h.2.1, omega arith), h.3, decs_snoc rest d (span_of e).to m q h.4 i)
decs_snoc (functions fs no_decs) (one_type d) p m q h i = (h.0, h.1, one_nests (one_type d) h.0 m q h.2 i)
decs_snoc (functions fs no_decs) (one_variable x k e) p m q h i = (h.0, h.1, one_nests (one_variable x k e) h.0 m q h.2 i)
decs_snoc (functions fs no_decs) (one_function f ps k e) p m q h i = (q, functions_snoc fs f ps k e p h.0 m q h.1 h.2 i, omega arith)
decs_snoc (functions fs (types us rest)) d p m q h i = (h.0, h.1, decs_snoc (types us rest) d h.0 m q h.2 i)
decs_snoc (functions fs (variable x k e rest)) d p m q h i = (h.0, h.1, decs_snoc (variable x k e rest) d h.0 m q h.2 i)
decs_snoc (functions fs (functions gs rest)) d p m q h i = (h.0, h.1, decs_snoc (functions gs rest) d h.0 m q h.2 i)

-- ---- the grammar

place_wider : (v : LValue) (p q r : ℕ) → q ≤ r → PlaceNests p q v → PlaceNests p r v
place_wider (Simple x) p q r h w = (w.0, w.1, omega arith)
place_wider (Field v f) p q r h w = (w.0, (w.1.0, w.1.1, omega arith))
place_wider (Index v e) p q r h w = (w.0, (w.1.0, w.1.1, omega arith), w.2)

params_lie : {a : List Spanned} {ps : List Param} → AreFields a ps → (p q : ℕ) → Runs p a q → ParamsNest p q ps
params_lie (one_field t c u {x} {k} i j l) p q h = (
  ident_within t p q i h.0 (omega arith) h.2,
  ident_end t (λ n. Within n q k.span) i (ident_within u t.span.to q l (omega arith) h.3.3.3 h.3.3.2),
  ident_end u (λ n. n ≤ q) l h.3.3.3,
)
params_lie (more_fields {a} {ps} m t c u {x} {k} f e j l o) p q h =
    let s = split a (m ∷ t ∷ c ∷ u ∷ []) p q h in
    let z = s.second in
    params_snoc ps (record { name = x; kind = k }) p s.middle m.span.to q (params_lie f p s.middle s.first) (omega arith)
    (ident_within t m.span.to q j z.3.0 (omega arith) z.3.2)
    (ident_end t (λ n. Within n q k.span) j (ident_within u t.span.to q o (omega arith) z.3.3.3.3 z.3.3.3.2))

any_params_lie : {a : List Spanned} {ps : List Param} → AreAnyFields a ps → (p q : ℕ) → Runs p a q → ParamsNest p q ps
any_params_lie no_fields p q h = h
any_params_lie (some_fields f) p q h = params_lie f p q h

params_wider : (ps : List Param) (p q o r : ℕ) → o ≤ p → q ≤ r → ParamsNest p q ps → ParamsNest o r ps
params_wider [] p q o r i h k = omega arith
params_wider (n ∷ ps) p q o r i h k =
    ((omega arith, k.0.1, omega arith), (k.1.0, k.1.1, omega arith), params_wider ps n.kind.span.to q n.kind.span.to r (omega arith) h k.2)

form_lies : {a : List Spanned} {f : Form} → IsForm a f → (p q : ℕ) → Runs p a q → FormNests p q f
form_lies (alias t i) p q h = ident_within t p q i h.0 h.3 h.2
form_lies (fields {a} {ps} l r i f j) p q h =
    let s = split a (r ∷ []) l.span.to q h.3 in
    let z = s.second in
    params_wider ps l.span.to s.middle p q (omega arith) (omega arith) (any_params_lie f l.span.to s.middle s.first)
form_lies (array t o u i j k) p q h = ident_within u p q k (omega arith) h.3.3.3 h.3.3.2

kind_lies : {a : List Spanned} {k : Option Ident} → IsAnnotation a k → (p q : ℕ) → Runs p a q → KindNests p q k
kind_lies not_annotated p q h = h
kind_lies (annotated c t i j) p q h = ident_within t p q j (omega arith) h.3.3 h.3.2

kind_wider : (k : Option Ident) (p q o r : ℕ) → o ≤ p → q ≤ r → KindNests p q k → KindNests o r k
kind_wider None p q o r i h k = omega arith
kind_wider (Some x) p q o r i h k = (omega arith, k.1, omega arith)

-- an expression between two bytes
abbrev Lies : (from to : ℕ) → Exp → Type 0
Lies p q e = Within p q (span_of e) × Nests e

two : (a b : List Spanned) (t : Spanned) (o : Op) (l r : Exp) (p q : ℕ) → Runs p (a ++ t ∷ b) q → ((m : ℕ) → Runs p a m → Lies p m l) →
    ((m : ℕ) → Runs m b q → Lies m q r) → Lies p q (Binary (joined (span_of l) (span_of r)) o t.span.from l r)
two a b t o l r p q h f g =
    let s = split a (t ∷ b) p q h in
    let z = s.second in
    let x = f s.middle s.first in
    let y = g t.span.to z.3 in
    ((omega arith, omega arith, omega arith), ((omega arith, omega arith, omega arith), (omega arith, omega arith, omega arith), x.1, y.1))

mutual
  reads : {k : Level} {a : List Spanned} {e : Exp} → Reads k a e → (p q : ℕ) → Runs p a q → Lies p q e
  reads (whole_assign {a} {b} {s} {v} {e} t w i r) p q h =
      let c = split a (t ∷ b) p q h in
      let z = c.second in
      let x = place w p c.middle c.first in
      let y = reads r t.span.to q z.3 in
      ((omega arith, omega arith, omega arith), (place_wider v s.from s.to (span_of e).from (omega arith) x.1, (omega arith, omega arith, omega arith), y.1))
  reads (whole_up r) p q h = reads r p q h
  reads (or_up r) p q h = reads r p q h
  reads (or_more {a} {b} t {o} {l} {r} x n i y) p q h = two a b t o l r p q h (λ m k. reads x p m k) (λ m k. reads y m q k)
  reads (and_up r) p q h = reads r p q h
  reads (and_more {a} {b} t {o} {l} {r} x n i y) p q h = two a b t o l r p q h (λ m k. reads x p m k) (λ m k. reads y m q k)
  reads (cmp_up r) p q h = reads r p q h
  reads (cmp_two {a} {b} t {o} {l} {r} x n i y) p q h = two a b t o l r p q h (λ m k. reads x p m k) (λ m k. reads y m q k)
  reads (sum_up r) p q h = reads r p q h
  reads (sum_more {a} {b} t {o} {l} {r} x n i y) p q h = two a b t o l r p q h (λ m k. reads x p m k) (λ m k. reads y m q k)
  reads (term_up r) p q h = reads r p q h
  reads (term_more {a} {b} t {o} {l} {r} x n i y) p q h = two a b t o l r p q h (λ m k. reads x p m k) (λ m k. reads y m q k)
  reads (unary_minus t i r) p q h =
      let x = reads r t.span.to q h.3 in
      ((omega arith, omega arith, omega arith), ((omega arith, omega arith, omega arith), x.1))
  reads (unary_primary r) p q h = reads r p q h
  reads (unary_tail r) p q h = reads r p q h
  reads (primary_place {v} w) p q h = place w p q h
  reads (primary_nil t i) p q h = ((h.0, full_word t i h.2, h.3), tt)
  reads (primary_int t n i) p q h = ((h.0, full_int t n i h.2, h.3), tt)
  reads (primary_text t bytes i) p q h = ((h.0, full_text t bytes i h.2, h.3), tt)
  reads (primary_break t i) p q h = ((h.0, full_word t i h.2, h.3), tt)
  reads (primary_sequence {a} {es} l r i x j) p q h =
      let s = split a (r ∷ []) l.span.to q h.3 in
      let z = s.second in
      let f = full_sign l i h.2 in
      let y = any x l.span.from r.span.to l.span.to s.middle (omega arith) (omega arith) s.first in
      ((omega arith, omega arith, omega arith), y)
  reads (primary_call {a} {es} t l r {f} i j x k) p q h =
      let s = split a (r ∷ []) l.span.to q h.3.3 in
      let z = s.second in
      let n = full_ident t i h.2 in
      let y = any x t.span.to r.span.to l.span.to s.middle (omega arith) (omega arith) s.first in (
        (omega arith, omega arith, omega arith),
        (ident_within t t.span.from r.span.to i (omega arith) (omega arith) h.2, ident_end t (λ n. ExpsNest n r.span.to es) i y),
      )
  reads (primary_record {a} {is} t l r {x} i j y k) p q h =
      let s = split a (r ∷ []) l.span.to q h.3.3 in
      let z = s.second in
      let n = full_ident t i h.2 in
      let w = any_inits_lie y t.span.to r.span.to l.span.to s.middle (omega arith) (omega arith) s.first in (
        (omega arith, omega arith, omega arith),
        (ident_within t t.span.from r.span.to i (omega arith) (omega arith) h.2, ident_end t (λ n. InitsNest n r.span.to is) i w),
      )
  reads (primary_let {a} {b} {ds} {es} t i e j x k y l) p q h =
      let s = split a (i ∷ (b ++ e ∷ [])) t.span.to q h.3 in
      let z = s.second in
      let u = split b (e ∷ []) i.span.to q z.3 in
      let w = u.second in
      let f = full_word t j h.2 in
      let body = any y s.middle e.span.to i.span.to u.middle (omega arith) (omega arith) u.first in
      ((omega arith, omega arith, omega arith), (s.middle, decs x t.span.from s.middle t.span.to (omega arith) s.first, body))
  reads (tail_then {a} {b} {c} {x} t u i y j w) p q h =
      let s = split a (u ∷ b) t.span.to q h.3 in
      let z = s.second in
      let m = reads y t.span.to s.middle s.first in
      let n = reads w u.span.to q z.3 in
      ((omega arith, omega arith, omega arith), ((omega arith, omega arith, omega arith), (omega arith, omega arith, omega arith), m.1, n.1))
  reads (tail_else {a} {b} {d} {c} {x} {y} t u w i f j g closed k l) p q h =
      let s = split a (u ∷ (b ++ w ∷ d)) t.span.to q h.3 in
      let z = s.second in
      let v = split b (w ∷ d) u.span.to q z.3 in
      let o = v.second in
      let m = reads f t.span.to s.middle s.first in
      let n = reads g u.span.to v.middle v.first in
      let r = reads l w.span.to q o.3 in (
        (omega arith, omega arith, omega arith),
        ((omega arith, omega arith, omega arith), (omega arith, omega arith, omega arith), (omega arith, omega arith, omega arith), m.1, n.1, r.1),
      )
  reads (tail_while {a} {b} {c} {x} t u i y j w) p q h =
      let s = split a (u ∷ b) t.span.to q h.3 in
      let z = s.second in
      let m = reads y t.span.to s.middle s.first in
      let n = reads w u.span.to q z.3 in
      ((omega arith, omega arith, omega arith), ((omega arith, omega arith, omega arith), (omega arith, omega arith, omega arith), m.1, n.1))
  reads (tail_for {a} {b} {d} {low} {high} {x} t i g u w {v} j k l low_reads m high_reads n body_reads) p q h =
      let s = split a (u ∷ (b ++ w ∷ d)) g.span.to q h.3.3.3 in
      let z = s.second in
      let c = split b (w ∷ d) u.span.to q z.3 in
      let o = c.second in
      let one = reads low_reads g.span.to s.middle s.first in
      let other = reads high_reads u.span.to c.middle c.first in
      let last = reads body_reads w.span.to q o.3 in (
        (omega arith, omega arith, omega arith),
        (
          ident_within i t.span.from (span_of x).to k (omega arith) (omega arith) h.3.2,
          ident_end i (λ n. Within n (span_of x).to (span_of low)) k (omega arith, omega arith, omega arith),
          (omega arith, omega arith, omega arith),
          (omega arith, omega arith, omega arith),
          one.1,
          other.1,
          last.1,
        ),
      )
  reads (tail_fill {a} {b} {n} {x} t l r o {k} i j size m w body) p q h =
      let s = split a (r ∷ o ∷ b) l.span.to q h.3.3 in
      let z = s.second in
      let y = reads size l.span.to s.middle s.first in
      let u = reads body o.span.to q z.3.3 in (
        (omega arith, omega arith, omega arith),
        (
          ident_within t t.span.from (span_of x).to i (omega arith) (omega arith) h.2,
          ident_end t (λ m. Within m (span_of x).to (span_of n)) i (omega arith, omega arith, omega arith),
          (omega arith, omega arith, omega arith),
          y.1,
          u.1,
        ),
      )

  place : {a : List Spanned} {s : Span} {v : LValue} → IsPlace a s v → (p q : ℕ) → Runs p a q → Within p q s × PlaceNests s.from s.to v
  place (place_simple t i) p q h =
      let f = full_ident t i h.2 in
      ((h.0, f, h.3), ident_within t t.span.from t.span.to i (omega arith) (omega arith) h.2)
  place (place_field {a} {s} {v} d t {x} w i j) p q h =
      let c = split a (d ∷ t ∷ []) p q h in
      let z = c.second in
      let y = place w p c.middle c.first in
      let n = ident_within t s.from t.span.to j (omega arith) (omega arith) z.3.2 in
      let m = ident_within t c.middle q j (omega arith) z.3.3 z.3.2 in
      ((omega arith, omega arith, z.3.3), (place_wider v s.from s.to x.span.from (omega arith) y.1, n))
  place (place_index {a} {b} {s} {v} {e} l r w i x j) p q h =
      let c = split a (l ∷ (b ++ r ∷ [])) p q h in
      let z = c.second in
      let u = split b (r ∷ []) l.span.to q z.3 in
      let o = u.second in
      let y = place w p c.middle c.first in
      let m = reads x l.span.to u.middle u.first in (
        (omega arith, omega arith, omega arith),
        (place_wider v s.from s.to (span_of e).from (omega arith) y.1, (omega arith, omega arith, omega arith), m.1),
      )

  many : {s : Sign} {a : List Spanned} {es : Exps} → AreMany s a es → (p q m n : ℕ) → p ≤ m → n ≤ q → Runs m a n → ExpsNest p q es
  many (many_one r) p q m n i j h =
      let x = reads r m n h in
      ((omega arith, omega arith, omega arith), x.1, omega arith)
  many (many_more {a} {b} {es} {e} t f k r) p q m n i j h =
      let s = split a (t ∷ b) m n h in
      let z = s.second in
      let x = reads r t.span.to n z.3 in
      exps_snoc es e p s.middle t.span.to q (many f p s.middle m s.middle i (omega arith) s.first) (omega arith) (omega arith, omega arith, omega arith) x.1

  any : {s : Sign} {a : List Spanned} {es : Exps} → AreAny s a es → (p q m n : ℕ) → p ≤ m → n ≤ q → Runs m a n → ExpsNest p q es
  any any_none p q m n i j h = omega arith
  any (any_many f) p q m n i j h = many f p q m n i j h

  inits_lie : {a : List Spanned} {is : Inits} → AreInits a is → (p q m n : ℕ) → p ≤ m → n ≤ q → Runs m a n → InitsNest p q is
  inits_lie (one_init {a} {e} t k {x} i l r) p q m n f g h =
      let y = reads r k.span.to n h.3.3 in (
        ident_within t p q i (omega arith) (omega arith) h.2,
        ident_end t (λ n. Within n q (span_of e)) i (omega arith, omega arith, omega arith),
        y.1,
        omega arith,
      )
  inits_lie (more_inits {a} {b} {is} {e} c t k {x} w i j l r) p q m n f g h =
      let s = split a (c ∷ t ∷ k ∷ b) m n h in
      let z = s.second in
      let y = reads r k.span.to n z.3.3.3 in
      inits_snoc is x e p s.middle c.span.to q (inits_lie w p s.middle m s.middle f (omega arith) s.first) (omega arith)
      (ident_within t c.span.to q j (omega arith) (omega arith) z.3.2) (ident_end t (λ n. Within n q (span_of e)) j (omega arith, omega arith, omega arith)) y.1

  any_inits_lie : {a : List Spanned} {is : Inits} → AreAnyInits a is → (p q m n : ℕ) → p ≤ m → n ≤ q → Runs m a n → InitsNest p q is
  any_inits_lie any_no_inits p q m n i j h = omega arith
  any_inits_lie (any_inits f) p q m n i j h = inits_lie f p q m n i j h

  dec : {a : List Spanned} {d : Dec} → IsDec a d → (p q : ℕ) → Runs p a q → DecNests p q d
  dec (dec_type {a} {f} t i k {x} j l m r) p q h =
      let o = runs_order a k.span.to q h.3.3.3 in
      let form = form_lies r i.span.to q (runs_sooner a i.span.to k.span.to q (omega arith) h.3.3.3) in
      (ident_within i p q l (omega arith) (omega arith) h.3.2, ident_end i (λ n. FormNests n q f) l form)
  dec (dec_variable {a} {b} {k = kind} {e} t i g {x} j l m n r) p q h =
      let s = split a (g ∷ b) i.span.to q h.3.3 in
      let z = s.second in
      let y = reads r g.span.to q z.3 in
      let c = kind_wider kind i.span.to s.middle i.span.to (span_of e).from (omega arith) (omega arith) (kind_lies m i.span.to s.middle s.first) in (
        ident_within i p q l (omega arith) (omega arith) h.3.2,
        ident_end i (λ n. KindNests n (span_of e).from kind) l c,
        ident_end i (λ n. Within n q (span_of e)) l (omega arith, omega arith, omega arith),
        y.1,
      )
  dec (dec_function {a} {b} {d} {ps} {k = kind} {e} t i l r k {f} j m n fs o ann u body) p q h =
      let s = split a (r ∷ (b ++ k ∷ d)) l.span.to q h.3.3.3 in
      let z = s.second in
      let c = split b (k ∷ d) r.span.to q z.3 in
      let w = c.second in
      let y = reads body k.span.to q w.3 in
      let params = params_wider ps l.span.to s.middle i.span.to s.middle (omega arith) (omega arith) (any_params_lie fs l.span.to s.middle s.first) in
      let result = kind_wider kind r.span.to c.middle s.middle (span_of e).from (omega arith) (omega arith) (kind_lies ann r.span.to c.middle c.first) in (
        ident_within i p q m (omega arith) (omega arith) h.3.2,
        s.middle,
        ident_end i (λ n. ParamsNest n s.middle ps) m params,
        result,
        (omega arith, omega arith, omega arith),
        y.1,
      )

  decs : {a : List Spanned} {ds : Decs} → AreDecs a ds → (p q m : ℕ) → p ≤ m → Runs m a q → DecsNest p q ds
  decs decs_none p q m k h = omega arith
  decs (decs_more {a} {b} {ds} {d} f r) p q m k h =
      let s = split a b m q h in
      decs_snoc ds d p s.middle q (decs f p s.middle m k s.first) (dec r s.middle q s.second)

pub spans_nest : (names : List (List ℕ)) (text : List ℕ) (tokens : List Spanned) (e : Exp) → Lexes names 0 text tokens → IsProgram tokens e → Nests e
spans_nest names text tokens e l (program {a} t r i) = (reads r 0 t.span.from (before_end a t 0 (tokens_stand l))).1

-- a program's text is not empty, and it begins behind its start
pub program_stands : (names : List (List ℕ)) (text : List ℕ) (tokens : List Spanned) (e : Exp) → Lexes names 0 text tokens → IsProgram tokens e →
    (q : ℕ) × Within 0 q (span_of e)
program_stands names text tokens e l (program {a} t r i) = (t.span.from, (reads r 0 t.span.from (before_end a t 0 (tokens_stand l))).0)
