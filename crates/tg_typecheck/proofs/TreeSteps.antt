-- Lists of a tree's parts, one after another.
use Rattle.std.specs.Prelude.{Option, Some, None, IfSome, Box, box_value, Result, Ok, Err, OnOk}
use Rattle.std.proofs.Common.{◌≡◌, ℕ, zero, suc, ◌+◌, ◌<◌, List, [], ◌∷◌, length, drop, get_or, Bool, false, refl, sym, ap, ◌∙◌, subst, arith}
use Rattle.std.specs.declared.alloc.Global.{Global}
use Rattle.std.specs.Option.{option_map}
use Rattle.std.proofs.Math.Seq.{drop-length}
use Rattle.std.proofs.lemmas.List.{drop_more}
use Rattle.tg_base.specs.declared.ids.Span.{Span}
use Rattle.tg_base.specs.declared.faulty.Faulty.{Faulty}
use Rattle.tg_syntax.specs.declared.tokens.Ident.{Ident}
use Rattle.tg_syntax.specs.declared.trees.Param.{Param}
use Rattle.tg_syntax.specs.declared.trees.Exp.{Exp as CodeExp}
use Rattle.tg_syntax.specs.declared.trees.Init.{Init as CodeInit}
use Rattle.tg_syntax.specs.declared.trees.Dec.{Dec as CodeDec, Types, Variable', Functions}
use Rattle.tg_syntax.specs.declared.trees.FunDec.{FunDec as CodeFunDec}
use Rattle.tg_syntax.specs.declared.trees.Exps.{Exps as CodeExps, out-Exps}
use Rattle.tg_syntax.specs.declared.trees.Decs.{Decs as CodeDecs}
use Rattle.tg_syntax.specs.declared.trees.Inits.{Inits as CodeInits, out-Inits}
use Rattle.tg_syntax.specs.declared.trees.FunDecs.{FunDecs as CodeFunDecs, out-FunDecs}
use Rattle.tg_syntax.specs.declared.trees.Kind.{Kind, If, Let}
use Rattle.tg_syntax.specs.Tree.{Exp, Decs, no_decs}
use Rattle.tg_syntax.specs.glue.Plain.{plain, plain_kind, plain_exps, plain_inits, plain_functions, plain_dec}
use Rattle.tg_syntax.specs.glue.Lists.{exps_of, inits_of, decs_of, functions_of}
use Rattle.tg_syntax.proofs.ListLaws.{plain_kind-Let, plain_exps-items, plain_inits-items, plain_functions-items}
use Rattle.tg_typecheck.specs.declared.faults.TypeRule.{TypeRule}
use Rattle.tg_typecheck.specs.declared.states.CheckingState.{CheckingState}
use Rattle.tg_typecheck.specs.Types.{Ty, int_type, none_type}
use Rattle.tg_typecheck.specs.Checks.{Check, Noted, CheckResult, fine, give, on_fine, ◌>>=◌}
use Rattle.tg_typecheck.specs.Scopes.{Scope, Signature}
use Rattle.tg_typecheck.specs.Groups.{with_params}
use Rattle.tg_typecheck.specs.Typing.{start_of, expression_count, expect_all, expect_fields, body_fits, typed, typed_last, declare, bodies}
use Rattle.tg_typecheck.specs.glue.Selections.{init_count, function_count}
use Rattle.tg_typecheck.specs.glue.Trees.{fitting, choice, second_way, idle, one_body, IsAmong}
use Rattle.tg_syntax.specs.NamesWithin.{NamesWithin, ExpsWithin, InitsWithin, DecsWithin, FunctionsWithin}
use Rattle.tg_typecheck.specs.glue.States.{Fails, AnswersCheck, Leads, Keeps, Opens, scope_of, noted_of}
use Rattle.tg_typecheck.proofs.LimitFaults.{span_is}
use Rattle.tg_typecheck.proofs.Steps.{step, two_steps, fails_first, two_fail_first, two_fail_then, last_fails, same_scope, keeps_both, keeps_same}
use Rattle.tg_typecheck.proofs.Steps.{opens_keep, opens_both}

-- where an expression begins
pub start_is : (e : CodeExp) → start_of (plain e) ≡ e.span.from
start_is e = ap (λ (s : Span). s.from) (span_is e)

-- the parts of what is typed are these
pub typed_at : (e : Exp) {s s' : Scope} {n n' : Noted} → s ≡ s' → n' ≡ n → typed e s n ≡ typed e s' n'
typed_at e {s' = s'} {n = n} i j = ap (λ s. typed e s n) i ∙ ap (λ n. typed e s' n) (sym j)

pub params_at : {ps qs : List Param} {ts us : List Ty} (scope : Scope) → qs ≡ ps → us ≡ ts → with_params ps ts scope ≡ with_params qs us scope
params_at {qs = qs} {ts = ts} scope i j = ap (λ ps. with_params ps ts scope) (sym i) ∙ ap (λ ts. with_params qs ts scope) (sym j)

pub fits_at : (r : Option Ident) {t u : Ty} (got : Ty) {at from : ℕ} (n : Noted) → u ≡ t → at ≡ from → body_fits r t got at n ≡ body_fits r u got from n
fits_at r {u = u} got {at = at} n i j = ap (λ t. body_fits r t got at n) (sym i) ∙ ap (λ at. body_fits r u got at n) j

-- a part of a list, by its place
pub among : {A : Type 0} {xs ys : List A} {x : A} (k : ℕ) → k < length xs → x ≡ get_or xs k x → xs ≡ ys → IsAmong x ys
among {x = x} k l i e = subst (λ zs. IsAmong x zs) e (k, l, i)

pub index_at : {A : Type 0} (xs : List A) {x : A} {j k : ℕ} → x ≡ get_or xs j x → j ≡ k → x ≡ get_or xs k x
index_at xs {x = x} i e = i ∙ ap (λ k. get_or xs k x) e

-- how many there are
count_of : (es : List CodeExp) → expression_count (exps_of es) ≡ length es
count_of [] = refl
count_of (e ∷ es) = ap suc (count_of es)

pub count_is : (es : CodeExps) → expression_count (plain_exps es) ≡ length (out-Exps es).items.items
count_is es = ap expression_count (plain_exps-items es) ∙ count_of (out-Exps es).items.items

init_count_of : (is : List CodeInit) → init_count (inits_of is) ≡ length is
init_count_of [] = refl
init_count_of (i ∷ is) = ap suc (init_count_of is)

pub init_count_is : (is : CodeInits) → init_count (plain_inits is) ≡ length (out-Inits is).items.items
init_count_is is = ap init_count (plain_inits-items is) ∙ init_count_of (out-Inits is).items.items

function_count_of : (fs : List CodeFunDec) → function_count (functions_of fs) ≡ length fs
function_count_of [] = refl
function_count_of (f ∷ fs) = ap suc (function_count_of fs)

pub function_count_is : (fs : CodeFunDecs) → function_count (plain_functions fs) ≡ length (out-FunDecs fs).items.items
function_count_is fs = ap function_count (plain_functions-items fs) ∙ function_count_of (out-FunDecs fs).items.items

-- the names of each
exps_below : (n : ℕ) (es : List CodeExp) (k : ℕ) (e : CodeExp) → ExpsWithin n (exps_of es) → k < length es → e ≡ get_or es k e → NamesWithin n (plain e)
exps_below n [] k e h l i = absurd (omega (arith, l))
exps_below n (x ∷ es) zero e h l i = subst (λ y. NamesWithin n (plain y)) (sym i) h.0
exps_below n (x ∷ es) (suc k) e h l i = exps_below n es k e h.1 (omega (arith, l)) i

pub exp_below : (n : ℕ) (es : CodeExps) (k : ℕ) (e : CodeExp) → ExpsWithin n (plain_exps es) → k < length (out-Exps es).items.items →
    e ≡ get_or (out-Exps es).items.items k e → NamesWithin n (plain e)
exp_below n es k e h l i = exps_below n (out-Exps es).items.items k e (subst (λ x. ExpsWithin n x) (plain_exps-items es) h) l i

inits_below : (n : ℕ) (is : List CodeInit) (k : ℕ) (e : CodeInit) → InitsWithin n (inits_of is) → k < length is → e ≡ get_or is k e →
    NamesWithin n (plain e.value)
inits_below n [] k e h l i = absurd (omega (arith, l))
inits_below n (x ∷ is) zero e h l i = subst (λ y. NamesWithin n (plain y.value)) (sym i) h.1
inits_below n (x ∷ is) (suc k) e h l i = inits_below n is k e h.2 (omega (arith, l)) i

pub init_below : (n : ℕ) (is : CodeInits) (k : ℕ) (e : CodeInit) → InitsWithin n (plain_inits is) → k < length (out-Inits is).items.items →
    e ≡ get_or (out-Inits is).items.items k e → NamesWithin n (plain e.value)
init_below n is k e h l i = inits_below n (out-Inits is).items.items k e (subst (λ x. InitsWithin n x) (plain_inits-items is) h) l i

-- one more of a list
pub from_here : {A : Type 0} (xs : List A) (k : ℕ) (x : A) → k < length xs → x ≡ get_or xs k x → drop k xs ≡ x ∷ drop (k + 1) xs
from_here xs k x l i = drop_more xs k x l ∙ ap (λ y. y ∷ drop (k + 1) xs) (sym i)

pub none_left : {A : Type 0} (xs : List A) (k : ℕ) → k ≡ length xs → drop k xs ≡ []
none_left xs k e = ap (λ j. drop j xs) e ∙ drop-length xs

-- arguments, each of its type
pub record ArgumentsOn (names : List (List ℕ)) (in_loop : Bool) (first now : CheckingState) (es : List CodeExp) (ts : List Ty) (k : ℕ) : Type 0 where
  pub kept : Keeps first now
  pub onward : (scope : Scope) → scope ≡ scope_of names first in_loop →
      expect_all (exps_of es) ts scope (noted_of first) ≡ expect_all (exps_of (drop k es)) (drop k ts) scope (noted_of now)

pub arguments_none : {names : List (List ℕ)} {in_loop : Bool} {s : CheckingState} {es : List CodeExp} {ts : List Ty} → ArgumentsOn names in_loop s s es ts 0
arguments_none = record { kept = keeps_same; onward = λ scope h. refl }

pub arguments_one : {names : List (List ℕ)} {in_loop : Bool} {first now next : CheckingState} {es : List CodeExp}
    {ts : List Ty} {k : ℕ} (e : CodeExp) (t : Ty) →
    ArgumentsOn names in_loop first now es ts k → k < length es → length es ≡ length ts → e ≡ get_or es k e → t ≡ get_or ts k t →
    ((scope : Scope) → scope ≡ scope_of names now in_loop → fitting (plain e) t scope (noted_of now) ≡ fine tt (noted_of next)) → Keeps now next →
    ArgumentsOn names in_loop first next es ts (k + 1)
arguments_one {names = names} {now = now} {es = es} {ts = ts} {k = k} e t a l m i j g p = record {
  kept = keeps_both a.kept p;
  onward = λ scope h.
      a.onward scope h ∙ (ap (λ x. expect_all (exps_of x) (drop k ts) scope (noted_of now)) (from_here es k e l i)
      ∙ (ap (λ y. expect_all (exps_of (e ∷ drop (k + 1) es)) y scope (noted_of now)) (from_here ts k t (omega (arith, l, m)) j) ∙ two_steps _ _ _ _
      (g scope (same_scope names a.kept h)) refl));
}

pub arguments_fail : {names : List (List ℕ)} {in_loop : Bool} {first now : CheckingState} {es : List CodeExp} {ts : List Ty} {k : ℕ} (e : CodeExp)
    (t : Ty) {f : Faulty TypeRule ℕ} → ArgumentsOn names in_loop first now es ts k → k < length es → length es ≡ length ts → e ≡ get_or es k e →
    t ≡ get_or ts k t →
    ((scope : Scope) → scope ≡ scope_of names now in_loop → Fails f (fitting (plain e) t scope (noted_of now))) → (scope : Scope) →
    scope ≡ scope_of names first in_loop → Fails f (expect_all (exps_of es) ts scope (noted_of first))
arguments_fail {names = names} {now = now} {es = es} {ts = ts} {k = k} e t a l m i j g scope h =
    last_fails (a.onward scope h ∙ (ap (λ x. expect_all (exps_of x) (drop k ts) scope (noted_of now)) (from_here es k e l i) ∙ ap
    (λ y. expect_all (exps_of (e ∷ drop (k + 1) es)) y scope (noted_of now)) (from_here ts k t (omega (arith, l, m)) j)))
    (two_fail_first _ _ _ _ (g scope (same_scope names a.kept h)))

pub arguments_all : {names : List (List ℕ)} {in_loop : Bool} {first now : CheckingState} {es : List CodeExp} {ts : List Ty} {k : ℕ} →
    ArgumentsOn names in_loop first now es ts k → k ≡ length es → (scope : Scope) → scope ≡ scope_of names first in_loop →
    expect_all (exps_of es) ts scope (noted_of first) ≡ fine tt (noted_of now)
unfolding give
arguments_all {now = now} {es = es} {ts = ts} {k = k} a e scope h =
    a.onward scope h ∙ ap (λ x. expect_all (exps_of x) (drop k ts) scope (noted_of now)) (none_left es k e)

-- fields' values, each of its type
pub record FieldsOn (names : List (List ℕ)) (in_loop : Bool) (first now : CheckingState) (es : List CodeInit) (ts : List (ℕ × Ty)) (k : ℕ) : Type 0 where
  pub kept : Keeps first now
  pub onward : (scope : Scope) → scope ≡ scope_of names first in_loop →
      expect_fields (inits_of es) ts scope (noted_of first) ≡ expect_fields (inits_of (drop k es)) (drop k ts) scope (noted_of now)

pub fields_none : {names : List (List ℕ)} {in_loop : Bool} {s : CheckingState} {es : List CodeInit} {ts : List (ℕ × Ty)} → FieldsOn names in_loop s s es ts 0
fields_none = record { kept = keeps_same; onward = λ scope h. refl }

pub fields_one : {names : List (List ℕ)} {in_loop : Bool} {first now next : CheckingState} {es : List CodeInit} {ts : List (ℕ × Ty)} {k : ℕ} (e : CodeInit)
    (t : ℕ × Ty) → FieldsOn names in_loop first now es ts k → k < length es → length es ≡ length ts → e ≡ get_or es k e → t ≡ get_or ts k t →
    ((scope : Scope) → scope ≡ scope_of names now in_loop → fitting (plain e.value) t.1 scope (noted_of now) ≡ fine tt (noted_of next)) → Keeps now next →
    FieldsOn names in_loop first next es ts (k + 1)
fields_one {names = names} {now = now} {es = es} {ts = ts} {k = k} e t a l m i j g p = record {
  kept = keeps_both a.kept p;
  onward = λ scope h.
      a.onward scope h ∙ (ap (λ x. expect_fields (inits_of x) (drop k ts) scope (noted_of now)) (from_here es k e l i)
      ∙ (ap (λ y. expect_fields (inits_of (e ∷ drop (k + 1) es)) y scope (noted_of now)) (from_here ts k t (omega (arith, l, m)) j) ∙ two_steps _ _ _ _
      (g scope (same_scope names a.kept h)) refl));
}

pub fields_fail : {names : List (List ℕ)} {in_loop : Bool} {first now : CheckingState} {es : List CodeInit} {ts : List (ℕ × Ty)} {k : ℕ} (e : CodeInit)
    (t : ℕ × Ty) {f : Faulty TypeRule ℕ} → FieldsOn names in_loop first now es ts k → k < length es → length es ≡ length ts → e ≡ get_or es k e →
    t ≡ get_or ts k t →
    ((scope : Scope) → scope ≡ scope_of names now in_loop → Fails f (fitting (plain e.value) t.1 scope (noted_of now))) → (scope : Scope) →
    scope ≡ scope_of names first in_loop → Fails f (expect_fields (inits_of es) ts scope (noted_of first))
fields_fail {names = names} {now = now} {es = es} {ts = ts} {k = k} e t a l m i j g scope h =
    last_fails (a.onward scope h ∙ (ap (λ x. expect_fields (inits_of x) (drop k ts) scope (noted_of now)) (from_here es k e l i) ∙ ap
    (λ y. expect_fields (inits_of (e ∷ drop (k + 1) es)) y scope (noted_of now)) (from_here ts k t (omega (arith, l, m)) j)))
    (two_fail_first _ _ _ _ (g scope (same_scope names a.kept h)))

pub fields_all : {names : List (List ℕ)} {in_loop : Bool} {first now : CheckingState} {es : List CodeInit} {ts : List (ℕ × Ty)} {k : ℕ} →
    FieldsOn names in_loop first now es ts k → k ≡ length es → (scope : Scope) → scope ≡ scope_of names first in_loop →
    expect_fields (inits_of es) ts scope (noted_of first) ≡ fine tt (noted_of now)
unfolding give
fields_all {now = now} {es = es} {ts = ts} {k = k} a e scope h =
    a.onward scope h ∙ ap (λ x. expect_fields (inits_of x) (drop k ts) scope (noted_of now)) (none_left es k e)

-- expressions in order
pub record InOrder (names : List (List ℕ)) (in_loop : Bool) (first now : CheckingState) (es : List CodeExp) (t : Ty) (k : ℕ) : Type 0 where
  pub kept : Keeps first now
  pub onward : (scope : Scope) → scope ≡ scope_of names first in_loop →
      typed_last none_type (exps_of es) scope (noted_of first) ≡ typed_last t (exps_of (drop k es)) scope (noted_of now)

pub order_none : {names : List (List ℕ)} {in_loop : Bool} {s : CheckingState} {es : List CodeExp} {t : Ty} → t ≡ none_type → InOrder names in_loop s s es t 0
order_none {s = s} {es = es} e = record { kept = keeps_same; onward = λ scope h. ap (λ t. typed_last t (exps_of es) scope (noted_of s)) (sym e) }

pub order_one : {names : List (List ℕ)} {in_loop : Bool} {first now next : CheckingState} {es : List CodeExp} {t u : Ty} {k : ℕ} (e : CodeExp) →
    InOrder names in_loop first now es t k → k < length es → e ≡ get_or es k e →
    ((scope : Scope) → scope ≡ scope_of names now in_loop → typed (plain e) scope (noted_of now) ≡ fine u (noted_of next)) → Keeps now next →
    InOrder names in_loop first next es u (k + 1)
order_one {names = names} {now = now} {es = es} {t = t} {k = k} e a l i g p = record {
  kept = keeps_both a.kept p;
  onward =
      λ scope h. a.onward scope h ∙ (ap (λ x. typed_last t (exps_of x) scope (noted_of now)) (from_here es k e l i) ∙ step _ _
      (g scope (same_scope names a.kept h)) refl);
}

pub order_fails : {names : List (List ℕ)} {in_loop : Bool} {first now : CheckingState} {es : List CodeExp} {t : Ty} {k : ℕ} (e : CodeExp)
    {f : Faulty TypeRule ℕ} →
    InOrder names in_loop first now es t k → k < length es → e ≡ get_or es k e →
    ((scope : Scope) → scope ≡ scope_of names now in_loop → Fails f (typed (plain e) scope (noted_of now))) → (scope : Scope) →
    scope ≡ scope_of names first in_loop → Fails f (typed_last none_type (exps_of es) scope (noted_of first))
order_fails {names = names} {now = now} {es = es} {t = t} {k = k} e a l i g scope h =
    last_fails (a.onward scope h ∙ ap (λ x. typed_last t (exps_of x) scope (noted_of now)) (from_here es k e l i))
    (fails_first _ _ (g scope (same_scope names a.kept h)))

pub order_all : {names : List (List ℕ)} {in_loop : Bool} {first now : CheckingState} {es : List CodeExp} {t : Ty} {k : ℕ} →
    InOrder names in_loop first now es t k →
    k ≡ length es → (scope : Scope) → scope ≡ scope_of names first in_loop → typed_last none_type (exps_of es) scope (noted_of first) ≡ fine t (noted_of now)
unfolding give
order_all {now = now} {es = es} {t = t} {k = k} a e scope h = a.onward scope h ∙ ap (λ x. typed_last t (exps_of x) scope (noted_of now)) (none_left es k e)

-- declarations
dec_apart : (n : ℕ) (d : CodeDec) (rest : Decs) → DecsWithin n (plain_dec d rest) → DecsWithin n (plain_dec d no_decs) × DecsWithin n rest
dec_apart n (Types ds) rest h = ((h.0, tt), h.1)
dec_apart n (Variable' x t s e) rest h = ((h.0, h.1, h.2, tt), h.3)
dec_apart n (Functions fs) rest h = ((h.0, tt), h.1)

pub dec_below : (n : ℕ) (ds : List CodeDec) (k : ℕ) (d : CodeDec) → DecsWithin n (decs_of ds) → k < length ds → d ≡ get_or ds k d →
    DecsWithin n (plain_dec d no_decs)
dec_below n [] k d h l i = absurd (omega (arith, l))
dec_below n (x ∷ ds) zero d h l i = subst (λ y. DecsWithin n (plain_dec y no_decs)) (sym i) (dec_apart n x (decs_of ds) h).0
dec_below n (x ∷ ds) (suc k) d h l i = dec_below n ds k d (dec_apart n x (decs_of ds) h).1 (omega (arith, l)) i

pub record DeclarationsOn (names : List (List ℕ)) (in_loop : Bool) (first now : CheckingState) (ds : List CodeDec) (k : ℕ) : Type 0 where
  pub opens : Opens first now
  pub onward : (scope : Scope) → scope ≡ scope_of names first in_loop →
      declare (decs_of ds) scope (noted_of first) ≡ declare (decs_of (drop k ds)) (scope_of names now in_loop) (noted_of now)

pub decs_none : {names : List (List ℕ)} {in_loop : Bool} {s : CheckingState} {ds : List CodeDec} → DeclarationsOn names in_loop s s ds 0
decs_none {s = s} {ds = ds} = record { opens = opens_keep keeps_same; onward = λ scope h. ap (λ x. declare (decs_of ds) x (noted_of s)) h }

pub decs_one : {names : List (List ℕ)} {in_loop : Bool} {first now next : CheckingState} {ds : List CodeDec} {k : ℕ} (d : CodeDec) →
    DeclarationsOn names in_loop first now ds k → k < length ds → d ≡ get_or ds k d →
    ((rest : Decs) (scope : Scope) → scope ≡ scope_of names now in_loop →
    declare (plain_dec d rest) scope (noted_of now) ≡ declare rest (scope_of names next in_loop) (noted_of next)) → Opens now next →
    DeclarationsOn names in_loop first next ds (k + 1)
decs_one {names = names} {in_loop = in_loop} {now = now} {ds = ds} {k = k} d a l i g p = record {
  opens = opens_both a.opens p;
  onward =
      λ scope h. a.onward scope h ∙ (ap (λ x. declare (decs_of x) (scope_of names now in_loop) (noted_of now)) (from_here ds k d l i) ∙ g
      (decs_of (drop (k + 1) ds)) (scope_of names now in_loop) refl);
}

pub decs_fail : {names : List (List ℕ)} {in_loop : Bool} {first now : CheckingState} {ds : List CodeDec} {k : ℕ} (d : CodeDec) {f : Faulty TypeRule ℕ} →
    DeclarationsOn names in_loop first now ds k → k < length ds → d ≡ get_or ds k d →
    ((rest : Decs) (scope : Scope) → scope ≡ scope_of names now in_loop → Fails f (declare (plain_dec d rest) scope (noted_of now))) → (scope : Scope) →
    scope ≡ scope_of names first in_loop → Fails f (declare (decs_of ds) scope (noted_of first))
decs_fail {names = names} {in_loop = in_loop} {now = now} {ds = ds} {k = k} d a l i g scope h =
    last_fails (a.onward scope h ∙ ap (λ x. declare (decs_of x) (scope_of names now in_loop) (noted_of now)) (from_here ds k d l i))
    (g (decs_of (drop (k + 1) ds)) (scope_of names now in_loop) refl)

pub decs_all : {names : List (List ℕ)} {in_loop : Bool} {first now : CheckingState} {ds : List CodeDec} {k : ℕ} → DeclarationsOn names in_loop first now ds k →
    k ≡ length ds → (scope : Scope) → scope ≡ scope_of names first in_loop →
    declare (decs_of ds) scope (noted_of first) ≡ fine (scope_of names now in_loop) (noted_of now)
unfolding give
decs_all {names = names} {in_loop = in_loop} {now = now} {ds = ds} {k = k} a e scope h =
    a.onward scope h ∙ ap (λ x. declare (decs_of x) (scope_of names now in_loop) (noted_of now)) (none_left ds k e)

-- bodies
functions_below : (n : ℕ) (fs : List CodeFunDec) (k : ℕ) (f : CodeFunDec) → FunctionsWithin n (functions_of fs) → k < length fs → f ≡ get_or fs k f →
    NamesWithin n (plain f.body)
functions_below n [] k f h l i = absurd (omega (arith, l))
functions_below n (x ∷ fs) zero f h l i = subst (λ y. NamesWithin n (plain y.body)) (sym i) h.3
functions_below n (x ∷ fs) (suc k) f h l i = functions_below n fs k f h.4 (omega (arith, l)) i

pub function_below : (n : ℕ) (fs : CodeFunDecs) (k : ℕ) (f : CodeFunDec) → FunctionsWithin n (plain_functions fs) → k < length (out-FunDecs fs).items.items →
    f ≡ get_or (out-FunDecs fs).items.items k f → NamesWithin n (plain f.body)
function_below n fs k f h l i = functions_below n (out-FunDecs fs).items.items k f (subst (λ x. FunctionsWithin n x) (plain_functions-items fs) h) l i

pub record BodiesOn (names : List (List ℕ)) (first now : CheckingState) (fs : List CodeFunDec) (ss : List Signature) (k : ℕ) : Type 0 where
  pub kept : Keeps first now
  pub onward : (scope : Scope) → scope ≡ scope_of names first false →
      bodies (functions_of fs) ss scope (noted_of first) ≡ bodies (functions_of (drop k fs)) (drop k ss) scope (noted_of now)

pub bodies_none : {names : List (List ℕ)} {s : CheckingState} {fs : List CodeFunDec} {ss : List Signature} → BodiesOn names s s fs ss 0
bodies_none = record { kept = keeps_same; onward = λ scope h. refl }

pub bodies_one : {names : List (List ℕ)} {first now next : CheckingState} {fs : List CodeFunDec} {ss : List Signature}
    {k : ℕ} (f : CodeFunDec) (s : Signature) →
    BodiesOn names first now fs ss k → k < length fs → length fs ≡ length ss → f ≡ get_or fs k f → s ≡ get_or ss k s →
    ((scope : Scope) → scope ≡ scope_of names now false → one_body f.params f.result (plain f.body) s scope (noted_of now) ≡ fine tt (noted_of next)) →
    Keeps now next → BodiesOn names first next fs ss (k + 1)
bodies_one {names = names} {now = now} {fs = fs} {ss = ss} {k = k} f s a l m i j g p = record {
  kept = keeps_both a.kept p;
  onward = λ scope h.
      a.onward scope h ∙ (ap (λ x. bodies (functions_of x) (drop k ss) scope (noted_of now)) (from_here fs k f l i)
      ∙ (ap (λ y. bodies (functions_of (f ∷ drop (k + 1) fs)) y scope (noted_of now)) (from_here ss k s (omega (arith, l, m)) j) ∙ two_steps _ _ _ _
      (g scope (same_scope names a.kept h)) refl));
}

pub bodies_fail : {names : List (List ℕ)} {first now : CheckingState} {fs : List CodeFunDec} {ss : List Signature} {k : ℕ} (f : CodeFunDec)
    (s : Signature) {e : Faulty TypeRule ℕ} → BodiesOn names first now fs ss k → k < length fs → length fs ≡ length ss → f ≡ get_or fs k f → s ≡ get_or ss k s →
    ((scope : Scope) → scope ≡ scope_of names now false → Fails e (one_body f.params f.result (plain f.body) s scope (noted_of now))) → (scope : Scope) →
    scope ≡ scope_of names first false → Fails e (bodies (functions_of fs) ss scope (noted_of first))
bodies_fail {names = names} {now = now} {fs = fs} {ss = ss} {k = k} f s a l m i j g scope h =
    last_fails (a.onward scope h ∙ (ap (λ x. bodies (functions_of x) (drop k ss) scope (noted_of now)) (from_here fs k f l i) ∙ ap
    (λ y. bodies (functions_of (f ∷ drop (k + 1) fs)) y scope (noted_of now)) (from_here ss k s (omega (arith, l, m)) j)))
    (two_fail_first _ _ _ _ (g scope (same_scope names a.kept h)))

pub bodies_all : {names : List (List ℕ)} {first now : CheckingState} {fs : List CodeFunDec} {ss : List Signature} {k : ℕ} → BodiesOn names first now fs ss k →
    k ≡ length fs → (scope : Scope) → scope ≡ scope_of names first false → bodies (functions_of fs) ss scope (noted_of first) ≡ fine tt (noted_of now)
unfolding give
bodies_all {now = now} {fs = fs} {ss = ss} {k = k} a e scope h =
    a.onward scope h ∙ ap (λ x. bodies (functions_of x) (drop k ss) scope (noted_of now)) (none_left fs k e)

-- a check goes on after an answer
pub leads_carry : {X A : Type 0} (r : Result X (Faulty TypeRule ℕ)) (scope : Scope) (after : Noted) (onward : Scope → Noted →
    CheckResult A) {c c' : CheckResult A} → c ≡ c' →
    Leads r scope after onward c' → Leads r scope after onward c
leads_carry r scope after onward d g = subst (λ c. Leads r scope after onward c) (sym d) g

pub leads_on : {X A : Type 0} (r : Result X (Faulty TypeRule ℕ)) (scope : Scope) (after : Noted) (m : Check Scope) (onward : Scope → Check A) (n : Noted) →
    AnswersCheck r (λ _. scope) after (m n) → Leads r scope after onward ((m >>= onward) n)
unfolding ◌>>=◌
leads_on (Ok x) scope after m onward n g = ap (λ y. on_fine y onward) g
leads_on (Err e) scope after m onward n g = fails_first m onward g

pub leads_kept : {X A : Type 0} (r : Result X (Faulty TypeRule ℕ)) (names : List (List ℕ)) (in_loop : Bool) (old new : CheckingState) (m : Check (Unit {0}))
    (onward : Scope → Check A) (n : Noted) (inner : Scope) → inner ≡ scope_of names old in_loop → OnOk r (Keeps old new) →
    AnswersCheck r (λ _. tt) (noted_of new) (m n) → Leads r (scope_of names new in_loop) (noted_of new) onward ((m >>= λ _. onward inner) n)
unfolding ◌>>=◌
leads_kept (Ok x) names in_loop old new m onward n inner e k g =
    ap (λ y. on_fine y (λ _. onward inner)) g ∙ ap (λ s. onward s (noted_of new)) (same_scope names k e)
leads_kept (Err x) names in_loop old new m onward n inner e k g = fails_first m (λ _. onward inner) g

-- the names of the parts that a loop comes to
-- the names of a `let`
pub let_within : (n : ℕ) (k : Kind) (s : Span) (ds : CodeDecs) (es : CodeExps) → k ≡ Let ds es → NamesWithin n (plain_kind k s) →
    DecsWithin n (decs_of ds.items.items) × ExpsWithin n (plain_exps es)
let_within n k s ds es e h =
    let all = subst (λ x. NamesWithin n x) (plain_kind-Let ds es s) (subst (λ y. NamesWithin n (plain_kind y s)) e h) in
    (all.1, all.2)

-- a choice begins with its test
pub choice_fails : (s : Span) (test this : Exp) (other : Option Exp) (scope : Scope) (n : Noted) {e : Faulty TypeRule ℕ} →
    Fails e (fitting test int_type scope n) →
    Fails e (typed (choice s test this other) scope n)
choice_fails s test this None scope n h = two_fail_first _ _ _ _ h
choice_fails s test this (Some o) scope n h = two_fail_first _ _ _ _ h

-- the second way of a choice
-- a choice with two ways goes on with the first, and then with the second
pub choice_first_fails : (s : Span) (test this : Exp) (other : Option Exp) (way : Exp) (scope : Scope) (n : Noted) {m : Noted} {e : Faulty TypeRule ℕ} →
    other ≡ Some way → fitting test int_type scope n ≡ fine tt m → Fails e (typed this scope m) → Fails e (typed (choice s test this other) scope n)
choice_first_fails s test this other way scope n i g h =
    last_fails (ap (λ o. typed (choice s test this o) scope n) i) (two_fail_then _ _ _ _ g (fails_first _ _ h))

pub choice_both : (s : Span) (test this : Exp) (other : Option Exp) (way : Exp) (scope : Scope) (n : Noted) {m l : Noted} {t : Ty} → other ≡ Some way →
    fitting test int_type scope n ≡ fine tt m → typed this scope m ≡ fine t l → typed (choice s test this other) scope n ≡ second_way t way scope l
choice_both s test this other way scope n i g h = ap (λ o. typed (choice s test this o) scope n) i ∙ two_steps _ _ _ _ g (step _ _ h refl)

pub choice_one : (s : Span) (test this : Exp) (other : Option Exp) (scope : Scope) (n : Noted) {m : Noted} → other ≡ None →
    fitting test int_type scope n ≡ fine tt m → typed (choice s test this other) scope n ≡ idle this scope m
choice_one s test this other scope n i g = ap (λ o. typed (choice s test this o) scope n) i ∙ two_steps _ _ _ _ g refl

-- the parts of a choice
pub choice_whole : (k : Kind) (s : Span) (test this : Box CodeExp Global) (other : Option (Box CodeExp Global)) → k ≡ If test this other →
    plain_kind k s ≡ choice s (plain (box_value test)) (plain (box_value this)) (option_map (λ b. plain (box_value b)) other)
choice_whole k s test this None e = ap (λ x. plain_kind x s) e
choice_whole k s test this (Some b) e = ap (λ x. plain_kind x s) e

pub choice_within : (n : ℕ) (s : Span) (test this : Exp) (other : Option Exp) → NamesWithin n (choice s test this other) →
    NamesWithin n test × NamesWithin n this
choice_within n s test this None h = (h.1, h.2)
choice_within n s test this (Some o) h = (h.1, h.2)

pub way_within : {A : Type 0} (n : ℕ) (s : Span) (f : A → Exp) (test this : Exp) (other : Option A) →
    NamesWithin n (choice s test this (option_map f other)) → IfSome other (λ x. NamesWithin n (f x))
way_within n s f test this None h = tt
way_within n s f test this (Some o) h = h.3
