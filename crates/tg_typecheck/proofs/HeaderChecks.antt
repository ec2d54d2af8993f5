-- The headers of functions, checked one after another.
use Rattle.std.specs.Prelude.{Option, nat_eq}
use Rattle.std.specs.List.{list_any}
use Rattle.std.specs.HashSet as set
use Rattle.std.specs.HashSet.{HashSet}
use Rattle.std.proofs.Common.{◌≡◌, ℕ, zero, suc, ◌+◌, ◌<◌, List, [], ◌∷◌, ◌++◌, length, drop, get_or, Bool, not, refl, sym, ap, ◌∙◌, subst}
use Rattle.std.proofs.Common.{append_assoc, append-nil, length-append, arith}
use Rattle.std.proofs.lemmas.List.{get_or_default}
use Rattle.tg_base.specs.declared.faulty.Faulty.{Faulty}
use Rattle.tg_syntax.specs.declared.tokens.Ident.{Ident}
use Rattle.tg_syntax.specs.declared.trees.Param.{Param}
use Rattle.tg_syntax.specs.declared.trees.FunDec.{FunDec as CodeFunDec}
use Rattle.tg_syntax.specs.declared.trees.FunDecs.{FunDecs as CodeFunDecs, out-FunDecs}
use Rattle.tg_syntax.specs.Tree.{FunDecs, function, Exp}
use Rattle.tg_syntax.specs.glue.Plain.{plain, plain_functions}
use Rattle.tg_syntax.specs.glue.Lists.{functions_of}
use Rattle.tg_syntax.specs.NamesWithin.{NameIsWithin, ParamsWithin, KindWithin, FunctionsWithin}
use Rattle.tg_syntax.proofs.ListLaws.{plain_functions-items}
use Rattle.tg_typecheck.specs.declared.faults.TypeRule.{TypeRule}
use Rattle.tg_typecheck.specs.declared.faults.TypeRule.TheVariants.{T18}
use Rattle.tg_typecheck.specs.declared.states.CheckingState.{CheckingState}
use Rattle.tg_typecheck.specs.Types.{Ty}
use Rattle.tg_typecheck.specs.Checks.{Check, CheckResult, Noted, fine, fault, on_fine, keep, give, ◌>>=◌}
use Rattle.tg_typecheck.specs.Scopes.{Scope, Signature}
use Rattle.tg_typecheck.specs.Groups.{stands_in, no_repeats, function_names, type_named, param_types, result_type, headers}
use Rattle.tg_typecheck.specs.glue.Selections.{header_of}
use Rattle.tg_typecheck.specs.glue.Declaring.{HasNames}
use Rattle.tg_typecheck.specs.glue.States.{Fails, scope_of}
use Rattle.tg_typecheck.proofs.Steps.{step, given, fails_first, fails_then, last_fails}
use Rattle.tg_typecheck.proofs.TreeSteps.{from_here, none_left}

pub none_seen : {S : Type 0} (seen : HashSet ℕ S) → set.IsEmpty seen → HasNames seen []
none_seen seen e y = ap (λ ks. list_any (nat_eq y) ks) e

-- the parameter at a place
abbrev pub no_name : Ident
no_name = record { name = record { 0 = 0 }; span = record { from = 0; to = 0 } }

abbrev pub param_at : List Param → ℕ → Param
param_at ps k = get_or ps k (record { name = no_name; kind = no_name })

pub param_is : (ps : List Param) (k : ℕ) → k < length ps → param_at ps k ≡ get_or ps k (param_at ps k)
param_is ps k l = get_or_default ps k _ _ l

-- names that are all new, so far
pub record FreshOn {S : Type 0} (rule : TypeRule) (seen : HashSet ℕ S) (fs : List CodeFunDec) (k : ℕ) : Type 0 where
  pub earlier : List Ident
  pub has : HasNames seen earlier
  pub onward : (n : Noted) → no_repeats rule [] (function_names (functions_of fs)) n ≡ no_repeats rule earlier (function_names (functions_of (drop k fs))) n

pub fresh_none : {S : Type 0} {rule : TypeRule} {seen : HashSet ℕ S} {fs : List CodeFunDec} → HasNames seen [] → FreshOn rule seen fs 0
fresh_none h = record { earlier = []; has = h; onward = λ n. refl }

pub fresh_one : {S : Type 0} {rule : TypeRule} {seen : HashSet ℕ S} {next : HashSet ℕ S} {fs : List CodeFunDec} {k : ℕ} (f : CodeFunDec)
    (a : FreshOn rule seen fs k) → k < length fs → f ≡ get_or fs k f →
    ((n : Noted) → keep rule f.name.span.from (not (stands_in f.name.name.0 a.earlier)) n ≡ fine tt n) → HasNames next (f.name ∷ a.earlier) →
    FreshOn rule next fs (k + 1)
fresh_one {rule = rule} {fs = fs} {k = k} f a l i g h = record {
  earlier = f.name ∷ a.earlier;
  has = h;
  onward = λ n. a.onward n ∙ (ap (λ x. no_repeats rule a.earlier (function_names (functions_of x)) n) (from_here fs k f l i) ∙ step _ _ (g n) refl);
}

pub fresh_fails : {S : Type 0} {rule : TypeRule} {seen : HashSet ℕ S} {fs : List CodeFunDec} {k : ℕ} (f : CodeFunDec) {e : Faulty TypeRule ℕ}
    (a : FreshOn rule seen fs k) → k < length fs → f ≡ get_or fs k f →
    ((n : Noted) → Fails e (keep rule f.name.span.from (not (stands_in f.name.name.0 a.earlier)) n)) → (n : Noted) →
    Fails e (no_repeats rule [] (function_names (functions_of fs)) n)
fresh_fails {rule = rule} {fs = fs} {k = k} f a l i g n =
    last_fails (a.onward n ∙ ap (λ x. no_repeats rule a.earlier (function_names (functions_of x)) n) (from_here fs k f l i)) (fails_first _ _ (g n))

pub fresh_all : {S : Type 0} {rule : TypeRule} {seen : HashSet ℕ S} {fs : List CodeFunDec} {k : ℕ} → FreshOn rule seen fs k → k ≡ length fs → (n : Noted) →
    no_repeats rule [] (function_names (functions_of fs)) n ≡ fine tt n
unfolding give
fresh_all {rule = rule} {fs = fs} {k = k} a e n = a.onward n ∙ ap (λ x. no_repeats rule a.earlier (function_names (functions_of x)) n) (none_left fs k e)

-- types of parameters: what is left, and what it makes of the whole
pub record TypesOn {S : Type 0} (names : List (List ℕ)) (s : CheckingState) (seen : HashSet ℕ S) (ps : List Param) (ts : List Ty) (k : ℕ) : Type 0 where
  pub earlier : List Ident
  pub has : HasNames seen earlier
  pub gives : (scope : Scope) (in_loop : Bool) → scope ≡ scope_of names s in_loop → (n : Noted) (more : List Ty) →
      param_types scope earlier (drop k ps) n ≡ fine more n → param_types scope [] ps n ≡ fine (ts ++ more) n
  pub fails : (scope : Scope) (in_loop : Bool) → scope ≡ scope_of names s in_loop → (n : Noted) (e : Faulty TypeRule ℕ) →
      Fails e (param_types scope earlier (drop k ps) n) → Fails e (param_types scope [] ps n)

pub types_none : {S : Type 0} {names : List (List ℕ)} {s : CheckingState} {seen : HashSet ℕ S} {ps : List Param} →
    HasNames seen [] → TypesOn names s seen ps [] 0
types_none h = record { earlier = []; has = h; gives = λ scope in_loop d n more e. e; fails = λ scope in_loop d n e f. f }

pub types_one : {S : Type 0} {names : List (List ℕ)} {s : CheckingState} {seen : HashSet ℕ S} {next : HashSet ℕ S}
    {ps : List Param} {ts : List Ty} {us : List Ty}
    {k : ℕ} (p : Param) (t : Ty) (a : TypesOn names s seen ps ts k) → k < length ps → p ≡ get_or ps k p →
    ((n : Noted) → keep T18 p.name.span.from (not (stands_in p.name.name.0 a.earlier)) n ≡ fine tt n) →
    ((scope : Scope) (in_loop : Bool) → scope ≡ scope_of names s in_loop → (n : Noted) → type_named p.kind scope n ≡ fine t n) →
    HasNames next (p.name ∷ a.earlier) → us ≡ ts ++ t ∷ [] → TypesOn names s next ps us (k + 1)
types_one {ps = ps} {ts = ts} {k = k} p t a l i g h has u = record {
  earlier = p.name ∷ a.earlier;
  has = has;
  gives = λ scope in_loop d n more e.
      a.gives scope in_loop d n (t ∷ more) (ap (λ x. param_types scope a.earlier x n) (from_here ps k p l i) ∙ step _ _ (g n)
      (step _ _ (h scope in_loop d n) (step _ _ e given))) ∙ ap (λ x. fine x n) (sym (append_assoc ts (t ∷ []) more) ∙ ap (λ x. x ++ more) (sym u));
  fails = λ scope in_loop d n e f.
      a.fails scope in_loop d n e (last_fails (ap (λ x. param_types scope a.earlier x n) (from_here ps k p l i))
      (fails_then _ _ (g n) (fails_then _ _ (h scope in_loop d n) (fails_first _ _ f))));
}

-- a name that is repeated, and a type that isn't known
pub types_repeat : {S : Type 0} {names : List (List ℕ)} {s : CheckingState} {seen : HashSet ℕ S} {ps : List Param}
    {ts : List Ty} {k : ℕ} (p : Param) {e : Faulty TypeRule ℕ}
    (a : TypesOn names s seen ps ts k) → k < length ps → p ≡ get_or ps k p →
    ((n : Noted) → Fails e (keep T18 p.name.span.from (not (stands_in p.name.name.0 a.earlier)) n)) → (scope : Scope) (in_loop : Bool) →
    scope ≡ scope_of names s in_loop → (n : Noted) → Fails e (param_types scope [] ps n)
types_repeat {ps = ps} {k = k} p a l i g scope in_loop d n =
    a.fails scope in_loop d n _ (last_fails (ap (λ x. param_types scope a.earlier x n) (from_here ps k p l i)) (fails_first _ _ (g n)))

pub types_unknown : {S : Type 0} {names : List (List ℕ)} {s : CheckingState} {seen : HashSet ℕ S} {ps : List Param}
    {ts : List Ty} {k : ℕ} (p : Param) {e : Faulty TypeRule ℕ}
    (a : TypesOn names s seen ps ts k) → k < length ps → p ≡ get_or ps k p →
    ((n : Noted) → keep T18 p.name.span.from (not (stands_in p.name.name.0 a.earlier)) n ≡ fine tt n) →
    ((scope : Scope) (in_loop : Bool) → scope ≡ scope_of names s in_loop → (n : Noted) → Fails e (type_named p.kind scope n)) →
    (scope : Scope) (in_loop : Bool) → scope ≡ scope_of names s in_loop → (n : Noted) → Fails e (param_types scope [] ps n)
types_unknown {ps = ps} {k = k} p a l i g h scope in_loop d n =
    a.fails scope in_loop d n _ (last_fails (ap (λ x. param_types scope a.earlier x n) (from_here ps k p l i))
    (fails_then _ _ (g n) (fails_first _ _ (h scope in_loop d n))))

pub types_all : {S : Type 0} {names : List (List ℕ)} {s : CheckingState} {seen : HashSet ℕ S} {ps : List Param} {ts : List Ty} {k : ℕ} →
    TypesOn names s seen ps ts k → k ≡ length ps → (scope : Scope) (in_loop : Bool) → scope ≡ scope_of names s in_loop → (n : Noted) →
    param_types scope [] ps n ≡ fine ts n
unfolding give
types_all {ps = ps} {ts = ts} {k = k} a e scope in_loop d n =
    a.gives scope in_loop d n [] (ap (λ x. param_types scope a.earlier x n) (none_left ps k e)) ∙ ap (λ x. fine x n) (append-nil ts)

pub kind_below : (n : ℕ) (ps : List Param) (k : ℕ) (p : Param) → ParamsWithin n ps → k < length ps → p ≡ get_or ps k p → NameIsWithin n p.kind
kind_below n [] k p h l i = absurd (omega (arith, l))
kind_below n (x ∷ ps) zero p h l i = subst (λ y. NameIsWithin n y.kind) (sym i) h.1
kind_below n (x ∷ ps) (suc k) p h l i = kind_below n ps k p h.2 (omega (arith, l)) i

-- a header, and those after it
after_result : {B C D : Type 0} (y : CheckResult B) (f : B → C) (g : C → Check D) → on_fine y (λ b. g (f b)) ≡ on_fine (on_fine y (λ b. give (f b))) g
unfolding give
after_result (fine b n) f g = refl
after_result (fault rule at) f g = refl

after_params : {A B C D : Type 0} (x : CheckResult A) (r : Check B) (f : A → B → C) (g : C → Check D) →
    on_fine x (λ a. r >>= λ b. g (f a b)) ≡ on_fine (on_fine x (λ a. r >>= λ b. give (f a b))) g
unfolding ◌>>=◌
after_params (fine a n) r f g = after_result (r n) (f a) g
after_params (fault rule at) r f g = refl

header_first : (f : Ident) (ps : List Param) (r : Option Ident) (body : Exp) (rest : FunDecs) (scope : Scope) (n : Noted) →
    headers (function f ps r body rest) scope n ≡ (header_of ps r scope >>= λ s. headers rest scope >>= λ more. give (s ∷ more)) n
unfolding ◌>>=◌
header_first f ps r body rest scope n =
    after_params (param_types scope [] ps n) (result_type scope r) (λ ts t. record { params = ts; result = t })
    (λ s. headers rest scope >>= λ more. give (s ∷ more))

-- headers: what is left, and what it makes of the whole
pub record HeadersOn (names : List (List ℕ)) (s : CheckingState) (fs : List CodeFunDec) (ss : List Signature) (k : ℕ) : Type 0 where
  pub count : k ≡ length ss
  pub gives : (scope : Scope) (in_loop : Bool) → scope ≡ scope_of names s in_loop → (n : Noted) (more : List Signature) →
      headers (functions_of (drop k fs)) scope n ≡ fine more n → headers (functions_of fs) scope n ≡ fine (ss ++ more) n
  pub fails : (scope : Scope) (in_loop : Bool) → scope ≡ scope_of names s in_loop → (n : Noted) (e : Faulty TypeRule ℕ) →
      Fails e (headers (functions_of (drop k fs)) scope n) → Fails e (headers (functions_of fs) scope n)

pub headers_none : {names : List (List ℕ)} {s : CheckingState} {fs : List CodeFunDec} → HeadersOn names s fs [] 0
headers_none = record { count = refl; gives = λ scope in_loop d n more e. e; fails = λ scope in_loop d n e f. f }

pub headers_one : {names : List (List ℕ)} {s : CheckingState} {fs : List CodeFunDec} {ss : List Signature} {us : List Signature} {k : ℕ} (f : CodeFunDec)
    (h : Signature) (a : HeadersOn names s fs ss k) → k < length fs → f ≡ get_or fs k f →
    ((scope : Scope) (in_loop : Bool) → scope ≡ scope_of names s in_loop → (n : Noted) → header_of f.params f.result scope n ≡ fine h n) → us ≡ ss ++ h ∷ [] →
    HeadersOn names s fs us (k + 1)
headers_one {fs = fs} {ss = ss} {k = k} f h a l i g u = record {
  count = omega (arith, a.count, ap length u, length-append ss (h ∷ []));
  gives = λ scope in_loop d n more e.
      a.gives scope in_loop d n (h ∷ more) (ap (λ x. headers (functions_of x) scope n) (from_here fs k f l i)
      ∙ (header_first f.name f.params f.result (plain f.body) (functions_of (drop (k + 1) fs)) scope n ∙ step _ _ (g scope in_loop d n)
      (step _ _ e given))) ∙ ap (λ x. fine x n) (sym (append_assoc ss (h ∷ []) more) ∙ ap (λ x. x ++ more) (sym u));
  fails = λ scope in_loop d n e b.
      a.fails scope in_loop d n e (last_fails (ap (λ x. headers (functions_of x) scope n) (from_here fs k f l i) ∙ header_first f.name f.params f.result
      (plain f.body) (functions_of (drop (k + 1) fs)) scope n) (fails_then _ _ (g scope in_loop d n) (fails_first _ _ b)));
}

pub headers_fail : {names : List (List ℕ)} {s : CheckingState} {fs : List CodeFunDec} {ss : List Signature} {k : ℕ} (f : CodeFunDec) {e : Faulty TypeRule ℕ}
    (a : HeadersOn names s fs ss k) → k < length fs → f ≡ get_or fs k f →
    ((scope : Scope) (in_loop : Bool) → scope ≡ scope_of names s in_loop → (n : Noted) → Fails e (header_of f.params f.result scope n)) →
    (scope : Scope) (in_loop : Bool) → scope ≡ scope_of names s in_loop → (n : Noted) → Fails e (headers (functions_of fs) scope n)
headers_fail {fs = fs} {k = k} f a l i g scope in_loop d n =
    a.fails scope in_loop d n _ (last_fails (ap (λ x. headers (functions_of x) scope n) (from_here fs k f l i) ∙ header_first f.name f.params f.result
    (plain f.body) (functions_of (drop (k + 1) fs)) scope n) (fails_first _ _ (g scope in_loop d n)))

pub headers_all : {names : List (List ℕ)} {s : CheckingState} {fs : List CodeFunDec} {ss : List Signature} {k : ℕ} → HeadersOn names s fs ss k → k ≡ length fs →
    (scope : Scope) (in_loop : Bool) → scope ≡ scope_of names s in_loop → (n : Noted) → headers (functions_of fs) scope n ≡ fine ss n
unfolding give
headers_all {fs = fs} {ss = ss} {k = k} a e scope in_loop d n =
    a.gives scope in_loop d n [] (ap (λ x. headers (functions_of x) scope n) (none_left fs k e)) ∙ ap (λ x. fine x n) (append-nil ss)

headers_within : (n : ℕ) (fs : List CodeFunDec) (k : ℕ) (f : CodeFunDec) → FunctionsWithin n (functions_of fs) → k < length fs → f ≡ get_or fs k f →
    ParamsWithin n f.params × KindWithin n f.result
headers_within n [] k f h l i = absurd (omega (arith, l))
headers_within n (x ∷ fs) zero f h l i = subst (λ y. ParamsWithin n y.params × KindWithin n y.result) (sym i) (h.1, h.2)
headers_within n (x ∷ fs) (suc k) f h l i = headers_within n fs k f h.4 (omega (arith, l)) i

pub header_within : (n : ℕ) (fs : CodeFunDecs) (k : ℕ) (f : CodeFunDec) → FunctionsWithin n (plain_functions fs) → k < length (out-FunDecs fs).items.items →
    f ≡ get_or (out-FunDecs fs).items.items k f → ParamsWithin n f.params × KindWithin n f.result
header_within n fs k f h l i = headers_within n (out-FunDecs fs).items.items k f (subst (λ x. FunctionsWithin n x) (plain_functions-items fs) h) l i
