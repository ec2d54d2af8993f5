-- Looking up names in a scope: first among those that are open, then among those that mean something outside.
use Rattle.std.specs.Prelude.{Option, Some, None, ◌==◌, if◌then◌else◌, slice_get}
use Rattle.std.specs.Option.{option_map}
use Rattle.std.proofs.Common.{◌≡◌, ℕ, zero, suc, ◌+◌, ◌<◌, List, [], ◌∷◌, ◌++◌, Bool, true, false, refl, sym, ap, ◌∙◌, subst, arith, eq-eqb}
use Rattle.tg_base.specs.declared.faulty.Faulty.{Faulty}
use Rattle.tg_base.specs.declared.faulty.Faulty.TheVariants.{Bad}
use Rattle.tg_syntax.specs.declared.tokens.Ident.{Ident}
use Rattle.tg_semantics.specs.declared.standards.Standard.{Standard}
use Rattle.tg_semantics.specs.Environments.{standards}
use Rattle.tg_typecheck.specs.declared.faults.TypeRule.{TypeRule}
use Rattle.tg_typecheck.specs.declared.faults.TypeRule.TheVariants.{T1, T2, T3, T4, T5}
use Rattle.tg_typecheck.specs.declared.notes.Means.TheVariants as means
use Rattle.tg_typecheck.specs.Types.{Ty}
use Rattle.tg_symbols.specs.Tables.{looked_up}
use Rattle.tg_typecheck.specs.Checks.{Noted, CheckResult, fine, fault, present, note, give, refuse}
use Rattle.tg_semantics.specs.Environments.{name_of}
use Rattle.tg_typecheck.specs.Scopes.{Scope, Binding, Signature, variable_at, function_at, standard_one, signature, bound, at_of, entry}
use Rattle.tg_typecheck.specs.Scopes.{standard_of, type_of_text, standard_bindings, standard_types}
use Rattle.tg_typecheck.specs.Groups.{type_named}
use Rattle.tg_typecheck.specs.Typing.{variable_of, function_of, is_loop_variable}
use Rattle.tg_typecheck.specs.glue.Bindings.{variable_in, function_in, IsDeclared}
use Rattle.tg_typecheck.specs.glue.States.{Fails, bad}
use Rattle.tg_typecheck.proofs.Steps.{step, given, fails_first}

front : {A : Type 0} (b : Bool) (v w : A) (o p : Option A) → (o ≡ Some w → p ≡ Some w) → (if b then Some v else o) ≡ Some w →
    (if b then Some v else p) ≡ Some w
front true v w o p f h = h
front false v w o p f h = f h

pub named_front : {A : Type 0} (x : ℕ) (a b : List (ℕ × A)) (w : A) → looked_up x a ≡ Some w → looked_up x (a ++ b) ≡ Some w
named_front x [] b w h = grind arith
named_front x (e ∷ a) b w h = front (e.0 == x) e.1 w (looked_up x a) (looked_up x (a ++ b)) (named_front x a b w) h

behind : {A : Type 0} (b : Bool) (v : A) (o p q : Option A) → (o ≡ None → p ≡ q) → (if b then Some v else o) ≡ None → (if b then Some v else p) ≡ q
behind true v o p q f h = grind arith
behind false v o p q f h = f h

pub named_behind : {A : Type 0} (x : ℕ) (a b : List (ℕ × A)) → looked_up x a ≡ None → looked_up x (a ++ b) ≡ looked_up x b
named_behind x [] b h = refl
named_behind x (e ∷ a) b h = behind (e.0 == x) e.1 (looked_up x a) (looked_up x (a ++ b)) (looked_up x b) (named_behind x a b) h

-- names outside
apart : (n x : ℕ) → x < n → (n == x) ≡ false
apart n x h = grind arith

later : (n x : ℕ) → n < x → (n == x) ≡ false
later n x h = grind arith

entry_there : {A B : Type 0} (f : A → B) (n x : ℕ) (o : Option A) (rest : List (ℕ × B)) → (n == x) ≡ false →
    looked_up x (entry f n o ++ rest) ≡ looked_up x rest
entry_there f n x None rest h = refl
entry_there f n x (Some a) rest h = ap (λ b. if b then Some (f a) else looked_up x rest) h

entry_here : {A B : Type 0} (f : A → B) (n x : ℕ) (o : Option A) (rest : List (ℕ × B)) → (n == x) ≡ true → looked_up x rest ≡ None →
    looked_up x (entry f n o ++ rest) ≡ option_map f o
entry_here f n x None rest h d = d
entry_here f n x (Some a) rest h d = ap (λ b. if b then Some (f a) else looked_up x rest) h

no_binding : (n x : ℕ) (names : List (List ℕ)) → x < n → looked_up x (standard_bindings n names) ≡ None
no_binding n x [] h = refl
no_binding n x (t ∷ names) h =
    entry_there standard_one n x (standard_of t standards) (standard_bindings (suc n) names) (apart n x h) ∙ no_binding (suc n) x names (omega (arith, h))

no_type : (n x : ℕ) (names : List (List ℕ)) → x < n → looked_up x (standard_types n names) ≡ None
no_type n x [] h = refl
no_type n x (t ∷ names) h =
    entry_there (λ t. t) n x (type_of_text t) (standard_types (suc n) names) (apart n x h) ∙ no_type (suc n) x names (omega (arith, h))

binding_from : (n k x : ℕ) (names : List (List ℕ)) (text : List ℕ) → x ≡ n + k → slice_get names k ≡ Some text →
    looked_up x (standard_bindings n names) ≡ option_map standard_one (standard_of text standards)
binding_from n k x [] text e h = grind arith
binding_from n zero x (t ∷ names) text e h =
    entry_here standard_one n x (standard_of t standards) (standard_bindings (suc n) names) (eq-eqb n x (omega (arith, e)))
    (no_binding (suc n) x names (omega (arith, e))) ∙ ap (λ o. option_map standard_one (elim o [ Some t ↦ standard_of t standards | None ↦ None ])) h
binding_from n (suc k) x (t ∷ names) text e h =
    entry_there standard_one n x (standard_of t standards) (standard_bindings (suc n) names) (later n x (omega (arith, e))) ∙ binding_from
    (suc n) k x names text (omega (arith, e)) h

type_from : (n k x : ℕ) (names : List (List ℕ)) (text : List ℕ) → x ≡ n + k → slice_get names k ≡ Some text →
    looked_up x (standard_types n names) ≡ option_map (λ t. t) (type_of_text text)
type_from n k x [] text e h = grind arith
type_from n zero x (t ∷ names) text e h =
    entry_here (λ t. t) n x (type_of_text t) (standard_types (suc n) names) (eq-eqb n x (omega (arith, e))) (no_type (suc n) x names (omega (arith, e))) ∙ ap
    (λ o. option_map (λ t. t) (elim o [ Some t ↦ type_of_text t | None ↦ None ])) h
type_from n (suc k) x (t ∷ names) text e h =
    entry_there (λ t. t) n x (type_of_text t) (standard_types (suc n) names) (later n x (omega (arith, e))) ∙ type_from (suc n) k x names text
    (omega (arith, e)) h

same_option : {A : Type 0} (o : Option A) → option_map (λ a. a) o ≡ o
same_option None = refl
same_option (Some a) = refl

pub binding_outside : (x : ℕ) (names : List (List ℕ)) (text : List ℕ) → slice_get names x ≡ Some text →
    looked_up x (standard_bindings 0 names) ≡ option_map standard_one (standard_of text standards)
binding_outside x names text h = binding_from 0 x x names text (omega arith) h

pub type_outside : (x : ℕ) (names : List (List ℕ)) (text : List ℕ) → slice_get names x ≡ Some text → looked_up x (standard_types 0 names) ≡ type_of_text text
type_outside x names text h = type_from 0 x x names text (omega arith) h ∙ same_option (type_of_text text)

-- types by their names
pub type_is : (x : Ident) (scope : Scope) {types : List (ℕ × Ty)} {t : Ty} {n : Noted} → scope.types ≡ types → Some t ≡ looked_up (name_of x) types →
    type_named x scope n ≡ fine t n
unfolding give
type_is x _ {n = n} h e = ap (λ ts. present T3 (at_of x) (looked_up (name_of x) ts) n) h ∙ ap (λ o. present T3 (at_of x) o n) (sym e)

pub type_unknown : (x : Ident) (scope : Scope) {types : List (ℕ × Ty)} (n : Noted) → scope.types ≡ types → None ≡ looked_up (name_of x) types →
    type_named x scope n ≡ fault T3 (at_of x)
unfolding refuse
type_unknown x _ n h e = ap (λ ts. present T3 (at_of x) (looked_up (name_of x) ts) n) h ∙ ap (λ o. present T3 (at_of x) o n) (sym e)

pub bad_is : {A : Type 0} {rule : TypeRule} {at : ℕ} {e : Faulty TypeRule ℕ} {c : CheckResult A} → e ≡ Bad rule at → c ≡ fault rule at → Fails e c
bad_is {c = c} h d = subst (λ e. Fails e c) (sym h) (bad d)

-- bindings by their names
pub bound_open : (x : Ident) (scope : Scope) (bindings : List (ℕ × Binding)) (outer : List (ℕ × Binding)) {b : Binding} → scope.bindings ≡ bindings ++ outer →
    Some b ≡ looked_up (name_of x) bindings → bound x scope ≡ Some b
bound_open x _ _ _ h e = ap (λ bs. looked_up (name_of x) bs) h ∙ named_front (name_of x) _ _ _ (sym e)

pub bound_outside : (x : Ident) (scope : Scope) (bindings : List (ℕ × Binding)) (names : List (List ℕ)) {text : List ℕ} {o : Option Standard} →
    scope.bindings ≡ bindings ++ standard_bindings 0 names → None ≡ looked_up (name_of x) bindings → slice_get names (name_of x) ≡ Some text →
    o ≡ standard_of text standards → bound x scope ≡ option_map standard_one o
bound_outside x _ _ names {text = text} h e g d =
    ap (λ bs. looked_up (name_of x) bs) h ∙ (named_behind (name_of x) _ _ (sym e)
    ∙ (binding_outside (name_of x) names text g ∙ ap (λ o. option_map standard_one o) (sym d)))

inside : {A : Type 0} → A → Option A → A
inside a (Some b) = b
inside a None = a

variable_case : (x : Ident) (b : Binding) {at : ℕ} {t : Ty} (n : Noted) {n' : Noted} → Some (at, t) ≡ variable_in b →
    note (at_of x) (means.Variable at) n ≡ fine tt n' → variable_of x (Some b) n ≡ fine t n'
unfolding inside
variable_case x (variable_at a u loop) {at} {t} n {n'} e d =
    let p : (at, t) ≡ (a, u) = ap (λ o. inside (at, t) o) e in
    subst (λ q. variable_of x (Some (variable_at q.0 q.1 loop)) n ≡ fine t n') p (step _ _ d given)
variable_case x (function_at a s) _ e d = grind arith
variable_case x (standard_one f) _ e d = grind arith

pub variable_found : (x : Ident) {o : Option Binding} {b : Binding} {at : ℕ} {t : Ty} (n : Noted) {n' : Noted} → o ≡ Some b → Some (at, t) ≡ variable_in b →
    note (at_of x) (means.Variable at) n ≡ fine tt n' → variable_of x o n ≡ fine t n'
variable_found x {b = b} n h e d = ap (λ o. variable_of x o n) h ∙ variable_case x b _ e d

variable_case_fails : (x : Ident) (b : Binding) {at : ℕ} {t : Ty} (n : Noted) {e : Faulty TypeRule ℕ} → Some (at, t) ≡ variable_in b →
    Fails e (note (at_of x) (means.Variable at) n) → Fails e (variable_of x (Some b) n)
unfolding inside
variable_case_fails x (variable_at a u loop) {at} {t} n {e} i d =
    let p : (at, t) ≡ (a, u) = ap (λ o. inside (at, t) o) i in
    subst (λ q. Fails e (variable_of x (Some (variable_at q.0 q.1 loop)) n)) p (fails_first _ _ d)
variable_case_fails x (function_at a s) _ i d = grind arith
variable_case_fails x (standard_one f) _ i d = grind arith

pub variable_fails : (x : Ident) {o : Option Binding} {b : Binding} {at : ℕ} {t : Ty} (n : Noted) {e : Faulty TypeRule ℕ} → o ≡ Some b →
    Some (at, t) ≡ variable_in b → Fails e (note (at_of x) (means.Variable at) n) → Fails e (variable_of x o n)
variable_fails x {b = b} n {e = e} h i d = subst (λ o. Fails e (variable_of x o n)) (sym h) (variable_case_fails x b _ i d)

not_variable : (x : Ident) (b : Binding) (n : Noted) → None ≡ variable_in b → variable_of x (Some b) n ≡ fault T4 (at_of x)
unfolding refuse
not_variable x (variable_at a u loop) _ i = grind arith
not_variable x (function_at a s) _ i = refl
not_variable x (standard_one f) _ i = refl

pub variable_not : (x : Ident) {o : Option Binding} {b : Binding} (n : Noted) → o ≡ Some b → None ≡ variable_in b → variable_of x o n ≡ fault T4 (at_of x)
variable_not x {b = b} n h i = ap (λ o. variable_of x o n) h ∙ not_variable x b _ i

pub variable_standard : (x : Ident) {o : Option Binding} {f : Standard} (n : Noted) → o ≡ Some (standard_one f) → variable_of x o n ≡ fault T4 (at_of x)
unfolding refuse
variable_standard x n h = ap (λ o. variable_of x o n) h

pub variable_unknown : (x : Ident) {o : Option Binding} (n : Noted) → o ≡ None → variable_of x o n ≡ fault T1 (at_of x)
unfolding refuse
variable_unknown x n h = ap (λ o. variable_of x o n) h

-- functions
function_case : (f : Ident) (b : Binding) {at : ℕ} {s : Signature} (n : Noted) {n' : Noted} → Some (at, s) ≡ function_in b →
    note (at_of f) (means.Function at) n ≡ fine tt n' → function_of f (Some b) n ≡ fine s n'
unfolding inside
function_case f (function_at a u) {at} {s} n {n'} e d =
    let p : (at, s) ≡ (a, u) = ap (λ o. inside (at, s) o) e in
    subst (λ q. function_of f (Some (function_at q.0 q.1)) n ≡ fine s n') p (step _ _ d given)
function_case f (variable_at a t loop) _ e d = grind arith
function_case f (standard_one g) _ e d = grind arith

pub function_found : (f : Ident) {o : Option Binding} {b : Binding} {at : ℕ} {s : Signature} (n : Noted) {n' : Noted} → o ≡ Some b →
    Some (at, s) ≡ function_in b → note (at_of f) (means.Function at) n ≡ fine tt n' → function_of f o n ≡ fine s n'
function_found f {b = b} n h e d = ap (λ o. function_of f o n) h ∙ function_case f b _ e d

function_case_fails : (f : Ident) (b : Binding) {at : ℕ} {s : Signature} (n : Noted) {e : Faulty TypeRule ℕ} → Some (at, s) ≡ function_in b →
    Fails e (note (at_of f) (means.Function at) n) → Fails e (function_of f (Some b) n)
unfolding inside
function_case_fails f (function_at a u) {at} {s} n {e} i d =
    let p : (at, s) ≡ (a, u) = ap (λ o. inside (at, s) o) i in
    subst (λ q. Fails e (function_of f (Some (function_at q.0 q.1)) n)) p (fails_first _ _ d)
function_case_fails f (variable_at a t loop) _ i d = grind arith
function_case_fails f (standard_one g) _ i d = grind arith

pub function_fails : (f : Ident) {o : Option Binding} {b : Binding} {at : ℕ} {s : Signature} (n : Noted) {e : Faulty TypeRule ℕ} → o ≡ Some b →
    Some (at, s) ≡ function_in b → Fails e (note (at_of f) (means.Function at) n) → Fails e (function_of f o n)
function_fails f {b = b} n {e = e} h i d = subst (λ o. Fails e (function_of f o n)) (sym h) (function_case_fails f b _ i d)

not_function : (f : Ident) (b : Binding) (n : Noted) → None ≡ function_in b → IsDeclared b → function_of f (Some b) n ≡ fault T5 (at_of f)
unfolding refuse
not_function f (variable_at a u loop) _ i d = refl
not_function f (function_at a t) _ i d = grind arith
not_function f (standard_one g) _ i d = absurd d

pub function_not : (f : Ident) {o : Option Binding} {b : Binding} (n : Noted) → o ≡ Some b → None ≡ function_in b → IsDeclared b →
    function_of f o n ≡ fault T5 (at_of f)
function_not f {b = b} n h i d = ap (λ o. function_of f o n) h ∙ not_function f b _ i d

pub standard_found : (f : Ident) {o : Option Binding} {g : Standard} (n : Noted) {n' : Noted} → o ≡ Some (standard_one g) →
    note (at_of f) (means.Standard g) n ≡ fine tt n' → function_of f o n ≡ fine (signature g) n'
standard_found f n h d = ap (λ o. function_of f o n) h ∙ step _ _ d given

pub standard_fails : (f : Ident) {o : Option Binding} {g : Standard} (n : Noted) {e : Faulty TypeRule ℕ} → o ≡ Some (standard_one g) →
    Fails e (note (at_of f) (means.Standard g) n) → Fails e (function_of f o n)
standard_fails f n {e = e} h d = subst (λ o. Fails e (function_of f o n)) (sym h) (fails_first _ _ d)

pub function_unknown : (f : Ident) {o : Option Binding} (n : Noted) → o ≡ None → function_of f o n ≡ fault T2 (at_of f)
unfolding refuse
function_unknown f n h = ap (λ o. function_of f o n) h

pub loop_open : {o : Option Binding} {b : Binding} → o ≡ Some b → is_loop_variable (Some b) ≡ is_loop_variable o
loop_open h = ap (λ o. is_loop_variable o) (sym h)

pub loop_outside : {o : Option Binding} (f : Option Standard) → o ≡ option_map standard_one f → false ≡ is_loop_variable o
loop_outside None h = ap (λ o. is_loop_variable o) (sym h)
loop_outside (Some g) h = ap (λ o. is_loop_variable o) (sym h)
