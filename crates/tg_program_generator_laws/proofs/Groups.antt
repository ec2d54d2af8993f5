-- Groups of functions with one more at their end: their names, headers, bodies and scopes.
use Rattle.std.proofs.Common.{ℕ, ◌≡◌, ◌≤◌, ◌<◌, List, [], ◌∷◌, ◌++◌, Bool, false, refl, sym, ap, subst, arith}
use Rattle.std.specs.Prelude.{Option, ◌==◌, not}
use Rattle.std.proofs.lemmas.Bool.{or_from}
use Rattle.std.proofs.lemmas.Bool.Decides.{nat_tests}
use Rattle.tg_syntax.specs.declared.tokens.Ident.{Ident}
use Rattle.tg_syntax.specs.declared.trees.Param.{Param}
use Rattle.tg_syntax.specs.Groups.{snoc_function}
use Rattle.tg_syntax.specs.Tree.{Exp, FunDecs, no_functions, function}
use Rattle.tg_typecheck.specs.declared.faults.TypeRule.{TypeRule}
use Rattle.tg_typecheck.specs.Checks.{keep}
use Rattle.tg_semantics.specs.Environments.{name_of}
use Rattle.tg_typecheck.specs.Scopes.{Signature, Scope, function_at, at_of, binding}
use Rattle.tg_typecheck.specs.Groups.{stands_in, no_repeats, function_names, param_types, result_type, headers, with_functions, with_params}
use Rattle.tg_typecheck.specs.Typing.{typed, bodies, body_fits, start_of}
use Rattle.tg_program_generator_laws.proofs.Bodies.{Gives, ok, and_then}

-- names whose numbers rise from a number to another
abbrev pub Rise : (low : ℕ) → List Ident → (high : ℕ) → Type 0
Rise low [] high = low ≤ high
Rise low (x ∷ xs) high = (low < name_of x) × Rise (name_of x) xs high

pub rise_more : (low : ℕ) (xs : List Ident) (high : ℕ) (y : Ident) → Rise low xs high → high < name_of y → Rise low (xs ++ y ∷ []) (name_of y)
rise_more low [] high y h l = (omega arith, omega arith)
rise_more low (x ∷ xs) high y h l = (h.0, rise_more (name_of x) xs high y h.1 l)

-- at most a number
abbrev Below : List Ident → (high : ℕ) → Type 0
Below [] high = Unit {0}
Below (x ∷ xs) high = (name_of x ≤ high) × Below xs high

below_higher : (xs : List Ident) (low high : ℕ) → low ≤ high → Below xs low → Below xs high
below_higher [] low high l h = tt
below_higher (x ∷ xs) low high l h = (omega (arith, h.0), below_higher xs low high l h.1)

lower_apart : (m n : ℕ) → m < n → (m == n) ≡ false
lower_apart m n h = grind (arith, nat_tests)

stands_not : (n : ℕ) (xs : List Ident) (high : ℕ) → Below xs high → high < n → stands_in n xs ≡ false
stands_not n [] high h l = refl
stands_not n (x ∷ xs) high h l =
    or_from (name_of x == n) (stands_in n xs) (lower_apart (name_of x) n (omega (arith, h.0))) (stands_not n xs high h.1 l)

kept : (rule : TypeRule) (at : ℕ) (b : Bool) → b ≡ false → Gives (keep rule at (not b)) tt
kept rule at b e = subst (λ b. Gives (keep rule at (not b)) tt) (sym e) ok

pub no_repeats_give : (rule : TypeRule) (earlier xs : List Ident) (low high : ℕ) → Below earlier low → Rise low xs high →
    Gives (no_repeats rule earlier xs) tt
no_repeats_give rule earlier [] low high b h = ok
no_repeats_give rule earlier (x ∷ xs) low high b h =
    and_then _ (kept rule (at_of x) (stands_in (name_of x) earlier) (stands_not (name_of x) earlier low b h.0))
    (no_repeats_give rule (x ∷ earlier) xs (name_of x) high (omega arith, below_higher earlier low (name_of x) (omega (arith, h.0)) b) h.1)

pub names_more : (fs : FunDecs) (f : Ident) (ps : List Param) (r : Option Ident) (body : Exp) →
    function_names (snoc_function fs f ps r body) ≡ function_names fs ++ f ∷ []
names_more no_functions f ps r body = refl
names_more (function g qs t e rest) f ps r body = ap (λ xs. g ∷ xs) (names_more rest f ps r body)

-- each function has its signature by its header
abbrev pub Headed : FunDecs → List Signature → Scope → Type 0
Headed no_functions [] scope = Unit {0}
Headed (function f ps r body rest) (s ∷ ss) scope =
    Gives (param_types scope [] ps) s.params × Gives (result_type scope r) s.result × Headed rest ss scope
Headed _ _ scope = ⊥

pub headed_more : (fs : FunDecs) (ss : List Signature) (scope : Scope) (f : Ident) (ps : List Param) (r : Option Ident) (body : Exp) (s : Signature) →
    Headed fs ss scope → Gives (param_types scope [] ps) s.params → Gives (result_type scope r) s.result →
    Headed (snoc_function fs f ps r body) (ss ++ s ∷ []) scope
headed_more no_functions [] scope f ps r body s h p t = (p, t, tt)
headed_more no_functions (x ∷ ss) scope f ps r body s h p t = absurd h
headed_more (function g qs k e rest) [] scope f ps r body s h p t = absurd h
headed_more (function g qs k e rest) (x ∷ ss) scope f ps r body s h p t = (h.0, h.1, headed_more rest ss scope f ps r body s h.2 p t)

pub headers_give : (fs : FunDecs) (ss : List Signature) (scope : Scope) → Headed fs ss scope → Gives (headers fs scope) ss
headers_give no_functions [] scope h = ok
headers_give no_functions (x ∷ ss) scope h = absurd h
headers_give (function g qs k e rest) [] scope h = absurd h
headers_give (function g qs k e rest) (x ∷ ss) scope h = and_then _ h.0 (and_then _ h.1 (and_then _ (headers_give rest ss scope h.2) ok))

-- each body fits its signature
abbrev pub Bodied : FunDecs → List Signature → Scope → Type 0
Bodied no_functions [] scope = Unit {0}
Bodied (function f ps r body rest) (s ∷ ss) scope =
    Gives (typed body (with_params ps s.params scope)) s.result × Gives (body_fits r s.result s.result (start_of body)) tt × Bodied rest ss scope
Bodied _ _ scope = ⊥

pub bodied_more : (fs : FunDecs) (ss : List Signature) (scope : Scope) (f : Ident) (ps : List Param) (r : Option Ident) (body : Exp) (s : Signature) →
    Bodied fs ss scope → Gives (typed body (with_params ps s.params scope)) s.result → Gives (body_fits r s.result s.result (start_of body)) tt →
    Bodied (snoc_function fs f ps r body) (ss ++ s ∷ []) scope
bodied_more no_functions [] scope f ps r body s h b t = (b, t, tt)
bodied_more no_functions (x ∷ ss) scope f ps r body s h b t = absurd h
bodied_more (function g qs k e rest) [] scope f ps r body s h b t = absurd h
bodied_more (function g qs k e rest) (x ∷ ss) scope f ps r body s h b t = (h.0, h.1, bodied_more rest ss scope f ps r body s h.2 b t)

pub bodies_give : (fs : FunDecs) (ss : List Signature) (scope : Scope) → Bodied fs ss scope → Gives (bodies fs ss scope) tt
bodies_give no_functions [] scope h = ok
bodies_give no_functions (x ∷ ss) scope h = absurd h
bodies_give (function g qs k e rest) [] scope h = absurd h
bodies_give (function g qs k e rest) (x ∷ ss) scope h = and_then _ h.0 (and_then _ h.1 (bodies_give rest ss scope h.2))

-- the scope after a group, whose last function is found first
pub scope_more : (fs : FunDecs) (ss : List Signature) (outer scope : Scope) (f : Ident) (ps : List Param) (r : Option Ident) (body : Exp) (s : Signature) →
    Headed fs ss outer →
    with_functions (snoc_function fs f ps r body) (ss ++ s ∷ []) scope ≡ binding f (function_at (at_of f) s) (with_functions fs ss scope)
scope_more no_functions [] outer scope f ps r body s h = refl
scope_more no_functions (x ∷ ss) outer scope f ps r body s h = absurd h
scope_more (function g qs k e rest) [] outer scope f ps r body s h = absurd h
scope_more (function g qs k e rest) (x ∷ ss) outer scope f ps r body s h =
    scope_more rest ss outer (binding g (function_at (at_of g) x) scope) f ps r body s h.2
