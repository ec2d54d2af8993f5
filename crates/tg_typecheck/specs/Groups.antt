-- Consecutive type declarations, and the headers of consecutive function declarations.
use Rattle.std.specs.Prelude.{ℕ, zero, suc, ◌==◌, ◌||◌, List, [], ◌∷◌, length, map, Option, Some}
use Rattle.std.specs.Prelude.{None, Bool, true, false, not, if◌then◌else◌}
use Rattle.tg_syntax.specs.declared.tokens.Ident.{Ident}
use Rattle.tg_syntax.specs.declared.trees.Param.{Param}
use Rattle.tg_syntax.specs.Tree.{Form, Alias, Fields, Array, TypeDec, FunDecs, no_functions}
use Rattle.tg_syntax.specs.Tree.{function}
use Rattle.tg_typecheck.specs.declared.faults.TypeRule.{TypeRule}
use Rattle.tg_typecheck.specs.declared.faults.TypeRule.TheVariants.{T3, T16, T18, T19}
use Rattle.tg_typecheck.specs.Types.{Ty, none_type, record_type, array_type, record_shape}
use Rattle.tg_typecheck.specs.Types.{array_shape}
use Rattle.tg_symbols.specs.Tables.{looked_up}
use Rattle.tg_typecheck.specs.Checks.{Check, give, keep, present, add_shape, ◌>>=◌, ◌>>◌}
use Rattle.tg_semantics.specs.Environments.{name_of}
use Rattle.tg_typecheck.specs.Scopes.{Signature, variable_at, function_at, Scope, at_of}
use Rattle.tg_typecheck.specs.Scopes.{binding}

abbrev pub stands_in : ℕ → List Ident → Bool
stands_in x [] = false
stands_in x (y ∷ ys) = (name_of y == x) || stands_in x ys

-- a fault at the first name that repeats an earlier one
abbrev pub no_repeats : TypeRule → (earlier names : List Ident) → Check (Unit {0})
no_repeats rule earlier [] = give tt
no_repeats rule earlier (x ∷ xs) =
    keep rule (at_of x) (not (stands_in (name_of x) earlier)) >> no_repeats rule (x ∷ earlier) xs

abbrev pub type_named : Ident → Scope → Check Ty
type_named x scope = present T3 (at_of x) (looked_up (name_of x) scope.types)

-- ---- type declarations

abbrev pub names_of : List TypeDec → List Ident
names_of [] = []
names_of (d ∷ ds) = d.name ∷ names_of ds

abbrev pub declared_as : ℕ → List TypeDec → Option TypeDec
declared_as x [] = None
declared_as x (d ∷ ds) = if name_of d.name == x then Some d else declared_as x ds

abbrev pub is_some : {A : Type 0} → Option A → Bool
is_some (Some a) = true
is_some None = false

-- a name of the group, or one that is known outside
abbrev pub known_name : List TypeDec → Scope → Ident → Check (Unit {0})
known_name ds scope x =
    keep T3 (at_of x)
    (stands_in (name_of x) (names_of ds) || is_some (looked_up (name_of x) scope.types))

abbrev pub known_fields : List TypeDec → Scope → (earlier : List Ident) → List Param →
    Check (Unit {0})
known_fields ds scope earlier [] = give tt
known_fields ds scope earlier (p ∷ ps) = do
  keep T18 (at_of p.name) (not (stands_in (name_of p.name) earlier))
  known_name ds scope p.kind
  known_fields ds scope (p.name ∷ earlier) ps

abbrev pub known_form : List TypeDec → Scope → Form → Check (Unit {0})
known_form ds scope (Alias x) = known_name ds scope x
known_form ds scope (Fields ps) = known_fields ds scope [] ps
known_form ds scope (Array x) = known_name ds scope x

abbrev pub known_forms : (group ds : List TypeDec) → Scope → Check (Unit {0})
known_forms group [] scope = give tt
known_forms group (d ∷ ds) scope = known_form group scope d.form >> known_forms group ds scope

-- where a chain of aliases leaves the group, or the form at which it ends; one that is longer than
-- the group never ends
pub data Chain : Type 0 where
  outside : (name : ℕ) → Chain
  ends_at : TypeDec → Chain
  endless : Chain

abbrev pub link : (ℕ → Chain) → ℕ → Option TypeDec → Chain
link onward x None = outside x
link onward x (Some d) =
    elim d.form [ Alias y ↦ onward (name_of y) | Fields _ ↦ ends_at d | Array _ ↦ ends_at d ]

abbrev pub chain : (links : ℕ) → List TypeDec → ℕ → Chain
chain zero ds x = endless
chain (suc n) ds x = link (λ y. chain n ds y) x (declared_as x ds)

abbrev pub chain_of : List TypeDec → Ident → Chain
chain_of ds x = chain (suc (length ds)) ds (name_of x)

abbrev pub has_end : Chain → Bool
has_end endless = false
has_end _ = true

abbrev pub chains_end : (group ds : List TypeDec) → Check (Unit {0})
chains_end group [] = give tt
chains_end group (d ∷ ds) =
    keep T19 (at_of d.name) (has_end (chain_of group d.name)) >> chains_end group ds

-- the type of a name that is known
abbrev pub or_none : Option Ty → Ty
or_none (Some t) = t
or_none None = none_type

abbrev pub type_declared : TypeDec → Ty
type_declared d =
    elim d.form [
      | Alias _ ↦ none_type
      | Fields _ ↦ record_type (at_of d.name)
      | Array _ ↦ array_type (at_of d.name)
    ]

abbrev pub type_at_end : Chain → Scope → Ty
type_at_end (outside x) scope = or_none (looked_up x scope.types)
type_at_end (ends_at d) scope = type_declared d
type_at_end endless scope = none_type

abbrev pub with_group : (group ds : List TypeDec) → (outer inner : Scope) → Scope
with_group group [] outer inner = inner
with_group group (d ∷ ds) outer s =
    with_group group ds outer
    (record s { types = (name_of d.name, type_at_end (chain_of group d.name) outer) ∷ s.types })

abbrev pub known_type : Scope → Ident → Ty
known_type scope x = or_none (looked_up (name_of x) scope.types)

abbrev pub add_form : Scope → (at : ℕ) → Form → Check (Unit {0})
add_form scope at (Alias x) = give tt
add_form scope at (Fields ps) =
    add_shape at (record_shape (map (λ p. (name_of p.name, known_type scope p.kind)) ps))
add_form scope at (Array x) = add_shape at (array_shape (known_type scope x))

abbrev pub add_forms : Scope → List TypeDec → Check (Unit {0})
add_forms scope [] = give tt
add_forms scope (d ∷ ds) = add_form scope (at_of d.name) d.form >> add_forms scope ds

abbrev pub declare_types : List TypeDec → Scope → Check Scope
declare_types ds scope = do
  no_repeats T16 [] (names_of ds)
  known_forms ds ds scope
  chains_end ds ds
  let inner = with_group ds ds scope scope
  add_forms inner ds
  give inner

-- ---- headers of functions

abbrev pub function_names : FunDecs → List Ident
function_names no_functions = []
function_names (function f _ _ _ rest) = f ∷ function_names rest

abbrev pub param_types : Scope → (earlier : List Ident) → List Param → Check (List Ty)
param_types scope earlier [] = give []
param_types scope earlier (p ∷ ps) = do
  keep T18 (at_of p.name) (not (stands_in (name_of p.name) earlier))
  t ← type_named p.kind scope
  ts ← param_types scope (p.name ∷ earlier) ps
  give (t ∷ ts)

abbrev pub result_type : Scope → Option Ident → Check Ty
result_type scope None = give none_type
result_type scope (Some x) = type_named x scope

abbrev pub headers : FunDecs → Scope → Check (List Signature)
headers no_functions scope = give []
headers (function f ps r body rest) scope = do
  ts ← param_types scope [] ps
  t ← result_type scope r
  more ← headers rest scope
  give (record { params = ts; result = t } ∷ more)

abbrev pub with_functions : FunDecs → List Signature → Scope → Scope
with_functions (function f _ _ _ rest) (s ∷ more) scope =
    with_functions rest more (binding f (function_at (at_of f) s) scope)
with_functions _ _ scope = scope

abbrev pub with_params : List Param → List Ty → Scope → Scope
with_params (p ∷ ps) (t ∷ ts) scope =
    with_params ps ts (binding p.name (variable_at (at_of p.name) t false) scope)
with_params _ _ scope = scope
