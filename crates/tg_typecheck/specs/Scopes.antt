-- What a place of the text sees. Types have one name space; variables and functions share the
-- other. An inner declaration hides an outer one.
use Rattle.std.specs.Prelude.{ℕ, suc, List, [], ◌∷◌, ◌++◌, Option, Some, None, Bool, true, false}
use Rattle.std.specs.Prelude.{if◌then◌else◌, codes}
use Rattle.std.specs.Str.{bytes_eq}
use Rattle.tg_syntax.specs.declared.tokens.Ident.{Ident}
use Rattle.tg_semantics.specs.declared.standards.Standard.{Standard}
use Rattle.tg_semantics.specs.declared.standards.Standard.TheVariants.{Print, Flush, Getchar, Ord}
use Rattle.tg_semantics.specs.declared.standards.Standard.TheVariants.{Chr, Size, Substring, Concat}
use Rattle.tg_semantics.specs.declared.standards.Standard.TheVariants.{Not, Exit}
use Rattle.tg_semantics.specs.Environments.{name_of, standard_text, standards}
use Rattle.tg_typecheck.specs.Types.{Ty, int_type, string_type, none_type}
use Rattle.tg_symbols.specs.Tables.{looked_up}

pub record Signature : Type 0 where
  pub params : List Ty
  pub result : Ty

-- a name's declaration: a variable with its type, which may be a loop's, or a function, each with
-- the byte of its declaring identifier; or a standard function
pub data Binding : Type 0 where
  variable_at : (at : ℕ) → Ty → (loop : Bool) → Binding
  function_at : (at : ℕ) → Signature → Binding
  standard_one : Standard → Binding

-- names with their bindings, and type names with their types, the innermost first; whether a loop
-- of the same function is open
pub record Scope : Type 0 where
  pub bindings : List (ℕ × Binding)
  pub types : List (ℕ × Ty)
  pub in_loop : Bool

abbrev pub at_of : Ident → ℕ
at_of x = x.span.from

abbrev pub bound : Ident → Scope → Option Binding
bound x scope = looked_up (name_of x) scope.bindings

abbrev pub binding : Ident → Binding → Scope → Scope
binding x b scope = record scope { bindings = (name_of x, b) ∷ scope.bindings }

abbrev pub in_a_loop : Scope → Scope
in_a_loop scope = record scope { in_loop = true }

abbrev pub in_no_loop : Scope → Scope
in_no_loop scope = record scope { in_loop = false }

-- the standard functions (Appel, appendix A.4)
abbrev pub signature : Standard → Signature
signature Print = record { params = string_type ∷ []; result = none_type }
signature Flush = record { params = []; result = none_type }
signature Getchar = record { params = []; result = string_type }
signature Ord = record { params = string_type ∷ []; result = int_type }
signature Chr = record { params = int_type ∷ []; result = string_type }
signature Size = record { params = string_type ∷ []; result = int_type }
signature Substring =
    record { params = string_type ∷ int_type ∷ int_type ∷ []; result = string_type }
signature Concat = record { params = string_type ∷ string_type ∷ []; result = string_type }
signature Not = record { params = int_type ∷ []; result = int_type }
signature Exit = record { params = int_type ∷ []; result = none_type }

-- the outermost scope: those of the names that mean something there, by their places in the list of
-- names
abbrev pub standard_of : List ℕ → List Standard → Option Standard
standard_of text [] = None
standard_of text (f ∷ rest) =
    if bytes_eq text (standard_text f) then Some f else standard_of text rest

abbrev pub type_of_text : List ℕ → Option Ty
type_of_text text =
    if bytes_eq text (codes "int") then Some int_type else
    if bytes_eq text (codes "string") then Some string_type else None

abbrev pub entry : {A B : Type 0} → (A → B) → ℕ → Option A → List (ℕ × B)
entry f n None = []
entry f n (Some a) = (n, f a) ∷ []

abbrev pub standard_bindings : ℕ → List (List ℕ) → List (ℕ × Binding)
standard_bindings n [] = []
standard_bindings n (text ∷ names) =
    entry standard_one n (standard_of text standards) ++ standard_bindings (suc n) names

abbrev pub standard_types : ℕ → List (List ℕ) → List (ℕ × Ty)
standard_types n [] = []
standard_types n (text ∷ names) =
    entry (λ t. t) n (type_of_text text) ++ standard_types (suc n) names

abbrev pub outermost_scope : List (List ℕ) → Scope
outermost_scope names =
    record { bindings = standard_bindings 0 names; types = standard_types 0 names; in_loop = false }
