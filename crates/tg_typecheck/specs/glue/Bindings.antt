-- The code's bindings as those of the definition.
use Rattle.std.specs.Prelude.{ℕ, Option, Some, None}
use Rattle.tg_typecheck.specs.declared.bindings.Meaning.{Meaning}
use Rattle.tg_typecheck.specs.declared.bindings.Meaning.TheVariants.{Variable, Function}
use Rattle.tg_typecheck.specs.Types.{Ty}
use Rattle.tg_typecheck.specs.Scopes.{Signature, Binding, variable_at, function_at, standard_one}

abbrev pub binding_of : Meaning → Binding
binding_of (Variable at t loop) = variable_at at t loop
binding_of (Function at s) = function_at at s

-- what is bound to a variable: the byte of its declaration and its type
abbrev pub variable_in : Binding → Option (ℕ × Ty)
variable_in (variable_at at t loop) = Some (at, t)
variable_in _ = None

-- what is bound to a declared function: the byte of its declaration and its signature
abbrev pub function_in : Binding → Option (ℕ × Signature)
function_in (function_at at s) = Some (at, s)
function_in _ = None

-- what is declared in the text
abbrev pub IsDeclared : Binding → Type 0
IsDeclared (variable_at at t loop) = Unit {0}
IsDeclared (function_at at s) = Unit {0}
IsDeclared (standard_one f) = ⊥
