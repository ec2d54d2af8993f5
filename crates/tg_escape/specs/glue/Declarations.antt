-- What a name is declared to be, in the code and in the definition.
use Rattle.std.specs.Prelude.{ℕ, nat_lt, Option, Some, None, if◌then◌else◌}
use Rattle.tg_escape.specs.declared.declarations.Meaning.{Meaning}
use Rattle.tg_escape.specs.declared.declarations.Meaning.TheVariants.{Variable, Function}
use Rattle.tg_escape.specs.Uses.{DeclaredAs, a_variable, a_function}

abbrev pub declared_as : Meaning → DeclaredAs
declared_as (Variable at level) = a_variable at level
declared_as (Function level) = a_function level

-- a variable of an outer function, seen from a text of this level
abbrev pub variable_outside : (level : ℕ) → DeclaredAs → Option ℕ
variable_outside level (a_variable at own) = if nat_lt own level then Some at else None
variable_outside level (a_function own) = None
