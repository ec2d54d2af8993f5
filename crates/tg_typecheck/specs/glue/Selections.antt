-- Parts of the typing of records.
use Rattle.std.specs.Prelude.{ℕ, suc, List, [], Option}
use Rattle.tg_syntax.specs.declared.tokens.Ident.{Ident}
use Rattle.tg_syntax.specs.declared.trees.Param.{Param}
use Rattle.tg_syntax.specs.Tree.{Inits, no_inits, init, FunDecs, no_functions, function}
use Rattle.tg_typecheck.specs.declared.faults.TypeRule.TheVariants.{T8, T11}
use Rattle.tg_typecheck.specs.Types.{Ty}
use Rattle.tg_typecheck.specs.Checks.{Check, give, keep, present, ◌>>=◌, ◌>>◌}
use Rattle.tg_semantics.specs.Environments.{name_of}
use Rattle.tg_typecheck.specs.Scopes.{Scope, Signature, at_of}
use Rattle.tg_typecheck.specs.Groups.{param_types, result_type}
use Rattle.tg_typecheck.specs.Typing.{fields_of, select, placed, are_fields}

-- a field of what has a type and begins at a byte: its type, and its place with it
abbrev pub selected_of : Ty → (at : ℕ) → Ident → Check Ty
selected_of t at f = fields_of t at >>= λ fs. select fs f

abbrev pub placed_of : Ty → (at : ℕ) → Ident → Check (ℕ × Ty)
placed_of t at f = fields_of t at >>= λ fs. present T8 (at_of f) (placed (name_of f) 0 fs)

-- the fields of a record that is made
abbrev pub made_fields : Ty → (at : ℕ) → Inits → Check (List (ℕ × Ty))
made_fields t at inits = fields_of t at >>= λ fs. keep T11 at (are_fields inits fs) >> give fs

abbrev pub init_count : Inits → ℕ
init_count no_inits = 0
init_count (init _ _ rest) = suc (init_count rest)

abbrev pub function_count : FunDecs → ℕ
function_count no_functions = 0
function_count (function _ _ _ _ rest) = suc (function_count rest)

-- a function's header
abbrev pub header_of : List Param → Option Ident → Scope → Check Signature
header_of ps r scope = do
  ts ← param_types scope [] ps
  t ← result_type scope r
  give (record { params = ts; result = t })
