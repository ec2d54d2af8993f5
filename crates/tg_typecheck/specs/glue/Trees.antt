-- Parts of the typing of trees.
use Rattle.std.specs.Prelude.{◌≡◌, ◌<◌, ℕ, List, length, get_or, Option, Some, None, true}
use Rattle.tg_base.specs.declared.ids.Span.{Span}
use Rattle.tg_syntax.specs.declared.tokens.Ident.{Ident}
use Rattle.tg_syntax.specs.declared.trees.Op.{Op}
use Rattle.tg_syntax.specs.declared.trees.Param.{Param}
use Rattle.tg_typecheck.specs.declared.faults.TypeRule.TheVariants.{T6}
use Rattle.tg_syntax.specs.Tree.{Exp, If, When}
use Rattle.tg_typecheck.specs.Types.{Ty, int_type, none_type, alike, joined_type}
use Rattle.tg_typecheck.specs.Checks.{Check, give, keep, ◌>>=◌, ◌>>◌}
use Rattle.tg_typecheck.specs.Scopes.{Scope, Signature, variable_at, at_of, binding, in_a_loop}
use Rattle.tg_typecheck.specs.Groups.{with_params}
use Rattle.tg_typecheck.specs.Typing.{typed, start_of, expect, expect_none, left_side, right_side}
use Rattle.tg_typecheck.specs.Typing.{body_fits}

-- where a part stands that no rule asks for its place
abbrev pub nowhere : Span
nowhere = record { from = 0; to = 0 }

-- an expression whose value is of a type that fits
abbrev pub fitting : Exp → Ty → Scope → Check (Unit {0})
fitting e wanted scope = typed e scope >>= λ t. expect wanted t (start_of e)

-- an expression without a value
abbrev pub without_value : Exp → Scope → Check (Unit {0})
without_value e scope = typed e scope >>= λ t. expect_none t (start_of e)

-- what stands before an operator, and what stands after it: the type of the whole
abbrev pub left_operand : Op → (at : ℕ) → Exp → Scope → Check Ty
left_operand op at a scope = typed a scope >>= λ t. left_side op t at (start_of a)

abbrev pub right_operand : Op → (left : Ty) → Exp → (whole : ℕ) → Scope → Check Ty
right_operand op left b whole scope =
    typed b scope >>= λ u. right_side op left u (start_of b) whole >> give int_type

-- a value that fits into something, and the type of the whole
abbrev pub filled : (whole wanted : Ty) → Exp → Scope → Check Ty
filled whole wanted value scope =
    typed value scope >>= λ a. expect wanted a (start_of value) >> give whole

-- the second way of a choice, whose first has a type
abbrev pub second_way : Ty → Exp → Scope → Check Ty
second_way t other scope =
    typed other scope >>= λ u. keep T6 (start_of other) (alike t u) >> give (joined_type t u)

-- a choice, with or without its second way
abbrev pub choice : Span → (test this : Exp) → Option Exp → Exp
choice s test this None = When s test this
choice s test this (Some other) = If s test this other

-- what has no value, and neither has the whole
abbrev pub idle : Exp → Scope → Check Ty
idle e scope = typed e scope >>= λ t. expect_none t (start_of e) >> give none_type

-- the body of a loop that counts
abbrev pub counting : Ident → Exp → Scope → Check Ty
counting x body scope =
    idle body (in_a_loop (binding x (variable_at (at_of x) int_type true) scope))

-- one body of a group
abbrev pub one_body : List Param → Option Ident → Exp → Signature → Scope → Check (Unit {0})
one_body ps r body s scope =
    typed body (with_params ps s.params scope) >>= λ a. body_fits r s.result a (start_of body)

-- a part of a list
abbrev pub IsAmong : {A : Type 0} → A → List A → Type 0
IsAmong x xs = (k : ℕ) × (k < length xs) × (x ≡ get_or xs k x)
