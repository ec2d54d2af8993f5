-- Typing: the type of each part, or the first fault in the order in which the checks are made.
use Rattle.std.specs.Prelude.{ℕ, suc, ◌==◌, ◌&&◌, List, [], ◌∷◌, length, Option, Some, None, Bool}
use Rattle.std.specs.Prelude.{true, false, not, if◌then◌else◌}
use Rattle.tg_syntax.specs.declared.tokens.Ident.{Ident}
use Rattle.tg_syntax.specs.declared.trees.Op.{Op}
use Rattle.tg_syntax.specs.declared.trees.Op.TheVariants.{Equal, NotEqual, Less, LessEqual, Greater}
use Rattle.tg_syntax.specs.declared.trees.Op.TheVariants.{GreaterEqual}
use Rattle.tg_syntax.specs.Spans.{span_of}
use Rattle.tg_syntax.specs.Tree.{Exp, Nil, Break, Int, Text, Read, Call, Neg, Binary, Make, Fill}
use Rattle.tg_syntax.specs.Tree.{Assign, If, When, While, For, Let, Seq, LValue, Simple, Field}
use Rattle.tg_syntax.specs.Tree.{Index, Exps, no_exps, exp, Inits, no_inits, init, Decs, no_decs}
use Rattle.tg_syntax.specs.Tree.{types, variable, functions, FunDecs, function}
use Rattle.tg_typecheck.specs.declared.faults.TypeRule.TheVariants.{T1, T2, T4, T5, T6, T7, T8, T9}
use Rattle.tg_typecheck.specs.declared.faults.TypeRule.TheVariants.{T10}
use Rattle.tg_typecheck.specs.declared.faults.TypeRule.TheVariants.{T11, T12, T13, T14, T15, T17}
use Rattle.tg_typecheck.specs.declared.notes.Means.TheVariants as means
use Rattle.tg_typecheck.specs.Types.{Ty, int_type, string_type, nil_type, none_type, record_type}
use Rattle.tg_typecheck.specs.Types.{array_type, Shape, record_shape, array_shape, same, fits}
use Rattle.tg_typecheck.specs.Types.{alike}
use Rattle.tg_typecheck.specs.Types.{joined_type, are_nil, has_order}
use Rattle.tg_typecheck.specs.Checks.{Check, give, refuse, keep, present, note, shape_at, ◌>>=◌}
use Rattle.tg_typecheck.specs.Checks.{◌>>◌}
use Rattle.tg_typecheck.specs.Scopes.{Signature, Binding, variable_at, function_at, standard_one}
use Rattle.tg_typecheck.specs.Scopes.{Scope}
use Rattle.tg_semantics.specs.Environments.{name_of}
use Rattle.tg_typecheck.specs.Scopes.{at_of, bound, binding, in_a_loop, in_no_loop, signature}
use Rattle.tg_typecheck.specs.Groups.{no_repeats, type_named, declare_types, function_names}
use Rattle.tg_typecheck.specs.Groups.{headers}
use Rattle.tg_typecheck.specs.Groups.{with_functions, with_params}

abbrev pub start_of : Exp → ℕ
start_of e = (span_of e).from

abbrev pub place_start : LValue → ℕ
place_start (Simple x) = at_of x
place_start (Field v f) = place_start v
place_start (Index v e) = place_start v

-- a value is needed; a type that fits; no value
abbrev pub needs_value : Ty → (at : ℕ) → Check (Unit {0})
needs_value t at = keep T12 at (not (same t none_type))

abbrev pub expect : (wanted got : Ty) → (at : ℕ) → Check (Unit {0})
expect wanted got at = do
  needs_value got at
  keep T6 at (fits got wanted)

abbrev pub expect_none : Ty → (at : ℕ) → Check (Unit {0})
expect_none got at = keep T6 at (same got none_type)

-- Names.

abbrev pub variable_of : Ident → Option Binding → Check Ty
variable_of x None = refuse T1 (at_of x)
variable_of x (Some (variable_at at t loop)) = note (at_of x) (means.Variable at) >> give t
variable_of x (Some (function_at at s)) = refuse T4 (at_of x)
variable_of x (Some (standard_one f)) = refuse T4 (at_of x)

abbrev pub function_of : Ident → Option Binding → Check Signature
function_of f None = refuse T2 (at_of f)
function_of f (Some (variable_at at t loop)) = refuse T5 (at_of f)
function_of f (Some (function_at at s)) = note (at_of f) (means.Function at) >> give s
function_of f (Some (standard_one g)) = note (at_of f) (means.Standard g) >> give (signature g)

abbrev pub is_loop_variable : Option Binding → Bool
is_loop_variable (Some (variable_at at t loop)) = loop
is_loop_variable _ = false

-- a loop variable isn't assigned; its fields and elements don't exist, since it is an int
abbrev pub assignable : LValue → Scope → Check (Unit {0})
assignable (Simple x) scope = keep T15 (at_of x) (not (is_loop_variable (bound x scope)))
assignable _ scope = give tt

-- Records and arrays.

abbrev pub fields_in : Option Shape → (at : ℕ) → Check (List (ℕ × Ty))
fields_in (Some (record_shape fs)) at = give fs
fields_in _ at = refuse T7 at

abbrev pub fields_of : Ty → (at : ℕ) → Check (List (ℕ × Ty))
fields_of (record_type byte) at = do
  shape ← shape_at byte
  fields_in shape at
fields_of _ at = refuse T7 at

abbrev pub element_type_in : Option Shape → (at : ℕ) → Check Ty
element_type_in (Some (array_shape t)) at = give t
element_type_in _ at = refuse T9 at

abbrev pub element_of : Ty → (at : ℕ) → Check Ty
element_of (array_type byte) at = do
  shape ← shape_at byte
  element_type_in shape at
element_of _ at = refuse T9 at

-- a field's place and type
abbrev pub placed : ℕ → (from : ℕ) → List (ℕ × Ty) → Option (ℕ × Ty)
placed f from [] = None
placed f from (field ∷ rest) =
    if field.0 == f then Some (from, field.1) else placed f (suc from) rest

abbrev pub select : List (ℕ × Ty) → Ident → Check Ty
select fs f = do
  found ← present T8 (at_of f) (placed (name_of f) 0 fs)
  note (at_of f) (means.Field found.0)
  give found.1

abbrev pub are_fields : Inits → List (ℕ × Ty) → Bool
are_fields no_inits [] = true
are_fields (init f _ rest) (field ∷ fs) = (name_of f == field.0) && are_fields rest fs
are_fields _ _ = false

abbrev pub expression_count : Exps → ℕ
expression_count no_exps = 0
expression_count (exp _ rest) = suc (expression_count rest)

-- Operators.

abbrev pub compares : (at : ℕ) → Ty → Check (Unit {0})
compares at t = note at (if same t string_type then means.Content else means.Number)

abbrev pub ordered : (left : Ty) → (at left_at : ℕ) → Check Ty
ordered left at left_at = do
  needs_value left left_at
  keep T6 left_at (has_order left)
  compares at left
  give left

abbrev pub equated : (left : Ty) → (at left_at : ℕ) → Check Ty
equated left at left_at = do
  needs_value left left_at
  compares at left
  give left

-- what an operator asks of its left side, before the right one is looked at
abbrev pub left_side : Op → (left : Ty) → (at left_at : ℕ) → Check Ty
left_side Less left at left_at = ordered left at left_at
left_side LessEqual left at left_at = ordered left at left_at
left_side Greater left at left_at = ordered left at left_at
left_side GreaterEqual left at left_at = ordered left at left_at
left_side Equal left at left_at = equated left at left_at
left_side NotEqual left at left_at = equated left at left_at
left_side _ left at left_at = do
  expect int_type left left_at
  give int_type

abbrev pub equal_sides : (left right : Ty) → (right_at whole : ℕ) → Check (Unit {0})
equal_sides left right right_at whole = do
  needs_value right right_at
  keep T13 whole (not (are_nil left right))
  keep T6 right_at (alike left right)

abbrev pub right_side : Op → (left right : Ty) → (right_at whole : ℕ) → Check (Unit {0})
right_side Equal left right right_at whole = equal_sides left right right_at whole
right_side NotEqual left right right_at whole = equal_sides left right right_at whole
right_side _ left right right_at whole = expect left right right_at

-- Declarations.

-- the type of a variable that is declared without one
abbrev pub own_type : Ty → (at : ℕ) → Check Ty
own_type t at = do
  needs_value t at
  keep T13 at (not (same t nil_type))
  give t

abbrev pub body_fits : Option Ident → (result got : Ty) → (at : ℕ) → Check (Unit {0})
body_fits (Some _) result got at = expect result got at
body_fits None result got at = expect_none got at

-- The tree.

abbrev mutual
  pub typed : Exp → Scope → Check Ty
  typed (Nil _) scope = give nil_type
  typed (Int _ _) scope = give int_type
  typed (Text _ _) scope = give string_type
  typed (Break s) scope = do
    keep T14 s.from scope.in_loop
    give none_type
  typed (Read _ v) scope = typed_place v scope
  typed (Call _ f args) scope = do
    s ← function_of f (bound f scope)
    keep T10 (at_of f) (expression_count args == length s.params)
    expect_all args s.params scope
    give s.result
  typed (Neg _ a) scope = do
    t ← typed a scope
    expect int_type t (start_of a)
    give int_type
  typed (Binary whole op at a b) scope = do
    t ← typed a scope
    left ← left_side op t at (start_of a)
    u ← typed b scope
    right_side op left u (start_of b) whole.from
    give int_type
  typed (Make _ x inits) scope = do
    t ← type_named x scope
    fs ← fields_of t (at_of x)
    keep T11 (at_of x) (are_fields inits fs)
    expect_fields inits fs scope
    give t
  typed (Fill _ x size value) scope = do
    t ← type_named x scope
    element ← element_of t (at_of x)
    a ← typed size scope
    expect int_type a (start_of size)
    b ← typed value scope
    expect element b (start_of value)
    give t
  typed (Assign _ v e) scope = do
    t ← typed_place v scope
    assignable v scope
    a ← typed e scope
    expect t a (start_of e)
    give none_type
  typed (If _ test this other) scope = do
    c ← typed test scope
    expect int_type c (start_of test)
    a ← typed this scope
    b ← typed other scope
    keep T6 (start_of other) (alike a b)
    give (joined_type a b)
  typed (When _ test this) scope = do
    c ← typed test scope
    expect int_type c (start_of test)
    a ← typed this scope
    expect_none a (start_of this)
    give none_type
  typed (While _ test body) scope = do
    c ← typed test scope
    expect int_type c (start_of test)
    a ← typed body (in_a_loop scope)
    expect_none a (start_of body)
    give none_type
  typed (For _ x low high body) scope = do
    l ← typed low scope
    expect int_type l (start_of low)
    h ← typed high scope
    expect int_type h (start_of high)
    a ← typed body (in_a_loop (binding x (variable_at (at_of x) int_type true) scope))
    expect_none a (start_of body)
    give none_type
  typed (Let _ ds es) scope = do
    inner ← declare ds scope
    typed_last none_type es inner
  typed (Seq _ es) scope = typed_last none_type es scope

  pub typed_place : LValue → Scope → Check Ty
  typed_place (Simple x) scope = variable_of x (bound x scope)
  typed_place (Field v f) scope = do
    t ← typed_place v scope
    fs ← fields_of t (place_start v)
    select fs f
  typed_place (Index v e) scope = do
    t ← typed_place v scope
    element ← element_of t (place_start v)
    a ← typed e scope
    expect int_type a (start_of e)
    give element

  -- each of its type
  pub expect_all : Exps → List Ty → Scope → Check (Unit {0})
  expect_all (exp e rest) (t ∷ ts) scope = do
    a ← typed e scope
    expect t a (start_of e)
    expect_all rest ts scope
  expect_all _ _ scope = give tt

  pub expect_fields : Inits → List (ℕ × Ty) → Scope → Check (Unit {0})
  expect_fields (init f e rest) (field ∷ fs) scope = do
    a ← typed e scope
    expect field.1 a (start_of e)
    expect_fields rest fs scope
  expect_fields _ _ scope = give tt

  -- each in order; the type of the last one, or this where there is none
  pub typed_last : Ty → Exps → Scope → Check Ty
  typed_last t no_exps scope = give t
  typed_last t (exp e rest) scope = do
    u ← typed e scope
    typed_last u rest scope

  -- the scope after declarations
  pub declare : Decs → Scope → Check Scope
  declare no_decs scope = give scope
  declare (types ds rest) scope = do
    inner ← declare_types ds scope
    declare rest inner
  declare (variable x None e rest) scope = do
    t ← typed e scope
    own ← own_type t (start_of e)
    declare rest (binding x (variable_at (at_of x) own false) scope)
  declare (variable x (Some kind) e rest) scope = do
    t ← type_named kind scope
    a ← typed e scope
    expect t a (start_of e)
    declare rest (binding x (variable_at (at_of x) t false) scope)
  declare (functions fs rest) scope = do
    no_repeats T17 [] (function_names fs)
    ss ← headers fs scope
    let inner = with_functions fs ss scope
    bodies fs ss (in_no_loop inner)
    declare rest inner

  -- body by body
  pub bodies : FunDecs → List Signature → Scope → Check (Unit {0})
  bodies (function f ps r body rest) (s ∷ ss) scope = do
    a ← typed body (with_params ps s.params scope)
    body_fits r s.result a (start_of body)
    bodies rest ss scope
  bodies _ _ scope = give tt
