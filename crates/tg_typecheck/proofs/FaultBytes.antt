-- A fault of types stands where a part of the program begins: each check's fault does, and so does that of checks one after
-- another.
use Rattle.std.proofs.Common.{◌≡◌, ℕ, suc, List, [], ◌∷◌, ◌++◌, Option, Some, None, Bool, true, false, refl, subst}
use Rattle.std.specs.Prelude.{IsTrue, nat_lt, if◌then◌else◌}
use Rattle.tg_syntax.specs.declared.tokens.Ident.{Ident}
use Rattle.tg_syntax.specs.declared.trees.Param.{Param}
use Rattle.tg_syntax.specs.declared.trees.Op.{Op}
use Rattle.tg_syntax.specs.declared.trees.Op.TheVariants.{Plus, Minus, Times, Divide, Equal, NotEqual, Less, LessEqual, Greater, GreaterEqual, And, Or}
use Rattle.tg_syntax.specs.Tree.{Form, Alias, Fields, Array, TypeDec, Exp, Nil, Break, Int, Text, Read, Call, Neg, Binary, Make, Fill, Assign, If}
use Rattle.tg_syntax.specs.Tree.{When, While, For, Let, Seq, LValue, Simple, Field, Index, Exps, no_exps, exp, Inits, no_inits, init, Decs, no_decs}
use Rattle.tg_syntax.specs.Tree.{types, variable, functions, FunDecs, no_functions, function}
use Rattle.tg_syntax.specs.Measures.{size}
use Rattle.tg_typecheck.specs.declared.faults.TypeRule.{TypeRule}
use Rattle.tg_typecheck.specs.declared.faults.TypeRule.TheVariants.{T16, T17, T20, T21, T22}
use Rattle.tg_typecheck.specs.declared.notes.Means.{Means}
use Rattle.tg_typecheck.specs.declared.notes.Note.{Note}
use Rattle.tg_typecheck.specs.Types.{Ty, int_type, none_type, record_type, array_type, Shape, record_shape, array_shape}
use Rattle.tg_typecheck.specs.Checks.{Noted, CheckResult, fine, fault, Check, on_fine, ◌>>=◌, give, refuse, keep, present, note, shape_at, add_shape}
use Rattle.tg_typecheck.specs.Scopes.{Signature, Binding, variable_at, function_at, standard_one, Scope, at_of, bound as bound_in, binding, in_a_loop}
use Rattle.tg_typecheck.specs.Scopes.{in_no_loop, outermost_scope}
use Rattle.tg_typecheck.specs.Groups.{no_repeats, names_of, known_fields, known_form, known_forms, chains_end, with_group, add_form, add_forms}
use Rattle.tg_typecheck.specs.Groups.{declare_types, function_names, param_types, result_type, headers, with_functions, with_params}
use Rattle.tg_typecheck.specs.Typing.{start_of, place_start, expect, variable_of, function_of, assignable, fields_in, fields_of, element_type_in, element_of}
use Rattle.tg_typecheck.specs.Typing.{select, ordered, equated, left_side, equal_sides, right_side, own_type, body_fits, typed, typed_place, expect_all}
use Rattle.tg_typecheck.specs.Typing.{expect_fields, typed_last, declare, bodies}
use Rattle.tg_syntax.specs.Functions.{Measures, Levels, own, own_params, own_functions, own_decs, declared, declared_place, declared_exps}
use Rattle.tg_syntax.specs.Functions.{declared_inits, declared_decs, declared_functions, program_functions, program_size}
use Rattle.tg_typecheck.specs.Limits.{above, first_above, limit_fault}
use Rattle.tg_typecheck.specs.Accepted.{at_fault, within_limits, finding_of, finding}
use Rattle.tg_typecheck.specs.BeginWithin.{IdentBegins, ParamsBegin, FormBegins, TypesBegin, KindBegins, BeginsWithin, PlaceBegins, ExpsBegin, InitsBegin}
use Rattle.tg_typecheck.specs.BeginWithin.{DecsBegin, FunctionsBegin}

-- the fault of a check, if it has one, stands at this byte or before it
record FaultsWithin {A : Type 0} (here : ℕ → Bool) (m : Check A) : Type 0 where
  within : (n : Noted) (rule : TypeRule) (at : ℕ) → m n ≡ fault rule at → IsTrue (here at)

-- the same of a limit
abbrev IsLimitWithin : (here : ℕ → Bool) → Option (TypeRule × ℕ) → Type 0
IsLimitWithin here None = Unit {0}
IsLimitWithin here (Some f) = IsTrue (here f.1)

record LimitWithin (here : ℕ → Bool) (o : Option (TypeRule × ℕ)) : Type 0 where
  within : IsLimitWithin here o

module _ (here : ℕ → Bool) where
  in_parts : {A B : Type 0} (m : Check A) (next : A → Check B) → FaultsWithin here m → ((a : A) → FaultsWithin here (next a)) →
      (n : Noted) (rule : TypeRule) (at : ℕ) (o : CheckResult A) → m n ≡ o → on_fine o next ≡ fault rule at → IsTrue (here at)
  in_parts m next f g n rule at (fine a noted) is e = (g a).within noted rule at e
  in_parts m next f g n rule at (fault r b) is e =
      let same : b ≡ at = cc in
      subst (λ k. IsTrue (here k)) same (f.within n r b is)

  -- the fault of two checks is the first's, or the second's
  bind : {A B : Type 0} {m : Check A} {next : A → Check B} → FaultsWithin here m → ((a : A) → FaultsWithin here (next a)) → FaultsWithin here (m >>= next)
  unfolding ◌>>=◌
  bind {m = m} {next = next} f g = record { within = λ n rule at e. in_parts m next f g n rule at (m n) refl e }

  given : {A : Type 0} (a : A) → FaultsWithin here (give a)
  unfolding give
  given a = record { within = λ n rule at e. cc }

  refused : {A : Type 0} (rule : TypeRule) (at : ℕ) → IsTrue (here at) → FaultsWithin here (refuse {A = A} rule at)
  unfolding refuse
  refused rule at h = record { within = λ n r b e. let same : at ≡ b = cc in subst (λ k. IsTrue (here k)) same h }

  kept : (rule : TypeRule) (at : ℕ) (b : Bool) → IsTrue (here at) → FaultsWithin here (keep rule at b)
  kept rule at true h = given _
  kept rule at false h = refused _ _ h

  presented : {A : Type 0} (rule : TypeRule) (at : ℕ) (o : Option A) → IsTrue (here at) → FaultsWithin here (present rule at o)
  presented rule at (Some a) h = given _
  presented rule at None h = refused _ _ h

  noted : (at : ℕ) (means : Means) → FaultsWithin here (note at means)
  unfolding note
  noted at means = record { within = λ n rule b e. cc }

  shape : (at : ℕ) → FaultsWithin here (shape_at at)
  unfolding shape_at
  shape at = record { within = λ n rule b e. cc }

  shape_added : (at : ℕ) (s : Shape) → FaultsWithin here (add_shape at s)
  unfolding add_shape
  shape_added at s = record { within = λ n rule b e. cc }

  -- ---- names, types and operators

  expected : (wanted got : Ty) (at : ℕ) → IsTrue (here at) → FaultsWithin here (expect wanted got at)
  expected wanted got at h = bind (kept _ _ _ h) (λ _. kept _ _ _ h)

  of_variable : (x : Ident) (b : Option Binding) → IdentBegins here x → FaultsWithin here (variable_of x b)
  of_variable x None h = refused _ _ h
  of_variable x (Some (variable_at at t loop)) h = bind (noted _ _) (λ _. given _)
  of_variable x (Some (function_at at s)) h = refused _ _ h
  of_variable x (Some (standard_one f)) h = refused _ _ h

  of_function : (f : Ident) (b : Option Binding) → IdentBegins here f → FaultsWithin here (function_of f b)
  of_function f None h = refused _ _ h
  of_function f (Some (variable_at at t loop)) h = refused _ _ h
  of_function f (Some (function_at at s)) h = bind (noted _ _) (λ _. given _)
  of_function f (Some (standard_one g)) h = bind (noted _ _) (λ _. given _)

  of_assignable : (v : LValue) (scope : Scope) → PlaceBegins here v → FaultsWithin here (assignable v scope)
  of_assignable (Simple x) scope h = kept _ _ _ h
  of_assignable (Field v f) scope h = given _
  of_assignable (Index v e) scope h = given _

  of_fields_in : (s : Option Shape) (at : ℕ) → IsTrue (here at) → FaultsWithin here (fields_in s at)
  of_fields_in (Some (record_shape fs)) at h = given _
  of_fields_in (Some (array_shape t)) at h = refused _ _ h
  of_fields_in None at h = refused _ _ h

  of_fields : (t : Ty) (at : ℕ) → IsTrue (here at) → FaultsWithin here (fields_of t at)
  of_fields (record_type byte) at h = bind (shape _) (λ s. of_fields_in s at h)
  of_fields _ at h = refused _ _ h

  of_element_in : (s : Option Shape) (at : ℕ) → IsTrue (here at) → FaultsWithin here (element_type_in s at)
  of_element_in (Some (array_shape t)) at h = given _
  of_element_in (Some (record_shape fs)) at h = refused _ _ h
  of_element_in None at h = refused _ _ h

  of_element : (t : Ty) (at : ℕ) → IsTrue (here at) → FaultsWithin here (element_of t at)
  of_element (array_type byte) at h = bind (shape _) (λ s. of_element_in s at h)
  of_element _ at h = refused _ _ h

  of_select : (fs : List (ℕ × Ty)) (f : Ident) → IdentBegins here f → FaultsWithin here (select fs f)
  of_select fs f h = bind (presented _ _ _ h) (λ found. bind (noted _ _) (λ _. given _))

  of_ordered : (left : Ty) (at left_at : ℕ) → IsTrue (here left_at) → FaultsWithin here (ordered left at left_at)
  of_ordered left at left_at h = bind (kept _ _ _ h) (λ _. bind (kept _ _ _ h) (λ _. bind (noted _ _) (λ _. given _)))

  of_equated : (left : Ty) (at left_at : ℕ) → IsTrue (here left_at) → FaultsWithin here (equated left at left_at)
  of_equated left at left_at h = bind (kept _ _ _ h) (λ _. bind (noted _ _) (λ _. given _))

  of_int_left : (left : Ty) (at : ℕ) → IsTrue (here at) → FaultsWithin here (expect int_type left at >>= λ _. give int_type)
  of_int_left left at h = bind (expected int_type left at h) (λ _. given _)

  of_left : (op : Op) (left : Ty) (at left_at : ℕ) → IsTrue (here left_at) → FaultsWithin here (left_side op left at left_at)
  of_left Less left at left_at h = of_ordered left at left_at h
  of_left LessEqual left at left_at h = of_ordered left at left_at h
  of_left Greater left at left_at h = of_ordered left at left_at h
  of_left GreaterEqual left at left_at h = of_ordered left at left_at h
  of_left Equal left at left_at h = of_equated left at left_at h
  of_left NotEqual left at left_at h = of_equated left at left_at h
  of_left Plus left at left_at h = of_int_left left left_at h
  of_left Minus left at left_at h = of_int_left left left_at h
  of_left Times left at left_at h = of_int_left left left_at h
  of_left Divide left at left_at h = of_int_left left left_at h
  of_left And left at left_at h = of_int_left left left_at h
  of_left Or left at left_at h = of_int_left left left_at h

  of_equal : (left right : Ty) (right_at whole : ℕ) → IsTrue (here right_at) → IsTrue (here whole) → FaultsWithin here (equal_sides left right right_at whole)
  of_equal left right right_at whole h w = bind (kept _ _ _ h) (λ _. bind (kept _ _ _ w) (λ _. kept _ _ _ h))

  of_right : (op : Op) (left right : Ty) (right_at whole : ℕ) → IsTrue (here right_at) → IsTrue (here whole) →
      FaultsWithin here (right_side op left right right_at whole)
  of_right Equal left right right_at whole h w = of_equal left right right_at whole h w
  of_right NotEqual left right right_at whole h w = of_equal left right right_at whole h w
  of_right Less left right right_at whole h w = expected left right right_at h
  of_right LessEqual left right right_at whole h w = expected left right right_at h
  of_right Greater left right right_at whole h w = expected left right right_at h
  of_right GreaterEqual left right right_at whole h w = expected left right right_at h
  of_right Plus left right right_at whole h w = expected left right right_at h
  of_right Minus left right right_at whole h w = expected left right right_at h
  of_right Times left right right_at whole h w = expected left right right_at h
  of_right Divide left right right_at whole h w = expected left right right_at h
  of_right And left right right_at whole h w = expected left right right_at h
  of_right Or left right right_at whole h w = expected left right right_at h

  of_own_type : (t : Ty) (at : ℕ) → IsTrue (here at) → FaultsWithin here (own_type t at)
  of_own_type t at h = bind (kept _ _ _ h) (λ _. bind (kept _ _ _ h) (λ _. given _))

  of_body_fits : (kind : Option Ident) (result got : Ty) (at : ℕ) → IsTrue (here at) → FaultsWithin here (body_fits kind result got at)
  of_body_fits (Some x) result got at h = expected result got at h
  of_body_fits None result got at h = kept _ _ _ h

  -- ---- groups

  -- each of these identifiers begins within
  abbrev AllBegin : List Ident → Type 0
  AllBegin [] = Unit {0}
  AllBegin (x ∷ xs) = IdentBegins here x × AllBegin xs

  of_no_repeats : (rule : TypeRule) (earlier names : List Ident) → AllBegin names → FaultsWithin here (no_repeats rule earlier names)
  of_no_repeats rule earlier [] h = given _
  of_no_repeats rule earlier (x ∷ xs) h = bind (kept _ _ _ h.0) (λ _. of_no_repeats rule (x ∷ earlier) xs h.1)

  type_names : (ds : List TypeDec) → TypesBegin here ds → AllBegin (names_of ds)
  type_names [] h = tt
  type_names (d ∷ ds) h = (h.0, type_names ds h.2)

  names_of_functions : (fs : FunDecs) → FunctionsBegin here fs → AllBegin (function_names fs)
  names_of_functions no_functions h = tt
  names_of_functions (function f ps r body rest) h = (h.0, names_of_functions rest h.4)

  of_known_fields : (ds : List TypeDec) (scope : Scope) (earlier : List Ident) (ps : List Param) → ParamsBegin here ps →
      FaultsWithin here (known_fields ds scope earlier ps)
  of_known_fields ds scope earlier [] h = given _
  of_known_fields ds scope earlier (p ∷ ps) h = bind (kept _ _ _ h.0) (λ _. bind (kept _ _ _ h.1) (λ _. of_known_fields ds scope (p.name ∷ earlier) ps h.2))

  of_known_form : (ds : List TypeDec) (scope : Scope) (form : Form) → FormBegins here form → FaultsWithin here (known_form ds scope form)
  of_known_form ds scope (Alias x) h = kept _ _ _ h
  of_known_form ds scope (Fields ps) h = of_known_fields ds scope [] ps h
  of_known_form ds scope (Array x) h = kept _ _ _ h

  of_known_forms : (group ds : List TypeDec) (scope : Scope) → TypesBegin here ds → FaultsWithin here (known_forms group ds scope)
  of_known_forms group [] scope h = given _
  of_known_forms group (d ∷ ds) scope h = bind (of_known_form group scope d.form h.1) (λ _. of_known_forms group ds scope h.2)

  of_chains : (group ds : List TypeDec) → TypesBegin here ds → FaultsWithin here (chains_end group ds)
  of_chains group [] h = given _
  of_chains group (d ∷ ds) h = bind (kept _ _ _ h.0) (λ _. of_chains group ds h.2)

  of_form : (scope : Scope) (at : ℕ) (form : Form) → FaultsWithin here (add_form scope at form)
  of_form scope at (Alias x) = given _
  of_form scope at (Fields ps) = shape_added _ _
  of_form scope at (Array x) = shape_added _ _

  of_forms : (scope : Scope) (ds : List TypeDec) → FaultsWithin here (add_forms scope ds)
  of_forms scope [] = given _
  of_forms scope (d ∷ ds) = bind (of_form scope (at_of d.name) d.form) (λ _. of_forms scope ds)

  of_types : (ds : List TypeDec) (scope : Scope) → TypesBegin here ds → FaultsWithin here (declare_types ds scope)
  of_types ds scope h =
      bind (of_no_repeats T16 [] (names_of ds) (type_names ds h)) (λ _.
      bind (of_known_forms ds ds scope h) (λ _.
      bind (of_chains ds ds h) (λ _.
      bind (of_forms (with_group ds ds scope scope) ds) (λ _. given _))))

  of_params : (scope : Scope) (earlier : List Ident) (ps : List Param) → ParamsBegin here ps → FaultsWithin here (param_types scope earlier ps)
  of_params scope earlier [] h = given _
  of_params scope earlier (p ∷ ps) h =
      bind (kept _ _ _ h.0) (λ _.
      bind (presented _ _ _ h.1) (λ t.
      bind (of_params scope (p.name ∷ earlier) ps h.2) (λ ts. given _)))

  of_result : (scope : Scope) (kind : Option Ident) → KindBegins here kind → FaultsWithin here (result_type scope kind)
  of_result scope None h = given _
  of_result scope (Some x) h = presented _ _ _ h

  of_headers : (fs : FunDecs) (scope : Scope) → FunctionsBegin here fs → FaultsWithin here (headers fs scope)
  of_headers no_functions scope h = given _
  of_headers (function f ps r body rest) scope h =
      bind (of_params scope [] ps h.1) (λ ts.
      bind (of_result scope r h.2) (λ t.
      bind (of_headers rest scope h.4) (λ more. given _)))

  -- ---- the tree

  -- where an expression begins, and an l-value
  pub start : (e : Exp) → BeginsWithin here e → IsTrue (here (start_of e))
  start (Nil s) h = h
  start (Break s) h = h
  start (Int s k) h = h
  start (Text s bytes) h = h
  start _ h = h.0

  start_of_place : (v : LValue) → PlaceBegins here v → IsTrue (here (place_start v))
  start_of_place (Simple x) h = h
  start_of_place (Field v f) h = start_of_place v h.0
  start_of_place (Index v e) h = start_of_place v h.0

  mutual
    of_exp : (e : Exp) (scope : Scope) → BeginsWithin here e → FaultsWithin here (typed e scope)
    of_exp (Nil s) scope h = given _
    of_exp (Int s k) scope h = given _
    of_exp (Text s bytes) scope h = given _
    of_exp (Break s) scope h = bind (kept _ _ _ h) (λ _. given _)
    of_exp (Read s v) scope h = of_place v scope h.1
    of_exp (Call s f args) scope h =
        bind (of_function f (bound_in f scope) h.1) (λ sig.
        bind (kept _ _ _ h.1) (λ _.
        bind (of_args args sig.params scope h.2) (λ _. given _)))
    of_exp (Neg s a) scope h =
        bind (of_exp a scope h.1) (λ t.
        bind (expected int_type t (start_of a) (start a h.1)) (λ _. given _))
    of_exp (Binary whole op at a b) scope h =
        bind (of_exp a scope h.2) (λ t.
        bind (of_left op t at (start_of a) (start a h.2)) (λ left.
        bind (of_exp b scope h.3) (λ u.
        bind (of_right op left u (start_of b) whole.from (start b h.3) h.0) (λ _. given _))))
    of_exp (Make s x inits) scope h =
        bind (presented _ _ _ h.1) (λ t.
        bind (of_fields t (at_of x) h.1) (λ fs.
        bind (kept _ _ _ h.1) (λ _.
        bind (of_inits inits fs scope h.2) (λ _. given _))))
    of_exp (Fill s x size value) scope h =
        bind (presented _ _ _ h.1) (λ t.
        bind (of_element t (at_of x) h.1) (λ element.
        bind (of_exp size scope h.2) (λ a.
        bind (expected int_type a (start_of size) (start size h.2)) (λ _.
        bind (of_exp value scope h.3) (λ b.
        bind (expected element b (start_of value) (start value h.3)) (λ _. given _))))))
    of_exp (Assign s v e) scope h =
        bind (of_place v scope h.1) (λ t.
        bind (of_assignable v scope h.1) (λ _.
        bind (of_exp e scope h.2) (λ a.
        bind (expected t a (start_of e) (start e h.2)) (λ _. given _))))
    of_exp (If s test this other) scope h =
        bind (of_exp test scope h.1) (λ c.
        bind (expected int_type c (start_of test) (start test h.1)) (λ _.
        bind (of_exp this scope h.2) (λ a.
        bind (of_exp other scope h.3) (λ b.
        bind (kept _ _ _ (start other h.3)) (λ _. given _)))))
    of_exp (When s test this) scope h =
        bind (of_exp test scope h.1) (λ c.
        bind (expected int_type c (start_of test) (start test h.1)) (λ _.
        bind (of_exp this scope h.2) (λ a.
        bind (kept _ _ _ (start this h.2)) (λ _. given _))))
    of_exp (While s test body) scope h =
        bind (of_exp test scope h.1) (λ c.
        bind (expected int_type c (start_of test) (start test h.1)) (λ _.
        bind (of_exp body (in_a_loop scope) h.2) (λ a.
        bind (kept _ _ _ (start body h.2)) (λ _. given _))))
    of_exp (For s x low high body) scope h =
        bind (of_exp low scope h.2) (λ l.
        bind (expected int_type l (start_of low) (start low h.2)) (λ _.
        bind (of_exp high scope h.3) (λ k.
        bind (expected int_type k (start_of high) (start high h.3)) (λ _.
        bind (of_exp body (in_a_loop (binding x (variable_at (at_of x) int_type true) scope)) h.4) (λ a.
        bind (kept _ _ _ (start body h.4)) (λ _. given _))))))
    of_exp (Let s ds es) scope h = bind (of_decs ds scope h.1) (λ inner. of_last none_type es inner h.2)
    of_exp (Seq s es) scope h = of_last none_type es scope h.1

    of_place : (v : LValue) (scope : Scope) → PlaceBegins here v → FaultsWithin here (typed_place v scope)
    of_place (Simple x) scope h = of_variable x (bound_in x scope) h
    of_place (Field v f) scope h =
        bind (of_place v scope h.0) (λ t.
        bind (of_fields t (place_start v) (start_of_place v h.0)) (λ fs. of_select fs f h.1))
    of_place (Index v e) scope h =
        bind (of_place v scope h.0) (λ t.
        bind (of_element t (place_start v) (start_of_place v h.0)) (λ element.
        bind (of_exp e scope h.1) (λ a.
        bind (expected int_type a (start_of e) (start e h.1)) (λ _. given _))))

    of_args : (es : Exps) (ts : List Ty) (scope : Scope) → ExpsBegin here es → FaultsWithin here (expect_all es ts scope)
    of_args no_exps ts scope h = given _
    of_args (exp e rest) [] scope h = given _
    of_args (exp e rest) (t ∷ ts) scope h =
        bind (of_exp e scope h.0) (λ a.
        bind (expected t a (start_of e) (start e h.0)) (λ _. of_args rest ts scope h.1))

    of_inits : (is : Inits) (fs : List (ℕ × Ty)) (scope : Scope) → InitsBegin here is → FaultsWithin here (expect_fields is fs scope)
    of_inits no_inits fs scope h = given _
    of_inits (init f e rest) [] scope h = given _
    of_inits (init f e rest) (field ∷ fs) scope h =
        bind (of_exp e scope h.1) (λ a.
        bind (expected field.1 a (start_of e) (start e h.1)) (λ _. of_inits rest fs scope h.2))

    of_last : (t : Ty) (es : Exps) (scope : Scope) → ExpsBegin here es → FaultsWithin here (typed_last t es scope)
    of_last t no_exps scope h = given _
    of_last t (exp e rest) scope h = bind (of_exp e scope h.0) (λ u. of_last u rest scope h.1)

    of_decs : (ds : Decs) (scope : Scope) → DecsBegin here ds → FaultsWithin here (declare ds scope)
    of_decs no_decs scope h = given _
    of_decs (types ds rest) scope h = bind (of_types ds scope h.0) (λ inner. of_decs rest inner h.1)
    of_decs (variable x None e rest) scope h =
        bind (of_exp e scope h.2) (λ t.
        bind (of_own_type t (start_of e) (start e h.2)) (λ own.
        of_decs rest (binding x (variable_at (at_of x) own false) scope) h.3))
    of_decs (variable x (Some kind) e rest) scope h =
        bind (presented _ _ _ h.1) (λ t.
        bind (of_exp e scope h.2) (λ a.
        bind (expected t a (start_of e) (start e h.2)) (λ _.
        of_decs rest (binding x (variable_at (at_of x) t false) scope) h.3)))
    of_decs (functions fs rest) scope h =
        bind (of_no_repeats T17 [] (function_names fs) (names_of_functions fs h.0)) (λ _.
        bind (of_headers fs scope h.0) (λ ss.
        bind (of_bodies fs ss (in_no_loop (with_functions fs ss scope)) h.0) (λ _.
        of_decs rest (with_functions fs ss scope) h.1)))

    of_bodies : (fs : FunDecs) (ss : List Signature) (scope : Scope) → FunctionsBegin here fs → FaultsWithin here (bodies fs ss scope)
    of_bodies no_functions ss scope h = given _
    of_bodies (function f ps r body rest) [] scope h = given _
    of_bodies (function f ps r body rest) (s ∷ ss) scope h =
        bind (of_exp body (with_params ps s.params scope) h.3) (λ a.
        bind (of_body_fits r s.result a (start_of body) (start body h.3)) (λ _. of_bodies rest ss scope h.4))

  -- ---- the limits

  -- each of these functions is declared within
  abbrev AreWithin : List Measures → Type 0
  AreWithin [] = Unit {0}
  AreWithin (f ∷ fs) = (IsTrue (here f.at)) × AreWithin fs

  both : (fs gs : List Measures) → AreWithin fs → AreWithin gs → AreWithin (fs ++ gs)
  both [] gs h i = i
  both (f ∷ fs) gs h i = (h.0, both fs gs h.1 i)

  mutual
    declared_within : (k : ℕ) (seen : Levels) (e : Exp) → BeginsWithin here e → AreWithin (declared k seen e)
    declared_within k seen (Nil s) h = tt
    declared_within k seen (Break s) h = tt
    declared_within k seen (Int s n) h = tt
    declared_within k seen (Text s bytes) h = tt
    declared_within k seen (Read s v) h = in_place k seen v h.1
    declared_within k seen (Call s f args) h = in_exps k seen args h.2
    declared_within k seen (Neg s a) h = declared_within k seen a h.1
    declared_within k seen (Binary s op at a b) h = both _ _ (declared_within k seen a h.2) (declared_within k seen b h.3)
    declared_within k seen (Make s x inits) h = in_inits k seen inits h.2
    declared_within k seen (Fill s x a b) h = both _ _ (declared_within k seen a h.2) (declared_within k seen b h.3)
    declared_within k seen (Assign s v a) h = both _ _ (in_place k seen v h.1) (declared_within k seen a h.2)
    declared_within k seen (If s c a b) h = both _ _ (declared_within k seen c h.1) (both _ _ (declared_within k seen a h.2) (declared_within k seen b h.3))
    declared_within k seen (When s c a) h = both _ _ (declared_within k seen c h.1) (declared_within k seen a h.2)
    declared_within k seen (While s c a) h = both _ _ (declared_within k seen c h.1) (declared_within k seen a h.2)
    declared_within k seen (For s x l u a) h =
        both _ _ (declared_within k seen l h.2) (both _ _ (declared_within k seen u h.3) (declared_within k (own k x seen) a h.4))
    declared_within k seen (Let s ds es) h = both _ _ (in_decs k seen ds h.1) (in_exps k (own_decs k ds seen) es h.2)
    declared_within k seen (Seq s es) h = in_exps k seen es h.1

    in_place : (k : ℕ) (seen : Levels) (v : LValue) → PlaceBegins here v → AreWithin (declared_place k seen v)
    in_place k seen (Simple x) h = tt
    in_place k seen (Field v f) h = in_place k seen v h.0
    in_place k seen (Index v e) h = both _ _ (in_place k seen v h.0) (declared_within k seen e h.1)

    in_exps : (k : ℕ) (seen : Levels) (es : Exps) → ExpsBegin here es → AreWithin (declared_exps k seen es)
    in_exps k seen no_exps h = tt
    in_exps k seen (exp e rest) h = both _ _ (declared_within k seen e h.0) (in_exps k seen rest h.1)

    in_inits : (k : ℕ) (seen : Levels) (is : Inits) → InitsBegin here is → AreWithin (declared_inits k seen is)
    in_inits k seen no_inits h = tt
    in_inits k seen (init f e rest) h = both _ _ (declared_within k seen e h.1) (in_inits k seen rest h.2)

    in_decs : (k : ℕ) (seen : Levels) (ds : Decs) → DecsBegin here ds → AreWithin (declared_decs k seen ds)
    in_decs k seen no_decs h = tt
    in_decs k seen (types ds rest) h = in_decs k seen rest h.1
    in_decs k seen (variable x kind e rest) h = both _ _ (declared_within k seen e h.2) (in_decs k (own k x seen) rest h.3)
    in_decs k seen (functions fs rest) h = both _ _ (in_functions k (own_functions k fs seen) fs h.0) (in_decs k (own_functions k fs seen) rest h.1)

    in_functions : (k : ℕ) (seen : Levels) (fs : FunDecs) → FunctionsBegin here fs → AreWithin (declared_functions k seen fs)
    in_functions k seen no_functions h = tt
    in_functions k seen (function f ps r body rest) h =
        (h.0, both _ _ (declared_within (suc k) (own_params (suc k) ps seen) body h.3) (in_functions k seen rest h.4))

  either : (rule : TypeRule) (at number limit : ℕ) (o : Option (TypeRule × ℕ)) → IsTrue (here at) → LimitWithin here o →
      LimitWithin here (above rule at number limit o)
  either rule at number limit o h i = by (nat_lt limit number)
    where
      by : (b : Bool) → LimitWithin here (if b then Some (rule, at) else o)
      by true = record { within = h }
      by false = i

  first_within : (fs : List Measures) → AreWithin fs → LimitWithin here (first_above fs)
  first_within [] h = record { within = tt }
  first_within (f ∷ fs) h = either T20 f.at f.level 32 _ h.0 (either T21 f.at f.size 4096 _ h.0 (first_within fs h.1))

  limit_within : (body : Exp) → BeginsWithin here body → LimitWithin here (limit_fault body)
  limit_within body h =
      either T22 (start_of body) (program_size body) 32768 _ (start body h)
      (first_within (program_functions body) (start body h, declared_within 0 [] body h))

  -- ---- what a program is found to be

  beyond_limits : (notes : List Note) (o : Option (TypeRule × ℕ)) (rule : TypeRule) (at : ℕ) → LimitWithin here o → within_limits notes o ≡ at_fault rule at →
      IsTrue (here at)
  beyond_limits notes None rule at h e = cc
  beyond_limits notes (Some f) rule at h e =
      let same : f.1 ≡ at = cc in
      subst (λ k. IsTrue (here k)) same h.within

  found_within : (body : Exp) (n : Noted) (o : CheckResult Ty) (scope : Scope) (rule : TypeRule) (at : ℕ) → BeginsWithin here body → typed body scope n ≡ o →
      finding_of body o ≡ at_fault rule at → IsTrue (here at)
  found_within body n (fine t noted) scope rule at h is e = beyond_limits noted.notes (limit_fault body) rule at (limit_within body h) e
  found_within body n (fault r b) scope rule at h is e =
      let same : b ≡ at = cc in
      subst (λ k. IsTrue (here k)) same ((of_exp body scope h).within n r b is)

  pub faults_stand_within : (names : List (List ℕ)) (body : Exp) (rule : TypeRule) (at : ℕ) → BeginsWithin here body → finding names body ≡ at_fault rule at →
      IsTrue (here at)
  faults_stand_within names body rule at h e = found_within body (record { shapes = []; notes = [] }) _ (outermost_scope names) rule at h refl e
