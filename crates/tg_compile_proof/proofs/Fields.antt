-- The number of each field that an accepted program names is less than the nodes of its text: a shape has the fields of a
-- declaration, each of which is a node, and a field is noted by its place in a shape that was gathered.
use Rattle.std.proofs.Common.{◌≡◌, ◌≤◌, ◌<◌, ◌+◌, ℕ, suc, List, [], ◌∷◌, ◌++◌, length, map, Option, Some, None}
use Rattle.std.proofs.Common.{Bool, true, false, refl, ap, subst, arith}
use Rattle.std.specs.Prelude.{◌==◌, if◌then◌else◌, sum_by}
use Rattle.std.specs.List.{AllByRecursion}
use Rattle.std.proofs.lemmas.List.{length-map}
use Rattle.std.proofs.lemmas.List.Sums.{sum_by-cons}
use Rattle.std.proofs.lemmas.List.Elements.{All-from_recursion, recursion_from_All}
use Rattle.std.proofs.lemmas.List.Sorted.{All-permutation}
use Rattle.tg_syntax.specs.declared.tokens.Ident.{Ident}
use Rattle.tg_syntax.specs.declared.trees.Op.{Op}
use Rattle.tg_syntax.specs.declared.trees.Op.TheVariants.{Equal, NotEqual, Less, LessEqual, Greater, GreaterEqual}
use Rattle.tg_syntax.specs.declared.trees.Param.{Param}
use Rattle.tg_syntax.specs.Tree.{Form, TypeDec, Alias, Fields, Array, Exp, Nil, Break, Int, Text, Read, Call, Neg, Binary, Make, Fill}
use Rattle.tg_syntax.specs.Tree.{Assign, If, When, While, For, Let, Seq, LValue, Simple, Field, Index, Exps, no_exps, exp, Inits, no_inits}
use Rattle.tg_syntax.specs.Tree.{init, Decs, no_decs, types, variable, functions, FunDecs, no_functions, function}
use Rattle.tg_syntax.specs.Measures.{form_size, type_size, size, place_size, exps_size, inits_size, decs_size, functions_size}
use Rattle.tg_syntax.specs.InnerMeasures.{inner}
use Rattle.tg_syntax.specs.InnerMeasures.{inner_place, inner_exps, inner_inits, inner_decs, inner_functions}
use Rattle.tg_symbols.specs.Tables.{looked_up}
use Rattle.tg_typecheck.specs.declared.faults.TypeRule.{TypeRule}
use Rattle.tg_typecheck.specs.declared.notes.Means.{Means}
use Rattle.tg_typecheck.specs.declared.notes.Means.TheVariants as means
use Rattle.tg_typecheck.specs.declared.notes.Note.{Note}
use Rattle.tg_typecheck.specs.Types.{Ty, int_type, string_type, nil_type, none_type, record_type, Shape, record_shape, array_shape, same}
use Rattle.tg_typecheck.specs.Types.{array_type, joined_type}
use Rattle.tg_typecheck.specs.Checks.{Noted, CheckResult, fine, fault, Check, give, refuse, keep, present, note, shape_at, add_shape, ◌>>=◌}
use Rattle.tg_semantics.specs.Environments.{name_of}
use Rattle.tg_typecheck.specs.Scopes.{Signature, Binding, variable_at, function_at, standard_one, Scope, at_of, bound, binding, in_a_loop}
use Rattle.tg_typecheck.specs.Scopes.{in_no_loop, outermost_scope, signature}
use Rattle.tg_typecheck.specs.Groups.{no_repeats, type_named, declare_types, function_names, headers, with_functions, with_params, known_form}
use Rattle.tg_typecheck.specs.Groups.{known_fields, known_forms, chains_end, add_form, add_forms, with_group, param_types, result_type, names_of}
use Rattle.tg_typecheck.specs.Groups.{known_type}
use Rattle.tg_typecheck.specs.Typing.{typed, typed_place, typed_last, expect_all, expect_fields, declare, bodies, expect, expect_none, needs_value}
use Rattle.tg_typecheck.specs.Typing.{variable_of, function_of, assignable, fields_in, fields_of, element_type_in, element_of, placed, select}
use Rattle.tg_typecheck.specs.Typing.{ordered, equated, left_side, equal_sides, right_side, own_type, body_fits, start_of, place_start}
use Rattle.tg_typecheck.specs.Accepted.{finding_of, within_limits}
use Rattle.tg_typecheck.specs.Answered.{Accepts, meaning_at}
use Rattle.tg_typecheck.specs.Limits.{limit_fault}
use Rattle.tg_typecheck.specs.Programs.{CheckedProgram, IsAccepted}
use Rattle.tg_typecheck.proofs.Inversion.{steps, kept, given, presented, refused, noting, shape_added, shape_found}
use Rattle.tg_translate.specs.mirror.Scopes.{field_number}

-- a place in a list of fields is one of them
placed_below : (f from : ℕ) (fs : List (ℕ × Ty)) (k : ℕ × Ty) → placed f from fs ≡ Some k → k.0 < from + length fs
placed_below f from [] k e = cc
placed_below f from (one ∷ fs) k e = by (one.0 == f) (placed_below f (suc from) fs k) e
  where
    by : (b : Bool) → (placed f (suc from) fs ≡ Some k → k.0 < suc from + length fs) →
        (if b then Some (from, one.1) else placed f (suc from) fs) ≡ Some k → k.0 < from + length (one ∷ fs)
    by true rest e =
        let is : (from, one.1) ≡ k = cc in
        let here : from ≡ k.0 = ap (λ x. x.0) is in
        omega (arith, here)
    by false rest e = let l = rest e in omega (arith, l)

note_is : (at : ℕ) (m : Means) (x : Unit {0}) (g h : Noted) → note at m g ≡ fine x h → noting at m g ≡ h
unfolding note
note_is at m x g h e = cc

module _ (n : ℕ) where
  -- a shape with few fields, and what is noted of a field among them
  abbrev HasFew : Shape → Type 0
  HasFew (record_shape fs) = length fs ≤ n
  HasFew (array_shape t) = Unit {0}

  abbrev ShapeIsFew : ℕ × Shape → Type 0
  ShapeIsFew s = HasFew s.1

  abbrev NoteIsFew : Note → Type 0
  NoteIsFew m = field_number (Some m.means) ≤ n

  record IsFew (g : Noted) : Type 0 where
    shapes : AllByRecursion ShapeIsFew g.shapes
    notes : AllByRecursion NoteIsFew g.notes

  shape_in : (at : ℕ) (ss : List (ℕ × Shape)) (s : Shape) → AllByRecursion ShapeIsFew ss → looked_up at ss ≡ Some s → HasFew s
  shape_in at [] s h e = cc
  shape_in at (one ∷ ss) s h e = by (one.0 == at) h.0 (shape_in at ss s h.1) e
    where
      by : (b : Bool) → HasFew one.1 → (looked_up at ss ≡ Some s → HasFew s) → (if b then Some one.1 else looked_up at ss) ≡ Some s → HasFew s
      by true few rest e = let is : one.1 ≡ s = cc in subst (λ x. HasFew x) is few
      by false few rest e = rest e

  meaning_few : (at : ℕ) (notes : List Note) → AllByRecursion NoteIsFew notes → field_number (meaning_at at notes) ≤ n
  meaning_few at [] h = omega arith
  meaning_few at (m ∷ notes) h = by (m.at == at) h.0 (meaning_few at notes h.1)
    where
      by : (b : Bool) → NoteIsFew m → field_number (meaning_at at notes) ≤ n → field_number (if b then Some m.means else meaning_at at notes) ≤ n
      by true few rest = few
      by false few rest = rest

  one_more : (notes : List Note) (m : Note) → AllByRecursion NoteIsFew notes → NoteIsFew m → AllByRecursion NoteIsFew (notes ++ m ∷ [])
  one_more [] m h k = (k, tt)
  one_more (x ∷ notes) m h k = (h.0, one_more notes m h.1 k)

  -- A check keeps what is gathered few, and its answer has a property.
  record Keeps {A : Type 0} (P : A → Type 0) (c : Check A) : Type 0 where
    goes : (g h : Noted) (a : A) → IsFew g → c g ≡ fine a h → P a × IsFew h

  abbrev Any : {A : Type 0} → A → Type 0
  Any a = Unit {0}

  next : {A B : Type 0} {P : A → Type 0} {Q : B → Type 0} {c : Check A} {rest : A → Check B} → Keeps P c →
      ((a : A) → P a → Keeps Q (rest a)) → Keeps Q (c >>= rest)
  next first more =
      record {
        goes = λ g h b few e.
            let s = steps e in
            let l = first.goes g s.between s.value few s.first in
            (more s.value l.0).goes s.between h b l.1 s.onward;
      }

  gives : {A : Type 0} {P : A → Type 0} (a : A) → P a → Keeps P (give a)
  gives {P = P} a p =
      record {
        goes = λ g h b few e.
            let d = given a b g h e in
            (subst (λ x. P x) d.0 p, subst (λ x. IsFew x) d.1 few);
      }

  plainly : {A : Type 0} (a : A) → Keeps Any (give a)
  plainly a = gives a tt

  keeps : (rule : TypeRule) (at : ℕ) (b : Bool) → Keeps Any (keep rule at b)
  keeps rule at b = record { goes = λ g h x few e. (tt, subst (λ y. IsFew y) (kept rule at b x g h e).1 few) }

  refuses : {A : Type 0} {P : A → Type 0} (rule : TypeRule) (at : ℕ) → Keeps P (refuse rule at)
  refuses rule at = record { goes = λ g h a few e. absurd (refused rule at a g h e) }

  presents : {A : Type 0} (rule : TypeRule) (at : ℕ) (o : Option A) → Keeps (λ a. o ≡ Some a) (present rule at o)
  presents rule at o =
      record {
        goes = λ g h a few e.
            let d = presented rule at o a g h e in
            (d.0, subst (λ y. IsFew y) d.1 few);
      }

  notes_it : (at : ℕ) (m : Means) → field_number (Some m) ≤ n → Keeps Any (note at m)
  notes_it at m l =
      record {
        goes = λ g h x few e. (
          tt,
          subst (λ y. IsFew y) (note_is at m x g h e)
              (record { shapes = few.shapes; notes = one_more g.notes (record { at = at; means = m }) few.notes l }),
        );
      }

  shapes_it : (at : ℕ) (s : Shape) → HasFew s → Keeps Any (add_shape at s)
  shapes_it at s l =
      record {
        goes = λ g h x few e.
            (tt, subst (λ y. IsFew y) (shape_added at s x g h e) (record { shapes = (l, few.shapes); notes = few.notes }));
      }

  abbrev FewIfSome : Option Shape → Type 0
  FewIfSome o = (s : Shape) → o ≡ Some s → HasFew s

  finds : (at : ℕ) → Keeps FewIfSome (shape_at at)
  finds at =
      record {
        goes = λ g h o few e.
            let d = shape_found at o g h e in
            (subst (λ y. FewIfSome y) d.0 (λ s i. shape_in at g.shapes s few.shapes i), subst (λ y. IsFew y) d.1 few);
      }

  -- Names, records and arrays.

  variable_keeps : (x : Ident) (o : Option Binding) → Keeps Any (variable_of x o)
  variable_keeps x None = refuses _ _
  variable_keeps x (Some (variable_at at t loop)) = next (notes_it (at_of x) (means.Variable at) (omega arith)) λ _ _. plainly t
  variable_keeps x (Some (function_at at s)) = refuses _ _
  variable_keeps x (Some (standard_one f)) = refuses _ _

  callee_keeps : (f : Ident) (o : Option Binding) → Keeps Any (function_of f o)
  callee_keeps f None = refuses _ _
  callee_keeps f (Some (variable_at at t loop)) = refuses _ _
  callee_keeps f (Some (function_at at s)) = next (notes_it (at_of f) (means.Function at) (omega arith)) λ _ _. plainly s
  callee_keeps f (Some (standard_one g)) = next (notes_it (at_of f) (means.Standard g) (omega arith)) λ _ _. plainly (signature g)

  assignable_keeps : (v : LValue) (scope : Scope) → Keeps Any (assignable v scope)
  assignable_keeps (Simple x) scope = keeps _ _ _
  assignable_keeps (Field v f) scope = plainly tt
  assignable_keeps (Index v e) scope = plainly tt

  abbrev FewFields : List (ℕ × Ty) → Type 0
  FewFields fs = length fs ≤ n

  fields_in_keeps : (o : Option Shape) (at : ℕ) → FewIfSome o → Keeps FewFields (fields_in o at)
  fields_in_keeps None at h = refuses _ _
  fields_in_keeps (Some (record_shape fs)) at h = gives fs (h (record_shape fs) refl)
  fields_in_keeps (Some (array_shape t)) at h = refuses _ _

  fields_keep : (t : Ty) (at : ℕ) → Keeps FewFields (fields_of t at)
  fields_keep (record_type byte) at = next (finds byte) λ o h. fields_in_keeps o at h
  fields_keep int_type at = refuses _ _
  fields_keep string_type at = refuses _ _
  fields_keep nil_type at = refuses _ _
  fields_keep none_type at = refuses _ _
  fields_keep (array_type byte) at = refuses _ _

  element_in_keeps : (o : Option Shape) (at : ℕ) → Keeps Any (element_type_in o at)
  element_in_keeps None at = refuses _ _
  element_in_keeps (Some (record_shape fs)) at = refuses _ _
  element_in_keeps (Some (array_shape t)) at = plainly t

  element_keeps : (t : Ty) (at : ℕ) → Keeps Any (element_of t at)
  element_keeps (array_type byte) at = next (finds byte) λ o h. element_in_keeps o at
  element_keeps int_type at = refuses _ _
  element_keeps string_type at = refuses _ _
  element_keeps nil_type at = refuses _ _
  element_keeps none_type at = refuses _ _
  element_keeps (record_type byte) at = refuses _ _

  select_keeps : (fs : List (ℕ × Ty)) (f : Ident) → length fs ≤ n → Keeps Any (select fs f)
  select_keeps fs f l =
      next (presents _ _ (placed (name_of f) 0 fs)) λ k e.
      let b = placed_below (name_of f) 0 fs k e in
      next (notes_it (at_of f) (means.Field k.0) (omega (arith, b, l))) λ _ _. plainly k.1

  -- Operators.

  value_keeps : (t : Ty) (at : ℕ) → Keeps Any (needs_value t at)
  value_keeps t at = keeps _ _ _

  expect_keeps : (wanted got : Ty) (at : ℕ) → Keeps Any (expect wanted got at)
  expect_keeps wanted got at = next (value_keeps got at) λ _ _. keeps _ _ _

  none_keeps : (got : Ty) (at : ℕ) → Keeps Any (expect_none got at)
  none_keeps got at = keeps _ _ _

  compared_keeps : (at : ℕ) (b : Bool) → Keeps Any (note at (if b then means.Content else means.Number))
  compared_keeps at true = notes_it at means.Content (omega arith)
  compared_keeps at false = notes_it at means.Number (omega arith)

  ordered_keeps : (left : Ty) (at start : ℕ) → Keeps Any (ordered left at start)
  ordered_keeps left at start =
      next (value_keeps left start) λ _ _. next (keeps _ _ _) λ _ _. next (compared_keeps at (same left string_type)) λ _ _. plainly left

  equated_keeps : (left : Ty) (at start : ℕ) → Keeps Any (equated left at start)
  equated_keeps left at start = next (value_keeps left start) λ _ _. next (compared_keeps at (same left string_type)) λ _ _. plainly left

  left_keeps : (op : Op) (left : Ty) (at start : ℕ) → Keeps Any (left_side op left at start)
  left_keeps Less left at start = ordered_keeps left at start
  left_keeps LessEqual left at start = ordered_keeps left at start
  left_keeps Greater left at start = ordered_keeps left at start
  left_keeps GreaterEqual left at start = ordered_keeps left at start
  left_keeps Equal left at start = equated_keeps left at start
  left_keeps NotEqual left at start = equated_keeps left at start
  left_keeps op left at start = next (expect_keeps int_type left start) λ _ _. plainly int_type

  equal_keeps : (left right : Ty) (start whole : ℕ) → Keeps Any (equal_sides left right start whole)
  equal_keeps left right start whole = next (value_keeps right start) λ _ _. next (keeps _ _ _) λ _ _. keeps _ _ _

  right_keeps : (op : Op) (left right : Ty) (start whole : ℕ) → Keeps Any (right_side op left right start whole)
  right_keeps Equal left right start whole = equal_keeps left right start whole
  right_keeps NotEqual left right start whole = equal_keeps left right start whole
  right_keeps op left right start whole = expect_keeps left right start

  -- Declarations.

  own_keeps : (t : Ty) (at : ℕ) → Keeps Any (own_type t at)
  own_keeps t at = next (value_keeps t at) λ _ _. next (keeps _ _ _) λ _ _. plainly t

  body_keeps : (r : Option Ident) (result got : Ty) (at : ℕ) → Keeps Any (body_fits r result got at)
  body_keeps (Some x) result got at = expect_keeps result got at
  body_keeps None result got at = none_keeps got at

  repeats_keep : (rule : TypeRule) (earlier names : List Ident) → Keeps Any (no_repeats rule earlier names)
  repeats_keep rule earlier [] = plainly tt
  repeats_keep rule earlier (x ∷ xs) = next (keeps _ _ _) λ _ _. repeats_keep rule (x ∷ earlier) xs

  known_fields_keep : (ds : List TypeDec) (scope : Scope) (earlier : List Ident) (ps : List Param) → Keeps Any (known_fields ds scope earlier ps)
  known_fields_keep ds scope earlier [] = plainly tt
  known_fields_keep ds scope earlier (p ∷ ps) =
      next (keeps _ _ _) λ _ _. next (keeps _ _ _) λ _ _. known_fields_keep ds scope (p.name ∷ earlier) ps

  known_form_keeps : (ds : List TypeDec) (scope : Scope) (form : Form) → Keeps Any (known_form ds scope form)
  known_form_keeps ds scope (Alias x) = keeps _ _ _
  known_form_keeps ds scope (Fields ps) = known_fields_keep ds scope [] ps
  known_form_keeps ds scope (Array x) = keeps _ _ _

  known_forms_keep : (group ds : List TypeDec) (scope : Scope) → Keeps Any (known_forms group ds scope)
  known_forms_keep group [] scope = plainly tt
  known_forms_keep group (d ∷ ds) scope = next (known_form_keeps group scope d.form) λ _ _. known_forms_keep group ds scope

  chains_keep : (group ds : List TypeDec) → Keeps Any (chains_end group ds)
  chains_keep group [] = plainly tt
  chains_keep group (d ∷ ds) = next (keeps _ _ _) λ _ _. chains_keep group ds

  form_keeps : (scope : Scope) (at : ℕ) (form : Form) → form_size form ≤ n → Keeps Any (add_form scope at form)
  form_keeps scope at (Alias x) l = plainly tt
  form_keeps scope at (Fields ps) l =
      let fs : List (ℕ × Ty) = map (λ (p : Param). (name_of p.name, known_type scope p.kind)) ps in
      let long : length fs ≡ length ps = length-map ps (λ (p : Param). (name_of p.name, known_type scope p.kind)) in
      shapes_it at (record_shape fs) (omega (arith, long, l))
  form_keeps scope at (Array x) l = shapes_it at (array_shape (known_type scope x)) tt

  forms_keep : (scope : Scope) (ds : List TypeDec) → sum_by type_size ds ≤ n → Keeps Any (add_forms scope ds)
  forms_keep scope [] l = plainly tt
  forms_keep scope (d ∷ ds) l =
      let more = sum_by-cons type_size d ds in
      next (form_keeps scope (at_of d.name) d.form (omega (arith, more, l))) λ _ _. forms_keep scope ds (omega (arith, more, l))

  types_keep : (ds : List TypeDec) (scope : Scope) → sum_by type_size ds ≤ n → Keeps Any (declare_types ds scope)
  types_keep ds scope l =
      next (repeats_keep _ [] (names_of ds)) λ _ _. next (known_forms_keep ds ds scope) λ _ _. next (chains_keep ds ds) λ _ _.
      next (forms_keep (with_group ds ds scope scope) ds l) λ _ _. plainly (with_group ds ds scope scope)

  params_keep : (scope : Scope) (earlier : List Ident) (ps : List Param) → Keeps Any (param_types scope earlier ps)
  params_keep scope earlier [] = plainly []
  params_keep scope earlier (p ∷ ps) =
      next (keeps _ _ _) λ _ _. next (presents _ _ (looked_up (name_of p.kind) scope.types)) λ t _.
      next (params_keep scope (p.name ∷ earlier) ps) λ ts _. plainly (t ∷ ts)

  any_type : (x : Ident) (scope : Scope) → Keeps Any (type_named x scope)
  any_type x scope = record { goes = λ g h a few e. (tt, ((presents _ _ (looked_up (name_of x) scope.types)).goes g h a few e).1) }

  result_keeps : (scope : Scope) (r : Option Ident) → Keeps Any (result_type scope r)
  result_keeps scope None = plainly none_type
  result_keeps scope (Some x) = any_type x scope

  headers_keep : (fs : FunDecs) (scope : Scope) → Keeps Any (headers fs scope)
  headers_keep no_functions scope = plainly []
  headers_keep (function f ps r body rest) scope =
      next (params_keep scope [] ps) λ ts _. next (result_keeps scope r) λ t _. next (headers_keep rest scope) λ more _.
      plainly (record { params = ts; result = t } ∷ more)

  -- The tree, whose nodes are so many at most.
  mutual
    walk : (e : Exp) (scope : Scope) → size e + inner e ≤ n → Keeps Any (typed e scope)
    walk (Nil s) scope l = plainly nil_type
    walk (Int s k) scope l = plainly int_type
    walk (Text s bytes) scope l = plainly string_type
    walk (Break s) scope l = next (keeps _ _ _) λ _ _. plainly none_type
    walk (Read s v) scope l = walk_place v scope (omega (arith, l))
    walk (Call s f args) scope l =
        next (callee_keeps f (bound f scope)) λ sig _. next (keeps _ _ _) λ _ _.
        next (walk_all args sig.params scope (omega (arith, l))) λ _ _. plainly sig.result
    walk (Neg s a) scope l =
        next (walk a scope (omega (arith, l))) λ t _. next (expect_keeps int_type t (start_of a)) λ _ _. plainly int_type
    walk (Binary s op at a b) scope l =
        next (walk a scope (omega (arith, l))) λ t _. next (left_keeps op t at (start_of a)) λ left _.
        next (walk b scope (omega (arith, l))) λ u _. next (right_keeps op left u (start_of b) s.from) λ _ _. plainly int_type
    walk (Make s x inits) scope l =
        next (any_type x scope) λ t _. next (fields_keep t (at_of x)) λ fs _. next (keeps _ _ _) λ _ _.
        next (walk_inits inits fs scope (omega (arith, l))) λ _ _. plainly t
    walk (Fill s x a b) scope l =
        next (any_type x scope) λ t _. next (element_keeps t (at_of x)) λ element _.
        next (walk a scope (omega (arith, l))) λ u _. next (expect_keeps int_type u (start_of a)) λ _ _.
        next (walk b scope (omega (arith, l))) λ v _. next (expect_keeps element v (start_of b)) λ _ _. plainly t
    walk (Assign s v e) scope l =
        next (walk_place v scope (omega (arith, l))) λ t _. next (assignable_keeps v scope) λ _ _.
        next (walk e scope (omega (arith, l))) λ a _. next (expect_keeps t a (start_of e)) λ _ _. plainly none_type
    walk (If s c a b) scope l =
        next (walk c scope (omega (arith, l))) λ t _. next (expect_keeps int_type t (start_of c)) λ _ _.
        next (walk a scope (omega (arith, l))) λ u _. next (walk b scope (omega (arith, l))) λ v _.
        next (keeps _ _ _) λ _ _. plainly (joined_type u v)
    walk (When s c a) scope l =
        next (walk c scope (omega (arith, l))) λ t _. next (expect_keeps int_type t (start_of c)) λ _ _.
        next (walk a scope (omega (arith, l))) λ u _. next (none_keeps u (start_of a)) λ _ _. plainly none_type
    walk (While s c a) scope l =
        next (walk c scope (omega (arith, l))) λ t _. next (expect_keeps int_type t (start_of c)) λ _ _.
        next (walk a (in_a_loop scope) (omega (arith, l))) λ u _. next (none_keeps u (start_of a)) λ _ _. plainly none_type
    walk (For s x low high a) scope l =
        next (walk low scope (omega (arith, l))) λ t _. next (expect_keeps int_type t (start_of low)) λ _ _.
        next (walk high scope (omega (arith, l))) λ u _. next (expect_keeps int_type u (start_of high)) λ _ _.
        next (walk a (in_a_loop (binding x (variable_at (at_of x) int_type true) scope)) (omega (arith, l))) λ v _.
        next (none_keeps v (start_of a)) λ _ _. plainly none_type
    walk (Let s ds es) scope l =
        next (walk_decs ds scope (omega (arith, l))) λ inside _. walk_last none_type es inside (omega (arith, l))
    walk (Seq s es) scope l = walk_last none_type es scope (omega (arith, l))

    walk_place : (v : LValue) (scope : Scope) → place_size v + inner_place v ≤ n → Keeps Any (typed_place v scope)
    walk_place (Simple x) scope l = variable_keeps x (bound x scope)
    walk_place (Field v f) scope l =
        next (walk_place v scope (omega (arith, l))) λ t _. next (fields_keep t (place_start v)) λ fs few. select_keeps fs f few
    walk_place (Index v e) scope l =
        next (walk_place v scope (omega (arith, l))) λ t _. next (element_keeps t (place_start v)) λ element _.
        next (walk e scope (omega (arith, l))) λ a _. next (expect_keeps int_type a (start_of e)) λ _ _. plainly element

    walk_all : (es : Exps) (ts : List Ty) (scope : Scope) → exps_size es + inner_exps es ≤ n → Keeps Any (expect_all es ts scope)
    walk_all no_exps ts scope l = plainly tt
    walk_all (exp e rest) [] scope l = plainly tt
    walk_all (exp e rest) (t ∷ ts) scope l =
        next (walk e scope (omega (arith, l))) λ a _. next (expect_keeps t a (start_of e)) λ _ _. walk_all rest ts scope (omega (arith, l))

    walk_inits : (es : Inits) (fs : List (ℕ × Ty)) (scope : Scope) → inits_size es + inner_inits es ≤ n → Keeps Any (expect_fields es fs scope)
    walk_inits no_inits fs scope l = plainly tt
    walk_inits (init f e rest) [] scope l = plainly tt
    walk_inits (init f e rest) (field ∷ fs) scope l =
        next (walk e scope (omega (arith, l))) λ a _. next (expect_keeps field.1 a (start_of e)) λ _ _. walk_inits rest fs scope (omega (arith, l))

    walk_last : (t : Ty) (es : Exps) (scope : Scope) → exps_size es + inner_exps es ≤ n → Keeps Any (typed_last t es scope)
    walk_last t no_exps scope l = plainly t
    walk_last t (exp e rest) scope l = next (walk e scope (omega (arith, l))) λ u _. walk_last u rest scope (omega (arith, l))

    walk_decs : (ds : Decs) (scope : Scope) → decs_size ds + inner_decs ds ≤ n → Keeps Any (declare ds scope)
    walk_decs no_decs scope l = plainly scope
    walk_decs (types ds rest) scope l = next (types_keep ds scope (omega (arith, l))) λ inside _. walk_decs rest inside (omega (arith, l))
    walk_decs (variable x None e rest) scope l =
        next (walk e scope (omega (arith, l))) λ t _. next (own_keeps t (start_of e)) λ own _.
        walk_decs rest (binding x (variable_at (at_of x) own false) scope) (omega (arith, l))
    walk_decs (variable x (Some kind) e rest) scope l =
        next (any_type kind scope) λ t _. next (walk e scope (omega (arith, l))) λ a _. next (expect_keeps t a (start_of e)) λ _ _.
        walk_decs rest (binding x (variable_at (at_of x) t false) scope) (omega (arith, l))
    walk_decs (functions fs rest) scope l =
        next (repeats_keep _ [] (function_names fs)) λ _ _. next (headers_keep fs scope) λ ss _.
        next (walk_bodies fs ss (in_no_loop (with_functions fs ss scope)) (omega (arith, l))) λ _ _.
        walk_decs rest (with_functions fs ss scope) (omega (arith, l))

    walk_bodies : (fs : FunDecs) (ss : List Signature) (scope : Scope) → functions_size fs + inner_functions fs ≤ n →
        Keeps Any (bodies fs ss scope)
    walk_bodies no_functions ss scope l = plainly tt
    walk_bodies (function f ps r body rest) [] scope l = plainly tt
    walk_bodies (function f ps r body rest) (s ∷ ss) scope l =
        next (walk body (with_params ps s.params scope) (omega (arith, l))) λ a _. next (body_keeps r s.result a (start_of body)) λ _ _.
        walk_bodies rest ss scope (omega (arith, l))

  -- So it is of an accepted program, and of its notes in their order.

  abbrev begin : Noted
  begin = record { shapes = []; notes = [] }

  by_limits : (few sorted : List Note) (o : Option (TypeRule × ℕ)) → Accepts (within_limits few o) sorted → AllByRecursion NoteIsFew few →
      AllByRecursion NoteIsFew sorted
  by_limits few sorted None a h = recursion_from_All NoteIsFew sorted (All-permutation NoteIsFew few sorted a.0 (All-from_recursion NoteIsFew few h))
  by_limits few sorted (Some f) a h = absurd a

  by_checks : (names : List (List ℕ)) (body : Exp) (sorted : List Note) (c : CheckResult Ty) → typed body (outermost_scope names) begin ≡ c →
      Accepts (finding_of body c) sorted → size body + inner body ≤ n → AllByRecursion NoteIsFew sorted
  by_checks names body sorted (fault rule at) is a l = absurd a
  by_checks names body sorted (fine t noted) is a l =
      by_limits noted.notes sorted (limit_fault body) a
      ((walk body (outermost_scope names) l).goes begin noted t (record { shapes = tt; notes = tt }) is).1.notes

  pub fields_are_below : (p : CheckedProgram) → IsAccepted p → size p.body + inner p.body ≤ n → (at : ℕ) →
      field_number (meaning_at at p.notes) ≤ n
  fields_are_below p a l at =
      meaning_few at p.notes (by_checks p.names p.body p.notes (typed p.body (outermost_scope p.names) begin) refl a.accepted l)
