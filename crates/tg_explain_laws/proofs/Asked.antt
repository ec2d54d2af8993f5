-- A fault that tells types is of what typing asks, and the type there breaks it: each check's fault is, and so is that of checks one after another.
use Rattle.std.proofs.Common.{◌≡◌, ℕ, List, [], ◌∷◌, Option, Some, None, Bool, true, false, refl, sym, ap, ◌∙◌, subst}
use Rattle.std.specs.Prelude.{not, ◌&&◌, ◌==◌, length}
use Rattle.tg_symbols.specs.Tables.{looked_up}
use Rattle.tg_semantics.specs.Environments.{name_of}
use Rattle.tg_syntax.specs.declared.tokens.Ident.{Ident}
use Rattle.tg_syntax.specs.declared.trees.Param.{Param}
use Rattle.tg_syntax.specs.declared.trees.Op.{Op}
use Rattle.tg_syntax.specs.declared.trees.Op.TheVariants.{Plus, Minus, Times, Divide, Equal, NotEqual, Less, LessEqual, Greater, GreaterEqual, And, Or}
use Rattle.tg_syntax.specs.Tree.{Form, Alias, Fields, Array, TypeDec, Exp, Nil, Break, Int, Text, Read, Call, Neg, Binary, Make, Fill, Assign, If, When}
use Rattle.tg_syntax.specs.Tree.{While, For, Let, Seq, LValue, Simple, Field, Index, Exps, no_exps, exp, Inits, no_inits, init, Decs, no_decs, types}
use Rattle.tg_syntax.specs.Tree.{variable, functions, FunDecs, no_functions, function}
use Rattle.tg_typecheck.specs.declared.faults.TypeRule.{TypeRule}
use Rattle.tg_typecheck.specs.declared.faults.TypeRule.TheVariants.{T3, T6, T10, T11, T12, T13, T14, T16, T17}
use Rattle.tg_typecheck.specs.declared.notes.Means.{Means}
use Rattle.tg_typecheck.specs.Types.{Ty, int_type, string_type, nil_type, none_type, record_type, array_type, Shape, record_shape, array_shape, same}
use Rattle.tg_typecheck.specs.Types.{fits, alike, are_nil, has_order}
use Rattle.tg_typecheck.specs.Checks.{Noted, CheckResult, fine, fault, Check, on_fine, ◌>>=◌, give, refuse, keep, present, note, shape_at, add_shape}
use Rattle.tg_typecheck.specs.Scopes.{Signature, Binding, variable_at, function_at, standard_one, Scope, at_of, bound, binding, in_a_loop, in_no_loop}
use Rattle.tg_typecheck.specs.Groups.{no_repeats, names_of, known_fields, known_form, known_forms, chains_end, with_group, add_form, add_forms}
use Rattle.tg_typecheck.specs.Groups.{declare_types, function_names, param_types, result_type, headers, with_functions, with_params}
use Rattle.tg_typecheck.specs.Typing.{start_of, place_start, expect, expect_none, variable_of, function_of, assignable, fields_in, fields_of}
use Rattle.tg_typecheck.specs.Typing.{element_type_in, element_of, select, ordered, equated, left_side, equal_sides, right_side, own_type, body_fits}
use Rattle.tg_typecheck.specs.Typing.{typed, typed_place, expect_all, expect_fields, typed_last, declare, bodies, are_fields}
use Rattle.tg_typecheck.specs.Typing.{expression_count}
use Rattle.tg_typecheck.proofs.Inversion.{steps, kept as kept_is, given as given_is}
use Rattle.tg_explain_typing.specs.declared.types.Ty.TheVariants as told
use Rattle.tg_explain_typing.specs.declared.facts.Demand.{Demand}
use Rattle.tg_explain_typing.specs.declared.facts.Demand.TheVariants.{Fits, Valueless, Ordered, Valued, Like, Joins, Own, BesideNil}
use Rattle.tg_explain_typing.specs.declared.finding.Breach.{Breach}
use Rattle.tg_explain_typing.specs.declared.finding.Breach.TheVariants.{Mismatch, NoValue, BareNil}
use Rattle.tg_explain_typing.specs.declared.finding.Judgement.{Judgement}
use Rattle.tg_explain_typing.specs.Types as explained
use Rattle.tg_explain_typing.specs.Facts.{left_demand, right_demand, is_equality}
use Rattle.tg_explain_typing.specs.Finding.{breaks}
use Rattle.tg_explain_types.specs.laws.Types.{told_type, TestsAgree}
use Rattle.tg_explain_laws.specs.Asking as A
use Rattle.tg_explain_laws.specs.Asking.{Asks, AsksOf, AsksPlace, AsksAll, AsksFields, AsksEach, AsksDecs, AsksBodies, outcome, fitting}
use Rattle.tg_explain_laws.specs.laws.Asked.{breach_of, IsAsked}

-- what is asked of a type
abbrev judge : Demand → Ty → Judgement
judge demand got = record { demand = demand; got = told_type got }

record Found (b : Breach) (P : Judgement → Type 0) : Type 0 where
  judgement : Judgement
  is : P judgement
  broken : breaks b judgement.demand judgement.got ≡ true

-- where this is a fault that tells types, it is of a broken judgement at its byte for which this holds
record Blames {A : Type 0} (P : (at : ℕ) → Judgement → Type 0) (m : Check A) (n : Noted) : Type 0 where
  blames : (rule : TypeRule) (at : ℕ) (b : Breach) → breach_of rule ≡ Some b → m n ≡ fault rule at → Found b (P at)

through : {A : Type 0} {P Q : (at : ℕ) → Judgement → Type 0} {m : Check A} {n : Noted} → ((at : ℕ) (j : Judgement) → P at j → Q at j) → Blames P m n →
    Blames Q m n
through f h = record {
  blames = λ rule at b k e.
      let found = h.blames rule at b k e in
      record { judgement = found.judgement; is = f at found.judgement found.is; broken = found.broken };
}

in_parts : {A B : Type 0} {P : (at : ℕ) → Judgement → Type 0} (m : Check A) (next : A → Check B) (n : Noted) → Blames P m n →
    ((a : A) (k : Noted) → m n ≡ fine a k → Blames P (next a) k) → (rule : TypeRule) (at : ℕ) (b : Breach) → breach_of rule ≡ Some b →
    (o : CheckResult A) → m n ≡ o → on_fine o next ≡ fault rule at → Found b (P at)
in_parts m next n f g rule at b k (fine a noted) is e = (g a noted is).blames rule at b k e
in_parts m next n f g rule at b k (fault r p) is e =
    let same_rule : r ≡ rule = cc in
    let same_byte : p ≡ at = cc in
    f.blames rule at b k (is ∙ ap (λ y. fault y p) same_rule ∙ ap (λ y. fault rule y) same_byte)

-- the fault of two checks is the first's, or the second's
bind : {A B : Type 0} {P : (at : ℕ) → Judgement → Type 0} {m : Check A} {next : A → Check B} {n : Noted} → Blames P m n →
    ((a : A) (k : Noted) → m n ≡ fine a k → Blames P (next a) k) → Blames P (m >>= next) n
unfolding ◌>>=◌
bind {m = m} {next = next} {n = n} f g = record { blames = λ rule at b k e. in_parts m next n f g rule at b k (m n) refl e }

given : {A : Type 0} {P : (at : ℕ) → Judgement → Type 0} (a : A) (n : Noted) → Blames P (give a) n
unfolding give
given a n = record { blames = λ rule at b k e. cc }

-- a rule that tells no types
refused : {A : Type 0} {P : (at : ℕ) → Judgement → Type 0} (rule : TypeRule) (at : ℕ) (n : Noted) → breach_of rule ≡ None → Blames P (refuse {A = A} rule at) n
unfolding refuse
refused rule at n silent = record {
  blames = λ r p b k e.
      let same_rule : rule ≡ r = cc in
      let never : None ≡ Some b = sym silent ∙ ap breach_of same_rule ∙ k in
      cc;
}

kept : {P : (at : ℕ) → Judgement → Type 0} (rule : TypeRule) (at : ℕ) (c : Bool) (n : Noted) → breach_of rule ≡ None → Blames P (keep rule at c) n
kept rule at true n silent = given _ _
kept rule at false n silent = refused _ _ _ silent

presented : {A : Type 0} {P : (at : ℕ) → Judgement → Type 0} (rule : TypeRule) (at : ℕ) (o : Option A) (n : Noted) → breach_of rule ≡ None →
    Blames P (present rule at o) n
presented rule at (Some a) n silent = given _ _
presented rule at None n silent = refused _ _ _ silent

noted : {P : (at : ℕ) → Judgement → Type 0} (at : ℕ) (means : Means) (n : Noted) → Blames P (note at means) n
unfolding note
noted at means n = record { blames = λ rule p b k e. cc }

shape : {P : (at : ℕ) → Judgement → Type 0} (at : ℕ) (n : Noted) → Blames P (shape_at at) n
unfolding shape_at
shape at n = record { blames = λ rule p b k e. cc }

shape_added : {P : (at : ℕ) → Judgement → Type 0} (at : ℕ) (s : Shape) (n : Noted) → Blames P (add_shape at s) n
unfolding add_shape
shape_added at s n = record { blames = λ rule p b k e. cc }

-- a rule that tells types: the judgement is broken where the test fails
weighed : {P : (at : ℕ) → Judgement → Type 0} (rule : TypeRule) (b : Breach) → breach_of rule ≡ Some b → (at : ℕ) (c : Bool) (n : Noted) (j : Judgement) →
    (c ≡ false → breaks b j.demand j.got ≡ true) → P at j → Blames P (keep rule at c) n
unfolding refuse
weighed rule b is at true n j broken asked = given _ _
weighed {P = P} rule b is at false n j broken asked = record {
  blames = λ r p b' k e.
      let same_rule : rule ≡ r = cc in
      let same_byte : at ≡ p = cc in
      let both : Some b ≡ Some b' = sym is ∙ ap breach_of same_rule ∙ k in
      let same_breach : b ≡ b' = cc in
      record {
        judgement = j;
        is = subst (λ y. P y j) same_byte asked;
        broken = subst (λ y. breaks y j.demand j.got ≡ true) same_breach (broken refl);
      };
}

-- ---- checks that tell no types

of_variable : {P : (at : ℕ) → Judgement → Type 0} (x : Ident) (b : Option Binding) (n : Noted) → Blames P (variable_of x b) n
of_variable x None n = refused _ _ _ refl
of_variable x (Some (variable_at at t loop)) n = bind (noted _ _ _) (λ _ _ _. given _ _)
of_variable x (Some (function_at at s)) n = refused _ _ _ refl
of_variable x (Some (standard_one f)) n = refused _ _ _ refl

of_function : {P : (at : ℕ) → Judgement → Type 0} (f : Ident) (b : Option Binding) (n : Noted) → Blames P (function_of f b) n
of_function f None n = refused _ _ _ refl
of_function f (Some (variable_at at t loop)) n = refused _ _ _ refl
of_function f (Some (function_at at s)) n = bind (noted _ _ _) (λ _ _ _. given _ _)
of_function f (Some (standard_one g)) n = bind (noted _ _ _) (λ _ _ _. given _ _)

of_assignable : {P : (at : ℕ) → Judgement → Type 0} (v : LValue) (scope : Scope) (n : Noted) → Blames P (assignable v scope) n
of_assignable (Simple x) scope n = kept _ _ _ _ refl
of_assignable (Field v f) scope n = given _ _
of_assignable (Index v e) scope n = given _ _

of_fields_in : {P : (at : ℕ) → Judgement → Type 0} (s : Option Shape) (at : ℕ) (n : Noted) → Blames P (fields_in s at) n
of_fields_in (Some (record_shape fs)) at n = given _ _
of_fields_in (Some (array_shape t)) at n = refused _ _ _ refl
of_fields_in None at n = refused _ _ _ refl

of_fields : {P : (at : ℕ) → Judgement → Type 0} (t : Ty) (at : ℕ) (n : Noted) → Blames P (fields_of t at) n
of_fields (record_type byte) at n = bind (shape _ _) (λ s k _. of_fields_in s at k)
of_fields _ at n = refused _ _ _ refl

of_element_in : {P : (at : ℕ) → Judgement → Type 0} (s : Option Shape) (at : ℕ) (n : Noted) → Blames P (element_type_in s at) n
of_element_in (Some (array_shape t)) at n = given _ _
of_element_in (Some (record_shape fs)) at n = refused _ _ _ refl
of_element_in None at n = refused _ _ _ refl

of_element : {P : (at : ℕ) → Judgement → Type 0} (t : Ty) (at : ℕ) (n : Noted) → Blames P (element_of t at) n
of_element (array_type byte) at n = bind (shape _ _) (λ s k _. of_element_in s at k)
of_element _ at n = refused _ _ _ refl

of_select : {P : (at : ℕ) → Judgement → Type 0} (fs : List (ℕ × Ty)) (f : Ident) (n : Noted) → Blames P (select fs f) n
of_select fs f n = bind (presented _ _ _ _ refl) (λ _ _ _. bind (noted _ _ _) (λ _ _ _. given _ _))

of_no_repeats : {P : (at : ℕ) → Judgement → Type 0} (rule : TypeRule) → breach_of rule ≡ None → (earlier names : List Ident) (n : Noted) →
    Blames P (no_repeats rule earlier names) n
of_no_repeats rule silent earlier [] n = given _ _
of_no_repeats rule silent earlier (x ∷ xs) n = bind (kept _ _ _ _ silent) (λ _ k _. of_no_repeats rule silent (x ∷ earlier) xs k)

of_known_fields : {P : (at : ℕ) → Judgement → Type 0} (ds : List TypeDec) (scope : Scope) (earlier : List Ident) (ps : List Param) (n : Noted) →
    Blames P (known_fields ds scope earlier ps) n
of_known_fields ds scope earlier [] n = given _ _
of_known_fields ds scope earlier (p ∷ ps) n =
    bind (kept _ _ _ _ refl) (λ _ _ _. bind (kept _ _ _ _ refl) (λ _ k _. of_known_fields ds scope (p.name ∷ earlier) ps k))

of_known_form : {P : (at : ℕ) → Judgement → Type 0} (ds : List TypeDec) (scope : Scope) (form : Form) (n : Noted) → Blames P (known_form ds scope form) n
of_known_form ds scope (Alias x) n = kept _ _ _ _ refl
of_known_form ds scope (Fields ps) n = of_known_fields ds scope [] ps n
of_known_form ds scope (Array x) n = kept _ _ _ _ refl

of_known_forms : {P : (at : ℕ) → Judgement → Type 0} (group ds : List TypeDec) (scope : Scope) (n : Noted) → Blames P (known_forms group ds scope) n
of_known_forms group [] scope n = given _ _
of_known_forms group (d ∷ ds) scope n = bind (of_known_form group scope d.form n) (λ _ k _. of_known_forms group ds scope k)

of_chains : {P : (at : ℕ) → Judgement → Type 0} (group ds : List TypeDec) (n : Noted) → Blames P (chains_end group ds) n
of_chains group [] n = given _ _
of_chains group (d ∷ ds) n = bind (kept _ _ _ _ refl) (λ _ k _. of_chains group ds k)

of_form : {P : (at : ℕ) → Judgement → Type 0} (scope : Scope) (at : ℕ) (form : Form) (n : Noted) → Blames P (add_form scope at form) n
of_form scope at (Alias x) n = given _ _
of_form scope at (Fields ps) n = shape_added _ _ _
of_form scope at (Array x) n = shape_added _ _ _

of_forms : {P : (at : ℕ) → Judgement → Type 0} (scope : Scope) (ds : List TypeDec) (n : Noted) → Blames P (add_forms scope ds) n
of_forms scope [] n = given _ _
of_forms scope (d ∷ ds) n = bind (of_form scope (at_of d.name) d.form n) (λ _ k _. of_forms scope ds k)

of_types : {P : (at : ℕ) → Judgement → Type 0} (ds : List TypeDec) (scope : Scope) (n : Noted) → Blames P (declare_types ds scope) n
of_types ds scope n =
    bind (of_no_repeats T16 refl [] (names_of ds) n) (λ _ m _.
    bind (of_known_forms ds ds scope m) (λ _ k _.
    bind (of_chains ds ds k) (λ _ i _.
    bind (of_forms (with_group ds ds scope scope) ds i) (λ _ _ _. given _ _))))

of_params : {P : (at : ℕ) → Judgement → Type 0} (scope : Scope) (earlier : List Ident) (ps : List Param) (n : Noted) →
    Blames P (param_types scope earlier ps) n
of_params scope earlier [] n = given _ _
of_params scope earlier (p ∷ ps) n =
    bind (kept _ _ _ _ refl) (λ _ _ _.
    bind (presented _ _ _ _ refl) (λ t k _.
    bind (of_params scope (p.name ∷ earlier) ps k) (λ _ _ _. given _ _)))

of_result : {P : (at : ℕ) → Judgement → Type 0} (scope : Scope) (kind : Option Ident) (n : Noted) → Blames P (result_type scope kind) n
of_result scope None n = given _ _
of_result scope (Some x) n = presented _ _ _ _ refl

of_headers : {P : (at : ℕ) → Judgement → Type 0} (fs : FunDecs) (scope : Scope) (n : Noted) → Blames P (headers fs scope) n
of_headers no_functions scope n = given _ _
of_headers (function f ps r body rest) scope n =
    bind (of_params scope [] ps n) (λ _ m _.
    bind (of_result scope r m) (λ _ k _.
    bind (of_headers rest scope k) (λ _ _ _. given _ _)))

-- ---- types

no_value : (t : Ty) → not (same t none_type) ≡ false → explained.same (told_type t) told.Nothing ≡ true
no_value int_type h = cc
no_value string_type h = cc
no_value nil_type h = cc
no_value none_type h = refl
no_value (record_type a) h = cc
no_value (array_type a) h = cc

some_value : (t : Ty) → same t none_type ≡ false → not (explained.same (told_type t) told.Nothing) ≡ true
some_value int_type h = refl
some_value string_type h = refl
some_value nil_type h = refl
some_value none_type h = cc
some_value (record_type a) h = refl
some_value (array_type a) h = refl

bare_nil : (t : Ty) → not (same t nil_type) ≡ false → explained.same (told_type t) told.Nil ≡ true
bare_nil int_type h = cc
bare_nil string_type h = cc
bare_nil nil_type h = refl
bare_nil none_type h = cc
bare_nil (record_type a) h = cc
bare_nil (array_type a) h = cc

both_nil : (t u : Ty) → not (are_nil t u) ≡ false → (explained.same (told_type t) told.Nil && explained.same (told_type u) told.Nil) ≡ true
both_nil nil_type nil_type h = refl
both_nil _ _ h = cc

untrue : (b : Bool) → not b ≡ true → b ≡ false
untrue true h = cc
untrue false h = refl

-- a part that is fine, and what is asked of it, as one check
both_fine : (e : Exp) (wanted : Ty) (scope : Scope) (n : Noted) {t : Ty} {m k : Noted} {u : Unit {0}} → typed e scope n ≡ fine t m →
    expect wanted t (start_of e) m ≡ fine u k → fitting e wanted scope n ≡ fine tt k
unfolding ◌>>=◌
both_fine e wanted scope n h i = ap (λ o. on_fine o (λ t. expect wanted t (start_of e))) h ∙ i

module _ (tests : (one other : Ty) → TestsAgree one other) where
  misfits : (got wanted : Ty) → fits got wanted ≡ false → not (explained.fits (told_type got) (told_type wanted)) ≡ true
  misfits got wanted h = ap not ((tests got wanted).fits ∙ h)

  unlike : (one other : Ty) → alike one other ≡ false → not (explained.alike (told_type one) (told_type other)) ≡ true
  unlike one other h = ap not ((tests one other).alike ∙ h)

  orderless : (t : Ty) → has_order t ≡ false → not (explained.has_order (told_type t)) ≡ true
  orderless t h = ap not ((tests t t).order ∙ h)

  expected : {P : (at : ℕ) → Judgement → Type 0} (wanted got : Ty) (at : ℕ) (n : Noted) → P at (judge (Fits (told_type wanted)) got) →
      Blames P (expect wanted got at) n
  expected wanted got at n asked =
      bind (weighed T12 NoValue refl at _ n (judge (Fits (told_type wanted)) got) (no_value got) asked) (λ _ k _.
      weighed T6 Mismatch refl at _ k (judge (Fits (told_type wanted)) got) (misfits got wanted) asked)

  no_more : {P : (at : ℕ) → Judgement → Type 0} (got : Ty) (at : ℕ) (n : Noted) → P at (judge Valueless got) → Blames P (expect_none got at) n
  no_more got at n asked = weighed T6 Mismatch refl at _ n (judge Valueless got) (some_value got) asked

  in_order : {P : (at : ℕ) → Judgement → Type 0} (t : Ty) (at left_at : ℕ) (n : Noted) → P left_at (judge Ordered t) → Blames P (ordered t at left_at) n
  in_order t at left_at n asked =
      bind (weighed T12 NoValue refl left_at _ n (judge Ordered t) (no_value t) asked) (λ _ k _.
      bind (weighed T6 Mismatch refl left_at _ k (judge Ordered t) (orderless t) asked) (λ _ k' _.
      bind (noted _ _ _) (λ _ _ _. given _ _)))

  in_equation : {P : (at : ℕ) → Judgement → Type 0} (t : Ty) (at left_at : ℕ) (n : Noted) → P left_at (judge Valued t) → Blames P (equated t at left_at) n
  in_equation t at left_at n asked =
      bind (weighed T12 NoValue refl left_at _ n (judge Valued t) (no_value t) asked) (λ _ k _.
      bind (noted _ _ _) (λ _ _ _. given _ _))

  an_int : {P : (at : ℕ) → Judgement → Type 0} (t : Ty) (at : ℕ) (n : Noted) → P at (judge (Fits told.Int) t) →
      Blames P (expect int_type t at >>= λ _. give int_type) n
  an_int t at n asked = bind (expected int_type t at n asked) (λ _ _ _. given _ _)

  of_left : {P : (at : ℕ) → Judgement → Type 0} (op : Op) (t : Ty) (at left_at : ℕ) (n : Noted) → P left_at (judge (left_demand op) t) →
      Blames P (left_side op t at left_at) n
  of_left Less t at left_at n asked = in_order t at left_at n asked
  of_left LessEqual t at left_at n asked = in_order t at left_at n asked
  of_left Greater t at left_at n asked = in_order t at left_at n asked
  of_left GreaterEqual t at left_at n asked = in_order t at left_at n asked
  of_left Equal t at left_at n asked = in_equation t at left_at n asked
  of_left NotEqual t at left_at n asked = in_equation t at left_at n asked
  of_left Plus t at left_at n asked = an_int t left_at n asked
  of_left Minus t at left_at n asked = an_int t left_at n asked
  of_left Times t at left_at n asked = an_int t left_at n asked
  of_left Divide t at left_at n asked = an_int t left_at n asked
  of_left And t at left_at n asked = an_int t left_at n asked
  of_left Or t at left_at n asked = an_int t left_at n asked

  an_int_left : (t l : Ty) (at : ℕ) (m k : Noted) → (expect int_type t at >>= λ _. give int_type) m ≡ fine l k → l ≡ int_type
  an_int_left t l at m k e = sym (given_is _ _ _ _ (steps e).onward).0

  arithmetic : {P : (at : ℕ) → Judgement → Type 0} (t l u : Ty) (at right_at : ℕ) (m k n : Noted) →
      (expect int_type t at >>= λ _. give int_type) m ≡ fine l k → P right_at (judge (Fits told.Int) u) → Blames P (expect l u right_at) n
  arithmetic {P = P} t l u at right_at m k n e asked =
      expected l u right_at n (subst (λ y. P right_at (judge (Fits (told_type y)) u)) (sym (an_int_left t l at m k e)) asked)

  equality : {P : (at : ℕ) → Judgement → Type 0} (l u : Ty) (right_at whole : ℕ) (n : Noted) → P right_at (judge (Like (told_type l)) u) →
      (same u none_type ≡ false → P whole (judge (BesideNil (told_type l)) u)) → Blames P (equal_sides l u right_at whole) n
  equality l u right_at whole n asked beside =
      bind (weighed T12 NoValue refl right_at _ n (judge (Like (told_type l)) u) (no_value u) asked) (λ _ k is.
      bind (weighed T13 BareNil refl whole _ k (judge (BesideNil (told_type l)) u) (both_nil l u)
      (beside (untrue (same u none_type) (kept_is _ _ _ _ _ _ is).0))) (λ _ i _.
      weighed T6 Mismatch refl right_at _ i (judge (Like (told_type l)) u) (unlike l u) asked))

  of_right : {P : (at : ℕ) → Judgement → Type 0} (op : Op) (t l u : Ty) (at left_at right_at whole : ℕ) (m k n : Noted) →
      left_side op t at left_at m ≡ fine l k → P right_at (judge (right_demand op (told_type l)) u) →
      (is_equality op ≡ true → same u none_type ≡ false → P whole (judge (BesideNil (told_type l)) u)) → Blames P (right_side op l u right_at whole) n
  of_right Equal t l u at left_at right_at whole m k n e asked beside = equality l u right_at whole n asked (beside refl)
  of_right NotEqual t l u at left_at right_at whole m k n e asked beside = equality l u right_at whole n asked (beside refl)
  of_right Less t l u at left_at right_at whole m k n e asked beside = expected l u right_at n asked
  of_right LessEqual t l u at left_at right_at whole m k n e asked beside = expected l u right_at n asked
  of_right Greater t l u at left_at right_at whole m k n e asked beside = expected l u right_at n asked
  of_right GreaterEqual t l u at left_at right_at whole m k n e asked beside = expected l u right_at n asked
  of_right Plus t l u at left_at right_at whole m k n e asked beside = arithmetic t l u left_at right_at m k n e asked
  of_right Minus t l u at left_at right_at whole m k n e asked beside = arithmetic t l u left_at right_at m k n e asked
  of_right Times t l u at left_at right_at whole m k n e asked beside = arithmetic t l u left_at right_at m k n e asked
  of_right Divide t l u at left_at right_at whole m k n e asked beside = arithmetic t l u left_at right_at m k n e asked
  of_right And t l u at left_at right_at whole m k n e asked beside = arithmetic t l u left_at right_at m k n e asked
  of_right Or t l u at left_at right_at whole m k n e asked beside = arithmetic t l u left_at right_at m k n e asked

  of_own : {P : (at : ℕ) → Judgement → Type 0} (x : Ident) (t : Ty) (at : ℕ) (n : Noted) → P at (judge (Own x) t) → Blames P (own_type t at) n
  of_own x t at n asked =
      bind (weighed T12 NoValue refl at _ n (judge (Own x) t) (no_value t) asked) (λ _ k _.
      bind (weighed T13 BareNil refl at _ k (judge (Own x) t) (bare_nil t) asked) (λ _ _ _. given _ _))

  of_body_fits : {P : (at : ℕ) → Judgement → Type 0} (kind : Option Ident) (result got : Ty) (at : ℕ) (n : Noted) → P at (judge (outcome kind result) got) →
      Blames P (body_fits kind result got at) n
  of_body_fits (Some x) result got at n asked = expected result got at n asked
  of_body_fits None result got at n asked = no_more got at n asked

  -- ---- the tree

  mutual
    of_exp : (e : Exp) (scope : Scope) (n : Noted) → Blames (λ at j. Asks at j e scope n) (typed e scope) n
    of_exp (Nil s) scope n = given _ _
    of_exp (Int s k) scope n = given _ _
    of_exp (Text s bytes) scope n = given _ _
    of_exp (Break s) scope n = bind (kept T14 s.from scope.in_loop n refl) (λ _ _ _. given _ _)
    of_exp (Read s v) scope n = through (λ at j i. A.read i) (of_place v scope n)
    of_exp (Call s f args) scope n =
        bind (of_function f (bound f scope) n) (λ sig m is.
        bind (kept T10 (at_of f) (expression_count args == length sig.params) m refl) (λ _ k count.
        let c = kept_is _ _ _ _ _ _ count in
        bind
        (through (λ at j i. A.argument sig is c.0 (subst (λ y. AsksAll at j args sig.params scope y) (sym c.1) i)) (of_args args sig.params scope k)) (λ _ _ _.
        given _ _)))
    of_exp (Neg s a) scope n =
        bind (through (λ at j i. A.negated (A.within i)) (of_exp a scope n)) (λ t k is.
        bind (expected int_type t (start_of a) k (A.negated (A.itself t is (refl, refl)))) (λ _ _ _. given _ _))
    of_exp (Binary s op o a b) scope n =
        bind (through (λ at j i. A.left (A.within i)) (of_exp a scope n)) (λ t m is.
        bind (of_left op t o (start_of a) m (A.left (A.itself t is (refl, refl)))) (λ l k lis.
        bind (through (λ at j i. A.right t l is lis (A.within i)) (of_exp b scope k)) (λ u i uis.
        bind
        (of_right op t l u o (start_of a) (start_of b) s.from m k i lis (A.right t l is lis (A.itself u uis (refl, refl)))
        (λ equates valued. A.both t l u is lis uis valued equates (refl, refl))) (λ _ _ _. given _ _))))
    of_exp (Make s x inits) scope n =
        bind (presented T3 (at_of x) (looked_up (name_of x) scope.types) n refl) (λ t m is.
        bind (of_fields t (at_of x) m) (λ fs k fis.
        bind (kept T11 (at_of x) (are_fields inits fs) k refl) (λ _ i match.
        let c = kept_is _ _ _ _ _ _ match in
        bind (through (λ at j y. A.given t fs is fis c.0 (subst (λ z. AsksFields at j inits fs scope z) (sym c.1) y)) (of_inits inits fs scope i)) (λ _ _ _.
        given _ _))))
    of_exp (Fill s x size value) scope n =
        bind (presented T3 (at_of x) (looked_up (name_of x) scope.types) n refl) (λ t m is.
        bind (of_element t (at_of x) m) (λ u k eis.
        bind (through (λ at j i. A.size t u is eis (A.within i)) (of_exp size scope k)) (λ a i ais.
        bind (expected int_type a (start_of size) i (A.size t u is eis (A.itself a ais (refl, refl)))) (λ _ h his.
        bind (through (λ at j y. A.element t u is eis (both_fine size int_type scope k ais his) (A.within y)) (of_exp value scope h)) (λ b l bis.
        bind (expected u b (start_of value) l (A.element t u is eis (both_fine size int_type scope k ais his) (A.itself b bis (refl, refl)))) (λ _ _ _.
        given _ _))))))
    of_exp (Assign s v e) scope n =
        bind (through (λ at j i. A.assigned_place i) (of_place v scope n)) (λ t m is.
        bind (of_assignable v scope m) (λ _ k may.
        bind (through (λ at j i. A.assigned t is may (A.within i)) (of_exp e scope k)) (λ a i ais.
        bind (expected t a (start_of e) i (A.assigned t is may (A.itself a ais (refl, refl)))) (λ _ _ _. given _ _))))
    of_exp (If s c a b) scope n =
        bind (through (λ at j i. A.if_test (A.within i)) (of_exp c scope n)) (λ t m is.
        bind (expected int_type t (start_of c) m (A.if_test (A.itself t is (refl, refl)))) (λ _ k kis.
        let test = both_fine c int_type scope n is kis in
        bind (through (λ at j i. A.if_this test i) (of_exp a scope k)) (λ u i uis.
        bind (through (λ at j y. A.if_other u test uis (A.within y)) (of_exp b scope i)) (λ w h wis.
        bind
        (weighed T6 Mismatch refl (start_of b) _ h (judge (Joins (told_type u)) w) (unlike u w) (A.if_other u test uis (A.itself w wis (refl, refl))))
        (λ _ _ _. given _ _)))))
    of_exp (When s c a) scope n =
        bind (through (λ at j i. A.when_test (A.within i)) (of_exp c scope n)) (λ t m is.
        bind (expected int_type t (start_of c) m (A.when_test (A.itself t is (refl, refl)))) (λ _ k kis.
        let test = both_fine c int_type scope n is kis in
        bind (through (λ at j i. A.when_this test (A.within i)) (of_exp a scope k)) (λ u i uis.
        bind (no_more u (start_of a) i (A.when_this test (A.itself u uis (refl, refl)))) (λ _ _ _. given _ _))))
    of_exp (While s c a) scope n =
        bind (through (λ at j i. A.while_test (A.within i)) (of_exp c scope n)) (λ t m is.
        bind (expected int_type t (start_of c) m (A.while_test (A.itself t is (refl, refl)))) (λ _ k kis.
        let test = both_fine c int_type scope n is kis in
        bind (through (λ at j i. A.while_body test (A.within i)) (of_exp a (in_a_loop scope) k)) (λ u i uis.
        bind (no_more u (start_of a) i (A.while_body test (A.itself u uis (refl, refl)))) (λ _ _ _. given _ _))))
    of_exp (For s x l h a) scope n =
        bind (through (λ at j i. A.low (A.within i)) (of_exp l scope n)) (λ t m is.
        bind (expected int_type t (start_of l) m (A.low (A.itself t is (refl, refl)))) (λ _ k kis.
        let from = both_fine l int_type scope n is kis in
        bind (through (λ at j i. A.high from (A.within i)) (of_exp h scope k)) (λ u i uis.
        bind (expected int_type u (start_of h) i (A.high from (A.itself u uis (refl, refl)))) (λ _ y yis.
        let to = both_fine h int_type scope k uis yis in
        bind
        (through (λ at j i. A.for_body from to (A.within i)) (of_exp a (in_a_loop (binding x (variable_at (at_of x) int_type true) scope)) y)) (λ w z wis.
        bind (no_more w (start_of a) z (A.for_body from to (A.itself w wis (refl, refl)))) (λ _ _ _. given _ _))))))
    of_exp (Let s ds es) scope n =
        bind (through (λ at j i. A.declared i) (of_decs ds scope n)) (λ inner m is.
        through (λ at j i. A.block is i) (of_last none_type es inner m))
    of_exp (Seq s es) scope n = through (λ at j i. A.sequence i) (of_last none_type es scope n)

    of_place : (v : LValue) (scope : Scope) (n : Noted) → Blames (λ at j. AsksPlace at j v scope n) (typed_place v scope) n
    of_place (Simple x) scope n = of_variable x (bound x scope) n
    of_place (Field v f) scope n =
        bind (through (λ at j i. A.selected i) (of_place v scope n)) (λ t k is.
        bind (of_fields t (place_start v) k) (λ fs i _. of_select fs f i))
    of_place (Index v e) scope n =
        bind (through (λ at j i. A.indexed i) (of_place v scope n)) (λ t m is.
        bind (of_element t (place_start v) m) (λ u k eis.
        bind (through (λ at j i. A.index t u is eis (A.within i)) (of_exp e scope k)) (λ a i ais.
        bind (expected int_type a (start_of e) i (A.index t u is eis (A.itself a ais (refl, refl)))) (λ _ _ _. given _ _))))

    of_args : (es : Exps) (ts : List Ty) (scope : Scope) (n : Noted) → Blames (λ at j. AsksAll at j es ts scope n) (expect_all es ts scope) n
    of_args no_exps ts scope n = given _ _
    of_args (exp e rest) [] scope n = given _ _
    of_args (exp e rest) (t ∷ ts) scope n =
        bind (through (λ at j i. A.this_one (A.within i)) (of_exp e scope n)) (λ a k is.
        bind (expected t a (start_of e) k (A.this_one (A.itself a is (refl, refl)))) (λ _ i fis.
        through (λ at j y. A.later_one (both_fine e t scope n is fis) y) (of_args rest ts scope i)))

    of_inits : (es : Inits) (fs : List (ℕ × Ty)) (scope : Scope) (n : Noted) → Blames (λ at j. AsksFields at j es fs scope n) (expect_fields es fs scope) n
    of_inits no_inits fs scope n = given _ _
    of_inits (init f e rest) [] scope n = given _ _
    of_inits (init f e rest) (field ∷ fs) scope n =
        bind (through (λ at j i. A.this_field (A.within i)) (of_exp e scope n)) (λ a k is.
        bind (expected field.1 a (start_of e) k (A.this_field (A.itself a is (refl, refl)))) (λ _ i fis.
        through (λ at j y. A.later_field (both_fine e field.1 scope n is fis) y) (of_inits rest fs scope i)))

    of_last : (t : Ty) (es : Exps) (scope : Scope) (n : Noted) → Blames (λ at j. AsksEach at j es scope n) (typed_last t es scope) n
    of_last t no_exps scope n = given _ _
    of_last t (exp e rest) scope n =
        bind (through (λ at j i. A.this_step i) (of_exp e scope n)) (λ u k is. through (λ at j i. A.later_step u is i) (of_last u rest scope k))

    of_decs : (ds : Decs) (scope : Scope) (n : Noted) → Blames (λ at j. AsksDecs at j ds scope n) (declare ds scope) n
    of_decs no_decs scope n = given _ _
    of_decs (types ds rest) scope n = bind (of_types ds scope n) (λ inner k is. through (λ at j i. A.behind_types is i) (of_decs rest inner k))
    of_decs (variable x None e rest) scope n =
        bind (through (λ at j i. A.own (A.within i)) (of_exp e scope n)) (λ t m is.
        bind (of_own x t (start_of e) m (A.own (A.itself t is (refl, refl)))) (λ u k uis.
        through (λ at j i. A.behind_own t u is uis i) (of_decs rest (binding x (variable_at (at_of x) u false) scope) k)))
    of_decs (variable x (Some kind) e rest) scope n =
        bind (presented T3 (at_of kind) (looked_up (name_of kind) scope.types) n refl) (λ t m is.
        bind (through (λ at j i. A.value t is (A.within i)) (of_exp e scope m)) (λ a k ais.
        bind (expected t a (start_of e) k (A.value t is (A.itself a ais (refl, refl)))) (λ _ i fis.
        through (λ at j y. A.behind_value t is (both_fine e t scope m ais fis) y) (of_decs rest (binding x (variable_at (at_of x) t false) scope) i))))
    of_decs (functions fs rest) scope n =
        bind (of_no_repeats T17 refl [] (function_names fs) n) (λ _ m apart.
        bind (of_headers fs scope m) (λ ss k is.
        bind (through (λ at j i. A.a_body ss apart is i) (of_bodies fs ss (in_no_loop (with_functions fs ss scope)) k)) (λ _ i bis.
        through (λ at j y. A.behind_functions ss apart is bis y) (of_decs rest (with_functions fs ss scope) i))))

    of_bodies : (fs : FunDecs) (ss : List Signature) (scope : Scope) (n : Noted) → Blames (λ at j. AsksBodies at j fs ss scope n) (bodies fs ss scope) n
    of_bodies no_functions ss scope n = given _ _
    of_bodies (function f ps r body rest) [] scope n = given _ _
    of_bodies (function f ps r body rest) (s ∷ ss) scope n =
        bind (through (λ at j i. A.this_body (A.within i)) (of_exp body (with_params ps s.params scope) n)) (λ t m is.
        bind (of_body_fits r s.result t (start_of body) m (A.this_body (A.itself t is (refl, refl)))) (λ _ k fis.
        through (λ at j i. A.later_body t is fis i) (of_bodies rest ss scope k)))

  pub faults_are_asked : (e : Exp) (scope : Scope) (noted : Noted) (rule : TypeRule) (at : ℕ) (breach : Breach) → breach_of rule ≡ Some breach →
      typed e scope noted ≡ fault rule at → IsAsked breach at e scope noted
  faults_are_asked e scope noted rule at breach tells is =
      let found = (of_exp e scope noted).blames rule at breach tells is in
      record { judgement = found.judgement; asked = found.is; broken = found.broken }
