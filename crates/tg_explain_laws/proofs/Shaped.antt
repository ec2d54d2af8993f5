-- A group of types means the same to typing and among the facts: its names, and the fields and elements of its forms.
use Rattle.std.proofs.Common.{◌≡◌, ℕ, ◌<◌, ◌≤◌, List, [], ◌∷◌, ◌++◌, length, map, append_assoc, Option, Some, None, Bool, true, false, refl, sym, ap}
use Rattle.std.proofs.Common.{◌∙◌, arith, subst}
use Rattle.std.specs.Prelude.{◌==◌, ◌&&◌, ◌||◌, not, if◌then◌else◌}
use Rattle.std.proofs.lemmas.Bool.{eqb-true, eq-eqb}
use Rattle.tg_base.specs.declared.ids.Span.{Span}
use Rattle.tg_syntax.specs.declared.tokens.Ident.{Ident}
use Rattle.tg_syntax.specs.declared.trees.Param.{Param}
use Rattle.tg_syntax.specs.Tree.{Form, Alias, Fields, Array, TypeDec}
use Rattle.tg_syntax.specs.Throughout.{ThroughParams, ThroughForm, ThroughTypes}
use Rattle.tg_syntax.specs.NamesWithin.{AnyByte}
use Rattle.tg_symbols.specs.Tables.{looked_up}
use Rattle.tg_semantics.specs.Environments.{name_of}
use Rattle.tg_typecheck.specs.declared.faults.TypeRule.TheVariants.{T16}
use Rattle.tg_typecheck.specs.Types as typing
use Rattle.tg_typecheck.specs.Checks.{Noted, fine}
use Rattle.tg_typecheck.specs.Scopes.{Scope, at_of}
use Rattle.tg_typecheck.specs.Groups.{stands_in, is_some, names_of, declared_as, known_fields, known_form, known_forms, with_group, known_type, add_form}
use Rattle.tg_typecheck.specs.Groups.{add_forms, declare_types, or_none}
use Rattle.tg_typecheck.proofs.Inversion.{steps, kept, given, shape_added, shaping}
use Rattle.tg_typecheck.proofs.GroupInversion.{no_repeats_keep, known_forms_keep, chains_keep}
use Rattle.tg_typecheck.proofs.NamedValues.{DoEnd, chains_do_end}
use Rattle.tg_explain_typing.specs.declared.facts.Fact.{Fact}
use Rattle.tg_explain_typing.specs.Lookups.{field_kind, element_kind}
use Rattle.tg_explain_typing.specs.Facts.{between, types_start, types_facts}
use Rattle.tg_explain_types.specs.laws.Types.{told_type}
use Rattle.tg_explain_laws.specs.Nested.{ParamsNest, FormNests, TypesNest}
use Rattle.tg_explain_laws.proofs.Agreeing.{OwnersBefore, Spelled, Stands, Leads, KindAgrees, FieldsAgree, NamesAgree, ShapesAgree, Agrees}
use Rattle.tg_explain_laws.proofs.Orders.{form_order, types_order}
use Rattle.tg_explain_laws.proofs.Behind.{variable_behind, field_past, element_past, owners_later, owners_both}
use Rattle.tg_explain_laws.proofs.Onward.{calls_stay, wider, shapes_onward, shapes_later, names_narrower}
use Rattle.tg_explain_laws.proofs.Grouped.{none_declared, Distinct, distinct, fields_told, parts_told, form_told, types_told, types_are, OnTypes, types_on}
use Rattle.tg_explain_laws.proofs.Grouped.{on_seen, on_variable, on_calls, type_in, types_in, group_bindings, all_told, inner_scope, Inside, InGroup}
use Rattle.tg_explain_laws.proofs.Grouped.{ParamsInGroup, FormInGroup, FormsInGroup, inner_told}

-- ---- what typing knows of a group's forms: its names, and that no field repeats

module _ (group : List TypeDec) (scope : Scope) where
  abbrev pub IsKnown : Ident → Type 0
  IsKnown x = (stands_in (name_of x) (names_of group) || is_some (looked_up (name_of x) scope.types)) ≡ true

  abbrev pub ParamsKnown : (earlier : List Ident) → List Param → Type 0
  ParamsKnown earlier [] = Unit {0}
  ParamsKnown earlier (p ∷ ps) = (stands_in (name_of p.name) earlier ≡ false) × IsKnown p.kind × ParamsKnown (p.name ∷ earlier) ps

  abbrev pub FormKnown : Form → Type 0
  FormKnown (Alias x) = IsKnown x
  FormKnown (Fields ps) = ParamsKnown [] ps
  FormKnown (Array x) = IsKnown x

  abbrev pub FormsKnown : List TypeDec → Type 0
  FormsKnown [] = Unit {0}
  FormsKnown (d ∷ ds) = FormKnown d.form × FormsKnown ds

  not_true : (b : Bool) → not b ≡ true → b ≡ false
  not_true true e = cc
  not_true false e = refl

  params_known : (earlier : List Ident) (ps : List Param) (x : Unit {0}) (g h : Noted) → known_fields group scope earlier ps g ≡ fine x h →
      ParamsKnown earlier ps
  params_known earlier [] x g h e = tt
  params_known earlier (p ∷ ps) x g h e =
      let a = steps e in
      let b = steps a.onward in (
        not_true (stands_in (name_of p.name) earlier) (kept _ _ _ _ _ _ a.first).0,
        (kept _ _ _ _ _ _ b.first).0,
        params_known (p.name ∷ earlier) ps x b.between h b.onward,
      )

  form_known : (form : Form) (x : Unit {0}) (g h : Noted) → known_form group scope form g ≡ fine x h → FormKnown form
  form_known (Alias y) x g h e = (kept _ _ _ _ _ _ e).0
  form_known (Fields ps) x g h e = params_known [] ps x g h e
  form_known (Array y) x g h e = (kept _ _ _ _ _ _ e).0

  pub forms_known : (ds : List TypeDec) (x : Unit {0}) (g h : Noted) → known_forms group ds scope g ≡ fine x h → FormsKnown ds
  forms_known [] x g h e = tt
  forms_known (d ∷ ds) x g h e =
      let a = steps e in
      (form_known d.form a.value g a.between a.first, forms_known ds x a.between h a.onward)

right_one : (a b : Bool) → (a || b) ≡ true → a ≡ false → b ≡ true
right_one true b e n = cc
right_one false b e n = e

right_true : (a b : Bool) → b ≡ true → (a || b) ≡ true
right_true true b e = refl
right_true false b e = e

first_false : (a b : Bool) → (a || b) ≡ false → a ≡ false
first_false true b e = cc
first_false false b e = refl

second_false : (a b : Bool) → (a || b) ≡ false → b ≡ false
second_false true b e = cc
second_false false b e = e

both_true : {A : Type 0} (a b : Bool) (t o : A) → a ≡ true → b ≡ true → (if a && b then t else o) ≡ t
both_true true true t o e i = refl
both_true true false t o e i = cc
both_true false b t o e i = cc

other_false : {A : Type 0} (a b : Bool) (t o : A) → b ≡ false → (if a && b then t else o) ≡ o
other_false true true t o e = cc
other_false true false t o e = refl
other_false false b t o e = refl

only_one : {A : Type 0} (a : Bool) (t o : A) → a ≡ true → (if a then t else o) ≡ t
only_one true t o e = refl
only_one false t o e = cc

-- ---- the owners of a group's fields and elements

fields_owned : (at q : ℕ) (ps : List Param) → at < q → OwnersBefore q (fields_told at ps)
fields_owned at q [] i = tt
fields_owned at q (p ∷ ps) i = (i, fields_owned at q ps i)

parts_owned : (at q : ℕ) (form : Form) → at < q → OwnersBefore q (parts_told at form)
parts_owned at q (Alias x) i = tt
parts_owned at q (Fields ps) i = fields_owned at q ps i
parts_owned at q (Array x) i = (i, tt)

types_owned : (ds : List TypeDec) (seen : Span) (lo hi : ℕ) → TypesNest lo hi ds → OwnersBefore hi (types_told ds seen)
types_owned [] seen lo hi n = tt
types_owned (d ∷ ds) seen lo hi n =
    owners_both hi (form_told d seen) (types_told ds seen) (parts_owned d.name.span.from hi d.form (omega (arith, n.0))) (types_owned ds seen n.1 hi n.3)

module _ (names : List (List ℕ)) (text : List ℕ) (from to next : ℕ) (facts : List Fact) (scope : Scope) (ds : List TypeDec) (seen : Span) where
  abbrev Told : List Fact
  Told = all_told names text from to next facts scope ds seen

  abbrev Inner : Scope
  Inner = inner_scope names text from to next facts scope ds seen

  -- ---- names that stand in the group

  in_group : (x : Ident) → seen.from ≤ x.span.from → x.span.from < next → next ≤ seen.to → Spelled names text x → IsKnown ds scope x →
      InGroup names text from to next facts scope ds seen x
  in_group x i j k s h = (
    record {
      is_spelled = s;
      after = i;
      before = omega (arith, j, k);
      is_known = λ e. right_one (stands_in (name_of x) (names_of ds)) _ h (none_declared (name_of x) ds e);
    },
    j,
  )

  params_in_group : (ps : List Param) (earlier : List Ident) (p q : ℕ) → seen.from ≤ p → q ≤ next → next ≤ seen.to → ParamsNest p q ps →
      ThroughParams (Spelled names text) AnyByte ps → ParamsKnown ds scope earlier ps → ParamsInGroup names text from to next facts scope ds seen ps
  params_in_group [] earlier p q i j k n s h = tt
  params_in_group (o ∷ ps) earlier p q i j k n s h = (
    in_group o.kind (omega (arith, i, n.0, n.1)) (omega (arith, n.1, j)) k s.1 h.1,
    params_in_group ps (o.name ∷ earlier) o.kind.span.to q (omega (arith, i, n.0, n.1)) j k n.2 s.2 h.2,
  )

  form_in_group : (form : Form) (p q : ℕ) → seen.from ≤ p → q ≤ next → next ≤ seen.to → FormNests p q form → ThroughForm (Spelled names text) AnyByte form →
      FormKnown ds scope form → FormInGroup names text from to next facts scope ds seen form
  form_in_group (Alias x) p q i j k n s h = in_group x (omega (arith, i, n)) (omega (arith, n, j)) k s h
  form_in_group (Fields ps) p q i j k n s h = params_in_group ps [] p q i j k n s h
  form_in_group (Array x) p q i j k n s h = in_group x (omega (arith, i, n)) (omega (arith, n, j)) k s h

  pub forms_in_group : (rest : List TypeDec) (p q : ℕ) → seen.from ≤ p → q ≤ next → next ≤ seen.to → TypesNest p q rest →
      ThroughTypes (Spelled names text) AnyByte rest → FormsKnown ds scope rest → FormsInGroup names text from to next facts scope ds seen rest
  forms_in_group [] p q i j k n s h = tt
  forms_in_group (d ∷ rest) p q i j k n s h =
      let l = form_order d.form d.name.span.to n.1 n.2 in
      let m = types_order rest n.1 q n.3 in (
        form_in_group d.form d.name.span.to n.1 (omega (arith, i, n.0)) (omega (arith, m, j)) k n.2 s.1 h.0,
        forms_in_group rest n.1 q (omega (arith, i, n.0, l)) j k n.3 s.2 h.1,
      )

  module _ (agree : NamesAgree names text from to facts scope) (apart : Distinct ds) (forms : FormsInGroup names text from to next facts scope ds seen ds)
      (low : from ≤ seen.from) (high : seen.to ≤ to) (on : from ≤ next) (ends : DoEnd ds ds) where
    -- ---- names behind the group

    inside : (end : ℕ) (x : Ident) (t : typing.Ty) → Stands names text next end x → seen.from ≤ next → end ≤ seen.to →
        looked_up (name_of x) Inner.types ≡ Some t → Inside names text from to next facts scope ds seen x
    inside end x t h i j e = record {
      is_spelled = h.is_spelled;
      after = omega (arith, i, h.after);
      before = omega (arith, j, h.before);
      is_known = λ n. ap (λ o. is_some o) (sym (types_known n) ∙ e);
    }
      where
        types_known : declared_as (name_of x) ds ≡ None → looked_up (name_of x) Inner.types ≡ looked_up (name_of x) scope.types
        types_known n = types_in ds ds scope scope (name_of x) apart ∙ ap (λ o. type_in ds scope o (looked_up (name_of x) scope.types)) n

    pub names_grouped : (end : ℕ) → seen.from ≤ next → end ≤ seen.to → NamesAgree names text next end Told Inner
    names_grouped end i j = record {
      variables = λ x h at t loop e. variable_behind x facts (types_told ds seen) _ ∙ on_variable from (types_told ds seen) x _ told
          ∙ agree.variables x (wider names text from to next end x on (omega (arith, j, high)) h) at t loop (same_bindings (name_of x) ∙ e);
      functions = λ f h at s e. calls_stay text facts (types_told ds seen) f s (on_calls from (types_told ds seen) f told)
          (agree.functions f (wider names text from to next end f on (omega (arith, j, high)) h) at s (same_bindings (name_of f) ∙ e));
      standards = λ f h g e. calls_stay text facts (types_told ds seen) f _ (on_calls from (types_told ds seen) f told)
          (agree.standards f (wider names text from to next end f on (omega (arith, j, high)) h) g (same_bindings (name_of f) ∙ e));
      types = λ x h t e.
          let r = inner_told names text from to next facts scope ds seen agree apart forms low high on x (inside end x t h i j e) ends in
          let same : r.0 ≡ t = one_option r.0 t (sym r.1 ∙ e) in
          subst (λ u. Leads text Told next (length Told) x (told_type u)) same r.2;
    }
      where
        told : OnTypes from (types_told ds seen)
        told = types_on from ds seen low

        same_bindings : (x : ℕ) → looked_up x scope.bindings ≡ looked_up x Inner.bindings
        same_bindings x = ap (λ l. looked_up x l) (sym (group_bindings ds ds scope scope))

        one_option : (a b : typing.Ty) → Some a ≡ Some b → a ≡ b
        one_option a b e = ap (λ o. or_none o) e

    -- ---- fields and elements

    kind_agrees : (x : Ident) → InGroup names text from to next facts scope ds seen x → KindAgrees text Told next (Some x) (known_type Inner x)
    kind_agrees x i =
        let r = inner_told names text from to next facts scope ds seen agree apart forms low high on x i.0 ends in
        let same : known_type Inner x ≡ r.0 = ap (λ o. or_none o) r.1 in
        (i.1, subst (λ t. Leads text Told next (length Told) x (told_type t)) (sym same) r.2)

    own_fields : (at : ℕ) (rest : List Fact) (earlier : List Ident) (ps : List Param) →
        ((f : Ident) → stands_in (name_of f) earlier ≡ false → field_kind at f Told ≡ field_kind at f (fields_told at ps ++ rest)) →
        ParamsKnown ds scope earlier ps → ParamsInGroup names text from to next facts scope ds seen ps →
        FieldsAgree text Told next at (map (λ p. (name_of p.name, known_type Inner p.kind)) ps)
    own_fields at rest earlier [] sees k g = tt
    own_fields at rest earlier (p ∷ ps) sees k g = (
      (λ f e.
          let free : stands_in (name_of f) earlier ≡ false = ap (λ n. stands_in n earlier) e ∙ k.0 in
          let is : field_kind at f Told ≡ Some p.kind = sees f free ∙ both_true (at == at) (p.name.name.0 == f.name.0) (Some p.kind)
          (field_kind at f (fields_told at ps ++ rest)) (eq-eqb at at refl) (eq-eqb (p.name.name.0) (f.name.0) (sym e)) in
          subst (λ o. KindAgrees text Told next o (known_type Inner p.kind)) (sym is) (kind_agrees p.kind g.0)),
      own_fields at rest (p.name ∷ earlier) ps
          (λ f h. sees f (second_false (name_of p.name == name_of f) _ h)
          ∙ other_false (at == at) (p.name.name.0 == f.name.0) (Some p.kind) (field_kind at f (fields_told at ps ++ rest))
          (first_false (name_of p.name == name_of f) _ h)) k.2 g.1,
    )

    -- what a shape says at its byte
    abbrev ShapeAgrees : (at : ℕ) → typing.Shape → Type 0
    ShapeAgrees at (typing.record_shape fields) = FieldsAgree text Told next at fields
    ShapeAgrees at (typing.array_shape t) = KindAgrees text Told next (element_kind at Told) t

    with_shape : (at : ℕ) (s : typing.Shape) (g : Noted) → ShapeAgrees at s → ShapesAgree text next Told g → ShapesAgree text next Told (shaping at s g)
    with_shape at s g new a = record {
      records = λ other fields e. by_record other fields (at == other) refl e;
      arrays = λ other t e. by_array other t (at == other) refl e;
      owners = a.owners;
    }
      where
        the_shape : (other : ℕ) (one : typing.Shape) → at ≡ other → s ≡ one → ShapeAgrees other one
        the_shape other one i e = subst (λ k. ShapeAgrees k one) i (subst (λ z. ShapeAgrees at z) e new)

        one_shape : (one : typing.Shape) → Some s ≡ Some one → s ≡ one
        one_shape one e = ap (λ o. unwrap o) e
          where
            unwrap : Option typing.Shape → typing.Shape
            unwrap (Some z) = z
            unwrap None = s

        by_record : (other : ℕ) (fields : List (ℕ × typing.Ty)) (c : Bool) → (at == other) ≡ c →
            (if c then Some s else looked_up other g.shapes) ≡ Some (typing.record_shape fields) → FieldsAgree text Told next other fields
        by_record other fields true i e = the_shape other (typing.record_shape fields) (eqb-true at other i) (one_shape (typing.record_shape fields) e)
        by_record other fields false i e = a.records other fields e

        by_array : (other : ℕ) (t : typing.Ty) (c : Bool) → (at == other) ≡ c →
            (if c then Some s else looked_up other g.shapes) ≡ Some (typing.array_shape t) → KindAgrees text Told next (element_kind other Told) t
        by_array other t true i e = the_shape other (typing.array_shape t) (eqb-true at other i) (one_shape (typing.array_shape t) e)
        by_array other t false i e = a.arrays other t e

    form_shaped : (name : Ident) (form : Form) (pre rest : List Fact) → Told ≡ pre ++ (form_told (record { name = name; form = form }) seen ++ rest) →
        OwnersBefore name.span.from pre → FormKnown ds scope form → FormInGroup names text from to next facts scope ds seen form →
        (x : Unit {0}) (g h : Noted) → add_form Inner (at_of name) form g ≡ fine x h → ShapesAgree text next Told g → ShapesAgree text next Told h
    form_shaped name (Alias y) pre rest is o k i x g h e a = subst (λ n. ShapesAgree text next Told n) (given _ _ _ _ e).1 a
    form_shaped name (Fields ps) pre rest is o k i x g h e a =
        let fields = map (λ p. (name_of p.name, known_type Inner p.kind)) ps in
        subst (λ n. ShapesAgree text next Told n) (shape_added (at_of name) (typing.record_shape fields) x g h e)
        (with_shape (at_of name) (typing.record_shape fields) g
        (own_fields (at_of name) rest [] ps
        (λ f z. ap (λ l. field_kind (at_of name) f l) is ∙ field_past (at_of name) f pre _ o) k i) a)
    form_shaped name (Array y) pre rest is o k i x g h e a =
        let kind : element_kind (at_of name) Told ≡ Some y =
        ap (λ l. element_kind (at_of name) l) is ∙ (element_past (at_of name) pre _ o
        ∙ only_one (at_of name == at_of name) (Some y) (element_kind (at_of name) rest) (eq-eqb (at_of name) (at_of name) refl)) in
        subst (λ n. ShapesAgree text next Told n) (shape_added (at_of name) (typing.array_shape (known_type Inner y)) x g h e)
        (with_shape (at_of name) (typing.array_shape (known_type Inner y)) g
        (subst (λ o. KindAgrees text Told next o (known_type Inner y)) (sym kind) (kind_agrees y i)) a)

    pub forms_shaped : (rest : List TypeDec) (lo hi : ℕ) (pre : List Fact) → Told ≡ pre ++ types_told rest seen → OwnersBefore lo pre → TypesNest lo hi rest →
        FormsKnown ds scope rest → FormsInGroup names text from to next facts scope ds seen rest → (x : Unit {0}) (g h : Noted) →
        add_forms Inner rest g ≡ fine x h → ShapesAgree text next Told g → ShapesAgree text next Told h
    forms_shaped [] lo hi pre is o n k i x g h e a = subst (λ z. ShapesAgree text next Told z) (given _ _ _ _ e).1 a
    forms_shaped (d ∷ rest) lo hi pre is o n k i x g h e a =
        let s = steps e in
        let l = form_order d.form d.name.span.to n.1 n.2 in
        let up : d.name.span.from < n.1 = omega (arith, n.0, l) in
        let one = form_shaped d.name d.form pre (types_told rest seen) is (owners_later lo d.name.span.from pre (omega (arith, n.0)) o) k.0 i.0 s.value g
        s.between s.first a in
        forms_shaped rest n.1 hi (pre ++ form_told d seen) (is ∙ sym (append_assoc pre (form_told d seen) (types_told rest seen)))
        (owners_both n.1 pre (form_told d seen) (owners_later lo n.1 pre (omega (arith, n.0, up)) o) (parts_owned d.name.span.from n.1 d.form up))
        n.3 k.1 i.1 x s.between h s.onward one

-- ---- the whole group

pub group_agrees : (names : List (List ℕ)) (text : List ℕ) (p next end q : ℕ) (ds : List TypeDec) (scope inner : Scope) (n m : Noted) (facts : List Fact) →
    Agrees names text p q facts scope n → TypesNest p next ds → next ≤ end → end ≤ q → ThroughTypes (Spelled names text) AnyByte ds →
    declare_types ds scope n ≡ fine inner m → Agrees names text next end (types_facts ds (between (types_start ds) end) facts) inner m
group_agrees names text p next end q [] scope inner n m facts a h i j s e =
    let b1 = steps e in
    let b2 = steps b1.onward in
    let b3 = steps b2.onward in
    let b4 = steps b3.onward in
    let g = given _ _ _ _ b4.onward in
    let same : n ≡ m =
    no_repeats_keep T16 [] [] b1.value n b1.between b1.first ∙ known_forms_keep [] [] scope b2.value b1.between b2.between b2.first
    ∙ chains_keep [] [] b3.value b2.between b3.between b3.first ∙ (given _ _ _ _ b4.first).1 ∙ g.1 in
    subst (λ z. Agrees names text next end facts z m) g.0
    (subst (λ z. Agrees names text next end facts scope z) same
    (record { named = names_narrower names text p q next end facts scope a.named h j; shaped = shapes_later text p next facts n a.shaped h }))
group_agrees names text p next end q (d ∷ ds) scope inner n m facts a h i j s e =
    let group = d ∷ ds in
    let seen = between d.name.span.from end in
    let b1 = steps e in
    let b2 = steps b1.onward in
    let b3 = steps b2.onward in
    let b4 = steps b3.onward in
    let g = given _ _ _ _ b4.onward in
    let apart = distinct T16 [] group b1.value n b1.between b1.first in
    let known = forms_known group scope group b2.value b1.between b2.between b2.first in
    let ends = chains_do_end group group b3.value b2.between b3.between b3.first in
    let same : n ≡ b3.between =
    no_repeats_keep T16 [] (names_of group) b1.value n b1.between b1.first
    ∙ known_forms_keep group group scope b2.value b1.between b2.between b2.first
    ∙ chains_keep group group b3.value b2.between b3.between b3.first in
    let low : p ≤ d.name.span.from = omega (arith, h.0) in
    let on : p ≤ next = types_order group p next h in
    let order = types_order ds h.1 next h.3 in
    let under = form_order d.form d.name.span.to h.1 h.2 in
    let start : d.name.span.from ≤ next = omega (arith, h.0, order, under) in
    let rest = forms_in_group names text p q next facts scope group seen ds h.1 next (omega (arith, h.0, under)) (omega arith) i h.3 s.2 known.1 in
    let first_form = form_in_group names text p q next facts scope group seen d.form d.name.span.to h.1 (omega (arith, h.0)) order i h.2 s.1 known.0 in
    let there : FormsInGroup names text p q next facts scope group seen group = (first_form, rest) in
    let named = names_grouped names text p q next facts scope group seen a.named apart there low j on ends end start (omega arith) in
    let first = shapes_onward text p next facts (types_told group seen) n a.shaped on (on_seen p (types_told group seen) (types_on p group seen low))
    (types_owned group seen p next h) in
    let shaped = forms_shaped names text p q next facts scope group seen a.named apart there low j on ends group p next facts refl a.shaped.owners h known there
    b4.value b3.between b4.between b4.first (subst (λ z. ShapesAgree text next (facts ++ types_told group seen) z) same first) in
    subst (λ l. Agrees names text next end l inner m) (sym (types_are group seen facts))
    (subst (λ z. Agrees names text next end (facts ++ types_told group seen) z m) g.0
    (subst (λ z. Agrees names text next end (facts ++ types_told group seen) (with_group group group scope scope) z) g.1
    (record { named = named; shaped = shaped })))
