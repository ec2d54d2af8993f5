-- Of each type that a scope names there are values, and so of the fields and elements that a group of declarations gives.
use Rattle.std.proofs.Common.{◌≡◌, ℕ, zero, suc, List, [], ◌∷◌, ◌++◌, length, map, Option, Some, None, Bool, true, false, refl, sym, ◌∙◌, subst}
use Rattle.std.specs.Prelude.{◌||◌, ◌==◌, if◌then◌else◌}
use Rattle.std.specs.Str.{bytes_eq}
use Rattle.std.proofs.lemmas.Bool.{eq-eqb}
use Rattle.std.specs.Prelude.{codes}
use Rattle.tg_syntax.specs.declared.tokens.Ident.{Ident}
use Rattle.tg_syntax.specs.declared.trees.Param.{Param}
use Rattle.tg_syntax.specs.Tree.{Form, Alias, Fields, Array, TypeDec}
use Rattle.tg_symbols.specs.Tables.{looked_up}
use Rattle.tg_typecheck.specs.Types.{Ty, int_type, string_type, record_type, array_type}
use Rattle.tg_typecheck.specs.Checks.{Noted, fine}
use Rattle.tg_semantics.specs.Environments.{name_of}
use Rattle.tg_typecheck.specs.Scopes.{Scope, at_of, entry, standard_of, type_of_text, standard_types}
use Rattle.tg_typecheck.specs.Groups.{stands_in, is_some, known_fields, known_form, known_forms, names_of, declared_as, Chain, outside, ends_at}
use Rattle.tg_typecheck.specs.Groups.{endless, link, chain, chain_of, has_end, chains_end, or_none, type_declared, type_at_end, with_group, known_type}
use Rattle.tg_typecheck.specs.Has.{HasValues, HaveValues, FieldsHaveValues}
use Rattle.tg_typecheck.proofs.Inversion.{steps, kept, given}

-- of each type that is named here there are values
abbrev pub NameValues : List (ℕ × Ty) → Type 0
NameValues types = (x : ℕ) (t : Ty) → looked_up x types ≡ Some t → HasValues t

one_more : (y : ℕ) (u : Ty) (types : List (ℕ × Ty)) → HasValues u → NameValues types → NameValues ((y, u) ∷ types)
one_more y u types v vs x t e = by (y == x) e
  where
    by : (c : Bool) → (if c then Some u else looked_up x types) ≡ Some t → HasValues t
    by true e = let same : u ≡ t = cc in subst (λ w. HasValues w) same v
    by false e = vs x t e

-- the names of the outermost scope
text_has : (a b : Bool) (t : Ty) → (if a then Some int_type else if b then Some string_type else None) ≡ Some t → HasValues t
text_has true b t e n = cc
text_has false true t e n = cc
text_has false false t e n = cc

pub standard_values : (n : ℕ) (names : List (List ℕ)) → NameValues (standard_types n names)
standard_values n [] = λ x t e. cc
standard_values n (text ∷ names) =
    entered (type_of_text text) (λ t e. text_has (bytes_eq text (codes "int")) (bytes_eq text (codes "string")) t e) (standard_values (suc n) names)
  where
    entered : (o : Option Ty) → ((t : Ty) → o ≡ Some t → HasValues t) → NameValues (standard_types (suc n) names) →
        NameValues (entry (λ t. t) n o ++ standard_types (suc n) names)
    entered None v vs = vs
    entered (Some u) v vs = one_more n u (standard_types (suc n) names) (v u refl) vs

-- a group's names are known in it, or outside
abbrev IsKnown : List TypeDec → Scope → Ident → Type 0
IsKnown group scope y = (stands_in (name_of y) (names_of group) || is_some (looked_up (name_of y) scope.types)) ≡ true

abbrev AreFieldsKnown : List TypeDec → Scope → List Param → Type 0
AreFieldsKnown group scope [] = Unit {0}
AreFieldsKnown group scope (p ∷ ps) = IsKnown group scope p.kind × AreFieldsKnown group scope ps

abbrev pub IsFormKnown : List TypeDec → Scope → Form → Type 0
IsFormKnown group scope (Alias y) = IsKnown group scope y
IsFormKnown group scope (Fields ps) = AreFieldsKnown group scope ps
IsFormKnown group scope (Array y) = IsKnown group scope y

abbrev pub AreFormsKnown : List TypeDec → Scope → List TypeDec → Type 0
AreFormsKnown group scope [] = Unit {0}
AreFormsKnown group scope (d ∷ ds) = IsFormKnown group scope d.form × AreFormsKnown group scope ds

fields_known : (group : List TypeDec) (scope : Scope) (earlier : List Ident) (ps : List Param) (x : Unit {0}) (g h : Noted) →
    known_fields group scope earlier ps g ≡ fine x h → AreFieldsKnown group scope ps
fields_known group scope earlier [] x g h e = tt
fields_known group scope earlier (p ∷ ps) x g h e =
    let a = steps e in
    let b = steps a.onward in
    ((kept _ _ _ _ _ _ b.first).0, fields_known group scope (p.name ∷ earlier) ps x b.between h b.onward)

form_known : (group : List TypeDec) (scope : Scope) (form : Form) (x : Unit {0}) (g h : Noted) → known_form group scope form g ≡ fine x h →
    IsFormKnown group scope form
form_known group scope (Alias y) x g h e = (kept _ _ _ _ _ _ e).0
form_known group scope (Fields ps) x g h e = fields_known group scope [] ps x g h e
form_known group scope (Array y) x g h e = (kept _ _ _ _ _ _ e).0

pub forms_known : (group ds : List TypeDec) (scope : Scope) (x : Unit {0}) (g h : Noted) → known_forms group ds scope g ≡ fine x h →
    AreFormsKnown group scope ds
forms_known group [] scope x g h e = tt
forms_known group (d ∷ ds) scope x g h e =
    let a = steps e in
    (form_known group scope d.form a.value g a.between a.first, forms_known group ds scope x a.between h a.onward)

-- each chain of a group has an end
abbrev pub DoEnd : (group ds : List TypeDec) → Type 0
DoEnd group [] = Unit {0}
DoEnd group (d ∷ ds) = (has_end (chain_of group d.name) ≡ true) × DoEnd group ds

pub chains_do_end : (group ds : List TypeDec) (x : Unit {0}) (g h : Noted) → chains_end group ds g ≡ fine x h → DoEnd group ds
chains_do_end group [] x g h e = tt
chains_do_end group (d ∷ ds) x g h e =
    let a = steps e in
    ((kept _ _ _ _ _ _ a.first).0, chains_do_end group ds x a.between h a.onward)

-- a name of no declaration stands in no list of their names; the form of one that is declared is known
none_declared : (x : ℕ) (ds : List TypeDec) → declared_as x ds ≡ None → stands_in x (names_of ds) ≡ false
none_declared x [] e = refl
none_declared x (d ∷ ds) e = by (name_of d.name == x) (none_declared x ds) e
  where
    by : (c : Bool) → (declared_as x ds ≡ None → stands_in x (names_of ds) ≡ false) → (if c then Some d else declared_as x ds) ≡ None →
        (c || stands_in x (names_of ds)) ≡ false
    by true r e = cc
    by false r e = r e

declared_known : (group : List TypeDec) (scope : Scope) (x : ℕ) (ds : List TypeDec) (d : TypeDec) → AreFormsKnown group scope ds →
    declared_as x ds ≡ Some d → IsFormKnown group scope d.form
declared_known group scope x [] d k e = cc
declared_known group scope x (one ∷ ds) d k e = by (name_of one.name == x) (declared_known group scope x ds d k.1) e
  where
    by : (c : Bool) → (declared_as x ds ≡ Some d → IsFormKnown group scope d.form) → (if c then Some one else declared_as x ds) ≡ Some d →
        IsFormKnown group scope d.form
    by true r e = let same : one ≡ d = cc in subst (λ (y : TypeDec). IsFormKnown group scope y.form) same k.0
    by false r e = r e

-- what is known by name outside has values
outside_values : (scope : Scope) (x : ℕ) → NameValues scope.types → is_some (looked_up x scope.types) ≡ true → HasValues (or_none (looked_up x scope.types))
outside_values scope x vs k = by (looked_up x scope.types) refl k
  where
    by : (o : Option Ty) → looked_up x scope.types ≡ o → is_some o ≡ true → HasValues (or_none o)
    by None e k = cc
    by (Some t) e k = vs x t e

right_one : (a b : Bool) → (a || b) ≡ true → a ≡ false → b ≡ true
right_one true b e n = cc
right_one false b e n = e

left_one : (a b : Bool) → a ≡ true → (a || b) ≡ true
left_one true b e = refl
left_one false b e = cc

right_true : (a b : Bool) → b ≡ true → (a || b) ≡ true
right_true true b e = refl
right_true false b e = e

stands_first : (d : TypeDec) (ds : List TypeDec) → stands_in (name_of d.name) (names_of (d ∷ ds)) ≡ true
stands_first d ds = left_one (name_of d.name == name_of d.name) _ (eq-eqb (name_of d.name) (name_of d.name) refl)

module _ (group : List TypeDec) (scope : Scope) (vs : NameValues scope.types) (known : AreFormsKnown group scope group) where
  -- the chain of each known name, in so many links, ends at a type that has values if it ends
  abbrev EndsAtValues : (n : ℕ) → Type 0
  EndsAtValues n = (w : Ident) → IsKnown group scope w → has_end (chain n group (name_of w)) ≡ true →
      HasValues (type_at_end (chain n group (name_of w)) scope)

  chain_values : (n : ℕ) → EndsAtValues n
  chain_values zero = λ y k e. cc
  chain_values (suc n) = λ y k e. by y k (declared_as (name_of y) group) refl (chain_values n) e
    where
      by_form : (y : Ident) → EndsAtValues n → (z : Ident) (form : Form) → IsFormKnown group scope form →
          has_end (link (λ w. chain n group w) (name_of y) (Some (record { name = z; form = form }))) ≡ true →
          HasValues (type_at_end (link (λ w. chain n group w) (name_of y) (Some (record { name = z; form = form }))) scope)
      by_form y on z (Alias w) k e = on w k e
      by_form y on z (Fields ps) k e = λ n. cc
      by_form y on z (Array w) k e = λ n. cc

      by : (y : Ident) → IsKnown group scope y → (o : Option TypeDec) → declared_as (name_of y) group ≡ o → EndsAtValues n →
          has_end (link (λ w. chain n group w) (name_of y) o) ≡ true → HasValues (type_at_end (link (λ w. chain n group w) (name_of y) o) scope)
      by y k None is on e = outside_values scope (name_of y) vs (right_one _ _ k (none_declared (name_of y) group is))
      by y k (Some d) is on e = by_form y on d.name d.form (declared_known group scope (name_of y) group d known is) e

  -- names that stand here stand in the group
  abbrev AreOfGroup : List TypeDec → Type 0
  AreOfGroup ds = (x : ℕ) → stands_in x (names_of ds) ≡ true → stands_in x (names_of group) ≡ true

  declared_values : (d : TypeDec) (ds : List TypeDec) → AreOfGroup (d ∷ ds) → has_end (chain_of group d.name) ≡ true →
      HasValues (type_at_end (chain_of group d.name) scope)
  declared_values d ds of e = chain_values (suc (length group)) d.name (left_one _ _ (of (name_of d.name) (stands_first d ds))) e

  fewer : (d : TypeDec) (ds : List TypeDec) → AreOfGroup (d ∷ ds) → AreOfGroup ds
  fewer d ds of x e = of x (right_true (name_of d.name == x) (stands_in x (names_of ds)) e)

  group_values : (ds : List TypeDec) (inner : Scope) → AreOfGroup ds → DoEnd group ds → NameValues inner.types →
      NameValues (with_group group ds scope inner).types
  group_values [] inner of ends is = is
  group_values (d ∷ ds) inner of ends is =
      let t = type_at_end (chain_of group d.name) scope in
      group_values ds (record inner { types = (name_of d.name, t) ∷ inner.types }) (fewer d ds of) ends.1
      (one_more (name_of d.name) t inner.types (declared_values d ds of ends.0) is)

  -- the names after a group's declarations
  pub names_of_group : DoEnd group group → NameValues (with_group group group scope scope).types
  names_of_group ends = group_values group scope (λ x e. e) ends vs

  -- a name of the group, or of what was known before it, is known after it
  known_inside : (ds : List TypeDec) (inner : Scope) (y : ℕ) → (stands_in y (names_of ds) || is_some (looked_up y inner.types)) ≡ true →
      is_some (looked_up y (with_group group ds scope inner).types) ≡ true
  known_inside [] inner y e = e
  known_inside (d ∷ ds) inner y e =
      let t = type_at_end (chain_of group d.name) scope in
      known_inside ds (record inner { types = (name_of d.name, t) ∷ inner.types }) y
      (by t (name_of d.name == y) (stands_in y (names_of ds)) (looked_up y inner.types) e)
    where
      by : (t : Ty) (c b : Bool) (o : Option Ty) → ((c || b) || is_some o) ≡ true → (b || is_some (if c then Some t else o)) ≡ true
      by t true true o e = refl
      by t true false o e = refl
      by t false b o e = e

  known_values : DoEnd group group → (y : Ident) → IsKnown group scope y → HasValues (known_type (with_group group group scope scope) y)
  known_values ends y k =
      outside_values (with_group group group scope scope) (name_of y) (names_of_group ends) (known_inside group scope (name_of y) k)

  pub fields_values : DoEnd group group → (ps : List Param) → AreFieldsKnown group scope ps →
      FieldsHaveValues (map (λ p. (name_of p.name, known_type (with_group group group scope scope) p.kind)) ps)
  fields_values ends [] k = tt
  fields_values ends (p ∷ ps) k = (known_values ends p.kind k.0, fields_values ends ps k.1)

  pub element_values : DoEnd group group → (y : Ident) → IsKnown group scope y → HasValues (known_type (with_group group group scope scope) y)
  element_values ends y k = known_values ends y k
