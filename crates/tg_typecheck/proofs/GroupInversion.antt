-- What the checks of a group of types or functions that came out fine say of it.
use Rattle.std.proofs.Common.{◌≡◌, ℕ, suc, List, [], ◌∷◌, length, Option, Some, None, Bool, true, false, refl, sym, ap, ◌∙◌, subst}
use Rattle.std.specs.Prelude.{is_some, not, ◌&&◌, ◌||◌, ◌==◌, if◌then◌else◌}
use Rattle.std.proofs.lemmas.Bool.{eqb-true, eq-eqb}
use Rattle.tg_syntax.specs.declared.tokens.Ident.{Ident}
use Rattle.tg_syntax.specs.declared.trees.Param.{Param}
use Rattle.tg_syntax.specs.Tree.{Form, Alias, Fields, Array, TypeDec, Exp, LValue, Simple, Field, Index, FunDecs, no_functions, function}
use Rattle.tg_semantics.specs.Environments.{function_named}
use Rattle.tg_typecheck.specs.declared.faults.TypeRule.{TypeRule}
use Rattle.tg_typecheck.specs.Types.{Ty, none_type, same}
use Rattle.tg_typecheck.specs.Checks.{Noted, fine}
use Rattle.tg_semantics.specs.Environments.{name_of}
use Rattle.tg_typecheck.specs.Scopes.{Signature, Scope, at_of}
use Rattle.tg_typecheck.specs.Groups.{stands_in, no_repeats, declare_types, known_fields, known_form, known_forms, names_of, chains_end, with_group}
use Rattle.tg_typecheck.specs.Groups.{type_at_end, chain_of, add_form, add_forms, function_names, param_types, result_type, headers}
use Rattle.tg_typecheck.specs.Typing.{body_fits, own_type, assignable}
use Rattle.tg_typecheck.specs.Has.{Fits, the_same, Apart, HasValues, HaveValues, GivesBack}
use Rattle.tg_typecheck.proofs.Inversion.{steps, kept, given, presented, shape_added, expected, expected_none}
use Rattle.tg_typecheck.proofs.NamedValues.{NameValues, IsFormKnown, AreFormsKnown, DoEnd, forms_known, chains_do_end, names_of_group, fields_values}
use Rattle.tg_typecheck.proofs.NamedValues.{element_values}
use Rattle.tg_typecheck.proofs.CheckedParts.{AddsForm, alias, fields, array, AddsForms, end_forms, a_form}

-- names that don't repeat
apart_from : (rule : TypeRule) (earlier names : List Ident) (y : ℕ) (x : Unit {0}) (g h : Noted) → no_repeats rule earlier names g ≡ fine x h →
    stands_in y earlier ≡ true → stands_in y names ≡ false
apart_from rule earlier [] y x g h e s = refl
apart_from rule earlier (z ∷ names) y x g h e s =
    let p = steps e in
    let k = kept _ _ _ _ _ _ p.first in
    by (name_of z == y) refl k.0 (apart_from rule (z ∷ earlier) names y x p.between h p.onward (either (name_of z == y) s))
  where
    either : (c : Bool) → stands_in y earlier ≡ true → (c || stands_in y earlier) ≡ true
    either true s = refl
    either false s = s

    by : (c : Bool) → (name_of z == y) ≡ c → not (stands_in (name_of z) earlier) ≡ true → stands_in y names ≡ false → (c || stands_in y names) ≡ false
    by true is n r =
        let same : name_of z ≡ y = eqb-true (name_of z) y is in
        let t : not (stands_in y earlier) ≡ true = subst (λ w. not (stands_in w earlier) ≡ true) same n in
        let f : not true ≡ true = subst (λ w. not w ≡ true) s t in
        absurd (cc)
    by false is n r = r

not_named : (y : ℕ) (fs : FunDecs) → stands_in y (function_names fs) ≡ false → function_named y fs ≡ None
not_named y no_functions e = refl
not_named y (function f ps _ body rest) e = by (name_of f == y) (not_named y rest) e
  where
    by : (c : Bool) → (stands_in y (function_names rest) ≡ false → function_named y rest ≡ None) → (c || stands_in y (function_names rest)) ≡ false →
        (if c then Some (record { params = ps; body = body }) else function_named y rest) ≡ None
    by true r e = cc
    by false r e = r e

equal_itself : (y : ℕ) (l : List Ident) (f : Ident) → name_of f ≡ y → stands_in y (f ∷ l) ≡ true
equal_itself y l f e = subst (λ z. (name_of f == z || stands_in z l) ≡ true) e (by (name_of f == name_of f) (eq-eqb (name_of f) (name_of f) refl))
  where
    by : (c : Bool) → c ≡ true → (c || stands_in (name_of f) l) ≡ true
    by true e = refl
    by false e = cc

pub group_apart : (rule : TypeRule) (earlier : List Ident) (fs : FunDecs) (x : Unit {0}) (g h : Noted) →
    no_repeats rule earlier (function_names fs) g ≡ fine x h → Apart fs
group_apart rule earlier no_functions x g h e = tt
group_apart rule earlier (function f ps r body rest) x g h e =
    let p = steps e in (
      not_named (name_of f) rest (apart_from rule (f ∷ earlier) (function_names rest) (name_of f) x p.between h p.onward
          (equal_itself (name_of f) earlier f refl)),
      group_apart rule (f ∷ earlier) rest x p.between h p.onward,
    )

-- checks that add no shape
pub no_repeats_keep : (rule : TypeRule) (earlier names : List Ident) (x : Unit {0}) (g h : Noted) → no_repeats rule earlier names g ≡ fine x h → g ≡ h
no_repeats_keep rule earlier [] x g h e = (given _ _ _ _ e).1
no_repeats_keep rule earlier (z ∷ names) x g h e =
    let p = steps e in
    (kept _ _ _ _ _ _ p.first).1 ∙ no_repeats_keep rule (z ∷ earlier) names x p.between h p.onward

known_fields_keep : (ds : List TypeDec) (scope : Scope) (earlier : List Ident) (ps : List Param) (x : Unit {0}) (g h : Noted) →
    known_fields ds scope earlier ps g ≡ fine x h → g ≡ h
known_fields_keep ds scope earlier [] x g h e = (given _ _ _ _ e).1
known_fields_keep ds scope earlier (p ∷ ps) x g h e =
    let a = steps e in
    let b = steps a.onward in
    (kept _ _ _ _ _ _ a.first).1 ∙ (kept _ _ _ _ _ _ b.first).1 ∙ known_fields_keep ds scope (p.name ∷ earlier) ps x b.between h b.onward

known_form_keep : (ds : List TypeDec) (scope : Scope) (form : Form) (x : Unit {0}) (g h : Noted) → known_form ds scope form g ≡ fine x h → g ≡ h
known_form_keep ds scope (Alias y) x g h e = (kept _ _ _ _ _ _ e).1
known_form_keep ds scope (Fields ps) x g h e = known_fields_keep ds scope [] ps x g h e
known_form_keep ds scope (Array y) x g h e = (kept _ _ _ _ _ _ e).1

pub known_forms_keep : (group ds : List TypeDec) (scope : Scope) (x : Unit {0}) (g h : Noted) → known_forms group ds scope g ≡ fine x h → g ≡ h
known_forms_keep group [] scope x g h e = (given _ _ _ _ e).1
known_forms_keep group (d ∷ ds) scope x g h e =
    let a = steps e in
    known_form_keep group scope d.form a.value g a.between a.first ∙ known_forms_keep group ds scope x a.between h a.onward

pub chains_keep : (group ds : List TypeDec) (x : Unit {0}) (g h : Noted) → chains_end group ds g ≡ fine x h → g ≡ h
chains_keep group [] x g h e = (given _ _ _ _ e).1
chains_keep group (d ∷ ds) x g h e =
    let a = steps e in
    (kept _ _ _ _ _ _ a.first).1 ∙ chains_keep group ds x a.between h a.onward

-- a group of types changes the names of types alone
group_scope : (group ds : List TypeDec) (outer inner : Scope) →
    with_group group ds outer inner ≡ record inner { types = (with_group group ds outer inner).types }
group_scope group [] outer inner = refl
group_scope group (d ∷ ds) outer inner =
    group_scope group ds outer (record inner { types = (name_of d.name, type_at_end (chain_of group d.name) outer) ∷ inner.types })

params_got : (scope : Scope) → NameValues scope.types → (earlier : List Ident) (ps : List Param) (ts : List Ty) (g h : Noted) →
    param_types scope earlier ps g ≡ fine ts h → (length ps ≡ length ts) × (g ≡ h) × HaveValues ts
params_got scope vs earlier [] ts g h e =
    let p = given _ _ _ _ e in
    (ap (λ y. length y) p.0, p.1, subst (λ y. HaveValues y) p.0 tt)
params_got scope vs earlier (p ∷ ps) ts g h e =
    let a = steps e in
    let b = steps a.onward in
    let c = steps b.onward in
    let d = given _ _ _ _ c.onward in
    let n = presented _ _ _ _ _ _ b.first in
    let r = params_got scope vs (p.name ∷ earlier) ps c.value b.between c.between c.first in (
      ap suc r.0 ∙ ap (λ y. length y) d.0,
      (kept _ _ _ _ _ _ a.first).1 ∙ n.1 ∙ r.1 ∙ d.1,
      subst (λ y. HaveValues y) d.0 (vs (name_of p.kind) b.value n.0, r.2),
    )

result_got : (scope : Scope) → NameValues scope.types → (r : Option Ident) (t : Ty) (g h : Noted) → result_type scope r g ≡ fine t h →
    GivesBack (is_some r) t × (g ≡ h)
result_got scope vs None t g h e = let p = given _ _ _ _ e in (sym p.0, p.1)
result_got scope vs (Some x) t g h e = let p = presented _ _ _ _ _ _ e in (vs (name_of x) t p.0, p.1)

-- the headers of a group
pub data Headed : FunDecs → List Signature → Type 0 where
  no_heads : Headed no_functions []
  a_head : {f : Ident} {ps : List Param} {r : Option Ident} {body : Exp} {rest : FunDecs} {s : Signature} {ss : List Signature} →
      length ps ≡ length s.params → HaveValues s.params → GivesBack (is_some r) s.result → Headed rest ss → Headed (function f ps r body rest) (s ∷ ss)

pub headed : (fs : FunDecs) (scope : Scope) → NameValues scope.types → (ss : List Signature) (g h : Noted) → headers fs scope g ≡ fine ss h →
    Headed fs ss × (g ≡ h)
headed no_functions scope vs ss g h e =
    let p = given _ _ _ _ e in
    (subst (λ y. Headed no_functions y) p.0 no_heads, p.1)
headed (function f ps r body rest) scope vs ss g h e =
    let a = steps e in
    let b = steps a.onward in
    let c = steps b.onward in
    let d = given _ _ _ _ c.onward in
    let n = params_got scope vs [] ps a.value g a.between a.first in
    let m = result_got scope vs r b.value a.between b.between b.first in
    let k = headed rest scope vs c.value b.between c.between c.first in
    (subst (λ y. Headed (function f ps r body rest) y) d.0 (a_head n.0 n.2 m.0 k.0), n.1 ∙ m.1 ∙ k.1 ∙ d.1)

pub body_got : (r : Option Ident) (result got : Ty) (at : ℕ) (x : Unit {0}) (g h : Noted) → GivesBack (is_some r) result →
    body_fits r result got at g ≡ fine x h → Fits got result × (g ≡ h)
body_got None result got at x g h n e =
    let p = expected_none got at x g h e in
    (subst (λ y. Fits got y) (p.0 ∙ sym n) the_same, p.1)
body_got (Some y) result got at x g h n e = expected result got at x g h e

pub assignable_keep : (v : LValue) (scope : Scope) (x : Unit {0}) (g h : Noted) → assignable v scope g ≡ fine x h → g ≡ h
assignable_keep (Simple y) scope x g h e = (kept _ _ _ _ _ _ e).1
assignable_keep (Field v f) scope x g h e = (given _ _ _ _ e).1
assignable_keep (Index v i) scope x g h e = (given _ _ _ _ e).1

pub both : (c d : Bool) → (c && d) ≡ true → (c ≡ true) × (d ≡ true)
both true true e = (refl, refl)
both true false e = cc
both false d e = cc

not_none : (t : Ty) → not (same t none_type) ≡ true → HasValues t
not_none t e n = let no : not (same none_type none_type) ≡ true = subst (λ w. not (same w none_type) ≡ true) n e in cc

pub own_got : (t : Ty) (at : ℕ) (u : Ty) (g h : Noted) → own_type t at g ≡ fine u h → (t ≡ u) × (g ≡ h) × HasValues u
own_got t at u g h e =
    let a = steps e in
    let b = steps a.onward in
    let c = given _ _ _ _ b.onward in
    let k = kept _ _ _ _ _ _ a.first in
    (c.0, k.1 ∙ (kept _ _ _ _ _ _ b.first).1 ∙ c.1, subst (λ w. HasValues w) c.0 (not_none t k.0))

-- the shapes of a group: with its names, where each is known and each chain has an end
module _ (group : List TypeDec) (scope : Scope) (vs : NameValues scope.types) (known : AreFormsKnown group scope group) (ends : DoEnd group group) where
  abbrev behind : Scope
  behind = with_group group group scope scope

  form_added : (at : ℕ) (form : Form) → IsFormKnown group scope form → (x : Unit {0}) (g h : Noted) → add_form behind at form g ≡ fine x h →
      AddsForm at form g h
  form_added at (Alias y) k x g h e = subst (λ k. AddsForm at (Alias y) g k) (given _ _ _ _ e).1 alias
  form_added at (Fields ps) k x g h e =
      subst (λ k. AddsForm at (Fields ps) g k) (shape_added _ _ _ _ _ e) (fields _ (fields_values group scope vs known ends ps k))
  form_added at (Array y) k x g h e =
      subst (λ k. AddsForm at (Array y) g k) (shape_added _ _ _ _ _ e) (array _ (element_values group scope vs known ends y k))

  forms_added : (ds : List TypeDec) → AreFormsKnown group scope ds → (x : Unit {0}) (g h : Noted) → add_forms behind ds g ≡ fine x h → AddsForms ds g h
  forms_added [] k x g h e = subst (λ k. AddsForms [] g k) (given _ _ _ _ e).1 end_forms
  forms_added (d ∷ ds) k x g h e =
      let a = steps e in
      a_form (form_added (at_of d.name) d.form k.0 a.value g a.between a.first) (forms_added ds k.1 x a.between h a.onward)

pub types_got : (ds : List TypeDec) (scope inner : Scope) → NameValues scope.types → (g h : Noted) → declare_types ds scope g ≡ fine inner h →
    (names : List (ℕ × Ty)) × (inner ≡ record scope { types = names }) × AddsForms ds g h × NameValues names
types_got ds scope inner vs g h e =
    let a = steps e in
    let b = steps a.onward in
    let c = steps b.onward in
    let d = steps c.onward in
    let f = given _ _ _ _ d.onward in
    let w = with_group ds ds scope scope in
    let known = forms_known ds ds scope b.value a.between b.between b.first in
    let ends = chains_do_end ds ds c.value b.between c.between c.first in
    let same : g ≡ c.between =
    no_repeats_keep _ [] (names_of ds) a.value g a.between a.first ∙ known_forms_keep ds ds scope b.value a.between b.between b.first
    ∙ chains_keep ds ds c.value b.between c.between c.first in
    let forms = forms_added ds scope vs known ends ds known d.value c.between d.between d.first in (
      w.types,
      sym f.0 ∙ group_scope ds ds scope scope,
      subst (λ k. AddsForms ds g k) f.1 (subst (λ k. AddsForms ds k d.between) (sym same) forms),
      names_of_group ds scope vs known ends,
    )
