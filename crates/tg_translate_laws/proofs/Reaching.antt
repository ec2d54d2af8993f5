-- In a program that has a type, where the variables that nested functions use escape and no two parts begin at one
-- byte,
-- each variable that a text uses is in its reach.
use Rattle.std.proofs.Common.{◌≡◌, ◌≢◌, ◌<◌, ◌≤◌, ℕ, zero, suc, Bool, true, false, Option, Some, None, List, [], ◌∷◌, ◌++◌, length, get_or, refl, sym}
use Rattle.std.proofs.Common.{ap, ◌∙◌, subst, arith, inl, inr, length-append}
use Rattle.std.specs.Prelude.{◌⊎◌, ◌==◌, nat_lt, if◌then◌else◌}
use Rattle.std.specs.List.{Contains}
use Rattle.std.proofs.lemmas.Bool.Decides.{nat_tests}
use Rattle.std.proofs.lemmas.List.Elements.{Contains-append_cases}
use Rattle.tg_symbols.specs.Tables.{looked_up}
use Rattle.tg_syntax.specs.declared.tokens.Ident.{Ident}
use Rattle.tg_syntax.specs.declared.trees.Param.{Param}
use Rattle.tg_syntax.specs.Tree.{Form, Alias, Fields, Array, TypeDec, Exp, Nil, Break, Int, Text, Read, Call, Neg, Binary, Make, Fill, Assign, If}
use Rattle.tg_syntax.specs.Tree.{When, While, For, Let, Seq, LValue, Simple, Field, Index, Exps, no_exps, exp, Inits, no_inits, init, Decs, no_decs}
use Rattle.tg_syntax.specs.Tree.{types, variable, functions, FunDecs, no_functions, function}
use Rattle.tg_syntax.specs.Beginnings.{param_beginnings, form_beginnings, type_beginnings, kind_beginnings, beginnings, place_beginnings}
use Rattle.tg_syntax.specs.Beginnings.{exps_beginnings, inits_beginnings, decs_beginnings, function_beginnings}
use Rattle.tg_escape.specs.Uses.{DeclaredAs, a_variable, a_function, Seen, Use, used, uses, place_uses, exps_uses, inits_uses, decs_uses}
use Rattle.tg_escape.specs.Uses.{functions_uses, declare_variable, declare_params, declare_functions, declare_all}
use Rattle.tg_escape.specs.Escaping.{escapes_by}
use Rattle.tg_typecheck.specs.declared.notes.Note.{Note}
use Rattle.tg_typecheck.specs.declared.notes.Means.{Means}
use Rattle.tg_typecheck.specs.declared.notes.Means.TheVariants as means
use Rattle.tg_typecheck.specs.Types.{Ty, int_type, string_type, none_type, record_type, array_type, Shape}
use Rattle.tg_semantics.specs.Environments.{name_of}
use Rattle.tg_typecheck.specs.Scopes.{Signature, Binding, variable_at, function_at, Scope, in_a_loop, in_no_loop, binding, at_of}
use Rattle.tg_typecheck.specs.Groups.{with_functions, with_params}
use Rattle.tg_typecheck.specs.Has as Has
use Rattle.tg_translate.specs.mirror.Scopes.{Findings}
use Rattle.tg_translate_laws.specs.Standing.{params_of, owned_by, AreApart, IsInReach, Reaches, ReachesPlace, ReachesExps, ReachesInits, ReachesDecs}
use Rattle.tg_translate_laws.specs.Standing.{ReachesBodies}
use Rattle.tg_translate_laws.proofs.Fine.{Each}
use Rattle.tg_translate_laws.proofs.Scoping.{named_cases, named_other, more_contained, first_contained}

-- Beginnings stand after those before them, and differ.

pub data Behind (xs : List ℕ) : List ℕ → Type 0 where
  here : Behind xs xs
  more : (y : ℕ) {ys : List ℕ} → Behind xs ys → Behind xs (y ∷ ys)

behind_params : (ps : List Param) {xs ys : List ℕ} → Behind xs ys → Behind xs (param_beginnings ps ys)
behind_params [] s = s
behind_params (p ∷ ps) s = behind_params ps (more _ (more _ s))

behind_kind : (k : Option Ident) {xs ys : List ℕ} → Behind xs ys → Behind xs (kind_beginnings k ys)
behind_kind None s = s
behind_kind (Some x) s = more _ s

behind_form : (f : Form) {xs ys : List ℕ} → Behind xs ys → Behind xs (form_beginnings f ys)
behind_form (Alias x) s = more _ s
behind_form (Fields ps) s = behind_params ps s
behind_form (Array x) s = more _ s

behind_types : (ds : List TypeDec) {xs ys : List ℕ} → Behind xs ys → Behind xs (type_beginnings ds ys)
behind_types [] s = s
behind_types (d ∷ ds) s = behind_types ds (behind_form d.form (more _ s))

mutual
  behind : (e : Exp) {xs ys : List ℕ} → Behind xs ys → Behind xs (beginnings e ys)
  behind (Nil _) s = s
  behind (Break _) s = s
  behind (Int _ _) s = s
  behind (Text _ _) s = s
  behind (Read _ v) s = behind_place v s
  behind (Call _ f args) s = behind_exps args (more _ s)
  behind (Neg _ a) s = behind a s
  behind (Binary _ _ _ a b) s = behind b (more _ (behind a s))
  behind (Make _ x inits) s = behind_inits inits (more _ s)
  behind (Fill _ x size value) s = behind value (behind size (more _ s))
  behind (Assign _ v e) s = behind e (behind_place v s)
  behind (If _ test this other) s = behind other (behind this (behind test s))
  behind (When _ test this) s = behind this (behind test s)
  behind (While _ test body) s = behind body (behind test s)
  behind (For _ x low high body) s = behind body (behind high (behind low (more _ s)))
  behind (Let _ ds es) s = behind_exps es (behind_decs ds s)
  behind (Seq _ es) s = behind_exps es s

  behind_place : (v : LValue) {xs ys : List ℕ} → Behind xs ys → Behind xs (place_beginnings v ys)
  behind_place (Simple x) s = more _ s
  behind_place (Field v f) s = more _ (behind_place v s)
  behind_place (Index v e) s = behind e (behind_place v s)

  behind_exps : (es : Exps) {xs ys : List ℕ} → Behind xs ys → Behind xs (exps_beginnings es ys)
  behind_exps no_exps s = s
  behind_exps (exp e rest) s = behind_exps rest (behind e s)

  behind_inits : (is : Inits) {xs ys : List ℕ} → Behind xs ys → Behind xs (inits_beginnings is ys)
  behind_inits no_inits s = s
  behind_inits (init f e rest) s = behind_inits rest (behind e (more _ s))

  behind_decs : (ds : Decs) {xs ys : List ℕ} → Behind xs ys → Behind xs (decs_beginnings ds ys)
  behind_decs no_decs s = s
  behind_decs (types ts rest) s = behind_decs rest (behind_types ts s)
  behind_decs (variable x kind e rest) s = behind_decs rest (behind e (behind_kind kind (more _ s)))
  behind_decs (functions fs rest) s = behind_decs rest (behind_bodies fs s)

  behind_bodies : (fs : FunDecs) {xs ys : List ℕ} → Behind xs ys → Behind xs (function_beginnings fs ys)
  behind_bodies no_functions s = s
  behind_bodies (function f ps result body rest) s = behind_bodies rest
      (behind body (behind_kind result (behind_params ps (more _ s))))

abbrev In : (xs ys : List ℕ) → Type 0
In xs ys = (y : ℕ) → Contains xs y → Contains ys y

abbrev Distinct : List ℕ → Type 0
Distinct [] = Unit {0}
Distinct (x ∷ xs) = (Contains xs x → ⊥) × Distinct xs

in_behind : {xs ys : List ℕ} → Behind xs ys → In xs ys
in_behind here = λ y c. c
in_behind (more z {ys} s) = λ y c. more_contained z y ys (in_behind s y c)

distinct_behind : {xs ys : List ℕ} → Behind xs ys → Distinct ys → Distinct xs
distinct_behind here d = d
distinct_behind (more z s) d = distinct_behind s d.1

pub distinct_of : (xs : List ℕ) → ((i j : ℕ) (d : ℕ) → i < j → j < length xs → get_or xs i d ≢ get_or xs j d) → Distinct
    xs
distinct_of [] h = tt
distinct_of (x ∷ xs) h = (
  λ c. h 0 (suc c.0) x (omega arith) (omega (arith, c.1)) (sym c.2),
  distinct_of xs (λ i j d l m. h (suc i) (suc j) d (omega (arith, l)) (omega (arith, m))),
)

apart_one : (x : ℕ) (around before : List ℕ) → (Contains before x → ⊥) → In around before → AreApart (x ∷ []) around
apart_one x around before absent i at (zero, l, e) c = absent (i x (subst (λ y. Contains around y) (sym e) c))
apart_one x around before absent i at (suc k, l, e) c = omega (arith, l)

params_in : (ps : List Param) (ys : List ℕ) → In (params_of ps) (param_beginnings ps ys)
params_in [] ys y c = absurd (omega (arith, c.1))
params_in (p ∷ ps) ys y (zero, l, e) =
    subst (λ z. Contains (param_beginnings ps (p.kind.span.from ∷ p.name.span.from ∷ ys)) z) e
    (in_behind (behind_params ps here) p.name.span.from
    (more_contained p.kind.span.from p.name.span.from (p.name.span.from ∷ ys) (first_contained p.name.span.from ys)))
params_in (p ∷ ps) ys y (suc k, l, e) = params_in ps (p.kind.span.from ∷ p.name.span.from ∷ ys) y (k, omega arith, e)

params_apart : (ps : List Param) (around ys : List ℕ) → Distinct (param_beginnings ps ys) → In around ys → AreApart
    (params_of ps) around
params_apart [] around ys d i at c = λ k. omega (arith, c.1)
params_apart (p ∷ ps) around ys d i at (zero, l, e) =
    λ k. (distinct_behind (behind_params ps here) d).1.0 (i p.name.span.from (subst (λ z. Contains around z) (sym e) k))
params_apart (p ∷ ps) around ys d i at (suc k, l, e) =
    params_apart ps around (p.kind.span.from ∷ p.name.span.from ∷ ys) d
    (λ y c. more_contained p.kind.span.from y (p.name.span.from ∷ ys) (more_contained p.name.span.from y ys (i y c))) at
    (k, omega arith, e)

-- What a text sees: a variable is one of its function, or of one around it.

pub record Here : Type 0 where
  pub seen : Seen
  pub within : List ℕ
  pub own : List ℕ
  pub around : List ℕ
  pub before : List ℕ

pub record Seeing (at : ℕ) (x : ℕ) (seen : Seen) (level : ℕ) (own : List ℕ) : Type 0 where
  pub declared : ℕ
  pub as_one : looked_up x seen ≡ Some (a_variable at declared)
  pub outer : declared ≤ level
  pub whose : (declared < level) ⊎ Contains own at

abbrev Agrees : (bindings : List (ℕ × Binding)) → Seen → (level : ℕ) → (own : List ℕ) → Type 0
Agrees bindings seen level own =
    (x at : ℕ) (t : Ty) (loop : Bool) → looked_up x bindings ≡ Some (variable_at at t loop) → Seeing at x seen level own

pub record Stands (scope : Scope) (h : Here) : Type 0 where
  pub agrees : Agrees scope.bindings h.seen (length h.within) h.own
  pub own_in : In h.own h.before
  pub around_in : In h.around h.before

-- more of the text, and one more variable
abbrev later : List ℕ → Here → Here
later ys h = record h { before = ys }

abbrev with_variable : Ident → Here → Here
with_variable x h = record h { seen = declare_variable (length h.within) x h.seen; own = at_of x ∷ h.own }

stands_on : (scope : Scope) (h : Here) (ys : List ℕ) → Behind h.before ys → Stands scope h → Stands scope (later ys h)
stands_on scope h ys s k = record {
  agrees = k.agrees;
  own_in = λ y c. in_behind s y (k.own_in y c);
  around_in = λ y c. in_behind s y (k.around_in y c);
}

widened : (bindings : List (ℕ × Binding)) (seen : Seen) (level deeper : ℕ) (own wider : List ℕ) → level ≤ deeper →
    ((at : ℕ) → Contains own at → (level < deeper) ⊎ Contains wider at) → Agrees bindings seen level own → Agrees
    bindings seen deeper wider
widened bindings seen level deeper own wider l f h x at t loop e =
    let k = h x at t loop e in
    record {
      declared = k.declared;
      as_one = k.as_one;
      outer = let m = k.outer in omega (arith, l, m);
      whose = elim k.whose [
        | inl m ↦ inl (omega (arith, l, m))
        | inr c ↦ elim (f at c) [ inl m ↦ inl (let n = k.outer in omega (arith, m, n)) | inr d ↦ inr d ]
      ];
    }

with_one : (n at : ℕ) (t : Ty) (loop : Bool) (bindings : List (ℕ × Binding)) (seen : Seen) (level : ℕ) (own : List ℕ) →
    Contains own at →
    Agrees bindings seen level own → Agrees ((n, variable_at at t loop) ∷ bindings) ((n, a_variable at level) ∷ seen)
    level own
with_one n at t loop bindings seen level own c h x b u lo e =
    elim (named_cases x n (variable_at at t loop) (variable_at b u lo) bindings e) [
      | inl q ↦ (let same : at ≡ b = cc in
          record {
            declared = level;
            as_one = same_name x n at b level seen q.0 same;
            outer = omega arith;
            whose = inr (subst (λ z. Contains own z) same c);
          })
      | inr q ↦ (let k = h x b u lo q.1 in
          record {
            declared = k.declared;
            as_one = named_other x n (a_variable at level) seen q.0 ∙ k.as_one;
            outer = k.outer;
            whose = k.whose;
          })
    ]
  where
    same_test : (x n : ℕ) → n ≡ x → (n == x) ≡ true
    same_test x n e = grind (arith, nat_tests)

    same_name : (x n at b level : ℕ) (seen : Seen) → n ≡ x → at ≡ b → looked_up x ((n, a_variable at level) ∷ seen) ≡ Some
        (a_variable b level)
    same_name x n at b level seen e i =
        ap (λ v. if v then Some (a_variable at level) else looked_up x seen) (same_test x n e) ∙ ap
        (λ z. Some (a_variable z level)) i

with_function : (n at : ℕ) (s : Signature) (bindings : List (ℕ × Binding)) (seen : Seen) (level : ℕ) (own : List ℕ) →
    Agrees bindings seen level own → Agrees ((n, function_at at s) ∷ bindings) ((n, a_function level) ∷ seen) level own
with_function n at s bindings seen level own h x b u lo e =
    elim (named_cases x n (function_at at s) (variable_at b u lo) bindings e) [
      | inl q ↦ (let differ : function_at at s ≡ variable_at b u lo = q.1 in cc)
      | inr q ↦ (let k = h x b u lo q.1 in
          record {
            declared = k.declared;
            as_one = named_other x n (a_function level) seen q.0 ∙ k.as_one;
            outer = k.outer;
            whose = k.whose;
          })
    ]

agree_params : (ps : List Param) (ts : List Ty) (scope : Scope) (seen : Seen) (level : ℕ) (own : List ℕ) → length ps ≡
    length ts → In (params_of ps) own →
    Agrees scope.bindings seen level own → Agrees (with_params ps ts scope).bindings (declare_params level ps seen)
    level own
agree_params [] ts scope seen level own e i h = h
agree_params (p ∷ ps) [] scope seen level own e i h = absurd (omega (arith, e))
agree_params (p ∷ ps) (t ∷ ts) scope seen level own e i h =
    agree_params ps ts (binding p.name (variable_at (at_of p.name) t false) scope) (declare_variable level p.name seen)
    level own (omega (arith, e))
    (λ y c. i y (more_contained (at_of p.name) y (params_of ps) c))
    (with_one (name_of p.name) (at_of p.name) t false scope.bindings seen level own
    (i (at_of p.name) (first_contained (at_of p.name) (params_of ps))) h)

module _ (shapes : List (ℕ × Shape)) (notes : List Note) (findings : Findings) where
  agree_functions : (fs : FunDecs) (ss : List Signature) (inner scope : Scope) (seen : Seen) (level : ℕ)
      (own : List ℕ) →
      Has.HasBodies shapes notes fs ss inner → Agrees scope.bindings seen level own →
      Agrees (with_functions fs ss scope).bindings (declare_functions level fs seen) level own
  agree_functions _ _ inner scope seen level own Has.end_bodies h = h
  agree_functions _ _ inner scope seen level own (Has.a_body {f = f} {rest = rest} {s = s} {ss = ss} u l _ _ b fit hs) h =
      agree_functions rest ss inner (binding f (function_at (at_of f) s) scope) ((name_of f, a_function level) ∷ seen)
      level own hs
      (with_function (name_of f) (at_of f) s scope.bindings seen level own h)

  -- each use makes its variable escape, where it is of an outer function
  abbrev Escapes : Use → Type 0
  Escapes u = (at : ℕ) → Contains (escapes_by u) at → findings.escapes at ≡ true

  abbrev AllEscape : List Use → Type 0
  AllEscape us = Each Escapes us

  unused : (within : List ℕ) (o : Option DeclaredAs) (after : List Use) → AllEscape (used within o after) → AllEscape
      after
  unused within None after h = h
  unused within (Some d) after h = h.1

  outer_escapes : (at level deeper : ℕ) (own : List ℕ) (b : Bool) → nat_lt level deeper ≡ b → level < deeper →
      ((x : ℕ) → Contains (if b then at ∷ [] else []) x → findings.escapes x ≡ true) → findings.escapes at ≡ true
  outer_escapes at level deeper own true e l h = h at (first_contained at [])
  outer_escapes at level deeper own false e l h = absurd (grind (arith, nat_tests, e, l))

  variable_reached : (at x : ℕ) (h : Here) (after : List Use) → Seeing at x h.seen (length h.within) h.own →
      AllEscape (used h.within (looked_up x h.seen) after) → Contains h.own at ⊎ (findings.escapes at ≡ true)
  variable_reached at x h after k g =
      elim k.whose [
        | inl l ↦ (let escape : AllEscape (used h.within (Some (a_variable at k.declared)) after) =
            subst (λ o. AllEscape (used h.within o after)) k.as_one g in
            inr (outer_escapes at k.declared (length h.within) h.own (nat_lt k.declared (length h.within)) refl l
            escape.0))
        | inr c ↦ inl c
      ]

  deeper : (within : List ℕ) (x : ℕ) → length within ≤ length (within ++ x ∷ [])
  deeper within x = omega (arith, length-append within (x ∷ []))

  strictly : (within : List ℕ) (x : ℕ) → length within < length (within ++ x ∷ [])
  strictly within x = omega (arith, length-append within (x ∷ []))

  around_in_start : (h : Here) (ys : List ℕ) → Behind h.before ys → (scope : Scope) → Stands scope h → In
      (h.own ++ h.around) ys
  around_in_start h ys b scope s y c =
      elim (Contains-append_cases h.own h.around y c) [
        | inl k ↦ in_behind b y (s.own_in y k)
        | inr k ↦ in_behind b y
            (s.around_in y k)
      ]

  own_more : (x : ℕ) (own before ys : List ℕ) → Behind (x ∷ before) ys → In own before → In (x ∷ own) ys
  own_more x own before ys b i y (zero, l, e) = subst (λ z. Contains ys z) e (in_behind b x (first_contained x before))
  own_more x own before ys b i y (suc k, l, e) = in_behind b y (more_contained x y before (i y (k, omega arith, e)))

  -- with a variable that is declared, seen and not yet seen
  one_stands : (x : Ident) (t : Ty) (loop : Bool) (scope : Scope) (h : Here) (ys : List ℕ) → Behind
      (x.span.from ∷ h.before) ys → Stands scope h →
      Stands (binding x (variable_at (at_of x) t loop) scope) (with_variable x (later ys h))
  one_stands x t loop scope h ys b s = record {
    agrees =
        with_one (name_of x) (at_of x) t loop scope.bindings h.seen (length h.within) (at_of x ∷ h.own)
        (first_contained (at_of x) h.own)
        (widened scope.bindings h.seen (length h.within) (length h.within) h.own (at_of x ∷ h.own) (omega arith)
        (λ at c. inr (more_contained (at_of x) at h.own c)) s.agrees);
    own_in = own_more (at_of x) h.own h.before ys b s.own_in;
    around_in = λ y c. in_behind b y (more_contained x.span.from y h.before (s.around_in y c));
  }

  owning_stands : (x : Ident) (scope : Scope) (h : Here) (ys : List ℕ) → Behind (x.span.from ∷ h.before) ys → Stands
      scope h →
      Stands scope (record h { own = at_of x ∷ h.own; before = ys })
  owning_stands x scope h ys b s = record {
    agrees =
        widened scope.bindings h.seen (length h.within) (length h.within) h.own (at_of x ∷ h.own) (omega arith)
        (λ at c. inr (more_contained (at_of x) at h.own c)) s.agrees;
    own_in = own_more (at_of x) h.own h.before ys b s.own_in;
    around_in = λ y c. in_behind b y (more_contained x.span.from y h.before (s.around_in y c));
  }

  module _ (says : (at : ℕ) (m : Means) → Has.Says notes at m → findings.meaning at ≡ Some m) where
    mutual
      pub reaches : (e : Exp) (scope : Scope) (t : Ty) (h : Here) (after : List Use) → Has.Has shapes notes e scope t →
          Stands scope h →
          Distinct (beginnings e h.before) → AllEscape (uses e h.within h.seen after) → Reaches findings h.own h.around
          e × AllEscape after
      reaches _ scope _ h after Has.nil s d u = (tt, u)
      reaches _ scope _ h after Has.int s d u = (tt, u)
      reaches _ scope _ h after Has.text s d u = (tt, u)
      reaches _ scope _ h after (Has.break i) s d u = (tt, u)
      reaches _ scope t h after (Has.read {v = v} k) s d u = place_reaches v scope t h after k s d u
      reaches _ scope _ h after (Has.call {f = f} {args = args} {sig = sig} c e k i hs) s d u =
          all_reach args sig.params scope (later (f.span.from ∷ h.before) h) after hs
          (stands_on scope h (f.span.from ∷ h.before) (more _ here) s) d
          (unused h.within (looked_up f.name.0 h.seen) (exps_uses args h.within h.seen after) u)
      reaches _ scope _ h after (Has.neg {a = a} k) s d u = reaches a scope int_type h after k s d u
      reaches _ scope _ h after (Has.ints {at = at} {a = x} {b = y} i k l) s d u =
          let end = at ∷ beginnings x h.before in
          let first = reaches x scope int_type h (uses y h.within h.seen after) k s
          (distinct_behind (behind y (more at here)) d) u in
          let second = reaches y scope int_type (later end h) after l
          (stands_on scope h end (more at (behind x here)) s) d first.1 in
          ((first.0, second.0), second.1)
      reaches _ scope _ h after (Has.strings {at = at} {a = x} {b = y} c i k l) s d u =
          let end = at ∷ beginnings x h.before in
          let first = reaches x scope string_type h (uses y h.within h.seen after) k s
          (distinct_behind (behind y (more at here)) d) u in
          let second = reaches y scope string_type (later end h) after l
          (stands_on scope h end (more at (behind x here)) s) d first.1 in
          ((first.0, second.0), second.1)
      reaches _ scope _ h after (Has.same {at = at} {a = x} {b = y} {t = t} {u = v} c i j k l) s d u =
          let end = at ∷ beginnings x h.before in
          let first = reaches x scope t h (uses y h.within h.seen after) k s
          (distinct_behind (behind y (more at here)) d) u in
          let second = reaches y scope v (later end h) after l (stands_on scope h end (more at (behind x here)) s) d
          first.1 in
          ((first.0, second.0), second.1)
      reaches _ scope _ h after (Has.make {x = x} {inits = inits} fs e hs) s d u =
          inits_reach inits fs scope (later (x.span.from ∷ h.before) h) after hs
          (stands_on scope h (x.span.from ∷ h.before) (more _ here) s) d u
      reaches _ scope _ h after (Has.fill {x = x} {size = size} {value = value} t v e k l fit) s d u =
          let start = x.span.from ∷ h.before in
          let first = reaches size scope int_type (later start h) (uses value h.within h.seen after) k
          (stands_on scope h start (more _ here) s)
          (distinct_behind (behind value here) d) u in
          let second = reaches value scope v (later (beginnings size start) h) after l
          (stands_on scope h (beginnings size start) (behind size (more _ here)) s) d first.1 in
          ((first.0, second.0), second.1)
      reaches _ scope _ h after (Has.assign {v = v} {e = e} {t = t} {u = w} k l fit) s d u =
          let first = place_reaches v scope t h (uses e h.within h.seen after) k s (distinct_behind (behind e here) d) u
          in
          let second = reaches e scope w (later (place_beginnings v h.before) h) after l
          (stands_on scope h (place_beginnings v h.before) (behind_place v here) s) d first.1 in
          ((first.0, second.0), second.1)
      reaches _ scope _ h after (Has.if_else {c = c} {a = x} {b = y} {t = t} {u = v} k l m f g) s d u =
          let b1 = beginnings c h.before in
          let b2 = beginnings x b1 in
          let first = reaches c scope int_type h (uses x h.within h.seen (uses y h.within h.seen after)) k s
          (distinct_behind (behind y (behind x here)) d) u in
          let second = reaches x scope t (later b1 h) (uses y h.within h.seen after) l
          (stands_on scope h b1 (behind c here) s)
          (distinct_behind (behind y here) d) first.1 in
          let third = reaches y scope v (later b2 h) after m (stands_on scope h b2 (behind x (behind c here)) s) d
          second.1 in
          ((first.0, second.0, third.0), third.1)
      reaches _ scope _ h after (Has.when {c = c} {a = a} k l) s d u =
          let first = reaches c scope int_type h (uses a h.within h.seen after) k s (distinct_behind (behind a here) d)
          u in
          let second = reaches a scope none_type (later (beginnings c h.before) h) after l
          (stands_on scope h (beginnings c h.before) (behind c here) s) d first.1 in
          ((first.0, second.0), second.1)
      reaches _ scope _ h after (Has.while {c = c} {a = a} k l) s d u =
          let first = reaches c scope int_type h (uses a h.within h.seen after) k s (distinct_behind (behind a here) d)
          u in
          let on = stands_on scope h (beginnings c h.before) (behind c here) s in
          let second = reaches a (in_a_loop scope) none_type (later (beginnings c h.before) h) after l
          (record { agrees = on.agrees; own_in = on.own_in; around_in = on.around_in }) d first.1 in
          ((first.0, second.0), second.1)
      reaches _ scope _ h after (Has.for {x = x} {l = low} {h = high} {a = a} p q r) s d u =
          let start = x.span.from ∷ h.before in
          let b1 = beginnings low start in
          let b2 = beginnings high b1 in
          let inner = declare_variable (length h.within) x h.seen in
          let absent = (distinct_behind (behind a (behind high (behind low here))) d).0 in
          let first = reaches low scope int_type (later start h)
          (uses high h.within h.seen (uses a h.within inner after)) p
          (stands_on scope h start (more _ here) s) (distinct_behind (behind a (behind high here)) d) u in
          let second = reaches high scope int_type (later b1 h) (uses a h.within inner after) q
          (stands_on scope h b1 (behind low (more _ here)) s)
          (distinct_behind (behind a here) d) first.1 in
          let third = reaches a (in_a_loop (binding x (variable_at (at_of x) int_type true) scope)) none_type
          (with_variable x (later b2 h)) after r
          (let k = one_stands x int_type true scope h b2 (behind high (behind low here)) s in
          record { agrees = k.agrees; own_in = k.own_in; around_in = k.around_in }) d second.1 in
          ((apart_one x.span.from h.around h.before absent s.around_in, first.0, second.0, third.0), third.1)
      reaches _ scope _ h after (Has.block {ds = ds} {es = es} {t = t} inner hs ls) s d u =
          let end = decs_beginnings ds h.before in
          let deep = declare_all (length h.within) ds h.seen in
          let first = decs_reach ds scope inner h (exps_uses es h.within deep after) hs s
          (distinct_behind (behind_exps es here) d) u in
          let second = last_reaches none_type es inner t
          (record h { seen = deep; own = owned_by ds h.own; before = end }) after ls first.2 d first.1 in
          ((first.0, second.0), second.1)
      reaches _ scope _ h after (Has.seq {es = es} {t = t} ls) s d u = last_reaches none_type es scope t h after ls s d
          u

      place_reaches : (v : LValue) (scope : Scope) (t : Ty) (h : Here) (after : List Use) → Has.HasPlace shapes notes v
          scope t → Stands scope h →
          Distinct (place_beginnings v h.before) → AllEscape (place_uses v h.within h.seen after) → ReachesPlace
          findings h.own h.around v × AllEscape after
      place_reaches _ scope t h after (Has.simple {x = x} at loop e i) s d u =
          let k = s.agrees x.name.0 at t loop e in (
            subst (λ m. IsInReach findings h.own m) (sym (says (at_of x) (means.Variable at) i))
                (variable_reached at x.name.0 h after k u),
            unused h.within (looked_up x.name.0 h.seen) after u,
          )
      place_reaches _ scope _ h after (Has.field {v = v} {f = f} at fs n k e g p i) s d u = place_reaches v scope
          (record_type at) h after k s d.1 u
      place_reaches _ scope _ h after (Has.index {v = v} {e = e} at k i l) s d u =
          let first = place_reaches v scope (array_type at) h (uses e h.within h.seen after) k s
          (distinct_behind (behind e here) d) u in
          let second = reaches e scope int_type (later (place_beginnings v h.before) h) after l
          (stands_on scope h (place_beginnings v h.before) (behind_place v here) s) d first.1 in
          ((first.0, second.0), second.1)

      all_reach : (es : Exps) (ts : List Ty) (scope : Scope) (h : Here) (after : List Use) → Has.HasAll shapes notes es
          ts scope → Stands scope h →
          Distinct (exps_beginnings es h.before) → AllEscape (exps_uses es h.within h.seen after) → ReachesExps findings
          h.own h.around es × AllEscape after
      all_reach _ _ scope h after Has.end_args s d u = (tt, u)
      all_reach _ _ scope h after (Has.an_arg {e = e} {rest = rest} {ts = ts} v k fit hs) s d u =
          let first = reaches e scope v h (exps_uses rest h.within h.seen after) k s
          (distinct_behind (behind_exps rest here) d) u in
          let second = all_reach rest ts scope (later (beginnings e h.before) h) after hs
          (stands_on scope h (beginnings e h.before) (behind e here) s) d first.1 in
          ((first.0, second.0), second.1)

      inits_reach : (is : Inits) (fs : List (ℕ × Ty)) (scope : Scope) (h : Here) (after : List Use) → Has.HasInits
          shapes notes is fs scope → Stands scope h →
          Distinct (inits_beginnings is h.before) → AllEscape (inits_uses is h.within h.seen after) → ReachesInits
          findings h.own h.around is × AllEscape after
      inits_reach _ _ scope h after Has.end_inits s d u = (tt, u)
      inits_reach _ _ scope h after (Has.an_init {f = f} {e = e} {rest = rest} {fs = fs} v n k fit hs) s d u =
          let start = f.span.from ∷ h.before in
          let first = reaches e scope v (later start h) (inits_uses rest h.within h.seen after) k
          (stands_on scope h start (more _ here) s)
          (distinct_behind (behind_inits rest here) d) u in
          let second = inits_reach rest fs scope (later (beginnings e start) h) after hs
          (stands_on scope h (beginnings e start) (behind e (more _ here)) s) d first.1 in
          ((first.0, second.0), second.1)

      last_reaches : (v : Ty) (es : Exps) (scope : Scope) (t : Ty) (h : Here) (after : List Use) → Has.HasLast shapes
          notes v es scope t → Stands scope h →
          Distinct (exps_beginnings es h.before) → AllEscape (exps_uses es h.within h.seen after) → ReachesExps findings
          h.own h.around es × AllEscape after
      last_reaches _ _ scope _ h after Has.end_lasts s d u = (tt, u)
      last_reaches _ _ scope t h after (Has.a_last {e = e} {rest = rest} v k hs) s d u =
          let first = reaches e scope v h (exps_uses rest h.within h.seen after) k s
          (distinct_behind (behind_exps rest here) d) u in
          let second = last_reaches v rest scope t (later (beginnings e h.before) h) after hs
          (stands_on scope h (beginnings e h.before) (behind e here) s) d first.1 in
          ((first.0, second.0), second.1)

      decs_reach : (ds : Decs) (scope inner : Scope) (h : Here) (after : List Use) → Has.HasDecs shapes notes ds scope
          inner → Stands scope h →
          Distinct (decs_beginnings ds h.before) → AllEscape (decs_uses ds h.within h.seen after) →
          ReachesDecs findings h.own h.around ds × AllEscape after ×
          Stands inner (record h {
            seen = declare_all (length h.within) ds h.seen;
            own = owned_by ds h.own;
            before =
                decs_beginnings ds h.before;
          })
      decs_reach _ scope _ h after Has.end_decs s d u = (tt, u, s)
      decs_reach _ scope inner h after (Has.type_names {ds = ts} {rest = rest} names hs) s d u =
          let on = stands_on scope h (type_beginnings ts h.before) (behind_types ts here) s in
          decs_reach rest (record scope { types = names }) inner (later (type_beginnings ts h.before) h) after hs
          (record { agrees = on.agrees; own_in = on.own_in; around_in = on.around_in }) d u
      decs_reach _ scope inner h after (Has.variables {x = x} {kind = kind} {e = e} {rest = rest} t v _ k fit hs) s d u =
          let start = x.span.from ∷ h.before in
          let b1 = kind_beginnings kind start in
          let b2 = beginnings e b1 in
          let absent = (distinct_behind (behind_decs rest (behind e (behind_kind kind here))) d).0 in
          let wide : Here = record h { own = at_of x ∷ h.own; before = b1 } in
          let first = reaches e scope v wide (decs_uses rest h.within (declare_variable (length h.within) x h.seen)
          after) k
          (owning_stands x scope h b1 (behind_kind kind here) s) (distinct_behind (behind_decs rest here) d) u in
          let second = decs_reach rest (binding x (variable_at (at_of x) t false) scope) inner
          (with_variable x (later b2 h)) after hs
          (one_stands x t false scope h b2 (behind e (behind_kind kind here)) s) d first.1 in
          ((apart_one x.span.from h.around h.before absent s.around_in, first.0, second.0), second.1, second.2)
      decs_reach _ scope inner h after (Has.group {fs = fs} {rest = rest} ss apart bs hs) s d u =
          let level = length h.within in
          let deep = declare_functions level fs h.seen in
          let wide = with_functions fs ss scope in
          let mid = function_beginnings fs h.before in
          let agreed = agree_functions fs ss (in_no_loop wide) scope h.seen level h.own bs s.agrees in
          let first = bodies_reach fs ss (in_no_loop wide) (record h { seen = deep })
          (decs_uses rest h.within deep after) bs
          (record { agrees = agreed; own_in = s.own_in; around_in = s.around_in })
          (distinct_behind (behind_decs rest here) d) u in
          let second = decs_reach rest wide inner (record h { seen = deep; before = mid }) after hs
          (record {
            agrees = agreed;
            own_in = λ y c. in_behind (behind_bodies fs here) y (s.own_in y c);
            around_in = λ y c. in_behind (behind_bodies fs here) y (s.around_in y c);
          }) d first.1 in
          ((first.0, second.0), second.1, second.2)

      bodies_reach : (fs : FunDecs) (ss : List Signature) (scope : Scope) (h : Here) (after : List Use) → Has.HasBodies
          shapes notes fs ss scope → Stands scope h →
          Distinct (function_beginnings fs h.before) → AllEscape (functions_uses fs h.within h.seen after) →
          ReachesBodies findings (h.own ++ h.around) fs × AllEscape after
      bodies_reach _ _ scope h after Has.end_bodies s d u = (tt, u)
      bodies_reach _ _ scope h after (Has.a_body {f = f} {ps = ps} {r = result} {body = body} {rest = rest} {s = sig}
          {ss = ss} v l _ _ k fit hs) s d u =
          let start = f.span.from ∷ h.before in
          let b1 = param_beginnings ps start in
          let b2 = kind_beginnings result b1 in
          let b3 = beginnings body b2 in
          let inner = h.within ++ f.span.from ∷ [] in
          let deep = declare_params (length inner) ps h.seen in
          let place : Here = record {
            seen = deep;
            within = inner;
            own = params_of ps;
            around = h.own ++ h.around;
            before = b2;
          } in
          let around_start = around_in_start h start (more _ here) scope s in
          let first = reaches body (with_params ps sig.params scope) v place (functions_uses rest h.within h.seen after)
          k
          (record {
            agrees =
                agree_params ps sig.params scope h.seen (length inner) (params_of ps) l (λ y c. c)
                (widened scope.bindings h.seen (length h.within) (length inner) h.own (params_of ps)
                (deeper h.within f.span.from)
                (λ at c. inl (strictly h.within f.span.from)) s.agrees);
            own_in = λ y c. in_behind (behind_kind result here) y (params_in ps start y c);
            around_in = λ y c. in_behind (behind_kind result (behind_params ps here)) y (around_start y c);
          }) (distinct_behind (behind_bodies rest here) d) u in
          let second = bodies_reach rest ss scope (later b3 h) after hs
          (stands_on scope h b3 (behind body (behind_kind result (behind_params ps (more _ here)))) s) d first.1 in (
            (
              params_apart ps (h.own ++ h.around) start
                  (distinct_behind (behind_bodies rest (behind body (behind_kind result here))) d) around_start,
              first.0,
              second.0,
            ),
            second.1,
          )
