-- A group of functions means the same to typing and among the facts, from its first name on.
use Rattle.std.proofs.Common.{◌≡◌, ℕ, suc, ◌<◌, ◌≤◌, List, [], ◌∷◌, ◌++◌, length, append_assoc, append-nil, Option, Some, None, Bool}
use Rattle.std.proofs.Common.{true, false, refl, sym, ap, ◌∙◌}
use Rattle.std.proofs.Common.{arith, subst, inl, inr}
use Rattle.std.specs.Prelude.{◌==◌, ◌&&◌, if◌then◌else◌}
use Rattle.std.proofs.lemmas.Bool.{eq-eqb}
use Rattle.tg_base.specs.declared.ids.Span.{Span}
use Rattle.tg_syntax.specs.declared.tokens.Ident.{Ident}
use Rattle.tg_syntax.specs.declared.trees.Param.{Param}
use Rattle.tg_syntax.specs.Spans.{span_of}
use Rattle.tg_syntax.specs.Tree.{FunDecs, no_functions, function}
use Rattle.tg_syntax.specs.Throughout.{ThroughParams, ThroughKind, ThroughFunctions}
use Rattle.tg_syntax.specs.NamesWithin.{AnyByte}
use Rattle.tg_symbols.specs.Tables.{looked_up}
use Rattle.tg_semantics.specs.declared.standards.Standard.{Standard}
use Rattle.tg_semantics.specs.Environments.{name_of}
use Rattle.tg_typecheck.specs.Types as typing
use Rattle.tg_typecheck.specs.Checks.{Noted, fine}
use Rattle.tg_typecheck.specs.Scopes.{Signature, Binding, variable_at, function_at, standard_one, Scope, at_of, bound, binding, signature}
use Rattle.tg_typecheck.specs.Groups.{param_types, result_type, headers, with_functions}
use Rattle.tg_typecheck.proofs.Inversion.{steps, kept, given, presented}
use Rattle.tg_explain_typing.specs.declared.types.Ty.{Ty}
use Rattle.tg_explain_typing.specs.declared.types.Ty.TheVariants as type
use Rattle.tg_explain_typing.specs.declared.facts.Meaning.{Meaning}
use Rattle.tg_explain_typing.specs.declared.facts.Fact.{Fact}
use Rattle.tg_explain_typing.specs.declared.facts.Fact.TheVariants as fact
use Rattle.tg_explain_typing.specs.Lookups.{covers, variable_type, function_type, declared_param, meaning_of, named_type, kind_type}
use Rattle.tg_explain_typing.specs.Facts.{between, params_facts, header_facts, headers_facts, functions_start}
use Rattle.tg_explain_types.specs.laws.Types.{told_type}
use Rattle.tg_explain_laws.specs.Nested.{ParamsNest, KindNests, FunctionsNest}
use Rattle.tg_explain_laws.proofs.Agreeing.{Spelled, Stands, Leads, ParamsAgree, CallsAgree, NamesAgree, ShapesAgree}
use Rattle.tg_explain_laws.proofs.Orders.{params_order, kind_order}
use Rattle.tg_explain_laws.proofs.Behind.{covered, above, variable_behind, function_behind, param_behind}
use Rattle.tg_explain_laws.proofs.Onward.{leads_onward, named_leads, Unmeant, Uncalled, calls_stay, wider, names_narrower, shapes_onward}
use Rattle.tg_explain_laws.proofs.Bound.{bound_by, ParamsLead, params_lead_onward}

-- ---- what the headers of functions say to typing

abbrev pub ParamsHeaded : List (ℕ × typing.Ty) → List Param → List typing.Ty → Type 0
ParamsHeaded types [] [] = Unit {0}
ParamsHeaded types (p ∷ ps) (t ∷ ts) = (looked_up (name_of p.kind) types ≡ Some t) × ParamsHeaded types ps ts
ParamsHeaded types _ _ = ⊥

abbrev pub KindIs : List (ℕ × typing.Ty) → Option Ident → typing.Ty → Type 0
KindIs types None t = typing.none_type ≡ t
KindIs types (Some x) t = looked_up (name_of x) types ≡ Some t

abbrev pub HeadersAre : List (ℕ × typing.Ty) → FunDecs → List Signature → Type 0
HeadersAre types no_functions [] = Unit {0}
HeadersAre types (function f ps r body rest) (s ∷ ss) = ParamsHeaded types ps s.params × KindIs types r s.result × HeadersAre types rest ss
HeadersAre types _ _ = ⊥

params_headed : (scope : Scope) (earlier : List Ident) (ps : List Param) (ts : List typing.Ty) (g h : Noted) → param_types scope earlier ps g ≡ fine ts h →
    ParamsHeaded scope.types ps ts × (g ≡ h)
params_headed scope earlier [] ts g h e =
    let p = given _ _ _ _ e in
    (subst (λ y. ParamsHeaded scope.types [] y) p.0 tt, p.1)
params_headed scope earlier (p ∷ ps) ts g h e =
    let a = steps e in
    let b = steps a.onward in
    let c = steps b.onward in
    let d = given _ _ _ _ c.onward in
    let n = presented _ _ _ _ _ _ b.first in
    let r = params_headed scope (p.name ∷ earlier) ps c.value b.between c.between c.first in
    (subst (λ y. ParamsHeaded scope.types (p ∷ ps) y) d.0 (n.0, r.0), (kept _ _ _ _ _ _ a.first).1 ∙ n.1 ∙ r.1 ∙ d.1)

result_headed : (scope : Scope) (r : Option Ident) (t : typing.Ty) (g h : Noted) → result_type scope r g ≡ fine t h → KindIs scope.types r t × (g ≡ h)
result_headed scope None t g h e = given _ _ _ _ e
result_headed scope (Some x) t g h e = presented _ _ _ _ _ _ e

pub headed : (scope : Scope) (fs : FunDecs) (ss : List Signature) (g h : Noted) → headers fs scope g ≡ fine ss h → HeadersAre scope.types fs ss × (g ≡ h)
headed scope no_functions ss g h e =
    let p = given _ _ _ _ e in
    (subst (λ y. HeadersAre scope.types no_functions y) p.0 tt, p.1)
headed scope (function f ps r body rest) ss g h e =
    let a = steps e in
    let b = steps a.onward in
    let c = steps b.onward in
    let d = given _ _ _ _ c.onward in
    let p = params_headed scope [] ps a.value g a.between a.first in
    let k = result_headed scope r b.value a.between b.between b.first in
    let m = headed scope rest c.value b.between c.between c.first in
    (subst (λ y. HeadersAre scope.types (function f ps r body rest) y) d.0 (p.0, k.0, m.0), p.1 ∙ k.1 ∙ m.1 ∙ d.1)

-- ---- the facts of a header

abbrev pub params_told : Ident → (index : ℕ) → List typing.Ty → (seen : Span) → List Fact
params_told f index [] seen = []
params_told f index (t ∷ ts) seen = fact.Param f index (told_type t) seen ∷ params_told f (suc index) ts seen

abbrev pub header_told : Ident → Signature → (seen : Span) → List Fact
header_told f s seen = fact.Function f (told_type s.result) seen ∷ params_told f 0 s.params seen

variable_unheard : (y f : Ident) (index : ℕ) (ts : List typing.Ty) (seen : Span) (o : Ty) → variable_type y (params_told f index ts seen) o ≡ o
variable_unheard y f index [] seen o = refl
variable_unheard y f index (t ∷ ts) seen o = variable_unheard y f (suc index) ts seen o

function_unheard : (y f : Ident) (index : ℕ) (ts : List typing.Ty) (seen : Span) (o : Ty) → function_type y (params_told f index ts seen) o ≡ o
function_unheard y f index [] seen o = refl
function_unheard y f index (t ∷ ts) seen o = function_unheard y f (suc index) ts seen o

meaning_unheard : (y f : Ident) (index : ℕ) (ts : List typing.Ty) (seen : Span) (o : Meaning) → meaning_of y (params_told f index ts seen) o ≡ o
meaning_unheard y f index [] seen o = refl
meaning_unheard y f index (t ∷ ts) seen o = meaning_unheard y f (suc index) ts seen o

pub header_unmeant : (f : Ident) (s : Signature) (seen : Span) (y : Ident) → Unmeant (header_told f s seen) y
header_unmeant f s seen y o = meaning_unheard y f 0 s.params seen o

-- another name's
other_param : {A : Type 0} (b c d : Bool) (t o : A) → c ≡ false → (if b && (c && d) then t else o) ≡ o
other_param true true d t o e = cc
other_param true false d t o e = refl
other_param false c d t o e = refl

other_name : {A : Type 0} (c d : Bool) (t o : A) → c ≡ false → (if c && d then t else o) ≡ o
other_name true d t o e = cc
other_name false d t o e = refl

params_other : (g f : Ident) (k index : ℕ) (ts : List typing.Ty) (seen : Span) (o : Ty) → (f.name.0 == g.name.0) ≡ false →
    declared_param g k (params_told f index ts seen) o ≡ o
params_other g f k index [] seen o e = refl
params_other g f k index (t ∷ ts) seen o e =
    ap (λ p. declared_param g k (params_told f (suc index) ts seen) p)
    (other_param (index == k) (f.name.0 == g.name.0) (covers seen g.span.from) (told_type t) o e) ∙ params_other g f k (suc index) ts seen o e

header_other : (g f : Ident) (s : Signature) (seen : Span) → (f.name.0 == g.name.0) ≡ false → Uncalled (header_told f s seen) g
header_other g f s seen e = record {
  result = λ o. function_unheard g f 0 s.params seen _ ∙ other_name (f.name.0 == g.name.0) (covers seen g.span.from) (told_type s.result) o e;
  param = λ k o. params_other g f k 0 s.params seen o e;
}

-- parameters before those of a place on
params_past : (g f : Ident) (k index : ℕ) (ts : List typing.Ty) (seen : Span) (o : Ty) → k < index → declared_param g k (params_told f index ts seen) o ≡ o
params_past g f k index [] seen o i = refl
params_past g f k index (t ∷ ts) seen o i =
    ap (λ p. declared_param g k (params_told f (suc index) ts seen) p) (first_false (index == k) (above k index i))
    ∙ params_past g f k (suc index) ts seen o (omega (arith, i))
  where
    first_false : (c : Bool) → c ≡ false → (if c && (f.name.0 == g.name.0 && covers seen g.span.from) then told_type t else o) ≡ o
    first_false true e = cc
    first_false false e = refl

all_true : {A : Type 0} (b c d : Bool) (t o : A) → b ≡ true → c ≡ true → d ≡ true → (if b && (c && d) then t else o) ≡ t
all_true true true true t o i j k = refl
all_true true true false t o i j k = cc
all_true true false d t o i j k = cc
all_true false c d t o i j k = cc

-- the name's own, where it is seen
module _ (text : List ℕ) (g f : Ident) (seen : Span) (same : (f.name.0 == g.name.0) ≡ true) (here : covers seen g.span.from ≡ true) where
  own_params : (facts : List Fact) (index : ℕ) (ts : List typing.Ty) → ParamsAgree text (facts ++ params_told f index ts seen) g index ts
  own_params facts index [] = tt
  own_params facts index (t ∷ ts) = (
    param_behind g index facts (params_told f index (t ∷ ts) seen) _
        ∙ ap (λ p. declared_param g index (params_told f (suc index) ts seen) p)
        (all_true (index == index) (f.name.0 == g.name.0) (covers seen g.span.from) (told_type t) _ (eq-eqb index index refl) same here)
        ∙ params_past g f index (suc index) ts seen (told_type t) (omega arith),
    subst (λ l. ParamsAgree text l g (suc index) ts) (append_assoc facts (fact.Param f index (told_type t) seen ∷ []) (params_told f (suc index) ts seen))
        (own_params (facts ++ fact.Param f index (told_type t) seen ∷ []) (suc index) ts),
  )

  own_call : (facts : List Fact) (s : Signature) → CallsAgree text (facts ++ header_told f s seen) g s
  own_call facts s = record {
    result = function_behind g facts (header_told f s seen) _ ∙ function_unheard g f 0 s.params seen _
        ∙ all_true true (f.name.0 == g.name.0) (covers seen g.span.from) (told_type s.result) _ refl same here;
    params = subst (λ l. ParamsAgree text l g 0 s.params) (append_assoc facts (fact.Function f (told_type s.result) seen ∷ []) (params_told f 0 s.params seen))
        (own_params (facts ++ fact.Function f (told_type s.result) seen ∷ []) 0 s.params);
  }

-- ---- a header, and a group of them

abbrev signature_of : (default : Signature) → Binding → Signature
signature_of default (variable_at at t loop) = default
signature_of default (function_at at s) = s
signature_of default (standard_one g) = default

function_no_variable : {at other : ℕ} {s : Signature} {t : typing.Ty} {loop : Bool} → function_at at s ≡ variable_at other t loop → ⊥
function_no_variable e = cc

function_no_standard : {at : ℕ} {s : Signature} {g : Standard} → function_at at s ≡ standard_one g → ⊥
function_no_standard e = cc

module _ (names : List (List ℕ)) (text : List ℕ) where
  pub with_header : (from to p q : ℕ) (seen : Span) (facts : List Fact) (scope : Scope) (f : Ident) (at : ℕ) (s : Signature) →
      NamesAgree names text from to facts scope → from ≤ p → q ≤ to → seen.from ≤ p → q ≤ seen.to →
      NamesAgree names text p q (facts ++ header_told f s seen) (binding f (function_at at s) scope)
  with_header from to p q seen facts scope f at s a i j k l = record {
    variables = λ y h other t loop e.
        elim (bound_by (name_of f == name_of y) (function_at at s) (variable_at other t loop) (bound y scope) e) [
          | inl w ↦ absurd (function_no_variable w.1)
          | inr w ↦ variable_behind y facts (header_told f s seen) type.Nothing ∙ variable_unheard y f 0 s.params seen _
              ∙ a.variables y (wider names text from to p q y i j h) other t loop w.1
        ];
    functions = λ g h other found e.
        elim (bound_by (name_of f == name_of g) (function_at at s) (function_at other found) (bound g scope) e) [
          | inl w ↦ subst (λ z. CallsAgree text (facts ++ header_told f s seen) g z) (ap (λ b. signature_of s b) w.1)
              (own_call text g f seen w.0 (covered seen g.span.from (omega (arith, k, h.after)) (omega (arith, l, h.before))) facts s)
          | inr w ↦ calls_stay text facts (header_told f s seen) g found (header_other g f s seen w.0)
              (a.functions g (wider names text from to p q g i j h) other found w.1)
        ];
    standards = λ g h one e.
        elim (bound_by (name_of f == name_of g) (function_at at s) (standard_one one) (bound g scope) e) [
          | inl w ↦ absurd (function_no_standard w.1)
          | inr w ↦ calls_stay text facts (header_told f s seen) g (signature one) (header_other g f s seen w.0)
              (a.standards g (wider names text from to p q g i j h) one w.1)
        ];
    types = λ y h t e. leads_onward text facts (header_told f s seen) from p y (told_type t) i (λ z b. header_unmeant f s seen z) (header_unmeant f s seen y)
        (a.types y (wider names text from to p q y i j h) t e);
  }

  -- the type of a result, as its name tells it
  abbrev pub KindLeads : List Fact → (before : ℕ) → Option Ident → typing.Ty → Type 0
  KindLeads facts before None t = typing.none_type ≡ t
  KindLeads facts before (Some x) t = Leads text facts before (length facts) x (told_type t)

  abbrev pub HeadersLead : List Fact → (before : ℕ) → FunDecs → List Signature → Type 0
  HeadersLead facts before no_functions [] = Unit {0}
  HeadersLead facts before (function f ps r body rest) (s ∷ ss) =
      ParamsLead names text facts before ps s.params × KindLeads facts before r s.result × HeadersLead facts before rest ss
  HeadersLead facts before _ _ = ⊥

  kind_leads_onward : (facts more : List Fact) (before : ℕ) (r : Option Ident) (t : typing.Ty) → ((y : Ident) → Unmeant more y) →
      KindLeads facts before r t → KindLeads (facts ++ more) before r t
  kind_leads_onward facts more before None t u l = l
  kind_leads_onward facts more before (Some x) t u l = leads_onward text facts more before before x (told_type t) (omega arith) (λ y b. u y) (u x) l

  headers_lead_onward : (facts more : List Fact) (before : ℕ) (fs : FunDecs) (ss : List Signature) → ((y : Ident) → Unmeant more y) →
      HeadersLead facts before fs ss → HeadersLead (facts ++ more) before fs ss
  headers_lead_onward facts more before no_functions [] u l = tt
  headers_lead_onward facts more before no_functions (s ∷ ss) u l = absurd l
  headers_lead_onward facts more before (function f ps r body rest) [] u l = absurd l
  headers_lead_onward facts more before (function f ps r body rest) (s ∷ ss) u l = (
    params_lead_onward names text facts more before ps s.params u l.0,
    kind_leads_onward facts more before r s.result u l.1,
    headers_lead_onward facts more before rest ss u l.2,
  )

  kind_is : (facts : List Fact) (before : ℕ) (r : Option Ident) (t : typing.Ty) → KindLeads facts before r t → kind_type text facts r ≡ told_type t
  kind_is facts before None t l = ap (λ u. told_type u) l
  kind_is facts before (Some x) t l = named_leads text facts before x (told_type t) l

  params_are : (before : ℕ) (f : Ident) (seen : Span) (ps : List Param) (ts : List typing.Ty) (index : ℕ) (facts : List Fact) →
      ParamsLead names text facts before ps ts → params_facts text f index ps seen facts ≡ facts ++ params_told f index ts seen
  params_are before f seen [] [] index facts l = sym (append-nil facts)
  params_are before f seen [] (t ∷ ts) index facts l = absurd l
  params_are before f seen (p ∷ ps) [] index facts l = absurd l
  params_are before f seen (p ∷ ps) (t ∷ ts) index facts l =
      let one : Fact = fact.Param f index (told_type t) seen in
      ap (λ u. params_facts text f (suc index) ps seen (facts ++ fact.Param f index u seen ∷ [])) (named_leads text facts before p.kind (told_type t) l.0)
      ∙ (params_are before f seen ps ts (suc index) (facts ++ one ∷ [])
      (params_lead_onward names text facts (one ∷ []) before ps ts (λ y o. refl) l.1)
      ∙ append_assoc facts (one ∷ []) (params_told f (suc index) ts seen))

  header_is : (before : ℕ) (f : Ident) (seen : Span) (ps : List Param) (r : Option Ident) (s : Signature) (facts : List Fact) →
      ParamsLead names text facts before ps s.params → KindLeads facts before r s.result →
      header_facts text f ps r seen facts ≡ facts ++ header_told f s seen
  unfolding header_facts
  header_is before f seen ps r s facts l k =
      let one : Fact = fact.Function f (told_type s.result) seen in
      ap (λ u. params_facts text f 0 ps seen (facts ++ fact.Function f u seen ∷ [])) (kind_is facts before r s.result k)
      ∙ (params_are before f seen ps s.params 0 (facts ++ one ∷ [])
      (params_lead_onward names text facts (one ∷ []) before ps s.params (λ y o. refl) l)
      ∙ append_assoc facts (one ∷ []) (params_told f 0 s.params seen))

  pub with_headers : (from to p q before : ℕ) (seen : Span) (fs : FunDecs) (ss : List Signature) (facts : List Fact) (scope : Scope) →
      NamesAgree names text from to facts scope → from ≤ p → q ≤ to → seen.from ≤ p → q ≤ seen.to → HeadersLead facts before fs ss →
      NamesAgree names text p q (headers_facts text fs seen facts) (with_functions fs ss scope)
  with_headers from to p q before seen no_functions [] facts scope a i j k l h = names_narrower names text from to p q facts scope a i j
  with_headers from to p q before seen no_functions (s ∷ ss) facts scope a i j k l h = absurd h
  with_headers from to p q before seen (function f ps r body rest) [] facts scope a i j k l h = absurd h
  with_headers from to p q before seen (function f ps r body rest) (s ∷ ss) facts scope a i j k l h =
      subst (λ z. NamesAgree names text p q (headers_facts text rest seen z) (with_functions rest ss (binding f (function_at (at_of f) s) scope)))
      (sym (header_is before f seen ps r s facts h.0 h.1))
      (with_headers p q p q before seen rest ss (facts ++ header_told f s seen) (binding f (function_at (at_of f) s) scope)
      (with_header from to p q seen facts scope f (at_of f) s a i j k l) (omega arith) (omega arith) k l
      (headers_lead_onward facts (header_told f s seen) before rest ss (header_unmeant f s seen) h.2))

  -- ---- kinds that stand in the region lead to what typing says of them

  kind_stands : (from to p q : ℕ) (x : Ident) → from ≤ p → q ≤ to → p ≤ x.span.from → x.span.from < q → Spelled names text x → Stands names text from to x
  kind_stands from to p q x i j k l s = record { is_spelled = s; after = omega (arith, i, k); before = omega (arith, j, l) }

  pub params_lead : (from to p q : ℕ) (facts : List Fact) (scope : Scope) (ps : List Param) (ts : List typing.Ty) →
      NamesAgree names text from to facts scope → from ≤ p → q ≤ to → ParamsNest p q ps → ThroughParams (Spelled names text) AnyByte ps →
      ParamsHeaded scope.types ps ts → ParamsLead names text facts from ps ts
  params_lead from to p q facts scope [] [] a i j n w h = tt
  params_lead from to p q facts scope [] (t ∷ ts) a i j n w h = absurd h
  params_lead from to p q facts scope (o ∷ ps) [] a i j n w h = absurd h
  params_lead from to p q facts scope (o ∷ ps) (t ∷ ts) a i j n w h = (
    a.types o.kind (kind_stands from to p q o.kind i j (omega (arith, n.0, n.1)) (omega (arith, n.1)) w.1) t h.0,
    params_lead from to o.kind.span.to q facts scope ps ts a (omega (arith, i, n.0, n.1)) j n.2 w.2 h.1,
  )

  pub kind_leads : (from to p q : ℕ) (facts : List Fact) (scope : Scope) (r : Option Ident) (t : typing.Ty) →
      NamesAgree names text from to facts scope → from ≤ p → q ≤ to → KindNests p q r → ThroughKind (Spelled names text) AnyByte r →
      KindIs scope.types r t → KindLeads facts from r t
  kind_leads from to p q facts scope None t a i j n w h = h
  kind_leads from to p q facts scope (Some x) t a i j n w h =
      a.types x (kind_stands from to p q x i j (omega (arith, n)) (omega (arith, n)) w) t h

  pub headers_lead : (from to p q : ℕ) (facts : List Fact) (scope : Scope) (fs : FunDecs) (ss : List Signature) →
      NamesAgree names text from to facts scope → from ≤ p → q ≤ to → FunctionsNest p q fs → ThroughFunctions (Spelled names text) AnyByte fs →
      HeadersAre scope.types fs ss → HeadersLead facts from fs ss
  headers_lead from to p q facts scope no_functions [] a i j n w h = tt
  headers_lead from to p q facts scope no_functions (s ∷ ss) a i j n w h = absurd h
  headers_lead from to p q facts scope (function f ps r body rest) [] a i j n w h = absurd h
  headers_lead from to p q facts scope (function f ps r body rest) (s ∷ ss) a i j n w h =
      let o = params_order ps f.span.to n.1 n.2 in
      let k = kind_order r n.1 (span_of body).from n.3 in (
        params_lead from to f.span.to n.1 facts scope ps s.params a (omega (arith, i, n.0)) (omega (arith, j, k, n.4)) n.2 w.1 h.0,
        kind_leads from to n.1 (span_of body).from facts scope r s.result a (omega (arith, i, n.0, o)) (omega (arith, j, n.4)) n.3 w.2 h.1,
        headers_lead from to (span_of body).to q facts scope rest ss a (omega (arith, i, n.0, o, k, n.4)) j n.6 w.4 h.2,
      )

  -- a group of functions, for the names behind its first one's
  pub with_group_of_functions : (from to p q next end : ℕ) (fs : FunDecs) (ss : List Signature) (facts : List Fact) (scope : Scope) →
      NamesAgree names text from to facts scope → FunctionsNest from next fs → next ≤ to → ThroughFunctions (Spelled names text) AnyByte fs →
      HeadersAre scope.types fs ss → from ≤ p → functions_start fs ≤ p → end ≤ to → q ≤ end →
      NamesAgree names text p q (headers_facts text fs (between (functions_start fs) end) facts) (with_functions fs ss scope)
  with_group_of_functions from to p q next end fs ss facts scope a n i w h j k l m =
      with_headers from to p q from (between (functions_start fs) end) fs ss facts scope a j (omega (arith, l, m)) k m
      (headers_lead from to from next facts scope fs ss a (omega arith) i n w h)

-- ---- shapes stay

shapes_params : (text : List ℕ) (before : ℕ) (noted : Noted) (f : Ident) (index : ℕ) (ps : List Param) (seen : Span) (facts : List Fact) →
    ShapesAgree text before facts noted → before ≤ seen.from → ShapesAgree text before (params_facts text f index ps seen facts) noted
shapes_params text before noted f index [] seen facts a i = a
shapes_params text before noted f index (p ∷ ps) seen facts a i =
    let one : Fact = fact.Param f index (named_type text facts p.kind) seen in
    shapes_params text before noted f (suc index) ps seen (facts ++ one ∷ [])
    (shapes_onward text before before facts (one ∷ []) noted a (omega arith) (i, tt) tt) i

pub shapes_headers : (text : List ℕ) (before : ℕ) (noted : Noted) (fs : FunDecs) (seen : Span) (facts : List Fact) →
    ShapesAgree text before facts noted → before ≤ seen.from → ShapesAgree text before (headers_facts text fs seen facts) noted
unfolding header_facts
shapes_headers text before noted no_functions seen facts a i = a
shapes_headers text before noted (function f ps r body rest) seen facts a i =
    let one : Fact = fact.Function f (kind_type text facts r) seen in
    shapes_headers text before noted rest seen (params_facts text f 0 ps seen (facts ++ one ∷ []))
    (shapes_params text before noted f 0 ps seen (facts ++ one ∷ []) (shapes_onward text before before facts (one ∷ []) noted a (omega arith) (i, tt) tt) i) i

-- those of a group are seen from its first name on
pub shapes_group : (text : List ℕ) (from next end : ℕ) (noted : Noted) (fs : FunDecs) (facts : List Fact) → ShapesAgree text from facts noted →
    FunctionsNest from next fs → ShapesAgree text from (headers_facts text fs (between (functions_start fs) end) facts) noted
shapes_group text from next end noted no_functions facts a n = a
shapes_group text from next end noted (function f ps r body rest) facts a n =
    shapes_headers text from noted (function f ps r body rest) (between f.span.from end) facts a (omega (arith, n.0))
