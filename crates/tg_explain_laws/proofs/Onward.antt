-- What names mean stays with more facts behind, that are seen elsewhere or declare nothing of their sort.
use Rattle.std.proofs.Common.{◌≡◌, ℕ, zero, suc, ◌<◌, ◌≤◌, List, [], ◌∷◌, ◌++◌, length, length-append, append-nil, Option, Some, None, Bool}
use Rattle.std.proofs.Common.{true, false, refl, sym, ap, ◌∙◌}
use Rattle.std.proofs.Common.{arith, subst, inl, inr}
use Rattle.std.specs.Prelude.{◌==◌, if◌then◌else◌}
use Rattle.std.proofs.lemmas.Bool.{eqb-true}
use Rattle.tg_syntax.specs.declared.tokens.Ident.{Ident}
use Rattle.tg_symbols.specs.Tables.{looked_up}
use Rattle.tg_semantics.specs.Environments.{name_of}
use Rattle.tg_typecheck.specs.Types as typing
use Rattle.tg_typecheck.specs.Checks.{Noted}
use Rattle.tg_typecheck.specs.Scopes.{Signature, Scope, in_a_loop, in_no_loop}
use Rattle.tg_typecheck.specs.Typing.{placed}
use Rattle.tg_explain_typing.specs.declared.types.Ty.{Ty}
use Rattle.tg_explain_typing.specs.declared.types.Ty.TheVariants as type
use Rattle.tg_explain_typing.specs.declared.facts.Meaning.{Meaning}
use Rattle.tg_explain_typing.specs.declared.facts.Meaning.TheVariants as meaning
use Rattle.tg_explain_typing.specs.declared.facts.Fact.{Fact}
use Rattle.tg_explain_typing.specs.Lookups.{function_type, declared_param, meaning_of, followed, named_type, kind_type, field_kind, field_type}
use Rattle.tg_explain_typing.specs.Lookups.{element_kind, element_type}
use Rattle.tg_explain_types.specs.laws.Types.{told_type}
use Rattle.tg_explain_laws.proofs.Agreeing.{SeenFrom, Misses, MissesAll, OwnersBefore, Stands, meaning_at, Leads, ParamsAgree, CallsAgree, KindAgrees}
use Rattle.tg_explain_laws.proofs.Agreeing.{FieldsAgree, NamesAgree, ShapesAgree, Agrees}
use Rattle.tg_explain_laws.proofs.Behind.{misses_before, variable_missed, variable_behind, function_missed, function_behind, param_missed, param_behind}
use Rattle.tg_explain_laws.proofs.Behind.{meaning_missed, meaning_behind, field_found, element_found, owners_later, owners_both}

-- ---- where names lead to

-- the type at the end
pub followed_leads : (text : List ℕ) (facts : List Fact) (before most : ℕ) (x : Ident) (t : Ty) → Leads text facts before most x t →
    followed text facts most x ≡ t
followed_leads text facts before zero x t l = l.1
followed_leads text facts before (suc most) x t l =
    elim l [
      | inl e ↦ ap (λ m. onward m) e
      | inr w ↦ ap (λ m. onward m) w.1 ∙ followed_leads text facts before most w.0 t w.3
    ]
  where
    onward : Meaning → Ty
    onward m = elim m [ meaning.Alias y ↦ followed text facts most y | meaning.Known u ↦ u ]

pub named_leads : (text : List ℕ) (facts : List Fact) (before : ℕ) (x : Ident) (t : Ty) → Leads text facts before (length facts) x t →
    named_type text facts x ≡ t
named_leads text facts before x t l = followed_leads text facts before (length facts) x t l

-- over more names, and before a later byte
pub leads_longer : (text : List ℕ) (facts : List Fact) (before most more : ℕ) (x : Ident) (t : Ty) → most ≤ more → Leads text facts before most x t →
    Leads text facts before more x t
leads_longer text facts before zero zero x t i l = l
leads_longer text facts before zero (suc more) x t i l = inl l.0
leads_longer text facts before (suc most) zero x t i l = absurd (omega (arith, i))
leads_longer text facts before (suc most) (suc more) x t i l =
    elim l [
      | inl e ↦ inl e
      | inr w ↦ inr (w.0, w.1, w.2, leads_longer text facts before most more w.0 t (omega (arith, i)) w.3)
    ]

pub leads_later : (text : List ℕ) (facts : List Fact) (before later most : ℕ) (x : Ident) (t : Ty) → before ≤ later → Leads text facts before most x t →
    Leads text facts later most x t
leads_later text facts before later zero x t i l = l
leads_later text facts before later (suc most) x t i l =
    elim l [
      | inl e ↦ inl e
      | inr w ↦ inr (w.0, w.1, omega (arith, w.2, i), leads_later text facts before later most w.0 t i w.3)
    ]

-- facts that mean nothing new to names, wherever these stand, or to those before a byte
abbrev pub Unmeant : List Fact → Ident → Type 0
Unmeant more x = (o : Meaning) → meaning_of x more o ≡ o

abbrev pub UnmeantBefore : (before : ℕ) → List Fact → Type 0
UnmeantBefore before more = (y : Ident) → y.span.from < before → Unmeant more y

pub unmeant_from : (from : ℕ) (more : List Fact) → SeenFrom from more → UnmeantBefore from more
unmeant_from from more s y i o = meaning_missed y more o (misses_before from more y.span.from s i)

pub meaning_stays : (text : List ℕ) (facts more : List Fact) (x : Ident) → Unmeant more x → meaning_at text (facts ++ more) x ≡ meaning_at text facts x
meaning_stays text facts more x u = meaning_behind x facts more _ ∙ u _

pub leads_stay : (text : List ℕ) (facts more : List Fact) (before most : ℕ) (x : Ident) (t : Ty) → UnmeantBefore before more → Unmeant more x →
    Leads text facts before most x t → Leads text (facts ++ more) before most x t
leads_stay text facts more before zero x t s u l = (meaning_stays text facts more x u ∙ l.0, l.1)
leads_stay text facts more before (suc most) x t s u l =
    elim l [
      | inl e ↦ inl (meaning_stays text facts more x u ∙ e)
      | inr w ↦ inr (w.0, meaning_stays text facts more x u ∙ w.1, w.2, leads_stay text facts more before most w.0 t s (s w.0 w.2) w.3)
    ]

-- over as many names as there are facts
pub leads_onward : (text : List ℕ) (facts more : List Fact) (before later : ℕ) (x : Ident) (t : Ty) → before ≤ later → UnmeantBefore before more →
    Unmeant more x → Leads text facts before (length facts) x t → Leads text (facts ++ more) later (length (facts ++ more)) x t
leads_onward text facts more before later x t i s u l =
    leads_later text (facts ++ more) before later (length (facts ++ more)) x t i
    (leads_longer text (facts ++ more) before (length facts) (length (facts ++ more)) x t (omega (arith, length-append facts more))
    (leads_stay text facts more before (length facts) x t s u l))

-- ---- calls

-- facts that declare nothing new for calls of a function
pub record Uncalled (more : List Fact) (f : Ident) : Type 0 where
  pub result : (o : Ty) → function_type f more o ≡ o
  pub param : (index : ℕ) (o : Ty) → declared_param f index more o ≡ o

pub uncalled : (more : List Fact) (f : Ident) → Misses f.span.from more → Uncalled more f
uncalled more f m = record { result = λ o. function_missed f more o m; param = λ index o. param_missed f index more o m }

params_stay : (text : List ℕ) (facts more : List Fact) (f : Ident) (index : ℕ) (ts : List typing.Ty) → Uncalled more f →
    ParamsAgree text facts f index ts → ParamsAgree text (facts ++ more) f index ts
params_stay text facts more f index [] u a = tt
params_stay text facts more f index (t ∷ ts) u a =
    (param_behind f index facts more _ ∙ u.param index _ ∙ a.0, params_stay text facts more f (suc index) ts u a.1)

pub calls_stay : (text : List ℕ) (facts more : List Fact) (f : Ident) (s : Signature) → Uncalled more f → CallsAgree text facts f s →
    CallsAgree text (facts ++ more) f s
calls_stay text facts more f s u a = record {
  result = function_behind f facts more _ ∙ u.result _ ∙ a.result;
  params = params_stay text facts more f 0 s.params u a.params;
}

-- ---- fields and elements

pub kind_stays : (text : List ℕ) (facts more : List Fact) (before later : ℕ) (found again : Option Ident) (t : typing.Ty) → before ≤ later →
    UnmeantBefore before more → ((k : Ident) → found ≡ Some k → again ≡ Some k) → KindAgrees text facts before found t →
    KindAgrees text (facts ++ more) later again t
kind_stays text facts more before later None again t i s same a = absurd a
kind_stays text facts more before later (Some k) again t i s same a =
    subst (λ o. KindAgrees text (facts ++ more) later o t) (sym (same k refl))
    (omega (arith, a.0, i), leads_onward text facts more before later k (told_type t) i s (s k a.0) a.1)

pub fields_stay : (text : List ℕ) (facts more : List Fact) (before later owner : ℕ) (fields : List (ℕ × typing.Ty)) → before ≤ later →
    UnmeantBefore before more → FieldsAgree text facts before owner fields → FieldsAgree text (facts ++ more) later owner fields
fields_stay text facts more before later owner [] i s a = tt
fields_stay text facts more before later owner (field ∷ fields) i s a = (
  (λ f e. kind_stays text facts more before later (field_kind owner f facts) (field_kind owner f (facts ++ more)) field.1 i s
      (λ k h. field_found owner f facts more k h) (a.0 f e)),
  fields_stay text facts more before later owner fields i s a.1,
)

pub shapes_onward : (text : List ℕ) (before later : ℕ) (facts more : List Fact) (noted : Noted) → ShapesAgree text before facts noted → before ≤ later →
    SeenFrom before more → OwnersBefore later more → ShapesAgree text later (facts ++ more) noted
shapes_onward text before later facts more noted a i s o =
    let u = unmeant_from before more s in record {
      records = λ at fields e. fields_stay text facts more before later at fields i u (a.records at fields e);
      arrays = λ at t e. kind_stays text facts more before later (element_kind at facts) (element_kind at (facts ++ more)) t i u
          (λ k h. element_found at facts more k h) (a.arrays at t e);
      owners = owners_both later facts more (owners_later before later facts i a.owners) o;
    }

pub shapes_later : (text : List ℕ) (before later : ℕ) (facts : List Fact) (noted : Noted) → ShapesAgree text before facts noted → before ≤ later →
    ShapesAgree text later facts noted
shapes_later text before later facts noted a i =
    subst (λ l. ShapesAgree text later l noted) (append-nil facts) (shapes_onward text before later facts [] noted a i tt tt)

-- only the shapes count
pub shapes_of : (text : List ℕ) (before : ℕ) (facts : List Fact) (one other : Noted) → one.shapes ≡ other.shapes → ShapesAgree text before facts one →
    ShapesAgree text before facts other
shapes_of text before facts one other e a = record {
  records = λ at fields h. a.records at fields (ap (λ l. looked_up at l) e ∙ h);
  arrays = λ at t h. a.arrays at t (ap (λ l. looked_up at l) e ∙ h);
  owners = a.owners;
}

-- ---- all names of a region

module _ (names : List (List ℕ)) (text : List ℕ) where
  pub wider : (from to p q : ℕ) (x : Ident) → from ≤ p → q ≤ to → Stands names text p q x → Stands names text from to x
  wider from to p q x i j h = record { is_spelled = h.is_spelled; after = omega (arith, i, h.after); before = omega (arith, j, h.before) }

  pub names_onward : (from to p q : ℕ) (facts more : List Fact) (scope : Scope) → NamesAgree names text from to facts scope → from ≤ p → q ≤ to →
      SeenFrom from more → MissesAll p q more → NamesAgree names text p q (facts ++ more) scope
  names_onward from to p q facts more scope a i j s m = record {
    variables = λ x h at t loop e. variable_behind x facts more _ ∙ variable_missed x more _ (m x.span.from h.after h.before)
        ∙ a.variables x (wider from to p q x i j h) at t loop e;
    functions = λ f h at sig e. calls_stay text facts more f sig (uncalled more f (m f.span.from h.after h.before))
        (a.functions f (wider from to p q f i j h) at sig e);
    standards = λ f h g e. calls_stay text facts more f _ (uncalled more f (m f.span.from h.after h.before))
        (a.standards f (wider from to p q f i j h) g e);
    types = λ x h t e. leads_onward text facts more from p x (told_type t) i (unmeant_from from more s)
        (λ o. meaning_missed x more o (m x.span.from h.after h.before)) (a.types x (wider from to p q x i j h) t e);
  }

  pub names_narrower : (from to p q : ℕ) (facts : List Fact) (scope : Scope) → NamesAgree names text from to facts scope → from ≤ p → q ≤ to →
      NamesAgree names text p q facts scope
  names_narrower from to p q facts scope a i j = record {
    variables = λ x h at t loop e. a.variables x (wider from to p q x i j h) at t loop e;
    functions = λ f h at sig e. a.functions f (wider from to p q f i j h) at sig e;
    standards = λ f h g e. a.standards f (wider from to p q f i j h) g e;
    types = λ x h t e. leads_later text facts from p (length facts) x (told_type t) i (a.types x (wider from to p q x i j h) t e);
  }

  pub onward : (from to p q : ℕ) (facts more : List Fact) (scope : Scope) (noted : Noted) → Agrees names text from to facts scope noted → from ≤ p →
      q ≤ to → SeenFrom from more → MissesAll p q more → OwnersBefore p more → Agrees names text p q (facts ++ more) scope noted
  onward from to p q facts more scope noted a i j s m o = record {
    named = names_onward from to p q facts more scope a.named i j s m;
    shaped = shapes_onward text from p facts more noted a.shaped i s o;
  }

  pub names_in_a_loop : (from to : ℕ) (facts : List Fact) (scope : Scope) → NamesAgree names text from to facts scope →
      NamesAgree names text from to facts (in_a_loop scope)
  names_in_a_loop from to facts scope a = record {
    variables = a.variables;
    functions = a.functions;
    standards = a.standards;
    types = a.types;
  }

  pub names_in_no_loop : (from to : ℕ) (facts : List Fact) (scope : Scope) → NamesAgree names text from to facts scope →
      NamesAgree names text from to facts (in_no_loop scope)
  names_in_no_loop from to facts scope a = record {
    variables = a.variables;
    functions = a.functions;
    standards = a.standards;
    types = a.types;
  }

-- ---- what the shapes tell

kind_told : (text : List ℕ) (facts : List Fact) (before : ℕ) (found : Option Ident) (t : typing.Ty) → KindAgrees text facts before found t →
    kind_type text facts found ≡ told_type t
kind_told text facts before None t a = absurd a
kind_told text facts before (Some k) t a = named_leads text facts before k (told_type t) a.1

pub field_told : (text : List ℕ) (facts : List Fact) (before owner : ℕ) (f : Ident) (t : typing.Ty) →
    KindAgrees text facts before (field_kind owner f facts) t → field_type text facts (type.Record owner) f ≡ told_type t
field_told text facts before owner f t a = kind_told text facts before (field_kind owner f facts) t a

pub element_told : (text : List ℕ) (facts : List Fact) (before owner : ℕ) (t : typing.Ty) →
    KindAgrees text facts before (element_kind owner facts) t → element_type text facts (type.Array owner) ≡ told_type t
element_told text facts before owner t a = kind_told text facts before (element_kind owner facts) t a

pub selected_told : (text : List ℕ) (facts : List Fact) (before owner : ℕ) (f : Ident) (k : ℕ) (fields : List (ℕ × typing.Ty)) (found : ℕ × typing.Ty) →
    FieldsAgree text facts before owner fields → placed (name_of f) k fields ≡ Some found →
    field_type text facts (type.Record owner) f ≡ told_type found.1
selected_told text facts before owner f k [] found a e = cc
selected_told text facts before owner f k (field ∷ fields) found a e =
    by (field.0 == name_of f) refl e (λ h. selected_told text facts before owner f (suc k) fields found a.1 h)
  where
    by : (c : Bool) → (field.0 == name_of f) ≡ c → (if c then Some (k, field.1) else placed (name_of f) (suc k) fields) ≡ Some found →
        (placed (name_of f) (suc k) fields ≡ Some found → field_type text facts (type.Record owner) f ≡ told_type found.1) →
        field_type text facts (type.Record owner) f ≡ told_type found.1
    by true is h r =
        let same : field.1 ≡ found.1 = ap (λ o. second o) h in
        field_told text facts before owner f field.1 (a.0 f (sym (eqb-true field.0 (name_of f) is))) ∙ ap told_type same
      where
        second : Option (ℕ × typing.Ty) → typing.Ty
        second (Some p) = p.1
        second None = field.1
    by false is h r = r h
