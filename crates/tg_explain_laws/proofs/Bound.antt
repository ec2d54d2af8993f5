-- A variable that is declared, and the parameters of a body, mean the same to typing and among the facts.
use Rattle.std.proofs.Common.{◌≡◌, ℕ, ◌≤◌, List, [], ◌∷◌, ◌++◌, length, Option, Some, None, Bool, true, false, refl, sym, ap, ◌∙◌, arith, subst, inl, inr}
use Rattle.std.specs.Prelude.{◌==◌, ◌⊎◌, if◌then◌else◌}
use Rattle.tg_base.specs.declared.ids.Span.{Span}
use Rattle.tg_syntax.specs.declared.tokens.Ident.{Ident}
use Rattle.tg_syntax.specs.declared.trees.Param.{Param}
use Rattle.tg_semantics.specs.declared.standards.Standard.{Standard}
use Rattle.tg_semantics.specs.Environments.{name_of}
use Rattle.tg_typecheck.specs.Types as typing
use Rattle.tg_typecheck.specs.Checks.{Noted}
use Rattle.tg_typecheck.specs.Scopes.{Signature, Binding, variable_at, function_at, standard_one, Scope, at_of, bound, binding}
use Rattle.tg_typecheck.specs.Groups.{with_params}
use Rattle.tg_explain_typing.specs.declared.types.Ty.TheVariants as type
use Rattle.tg_explain_typing.specs.declared.facts.Fact.{Fact}
use Rattle.tg_explain_typing.specs.declared.facts.Fact.TheVariants as fact
use Rattle.tg_explain_typing.specs.Lookups.{covers, variable_type, named_type}
use Rattle.tg_explain_typing.specs.Facts.{variables_facts, opened_facts}
use Rattle.tg_explain_types.specs.laws.Types.{told_type}
use Rattle.tg_explain_laws.proofs.Agreeing.{Leads, NamesAgree, ShapesAgree}
use Rattle.tg_explain_laws.proofs.Behind.{seen_here, covered, variable_behind}
use Rattle.tg_explain_laws.proofs.Onward.{leads_onward, named_leads, Unmeant, calls_stay, wider, names_onward, names_narrower, shapes_onward}

-- a binding that is found first, or the one that was there
pub bound_by : (c : Bool) (b found : Binding) (o : Option Binding) → (if c then Some b else o) ≡ Some found →
    ((c ≡ true) × (b ≡ found)) ⊎ ((c ≡ false) × (o ≡ Some found))
bound_by true b found o e = inl (refl, ap (λ p. unwrap p) e)
  where
    unwrap : Option Binding → Binding
    unwrap (Some a) = a
    unwrap None = b
bound_by false b found o e = inr (refl, e)

abbrev variable_of : (default : typing.Ty) → Binding → typing.Ty
variable_of default (variable_at at t loop) = t
variable_of default (function_at at s) = default
variable_of default (standard_one g) = default

module _ (names : List (List ℕ)) (text : List ℕ) where
  -- a variable that is seen in a span, for the names in it
  pub with_variable : (from to : ℕ) (seen : Span) (facts : List Fact) (scope : Scope) (x : Ident) (at : ℕ) (t : typing.Ty) (loop : Bool) →
      NamesAgree names text from to facts scope → from ≤ seen.from → seen.to ≤ to →
      NamesAgree names text seen.from seen.to (facts ++ fact.Variable x (told_type t) seen ∷ []) (binding x (variable_at at t loop) scope)
  with_variable from to seen facts scope x at t loop a i j = record {
    variables = λ y h other u again e.
        let here = seen_here (x.name.0 == y.name.0) (covers seen y.span.from) (told_type t) (variable_type y facts type.Nothing)
        (covered seen y.span.from h.after h.before) in
        variable_behind y facts (fact.Variable x (told_type t) seen ∷ []) type.Nothing ∙ here
        ∙ elim (bound_by (name_of x == name_of y) (variable_at at t loop) (variable_at other u again) (bound y scope) e) [
          | inl w ↦ ap (λ c. if c then told_type t else variable_type y facts type.Nothing) w.0 ∙ ap (λ b. told_type (variable_of t b)) w.1
          | inr w ↦ ap (λ c. if c then told_type t else variable_type y facts type.Nothing) w.0
              ∙ a.variables y (wider names text from to seen.from seen.to y i j h) other u again w.1
        ];
    functions = λ f h other s e.
        elim (bound_by (name_of x == name_of f) (variable_at at t loop) (function_at other s) (bound f scope) e) [
          | inl w ↦ absurd (cc_variable_function w.1)
          | inr w ↦ calls_stay text facts (fact.Variable x (told_type t) seen ∷ []) f s (record { result = λ o. refl; param = λ k o. refl })
              (a.functions f (wider names text from to seen.from seen.to f i j h) other s w.1)
        ];
    standards = λ f h g e.
        elim (bound_by (name_of x == name_of f) (variable_at at t loop) (standard_one g) (bound f scope) e) [
          | inl w ↦ absurd (cc_variable_standard w.1)
          | inr w ↦ calls_stay text facts (fact.Variable x (told_type t) seen ∷ []) f _ (record { result = λ o. refl; param = λ k o. refl })
              (a.standards f (wider names text from to seen.from seen.to f i j h) g w.1)
        ];
    types = λ y h u e. leads_onward text facts (fact.Variable x (told_type t) seen ∷ []) from seen.from y (told_type u) i (λ z l o. refl) (λ o. refl)
        (a.types y (wider names text from to seen.from seen.to y i j h) u e);
  }
    where
      cc_variable_function : {other : ℕ} {s : Signature} → variable_at at t loop ≡ function_at other s → ⊥
      cc_variable_function e = cc

      cc_variable_standard : {g : Standard} → variable_at at t loop ≡ standard_one g → ⊥
      cc_variable_standard e = cc

  -- the types of parameters, as their names tell them
  abbrev pub ParamsLead : List Fact → (before : ℕ) → List Param → List typing.Ty → Type 0
  ParamsLead facts before [] [] = Unit {0}
  ParamsLead facts before (p ∷ ps) (t ∷ ts) = Leads text facts before (length facts) p.kind (told_type t) × ParamsLead facts before ps ts
  ParamsLead facts before _ _ = ⊥

  -- with facts behind that name no types
  pub params_lead_onward : (facts more : List Fact) (before : ℕ) (ps : List Param) (ts : List typing.Ty) →
      ((y : Ident) → Unmeant more y) → ParamsLead facts before ps ts → ParamsLead (facts ++ more) before ps ts
  params_lead_onward facts more before [] [] u a = tt
  params_lead_onward facts more before [] (t ∷ ts) u a = absurd a
  params_lead_onward facts more before (p ∷ ps) [] u a = absurd a
  params_lead_onward facts more before (p ∷ ps) (t ∷ ts) u a = (
    leads_onward text facts more before before p.kind (told_type t) (omega arith) (λ y l. u y) (u p.kind) a.0,
    params_lead_onward facts more before ps ts u a.1,
  )

  pub with_variables : (from to before : ℕ) (seen : Span) (ps : List Param) (ts : List typing.Ty) (facts : List Fact) (scope : Scope) →
      NamesAgree names text from to facts scope → from ≤ seen.from → seen.to ≤ to → ParamsLead facts before ps ts →
      NamesAgree names text seen.from seen.to (variables_facts text ps seen facts) (with_params ps ts scope)
  with_variables from to before seen [] [] facts scope a i j l = names_narrower names text from to seen.from seen.to facts scope a i j
  with_variables from to before seen [] (t ∷ ts) facts scope a i j l = absurd l
  with_variables from to before seen (p ∷ ps) [] facts scope a i j l = absurd l
  with_variables from to before seen (p ∷ ps) (t ∷ ts) facts scope a i j l =
      let told : named_type text facts p.kind ≡ told_type t = named_leads text facts before p.kind (told_type t) l.0 in
      subst (λ u. NamesAgree names text seen.from seen.to (variables_facts text ps seen (facts ++ fact.Variable p.name u seen ∷ []))
      (with_params ps ts (binding p.name (variable_at (at_of p.name) t false) scope))) (sym told)
      (with_variables seen.from seen.to before seen ps ts (facts ++ fact.Variable p.name (told_type t) seen ∷ [])
      (binding p.name (variable_at (at_of p.name) t false) scope)
      (with_variable from to seen facts scope p.name (at_of p.name) t false a i j) (omega arith) (omega arith)
      (params_lead_onward facts (fact.Variable p.name (told_type t) seen ∷ []) before ps ts (λ y o. refl) l.1))

  -- the body of a function
  pub with_opened : (from to before : ℕ) (seen : Span) (f : Ident) (ps : List Param) (ts : List typing.Ty) (facts : List Fact) (scope : Scope) →
      NamesAgree names text from to facts scope → from ≤ seen.from → seen.to ≤ to → ParamsLead facts before ps ts →
      NamesAgree names text seen.from seen.to (opened_facts text f ps seen facts) (with_params ps ts scope)
  unfolding opened_facts
  with_opened from to before seen f ps ts facts scope a i j l =
      with_variables seen.from seen.to before seen ps ts (facts ++ fact.Body f seen ∷ []) scope
      (names_onward names text from to seen.from seen.to facts (fact.Body f seen ∷ []) scope a i j tt (λ at k m. tt)) (omega arith) (omega arith)
      (params_lead_onward facts (fact.Body f seen ∷ []) before ps ts (λ y o. refl) l)

-- ---- shapes stay

pub shapes_variables : (text : List ℕ) (before : ℕ) (noted : Noted) (ps : List Param) (seen : Span) (facts : List Fact) →
    ShapesAgree text before facts noted → before ≤ seen.from → ShapesAgree text before (variables_facts text ps seen facts) noted
shapes_variables text before noted [] seen facts a i = a
shapes_variables text before noted (p ∷ ps) seen facts a i =
    let one : Fact = fact.Variable p.name (named_type text facts p.kind) seen in
    shapes_variables text before noted ps seen (facts ++ one ∷ []) (shapes_onward text before before facts (one ∷ []) noted a (omega arith) (i, tt) tt) i

pub shapes_opened : (text : List ℕ) (before : ℕ) (noted : Noted) (f : Ident) (ps : List Param) (seen : Span) (facts : List Fact) →
    ShapesAgree text before facts noted → before ≤ seen.from → ShapesAgree text before (opened_facts text f ps seen facts) noted
unfolding opened_facts
shapes_opened text before noted f ps seen facts a i =
    shapes_variables text before noted ps seen (facts ++ fact.Body f seen ∷ [])
    (shapes_onward text before before facts (fact.Body f seen ∷ []) noted a (omega arith) tt tt) i
