-- What lookups among facts give stays so further on in the text, and each form of declaration keeps that they agree with typing.
use Rattle.std.proofs.Common.{◌≡◌, ℕ, ◌<◌, ◌≤◌, List, [], ◌∷◌, ◌++◌, Option, Some, None, Bool, refl, sym, ap, ◌∙◌, subst, arith}
use Rattle.tg_base.specs.declared.ids.Span.{Span}
use Rattle.tg_syntax.specs.declared.tokens.Spanned.{Spanned}
use Rattle.tg_syntax.specs.declared.tokens.Ident.{Ident}
use Rattle.tg_syntax.specs.declared.trees.Param.{Param}
use Rattle.tg_syntax.specs.Lexing.{Lexes}
use Rattle.tg_syntax.specs.Grammar.{IsProgram}
use Rattle.tg_syntax.specs.Tree.{TypeDec, Exp, FunDecs, no_functions, function}
use Rattle.tg_syntax.specs.Throughout.{ThroughParams, ThroughTypes, Throughout, ThroughFunctions}
use Rattle.tg_syntax.specs.NamesWithin.{AnyByte}
use Rattle.tg_symbols.specs.Tables.{looked_up}
use Rattle.tg_semantics.specs.Environments.{name_of}
use Rattle.tg_typecheck.specs.declared.faults.TypeRule.TheVariants.{T17}
use Rattle.tg_typecheck.specs.Types.{Ty, record_shape, array_shape}
use Rattle.tg_typecheck.specs.Checks.{Noted, fine}
use Rattle.tg_typecheck.specs.Scopes.{Signature, Binding, variable_at, function_at, standard_one, Scope, bound, binding, in_a_loop, in_no_loop, outermost_scope}
use Rattle.tg_typecheck.specs.Groups.{no_repeats, declare_types, function_names, headers, with_functions, with_params}
use Rattle.tg_typecheck.specs.Typing.{function_of, placed}
use Rattle.tg_explain_typing.specs.declared.types.Ty.TheVariants as type
use Rattle.tg_explain_typing.specs.declared.facts.Fact.{Fact}
use Rattle.tg_explain_typing.specs.declared.facts.Fact.TheVariants as fact
use Rattle.tg_explain_typing.specs.Facts.{between, types_start, types_facts, functions_start, headers_facts, opened_facts}
use Rattle.tg_explain_typing.specs.Lookups.{variable_type, named_type, field_kind, field_type, element_kind, element_type}
use Rattle.tg_explain_types.specs.laws.Types.{told_type}
use Rattle.tg_explain_laws.proofs.Agreeing.{Misses, SeenFrom, OwnersBefore, Spelled, Stands, FieldsAgree, NamesAgree, ShapesAgree, Agrees, CallsAgree}
use Rattle.tg_explain_laws.specs.Nested.{ParamsNest, TypesNest, FunctionsNest}
use Rattle.tg_explain_laws.specs.laws.Seen.{AddsWithin}
use Rattle.tg_typecheck.proofs.Inversion.{steps, given, refused}
use Rattle.tg_typecheck.proofs.GroupInversion.{no_repeats_keep}
use Rattle.tg_explain_laws.proofs.Orders.{params_order}
use Rattle.tg_explain_laws.proofs.Behind.{variable_behind, variable_missed, meaning_missed, field_found, element_found, seen_from, misses_earlier}
use Rattle.tg_explain_laws.proofs.Behind.{misses_later}
use Rattle.tg_explain_laws.proofs.Onward.{named_leads, leads_onward, unmeant_from, uncalled, calls_stay, kind_stays, fields_stay, shapes_onward, shapes_later}
use Rattle.tg_explain_laws.proofs.Onward.{shapes_of, names_onward, names_narrower, onward, names_in_a_loop, names_in_no_loop, field_told as field_is}
use Rattle.tg_explain_laws.proofs.Onward.{element_told as element_is, selected_told}
use Rattle.tg_explain_laws.proofs.Bound.{with_variable, with_opened, shapes_opened}
pub use Rattle.tg_explain_laws.proofs.Called.{ParamsHeaded}
use Rattle.tg_explain_laws.proofs.Called.{KindIs, HeadersAre, headed, params_lead, with_group_of_functions, shapes_group}
use Rattle.tg_explain_laws.proofs.Shaped.{group_agrees}
use Rattle.tg_explain_laws.proofs.Outermost.{outermost_agrees as outermost}
use Rattle.tg_explain_laws.proofs.Spelling.{spelled_throughout}

-- the types of names in headers
abbrev pub KindHeaded : List (ℕ × Ty) → Option Ident → Ty → Type 0
KindHeaded types None t = Unit {0}
KindHeaded types (Some x) t = looked_up (name_of x) types ≡ Some t

abbrev pub Headed : List (ℕ × Ty) → FunDecs → List Signature → Type 0
Headed types no_functions [] = Unit {0}
Headed types (function f ps r body rest) (s ∷ ss) = ParamsHeaded types ps s.params × KindHeaded types r s.result × Headed types rest ss
Headed types _ _ = ⊥

-- the fields of a record among these facts and all later ones
abbrev pub FieldsTold : (text : List ℕ) → (e z : ℕ) → List Fact → (owner : ℕ) → List (ℕ × Ty) → Type 0
FieldsTold text e z F owner [] = Unit {0}
FieldsTold text e z F owner (field ∷ fields) =
    ((f : Ident) → name_of f ≡ field.0 → (H : List Fact) → AddsWithin (between e z) F H → field_type text H (type.Record owner) f ≡ told_type field.1)
    × FieldsTold text e z F owner fields

-- a fact that declares nothing
abbrev pub IsPlain : Fact → Type 0
IsPlain (fact.Judged _ _) = Unit {0}
IsPlain (fact.Given _ _) = Unit {0}
IsPlain (fact.Loop _ _) = Unit {0}
IsPlain (fact.Body _ _) = Unit {0}
IsPlain _ = ⊥

abbrev pub first_from : (p : ℕ) → FunDecs → ℕ
first_from p no_functions = p
first_from p (function f ps r body rest) = f.span.from

first_after : (p next : ℕ) (fs : FunDecs) → FunctionsNest p next fs → (p ≤ first_from p fs) × (functions_start fs ≤ first_from p fs)
first_after p next no_functions h = (omega arith, omega arith)
first_after p next (function f ps r body rest) h = (omega (arith, h.0), omega arith)

kind_headed : (types : List (ℕ × Ty)) (r : Option Ident) (t : Ty) → KindIs types r t → KindHeaded types r t
kind_headed types None t h = tt
kind_headed types (Some x) t h = h

kinds_headed : (types : List (ℕ × Ty)) (fs : FunDecs) (ss : List Signature) → HeadersAre types fs ss → Headed types fs ss
kinds_headed types no_functions [] h = tt
kinds_headed types no_functions (s ∷ ss) h = absurd h
kinds_headed types (function f ps r body rest) [] h = absurd h
kinds_headed types (function f ps r body rest) (s ∷ ss) h = (h.0, kind_headed types r s.result h.1, kinds_headed types rest ss h.2)

-- what a call that typing accepts is of
called : (names : List (List ℕ)) (text : List ℕ) (p q : ℕ) (F : List Fact) (scope : Scope) → NamesAgree names text p q F scope → (f : Ident) →
    Stands names text p q f → (sig : Signature) (g h : Noted) (o : Option Binding) → bound f scope ≡ o → function_of f o g ≡ fine sig h →
    CallsAgree text F f sig
called names text p q F scope a f s sig g h None is e = absurd (refused _ _ _ _ _ e)
called names text p q F scope a f s sig g h (Some (variable_at at t loop)) is e = absurd (refused _ _ _ _ _ e)
called names text p q F scope a f s sig g h (Some (function_at at one)) is e =
    let k = given _ _ _ _ (steps e).onward in
    subst (λ y. CallsAgree text F f y) k.0 (a.functions f s at one is)
called names text p q F scope a f s sig g h (Some (standard_one one)) is e =
    let k = given _ _ _ _ (steps e).onward in
    subst (λ y. CallsAgree text F f y) k.0 (a.standards f s one is)

all_told : (text : List ℕ) (p e z : ℕ) (F : List Fact) → p ≤ e → (owner : ℕ) (fields : List (ℕ × Ty)) → FieldsAgree text F p owner fields →
    FieldsTold text e z F owner fields
all_told text p e z F i owner [] a = tt
all_told text p e z F i owner (field ∷ fields) a = (
  (λ f k H w.
      ap (λ l. field_type text l (type.Record owner) f) w.is
      ∙ field_is text (F ++ w.more) p owner f field.1
      (kind_stays text F w.more p p (field_kind owner f F) (field_kind owner f (F ++ w.more)) field.1 (omega arith)
      (unmeant_from p w.more (seen_from (between e z) w.more p w.seen i)) (λ y o. field_found owner f F w.more y o) (a.0 f k))),
  all_told text p e z F i owner fields a.1,
)

module _ (names : List (List ℕ)) (text : List ℕ) where
  -- ---- further on

  -- names of a part that stands behind what was added
  pub names_behind : (p q e : ℕ) (scope : Scope) (F G : List Fact) → NamesAgree names text p q F scope → p ≤ e → AddsWithin (between p e) F G →
      NamesAgree names text e q G scope
  names_behind p q e scope F G a i w =
      subst (λ l. NamesAgree names text e q l scope) (sym w.is)
      (names_onward names text p q e q F w.more scope a i (omega arith) (seen_from (between p e) w.more p w.seen (omega arith))
      (λ at k l. misses_later (between p e) w.more at w.seen k))

  -- a smaller region
  pub narrower : (p q p' q' : ℕ) (scope : Scope) (n : Noted) (F : List Fact) → Agrees names text p q F scope n → p ≤ p' → q' ≤ q →
      Agrees names text p' q' F scope n
  narrower p q p' q' scope n F a i j = record {
    named = names_narrower names text p q p' q' F scope a.named i j;
    shaped = shapes_later text p p' F n a.shaped i;
  }

  plain : (p q : ℕ) (scope : Scope) (n : Noted) (F : List Fact) (f : Fact) → Agrees names text p q F scope n → SeenFrom p (f ∷ []) →
      ((at : ℕ) → Misses at (f ∷ [])) → OwnersBefore p (f ∷ []) → Agrees names text p q (F ++ f ∷ []) scope n
  plain p q scope n F f a s m o = onward names text p q p q F (f ∷ []) scope n a (omega arith) (omega arith) s (λ at k l. m at) o

  -- more that declares nothing: what is judged, given, a loop or a body
  pub more_plain : (p q : ℕ) (scope : Scope) (n : Noted) (F : List Fact) (f : Fact) → IsPlain f → Agrees names text p q F scope n →
      Agrees names text p q (F ++ f ∷ []) scope n
  more_plain p q scope n F (fact.Judged d t) h a = plain p q scope n F (fact.Judged d t) a tt (λ at. tt) tt
  more_plain p q scope n F (fact.Given at x) h a = plain p q scope n F (fact.Given at x) a tt (λ at. tt) tt
  more_plain p q scope n F (fact.Loop at s) h a = plain p q scope n F (fact.Loop at s) a tt (λ at. tt) tt
  more_plain p q scope n F (fact.Body x s) h a = plain p q scope n F (fact.Body x s) a tt (λ at. tt) tt
  more_plain p q scope n F _ h a = absurd h

  pub reshaped : (p q : ℕ) (scope : Scope) (n m : Noted) (F : List Fact) → n.shapes ≡ m.shapes → Agrees names text p q F scope n →
      Agrees names text p q F scope m
  reshaped p q scope n m F e a = record { named = a.named; shaped = shapes_of text p F n m e a.shaped }

  pub looping : (p q : ℕ) (scope : Scope) (n : Noted) (F : List Fact) → Agrees names text p q F scope n → Agrees names text p q F (in_a_loop scope) n
  looping p q scope n F a = record { named = names_in_a_loop names text p q F scope a.named; shaped = a.shaped }

  pub not_looping : (p q : ℕ) (scope : Scope) (n : Noted) (F : List Fact) → Agrees names text p q F scope n → Agrees names text p q F (in_no_loop scope) n
  not_looping p q scope n F a = record { named = names_in_no_loop names text p q F scope a.named; shaped = a.shaped }

  -- ---- what names mean, among these facts and all that are seen from a byte behind them on

  module _ (p q e z : ℕ) (scope : Scope) (F H : List Fact) (a : NamesAgree names text p q F scope) (i : p ≤ e) (w : AddsWithin (between e z) F H) where
    missed : (x : Ident) → x.span.from < e → Misses x.span.from w.more
    missed x j = misses_earlier (between e z) w.more x.span.from w.seen j

    pub variable_told : (x : Ident) → Stands names text p q x → x.span.from < e → (at : ℕ) (t : Ty) (loop : Bool) →
        bound x scope ≡ Some (variable_at at t loop) → variable_type x H type.Nothing ≡ told_type t
    variable_told x s j at t loop h =
        ap (λ l. variable_type x l type.Nothing) w.is
        ∙ (variable_behind x F w.more type.Nothing ∙ (variable_missed x w.more _ (missed x j) ∙ a.variables x s at t loop h))

    pub call_told : (f : Ident) → Stands names text p q f → f.span.from < e → (s : Signature) (g h : Noted) → function_of f (bound f scope) g ≡ fine s h →
        CallsAgree text H f s
    call_told f s j sig g h k =
        subst (λ l. CallsAgree text l f sig) (sym w.is)
        (calls_stay text F w.more f sig (uncalled w.more f (missed f j)) (called names text p q F scope a f s sig g h (bound f scope) refl k))

    pub type_told : (x : Ident) → Stands names text p q x → x.span.from < e → (t : Ty) → looked_up (name_of x) scope.types ≡ Some t →
        named_type text H x ≡ told_type t
    type_told x s j t h =
        ap (λ l. named_type text l x) w.is
        ∙ named_leads text (F ++ w.more) p x (told_type t)
        (leads_onward text F w.more p p x (told_type t) (omega arith) (unmeant_from p w.more (seen_from (between e z) w.more p w.seen i))
        (λ o. meaning_missed x w.more o (missed x j)) (a.types x s t h))

  pub fields_told : (p e z : ℕ) (n : Noted) (F : List Fact) → ShapesAgree text p F n → p ≤ e → (owner : ℕ) (fields : List (ℕ × Ty)) →
      looked_up owner n.shapes ≡ Some (record_shape fields) → FieldsTold text e z F owner fields
  fields_told p e z n F a i owner fields h = all_told text p e z F i owner fields (a.records owner fields h)

  pub field_told : (p e z : ℕ) (n : Noted) (F H : List Fact) → ShapesAgree text p F n → p ≤ e → AddsWithin (between e z) F H → (owner : ℕ)
      (fields : List (ℕ × Ty)) → looked_up owner n.shapes ≡ Some (record_shape fields) → (f : Ident) (k : ℕ) (t : Ty) →
      placed (name_of f) 0 fields ≡ Some (k, t) → field_type text H (type.Record owner) f ≡ told_type t
  field_told p e z n F H a i w owner fields h f k t j =
      ap (λ l. field_type text l (type.Record owner) f) w.is
      ∙ selected_told text (F ++ w.more) p owner f 0 fields (k, t)
      (fields_stay text F w.more p p owner fields (omega arith) (unmeant_from p w.more (seen_from (between e z) w.more p w.seen i))
      (a.records owner fields h)) j

  pub element_told : (p e z : ℕ) (n : Noted) (F H : List Fact) → ShapesAgree text p F n → p ≤ e → AddsWithin (between e z) F H → (owner : ℕ) (t : Ty) →
      looked_up owner n.shapes ≡ Some (array_shape t) → element_type text H (type.Array owner) ≡ told_type t
  element_told p e z n F H a i w owner t h =
      ap (λ l. element_type text l (type.Array owner)) w.is
      ∙ element_is text (F ++ w.more) p owner t
      (kind_stays text F w.more p p (element_kind owner F) (element_kind owner (F ++ w.more)) t (omega arith)
      (unmeant_from p w.more (seen_from (between e z) w.more p w.seen i)) (λ k o. element_found owner F w.more k o) (a.arrays owner t h))

  -- ---- declarations

  pub variable_agrees : (p q from end : ℕ) (scope : Scope) (n : Noted) (F : List Fact) → Agrees names text p q F scope n → p ≤ from → end ≤ q →
      (x : Ident) (at : ℕ) (t : Ty) (loop : Bool) →
      Agrees names text from end (F ++ fact.Variable x (told_type t) (between from end) ∷ []) (binding x (variable_at at t loop) scope) n
  variable_agrees p q from end scope n F a i j x at t loop = record {
    named = with_variable names text p q (between from end) F scope x at t loop a.named i j;
    shaped = shapes_onward text p from F (fact.Variable x (told_type t) (between from end) ∷ []) n a.shaped i (i, tt) tt;
  }

  pub types_agree : (p next end q : ℕ) (ds : List TypeDec) (scope inner : Scope) (n m : Noted) (F : List Fact) → Agrees names text p q F scope n →
      TypesNest p next ds → next ≤ end → end ≤ q → ThroughTypes (Spelled names text) AnyByte ds → declare_types ds scope n ≡ fine inner m →
      Agrees names text next end (types_facts ds (between (types_start ds) end) F) inner m
  types_agree p next end q ds scope inner n m F a h i j s e = group_agrees names text p next end q ds scope inner n m F a h i j s e

  pub headers_agree : (p next end q : ℕ) (fs : FunDecs) (ss : List Signature) (scope : Scope) (n m k : Noted) (F : List Fact) →
      Agrees names text p q F scope n → FunctionsNest p next fs → next ≤ end → end ≤ q → ThroughFunctions (Spelled names text) AnyByte fs →
      no_repeats T17 [] (function_names fs) n ≡ fine tt m → headers fs scope m ≡ fine ss k →
      Headed scope.types fs ss
      × Agrees names text (first_from p fs) end (headers_facts text fs (between (functions_start fs) end) F) (with_functions fs ss scope) k
  headers_agree p next end q fs ss scope n m k F a h i j s e e' =
      let r = headed scope fs ss m k e' in
      let same : n ≡ k = no_repeats_keep T17 [] (function_names fs) tt n m e ∙ r.1 in
      let o = first_after p next fs h in (
        kinds_headed scope.types fs ss r.0,
        record {
          named = with_group_of_functions names text p q (first_from p fs) end next end fs ss F scope a.named h (omega (arith, i, j)) s r.0 o.0 o.1 j
              (omega arith);
          shaped = shapes_of text (first_from p fs) _ n k (ap (λ y. y.shapes) same)
              (shapes_later text p (first_from p fs) _ n (shapes_group text p next end n fs F a.shaped h) o.0);
        },
      )

  pub params_agree : (p q next : ℕ) (f : Ident) (ps : List Param) (ts : List Ty) (body : Span) (scope : Scope) (n : Noted) (F : List Fact) →
      Agrees names text p q F scope n → ParamsNest p next ps → next ≤ body.from → body.from ≤ body.to → body.to ≤ q →
      ThroughParams (Spelled names text) AnyByte ps →
      ParamsHeaded scope.types ps ts →
      Agrees names text body.from body.to (opened_facts text f ps body F) (with_params ps ts scope) n
  params_agree p q next f ps ts body scope n F a h i b j s hd =
      let o = params_order ps p next h in
      let low : p ≤ body.from = omega (arith, o, i) in record {
        named = with_opened names text p q p body f ps ts F scope a.named low j
            (params_lead names text p q p next F scope ps ts a.named (omega arith) (omega (arith, i, b, j)) h s hd);
        shaped = shapes_later text p body.from _ n (shapes_opened text p n f ps body F a.shaped low) low;
      }

-- ---- programs

-- each identifier of a program's tree is spelled as its name
pub program_spelled : (names : List (List ℕ)) (text : List ℕ) (tokens : List Spanned) (program : Exp) → Lexes names 0 text tokens →
    IsProgram tokens program → Throughout (Spelled names text) AnyByte program
program_spelled names text tokens program l g = spelled_throughout names text tokens program l g

pub outermost_agrees : (names : List (List ℕ)) (text : List ℕ) (tokens : List Spanned) (q : ℕ) → Lexes names 0 text tokens →
    Agrees names text 0 q [] (outermost_scope names) (record { shapes = []; notes = [] })
outermost_agrees names text tokens q l = outermost names text q
