-- What stands before and behind the parts of an expression, a declaration or a body, where typing finds no fault.
use Rattle.std.proofs.Common.{◌≡◌, ℕ, ◌<◌, ◌≤◌, List, [], ◌∷◌, Option, Some, None, Bool, true, false, refl, sym, ap, ◌∙◌, subst, arith}
use Rattle.std.specs.Prelude.{◌&&◌}
use Rattle.tg_syntax.specs.declared.tokens.Ident.{Ident}
use Rattle.tg_syntax.specs.declared.trees.Param.{Param}
use Rattle.tg_syntax.specs.Spans.{span_of}
use Rattle.tg_syntax.specs.Tree.{Exp}
use Rattle.tg_syntax.specs.Tree.{LValue, Simple, Field, Index, Exps, no_exps, exp, Inits, no_inits, init}
use Rattle.tg_syntax.specs.Tree.{FunDecs, no_functions, function}
use Rattle.tg_syntax.specs.Throughout.{ThroughKind, ThroughFunctions}
use Rattle.tg_syntax.specs.NamesWithin.{AnyByte}
use Rattle.tg_symbols.specs.Tables.{looked_up}
use Rattle.tg_typecheck.specs.Types.{Ty, record_type, array_type, alike}
use Rattle.tg_typecheck.specs.Checks.{Noted, fine, give}
use Rattle.tg_typecheck.specs.Scopes.{Signature, Binding, variable_at, function_at, Scope, at_of, bound, binding}
use Rattle.tg_typecheck.specs.Groups.{type_named, with_functions, with_params}
use Rattle.tg_typecheck.specs.Typing.{start_of, function_of, assignable, fields_of, element_of}
use Rattle.tg_typecheck.specs.Typing.{body_fits, own_type}
use Rattle.tg_typecheck.proofs.Inversion.{kept, given, presented, callee_got, fields_got, element_got}
use Rattle.tg_explain_typing.specs.declared.types.Ty.TheVariants as told
use Rattle.tg_explain_typing.specs.declared.facts.Demand.TheVariants.{Fits, Joins, Own, Fielded, Made, Indexed, Has}
use Rattle.tg_explain_typing.specs.declared.facts.Fact.{Fact}
use Rattle.tg_explain_typing.specs.Facts.{between, weighed, exp_facts}
use Rattle.tg_explain_typing.specs.Facts.{made, filled}
use Rattle.tg_explain_typing.specs.Facts.{chosen, selected as fields_selected, indexed, outcome, ended, declared, opened_facts}
use Rattle.tg_explain_typing.specs.Finding.{breaks}
use Rattle.tg_explain_typing.specs.Synthesis.{exp_type, place_type, last_type}
use Rattle.tg_explain_typing.specs.Lookups.{named_type, element_type}
use Rattle.tg_explain_types.specs.laws.Types.{told_type}
use Rattle.tg_explain_laws.proofs.Agreeing.{Spelled, Stands, Agrees, CallsAgree}
use Rattle.tg_explain_laws.specs.Nested.{Within, KindNests, InitsNest, FunctionsNest}
use Rattle.tg_explain_laws.specs.laws.Seen.{AddsWithin}
use Rattle.tg_explain_laws.proofs.Orders.{params_order, kind_order, functions_order}
use Rattle.tg_explain_laws.proofs.Seen as S
use Rattle.tg_explain_laws.proofs.Unbroken as U
use Rattle.tg_explain_laws.proofs.Needed.{ParamsHeaded, KindHeaded, FieldsTold, first_from, narrower, call_told}
use Rattle.tg_explain_laws.proofs.Needed.{type_told}
use Rattle.tg_explain_laws.proofs.Needed.{fields_told, element_told, params_agree}
use Rattle.tg_explain_laws.proofs.Walking as W
use Rattle.tg_explain_laws.proofs.Walking.{Setting, Went, Knows, last_or, last_step, sooner}

-- the notes of a name leave the shapes
pub function_shapes : (f : Ident) (o : Option Binding) (s : Signature) (n m : Noted) → function_of f o n ≡ fine s m → n.shapes ≡ m.shapes
function_shapes f o s n m e = ap (λ (y : Noted). y.shapes) (callee_got f o s n m e).3

pub assignable_same : (v : LValue) (scope : Scope) (x : Unit {0}) (n m : Noted) → assignable v scope n ≡ fine x m → n ≡ m
assignable_same (Simple y) scope x n m e = (kept _ _ _ _ _ _ e).1
assignable_same (Field v f) scope x n m e = (given _ _ _ _ e).1
assignable_same (Index v i) scope x n m e = (given _ _ _ _ e).1

pub both_true : (a c : Bool) → (a && c) ≡ true → (a ≡ true) × (c ≡ true)
both_true true c h = (refl, h)
both_true false c h = cc

pub first_nests : (fs : FunDecs) (p next : ℕ) → FunctionsNest p next fs → FunctionsNest (first_from p fs) next fs
first_nests no_functions p next h = h
first_nests (function f ps r body rest) p next h = ((omega arith, omega arith, omega arith), h.1, h.2, h.3, h.4, h.5, h.6)

pub first_behind : (fs : FunDecs) (p next : ℕ) → FunctionsNest p next fs → p ≤ first_from p fs
first_behind no_functions p next h = omega arith
first_behind (function f ps r body rest) p next h = omega arith

pub inits_order : (is : Inits) (p next : ℕ) → InitsNest p next is → p ≤ next
inits_order no_inits p next h = h
inits_order (init f e rest) p next h = let k = inits_order rest (span_of e).to next h.3 in omega arith

pub with_functions_types : (fs : FunDecs) (ss : List Signature) (scope : Scope) → (with_functions fs ss scope).types ≡ scope.types
with_functions_types no_functions ss scope = refl
with_functions_types (function f ps r body rest) [] scope = refl
with_functions_types (function f ps r body rest) (s ∷ ss) scope = with_functions_types rest ss (binding f (function_at (at_of f) s) scope)

pub block_told : (es : Exps) (text : List ℕ) (H : List Fact) (t : Ty) → last_or told.Nothing text H es ≡ told_type t → last_type text H es ≡ told_type t
block_told no_exps text H t h = h
block_told (exp e rest) text H t h = h

module _ (g : Setting) where
  -- a place whose type is told
  pub record KnowsPlace (v : LValue) (t : Ty) (p q : ℕ) (scope : Scope) (n : Noted) (F G : List Fact) : Type 0 where
    pub went : Went g p q scope n F G
    pub told : (H : List Fact) → AddsWithin (between p g.end) G H → place_type g.text H v ≡ told_type t

  pub record KnowsLast (outer : Ty) (es : Exps) (t : Ty) (p q : ℕ) (scope : Scope) (n : Noted) (F G : List Fact) : Type 0 where
    pub went : Went g p q scope n F G
    pub told : (H : List Fact) → AddsWithin (between p g.end) G H → last_or (told_type outer) g.text H es ≡ told_type t

  abbrev pub Spelt : Ident → Type 0
  Spelt x = Spelled g.names g.text x

  abbrev pub Agree : (p q : ℕ) → List Fact → Scope → Noted → Type 0
  Agree p q F scope n = Agrees g.names g.text p q F scope n

  abbrev pub stands : {p q : ℕ} (x : Ident) → Spelt x → p ≤ x.span.from → x.span.from < q → Stands g.names g.text p q x
  stands x s i j = record { is_spelled = s; after = i; before = j }

  -- a name's type, now and later on
  pub named : {p q : ℕ} (e : ℕ) {scope : Scope} {n m : Noted} {F : List Fact} (x : Ident) (t : Ty) → Agree p q F scope n → Spelt x → p ≤ x.span.from →
      x.span.from < e → e ≤ q → type_named x scope n ≡ fine t m → (H : List Fact) → AddsWithin (between e g.end) F H → named_type g.text H x ≡ told_type t
  named {p = p} {q = q} e {scope = scope} {F = F} x t a s i j k h H w =
      let up : p ≤ e = omega arith in
      let low : x.span.from < q = omega arith in
      type_told g.names g.text p q e g.end scope F H a.named up w x (stands x s i low) j t (presented _ _ _ _ _ _ h).0

  pub nothing_more : {p q : ℕ} (to : ℕ) {scope : Scope} {n m : Noted} {F : List Fact} {A : Type 0} (x y : A) → Agree p q F scope n → p ≤ to →
      give x n ≡ fine y m → Went g to q scope m F F
  nothing_more {q = q} to {scope = scope} {F = F} x y a i h = subst (λ k. Went g to q scope k F F) (given _ _ _ _ h).1 (W.raise g to (W.start g a) i)

  pub make : {p q : ℕ} {scope : Scope} {n : Noted} {F G : List Fact} (x : Ident) (byte : ℕ) → named_type g.text G x ≡ told.Record byte →
      Went g p q scope n F G → Went g p q scope n F (made g.text g.at x G)
  unfolding made
  make {G = G} x byte e w = W.judge g x.span.from Made (named_type g.text G x) (subst (λ y. breaks g.breach Made y ≡ false) (sym e) (U.of_made g.breach byte)) w

  pub fill : {p q : ℕ} {scope : Scope} {n : Noted} {F G : List Fact} (x : Ident) (byte : ℕ) → named_type g.text G x ≡ told.Array byte →
      Went g p q scope n F G → Went g p q scope n F (filled g.text g.at x G)
  unfolding filled
  fill {G = G} x byte e w =
      W.judge g x.span.from Indexed (named_type g.text G x) (subst (λ y. breaks g.breach Indexed y ≡ false) (sym e) (U.of_indexed g.breach byte)) w

  pub index : {p q : ℕ} {scope : Scope} {n : Noted} {F G : List Fact} (v : LValue) (byte : ℕ) → place_type g.text G v ≡ told.Array byte →
      Went g p q scope n F G → Went g p q scope n F (indexed g.text g.at v G)
  unfolding indexed
  index {G = G} v byte e w =
      W.judge g _ Indexed (place_type g.text G v) (subst (λ y. breaks g.breach Indexed y ≡ false) (sym e) (U.of_indexed g.breach byte)) w

  pub choose : {p q : ℕ} {scope : Scope} {n : Noted} {F G : List Fact} (v : LValue) (f : Ident) (byte : ℕ) → place_type g.text G v ≡ told.Record byte →
      Went g p q scope n F G → Went g p q scope n F (fields_selected g.text g.at v f G)
  unfolding fields_selected
  choose {G = G} v f byte e w =
      W.judge g f.span.from (Has f) (place_type g.text G v)
      (subst (λ y. breaks g.breach (Has f) y ≡ false) (sym e) (U.of_field g.breach f (record_type byte)))
      (W.judge g _ Fielded (place_type g.text G v) (subst (λ y. breaks g.breach Fielded y ≡ false) (sym e) (U.of_fielded g.breach byte)) w)

  -- the other way of a choice
  pub join : {p q : ℕ} {scope : Scope} {n : Noted} {F G : List Fact} (x y : Exp) (t u : Ty) → exp_type g.text G x ≡ told_type t → alike t u ≡ true →
      Knows g y u p q scope n F G → Knows g y u p q scope n F (chosen g.text g.at x y G)
  unfolding chosen
  join {G = G} x y t u e same k =
      W.weigh g (Joins (exp_type g.text G x))
      (subst (λ v. breaks g.breach (Joins v) (told_type u) ≡ false) (sym e) (U.joined g.tests g.breach t u same)) k

  -- what a body is asked for
  pub outcome_fine : (r : Option Ident) (result got : Ty) (at : ℕ) (x : Unit {0}) (n m : Noted) (G : List Fact) →
      ((y : Ident) → r ≡ Some y → named_type g.text G y ≡ told_type result) → body_fits r result got at n ≡ fine x m →
      (breaks g.breach (outcome g.text G r) (told_type got) ≡ false) × (n ≡ m)
  unfolding outcome
  outcome_fine None result got at x n m G named h = U.expected_none g.tests g.breach _ _ _ _ _ h
  outcome_fine (Some y) result got at x n m G named h =
      let k = U.expected g.tests g.breach _ _ _ _ _ _ h in
      (subst (λ v. breaks g.breach (Fits v) (told_type got) ≡ false) (sym (named y refl)) k.0, k.1)

  -- the type of a function's result, as its header names it
  pub kind_told : (r : Option Ident) (y : Ident) (t : Ty) (p q e next : ℕ) (scope : Scope) (n : Noted) (F H : List Fact) → Agree p q F scope n →
      KindNests next e r → ThroughKind Spelt AnyByte r → KindHeaded scope.types r t → AddsWithin (between e g.end) F H → r ≡ Some y → p ≤ next → e ≤ q →
      named_type g.text H y ≡ told_type t
  kind_told None y t p q e next scope n F H a ns sp hd w h i j = cc
  kind_told (Some x) y t p q e next scope n F H a ns sp hd w h i j =
      let same : x ≡ y = cc in
      let up : p ≤ e = omega arith in
      let near : x.span.from < e = omega arith in
      subst (λ v. named_type g.text H v ≡ told_type t) same
      (type_told g.names g.text p q e g.end scope F H a.named up w x (stands x sp (omega arith) (omega arith)) near t hd)

  -- ---- what stands before the parts of a call, a record, an array

  pub record Calling (f : Ident) (sig : Signature) (q : ℕ) (scope : Scope) (k : Noted) (F : List Fact) : Type 0 where
    pub went : Went g f.span.to q scope k F F
    pub told : (H : List Fact) → AddsWithin (between f.span.to g.end) F H → CallsAgree g.text H f sig

  pub calling : (f : Ident) (sig : Signature) (p q : ℕ) (scope : Scope) (n m k : Noted) (F : List Fact) → Spelt f → Within p q f.span → Agree p q F scope n →
      function_of f (bound f scope) n ≡ fine sig m → m ≡ k → Calling f sig q scope k F
  calling f sig p q scope n m k F sp w a h e =
      let up : p ≤ f.span.to = omega arith in
      let near : f.span.from < f.span.to = omega arith in
      let stand = stands {p = p} {q = q} f sp (omega arith) (omega arith) in
      record {
        went = W.raise g f.span.to (W.reshape g (function_shapes f _ _ _ _ h ∙ ap (λ (y : Noted). y.shapes) e) (W.start g a)) up;
        told = λ H l. call_told g.names g.text p q f.span.to g.end scope F H a.named up l f stand near sig n m h;
      }

  pub record Making (x : Ident) (t : Ty) (fields : List (ℕ × Ty)) (q : ℕ) (scope : Scope) (k : Noted) (F : List Fact) : Type 0 where
    pub byte : ℕ
    pub is : t ≡ record_type byte
    pub went : Went g x.span.to q scope k F (made g.text g.at x F)
    pub began : AddsWithin (between x.span.to g.end) F (made g.text g.at x F)
    pub naming : (H : List Fact) → AddsWithin (between x.span.to g.end) F H → named_type g.text H x ≡ told.Record byte
    pub all : FieldsTold g.text x.span.to g.end F byte fields

  pub making : (x : Ident) (t : Ty) (fields : List (ℕ × Ty)) (p q : ℕ) (scope : Scope) (n m k i : Noted) (F : List Fact) → Spelt x → Within p q x.span →
      Agree p q F scope n → type_named x scope n ≡ fine t m → fields_of t (at_of x) m ≡ fine fields k → k ≡ i → Making x t fields q scope i F
  making x t fields p q scope n m k i F sp w a h h' e =
      let f = fields_got _ _ _ _ _ h' in
      let before : n ≡ k = (presented _ _ _ _ _ _ h).1 ∙ f.3 in
      let up : p ≤ x.span.to = omega arith in
      let naming = λ (H : List Fact) (l : AddsWithin (between x.span.to g.end) F H).
      named x.span.to x t a sp (omega arith) (omega arith) (omega arith) h H l ∙ ap told_type f.1 in
      record {
        byte = f.0;
        is = f.1;
        went = W.raise g x.span.to (W.reshape g (ap (λ (y : Noted). y.shapes) (before ∙ e))
            (make x f.0 (naming F (S.same (between x.span.to g.end) F)) (W.start g a))) up;
        began = S.made_adds (between x.span.to g.end) g.text g.at x F;
        naming = naming;
        all = fields_told g.names g.text p x.span.to g.end n F a.shaped up f.0 fields (ap (λ (y : Noted). looked_up f.0 y.shapes) before ∙ f.2);
      }

  pub record Filling (x : Ident) (t element : Ty) (q : ℕ) (scope : Scope) (k : Noted) (F : List Fact) : Type 0 where
    pub byte : ℕ
    pub is : t ≡ array_type byte
    pub went : Went g x.span.to q scope k F (filled g.text g.at x F)
    pub began : AddsWithin (between x.span.to g.end) F (filled g.text g.at x F)
    pub naming : (H : List Fact) → AddsWithin (between x.span.to g.end) F H → named_type g.text H x ≡ told.Array byte
    pub told : (H : List Fact) → AddsWithin (between x.span.to g.end) F H → element_type g.text H (named_type g.text H x) ≡ told_type element

  pub filling : (x : Ident) (t element : Ty) (p q : ℕ) (scope : Scope) (n m k : Noted) (F : List Fact) → Spelt x → Within p q x.span → Agree p q F scope n →
      type_named x scope n ≡ fine t m → element_of t (at_of x) m ≡ fine element k → Filling x t element q scope k F
  filling x t element p q scope n m k F sp w a h h' =
      let f = element_got _ _ _ _ _ h' in
      let before : n ≡ k = (presented _ _ _ _ _ _ h).1 ∙ f.3 in
      let up : p ≤ x.span.to = omega arith in
      let naming = λ (H : List Fact) (l : AddsWithin (between x.span.to g.end) F H).
      named x.span.to x t a sp (omega arith) (omega arith) (omega arith) h H l ∙ ap told_type f.1 in
      record {
        byte = f.0;
        is = f.1;
        went = W.raise g x.span.to (W.reshape g (ap (λ (y : Noted). y.shapes) before)
            (fill x f.0 (naming F (S.same (between x.span.to g.end) F)) (W.start g a))) up;
        began = S.filled_adds (between x.span.to g.end) g.text g.at x F;
        naming = naming;
        told = λ H l. ap (λ y. element_type g.text H y) (naming H l)
            ∙ element_told g.names g.text p x.span.to g.end n F H a.shaped up l f.0 element (ap (λ (y : Noted). looked_up f.0 y.shapes) before ∙ f.2);
      }

  -- ---- what stands behind the values of variables, and around bodies

  pub own_declared : (end : ℕ) {scope : Scope} {m k : Noted} {F G : List Fact} (x : Ident) (e : Exp) (t u : Ty) →
      Knows g e t (span_of e).to end scope m F G → own_type t (start_of e) m ≡ fine u k →
      Went g (span_of e).to end (binding x (variable_at (at_of x) u false) scope) k F (declared g.text g.at x None e end G)
  unfolding declared
  own_declared end x e t u one h =
      let own = U.owned g.tests g.breach x t u _ _ _ h in
      let asked = W.weigh g (Own x) own.0 (W.recall g (ap (λ (y : Noted). y.shapes) own.2) one) in
      W.declare_variable g (span_of e).to end x (at_of x) u false _ (sym (W.now g one ∙ ap told_type own.1)) asked.went (omega arith) (omega arith)

  pub value_declared : (end : ℕ) {scope : Scope} {k : Noted} {F : List Fact} (G : List Fact) (x kind : Ident) (e : Exp) (t : Ty) →
      named_type g.text G kind ≡ told_type t → Went g (span_of e).to end scope k F (weighed g.text g.at e (Fits (named_type g.text G kind)) G) →
      Went g (span_of e).to end (binding x (variable_at (at_of x) t false) scope) k F (declared g.text g.at x (Some kind) e end G)
  unfolding declared
  value_declared end G x kind e t type w =
      W.declare_variable g (span_of e).to end x (at_of x) t false _ (sym type) w (omega arith) (omega arith)

  pub record Opening (f : Ident) (ps : List Param) (r : Option Ident) (body : Exp) (s : Signature) (scope : Scope) (n : Noted) (F : List Fact) : Type 0 where
    pub went : Went g (span_of body).from (span_of body).to (with_params ps s.params scope) n F (opened_facts g.text f ps (span_of body) F)
    pub kind : (y : Ident) → r ≡ Some y → (H : List Fact) → AddsWithin (between (span_of body).from g.end) F H → named_type g.text H y ≡ told_type s.result

  pub opening : (f : Ident) (ps : List Param) (r : Option Ident) (body : Exp) (rest : FunDecs) (s : Signature) (p next end : ℕ) (scope : Scope) (n : Noted)
      (F : List Fact) → next ≤ end → FunctionsNest p next (function f ps r body rest) → ThroughFunctions Spelt AnyByte (function f ps r body rest) →
      Agree p end F scope n → ParamsHeaded scope.types ps s.params → KindHeaded scope.types r s.result → Opening f ps r body s scope n F
  opening f ps r body rest s p next end scope n F i ns sp a hd kd =
      let l = params_order ps f.span.to ns.1 ns.2 in
      let y = kind_order r ns.1 (span_of body).from ns.3 in
      let near = narrower g.names g.text p end f.span.to end _ _ _ a (omega arith) (omega arith) in
      let up : p ≤ ns.1 = omega arith in
      let low : (span_of body).from ≤ end = omega arith in
      record {
        went = W.arrive g
            (params_agree g.names g.text f.span.to end ns.1 f ps s.params (span_of body) scope n F near ns.2 y (omega arith) (omega arith) sp.1 hd)
            (W.opened_quiet g.breach g.text f ps (span_of body) F);
        kind = λ x e H d. kind_told r x s.result p end (span_of body).from ns.1 scope n F H a ns.3 sp.2 kd d e up low;
      }

  pub closing : (f : Ident) (ps : List Param) (r : Option Ident) (body : Exp) (rest : FunDecs) (s : Signature) (p next end : ℕ) (scope : Scope) (n m k : Noted)
      (F : List Fact) (t : Ty) (x : Unit {0}) → next ≤ end → end ≤ g.end → FunctionsNest p next (function f ps r body rest) → Agree p end F scope n →
      Opening f ps r body s scope n F →
      Knows g body t (span_of body).to (span_of body).to (with_params ps s.params scope) m (opened_facts g.text f ps (span_of body) F)
      (exp_facts g.text g.at body (opened_facts g.text f ps (span_of body) F)) → body_fits r s.result t (start_of body) m ≡ fine x k →
      Went g (span_of body).to end scope k F (ended g.text g.at r body (exp_facts g.text g.at body (opened_facts g.text f ps (span_of body) F)))
  unfolding ended
  closing f ps r body rest s p next end scope n m k F t x i z ns a o one h =
      let l = params_order ps f.span.to ns.1 ns.2 in
      let y = kind_order r ns.1 (span_of body).from ns.3 in
      let u = functions_order rest (span_of body).to next ns.6 in
      let d = between (span_of body).from g.end in
      let shown = S.both d (S.opened_adds d g.text f ps (span_of body) F (omega arith, omega arith))
      (S.adds d g.text g.at body (omega arith, omega arith) ns.5 _) in
      let asked = outcome_fine r s.result t _ _ _ _ _ (λ y e. o.kind y e _ shown) h in
      let over = W.weigh g _ asked.0 (W.recall g (ap (λ (y : Noted). y.shapes) asked.1) one) in
      let c = between p (span_of body).to in
      let added = S.both c (S.both c (S.opened_adds c g.text f ps (span_of body) F (omega arith, omega arith))
      (S.adds c g.text g.at body (omega arith, omega arith) ns.5 _)) (S.ended_adds c g.text g.at r body _) in
      W.back g (span_of body).to (span_of body).to a (omega arith) (omega arith) added (W.chain g o.went over.went)
