-- Going on along the text: what is judged where nothing is at fault isn't broken, and lookups still agree with typing.
use Rattle.std.proofs.Common.{◌≡◌, ℕ, suc, ◌≤◌, List, [], ◌∷◌, ◌++◌, Option, Some, None, Bool, true, false, refl, sym, ap, ◌∙◌, subst}
use Rattle.std.proofs.Common.{arith}
use Rattle.std.specs.Prelude.{◌==◌, if◌then◌else◌, map}
use Rattle.tg_base.specs.declared.ids.Span.{Span}
use Rattle.tg_syntax.specs.declared.tokens.Ident.{Ident}
use Rattle.tg_syntax.specs.declared.trees.Param.{Param}
use Rattle.tg_syntax.specs.declared.trees.Op.{Op}
use Rattle.tg_syntax.specs.Spans.{span_of}
use Rattle.tg_syntax.specs.Tree.{Form, Alias, Fields, Array, TypeDec, Exp, FunDecs, no_functions, function, Exps, no_exps, exp}
use Rattle.tg_typecheck.specs.Types as typing
use Rattle.tg_typecheck.specs.Checks.{Noted, fine, Check, ◌>>=◌, give}
use Rattle.tg_typecheck.specs.Scopes.{Scope, variable_at, binding}
use Rattle.tg_typecheck.specs.Typing.{start_of, typed, expect, expect_none}
use Rattle.tg_typecheck.proofs.Inversion.{steps, given}
use Rattle.tg_explain_typing.specs.declared.types.Ty.{Ty}
use Rattle.tg_explain_typing.specs.declared.types.Ty.TheVariants as type
use Rattle.tg_explain_typing.specs.declared.facts.Meaning.TheVariants as meaning
use Rattle.tg_explain_typing.specs.declared.facts.Demand.{Demand}
use Rattle.tg_explain_typing.specs.declared.facts.Demand.TheVariants.{Fits, Valueless, BesideNil}
use Rattle.tg_explain_typing.specs.declared.facts.Fact.{Fact}
use Rattle.tg_explain_typing.specs.declared.facts.Fact.TheVariants as fact
use Rattle.tg_explain_typing.specs.declared.finding.Breach.{Breach}
use Rattle.tg_explain_typing.specs.declared.finding.Judgement.{Judgement}
use Rattle.tg_explain_typing.specs.Facts.{between, judged, weighed, right_demand, is_equality, compared, type_facts, types_facts, params_facts, header_facts}
use Rattle.tg_explain_typing.specs.Facts.{headers_facts, variables_facts, opened_facts, exp_facts}
use Rattle.tg_explain_typing.specs.Finding.{breaks, first_broken}
use Rattle.tg_explain_typing.specs.Synthesis.{exp_type, last_type}
use Rattle.tg_explain_types.specs.laws.Types.{told_type, TestsAgree}
use Rattle.tg_explain_laws.proofs.Agreeing.{Agrees}
use Rattle.tg_explain_laws.specs.laws.Seen.{SeenWithin, AddsWithin}
use Rattle.tg_explain_laws.proofs.Seen as S
use Rattle.tg_explain_laws.proofs.Unbroken as U
use Rattle.tg_explain_laws.proofs.Needed.{IsPlain, names_behind, narrower, more_plain, reshaped, variable_agrees}

-- ---- facts that are seen later on

seen_sooner : (o p z : ℕ) (facts : List Fact) → o ≤ p → SeenWithin (between p z) facts → SeenWithin (between o z) facts
seen_sooner o p z [] i h = tt
seen_sooner o p z (fact.Variable x t s ∷ facts) i h = ((omega arith, omega arith), seen_sooner o p z facts i h.1)
seen_sooner o p z (fact.Function f t s ∷ facts) i h = ((omega arith, omega arith), seen_sooner o p z facts i h.1)
seen_sooner o p z (fact.Param f k t s ∷ facts) i h = ((omega arith, omega arith), seen_sooner o p z facts i h.1)
seen_sooner o p z (fact.TypeName x m s ∷ facts) i h = ((omega arith, omega arith), seen_sooner o p z facts i h.1)
seen_sooner o p z (fact.Judged d t ∷ facts) i h = seen_sooner o p z facts i h
seen_sooner o p z (fact.Field a r ∷ facts) i h = seen_sooner o p z facts i h
seen_sooner o p z (fact.Element a x ∷ facts) i h = seen_sooner o p z facts i h
seen_sooner o p z (fact.Given a x ∷ facts) i h = seen_sooner o p z facts i h
seen_sooner o p z (fact.Loop a s ∷ facts) i h = seen_sooner o p z facts i h
seen_sooner o p z (fact.Body x s ∷ facts) i h = seen_sooner o p z facts i h

pub sooner : (o p z : ℕ) {F G : List Fact} → o ≤ p → AddsWithin (between p z) F G → AddsWithin (between o z) F G
sooner o p z i w = record { more = w.more; is = w.is; seen = seen_sooner o p z w.more i w.seen }

-- ---- nothing that is broken

module _ (b : Breach) where
  abbrev pub Quiet : (F G : List Fact) → Type 0
  Quiet F G = first_broken b F ≡ None → first_broken b G ≡ None

  if_none : (c : Bool) (j : Judgement) (rest more : Option Judgement) → (if c then Some j else rest) ≡ None → (rest ≡ None → more ≡ None) →
      (if c then Some j else more) ≡ None
  if_none true j rest more h f = cc
  if_none false j rest more h f = f h

  quiet_behind : (F more : List Fact) → first_broken b more ≡ None → Quiet F (F ++ more)
  quiet_behind [] more q h = q
  quiet_behind (fact.Judged d t ∷ F) more q h =
      if_none (breaks b d t) (record { demand = d; got = t }) (first_broken b F) (first_broken b (F ++ more)) h (quiet_behind F more q)
  quiet_behind (fact.Variable x t s ∷ F) more q h = quiet_behind F more q h
  quiet_behind (fact.Function f t s ∷ F) more q h = quiet_behind F more q h
  quiet_behind (fact.Param f i t s ∷ F) more q h = quiet_behind F more q h
  quiet_behind (fact.TypeName x m s ∷ F) more q h = quiet_behind F more q h
  quiet_behind (fact.Field a p ∷ F) more q h = quiet_behind F more q h
  quiet_behind (fact.Element a x ∷ F) more q h = quiet_behind F more q h
  quiet_behind (fact.Given a x ∷ F) more q h = quiet_behind F more q h
  quiet_behind (fact.Loop a s ∷ F) more q h = quiet_behind F more q h
  quiet_behind (fact.Body x s ∷ F) more q h = quiet_behind F more q h

  pub quiet_judged : (at start : ℕ) (d : Demand) (t : Ty) (F : List Fact) → breaks b d t ≡ false → Quiet F (judged at start d t F)
  quiet_judged at start d t F u = by (start == at)
    where
      alone : first_broken b (fact.Judged d t ∷ []) ≡ None
      alone = ap (λ (c : Bool). if c then Some (record { demand = d; got = t }) else None) u

      by : (c : Bool) → Quiet F (if c then F ++ fact.Judged d t ∷ [] else F)
      by true = quiet_behind F (fact.Judged d t ∷ []) alone
      by false = λ h. h

  no_fields : (o : ℕ) (ps : List Param) → first_broken b (map (λ p. fact.Field o p) ps) ≡ None
  no_fields o [] = refl
  no_fields o (p ∷ ps) = no_fields o ps

  form_quiet : (name : Ident) (f : Form) (seen : Span) (F : List Fact) → Quiet F (type_facts (record { name = name; form = f }) seen F)
  unfolding type_facts
  form_quiet name (Alias x) seen F h = quiet_behind F _ refl h
  form_quiet name (Fields ps) seen F h =
      let named = fact.TypeName name (meaning.Known (type.Record name.span.from)) seen in
      quiet_behind (F ++ named ∷ []) (map (λ p. fact.Field name.span.from p) ps) (no_fields name.span.from ps) (quiet_behind F (named ∷ []) refl h)
  form_quiet name (Array x) seen F h =
      let named = fact.TypeName name (meaning.Known (type.Array name.span.from)) seen in
      quiet_behind (F ++ named ∷ []) (fact.Element name.span.from x ∷ []) refl (quiet_behind F (named ∷ []) refl h)

  pub types_quiet : (ds : List TypeDec) (seen : Span) (F : List Fact) → Quiet F (types_facts ds seen F)
  types_quiet [] seen F h = h
  types_quiet (d ∷ ds) seen F h = types_quiet ds seen _ (form_quiet d.name d.form seen F h)

  params_quiet : (text : List ℕ) (f : Ident) (index : ℕ) (ps : List Param) (seen : Span) (F : List Fact) → Quiet F (params_facts text f index ps seen F)
  params_quiet text f index [] seen F h = h
  params_quiet text f index (p ∷ ps) seen F h = params_quiet text f (suc index) ps seen _ (quiet_behind F _ refl h)

  pub headers_quiet : (text : List ℕ) (fs : FunDecs) (seen : Span) (F : List Fact) → Quiet F (headers_facts text fs seen F)
  unfolding header_facts
  headers_quiet text no_functions seen F h = h
  headers_quiet text (function f ps r body rest) seen F h =
      headers_quiet text rest seen _ (params_quiet text f 0 ps seen _ (quiet_behind F _ refl h))

  variables_quiet : (text : List ℕ) (ps : List Param) (seen : Span) (F : List Fact) → Quiet F (variables_facts text ps seen F)
  variables_quiet text [] seen F h = h
  variables_quiet text (p ∷ ps) seen F h = variables_quiet text ps seen _ (quiet_behind F _ refl h)

  pub opened_quiet : (text : List ℕ) (f : Ident) (ps : List Param) (seen : Span) (F : List Fact) → Quiet F (opened_facts text f ps seen F)
  unfolding opened_facts
  opened_quiet text f ps seen F h = variables_quiet text ps seen _ (quiet_behind F _ refl h)

-- ---- from one byte on

-- a text with the names that number its identifiers, the byte that is asked about, where it ends, and how something is broken
pub record Setting : Type 0 where
  pub names : List (List ℕ)
  pub text : List ℕ
  pub at : ℕ
  pub end : ℕ
  pub tests : (one other : typing.Ty) → TestsAgree one other
  pub breach : Breach

module _ (g : Setting) where
  -- lookups agree up to here, and nothing behind the first facts is broken
  pub record Went (p q : ℕ) (scope : Scope) (n : Noted) (F G : List Fact) : Type 0 where
    pub agrees : Agrees g.names g.text p q G scope n
    pub quiet : Quiet g.breach F G

  -- so, and an expression's type is told, now and later on
  pub record Knows (e : Exp) (t : typing.Ty) (p q : ℕ) (scope : Scope) (n : Noted) (F G : List Fact) : Type 0 where
    pub went : Went p q scope n F G
    pub told : (H : List Fact) → AddsWithin (between p g.end) G H → exp_type g.text H e ≡ told_type t

  pub start : {p q : ℕ} {scope : Scope} {n : Noted} {F : List Fact} → Agrees g.names g.text p q F scope n → Went p q scope n F F
  start a = record { agrees = a; quiet = λ h. h }

  pub arrive : {p q : ℕ} {scope : Scope} {n : Noted} {F G : List Fact} → Agrees g.names g.text p q G scope n → Quiet g.breach F G → Went p q scope n F G
  arrive a k = record { agrees = a; quiet = k }

  pub chain : {p q p' q' : ℕ} {scope scope' : Scope} {n n' : Noted} {F G H : List Fact} → Went p q scope n F G → Went p' q' scope' n' G H →
      Went p' q' scope' n' F H
  chain v w = record { agrees = w.agrees; quiet = λ h. w.quiet (v.quiet h) }

  pub raise : {p q : ℕ} (p' : ℕ) {scope : Scope} {n : Noted} {F G : List Fact} → Went p q scope n F G → p ≤ p' → Went p' q scope n F G
  raise {p = p} {q = q} p' w i =
      let j : q ≤ q = omega arith in
      record { agrees = narrower g.names g.text p q p' q _ _ _ w.agrees i j; quiet = w.quiet }

  pub reshape : {p q : ℕ} {scope : Scope} {n m : Noted} {F G : List Fact} → n.shapes ≡ m.shapes → Went p q scope n F G → Went p q scope m F G
  reshape e w = record { agrees = reshaped g.names g.text _ _ _ _ _ _ e w.agrees; quiet = w.quiet }

  pub plain : {p q : ℕ} {scope : Scope} {n : Noted} {F G : List Fact} (f : Fact) → IsPlain f → first_broken g.breach (f ∷ []) ≡ None → Went p q scope n F G →
      Went p q scope n F (G ++ f ∷ [])
  plain {G = G} f h k w = record { agrees = more_plain g.names g.text _ _ _ _ _ f h w.agrees; quiet = λ i. quiet_behind g.breach G (f ∷ []) k (w.quiet i) }

  -- ---- what is judged

  judged_agrees : {p q : ℕ} {scope : Scope} {n : Noted} {F : List Fact} (start : ℕ) (d : Demand) (t : Ty) → Agrees g.names g.text p q F scope n →
      Agrees g.names g.text p q (judged g.at start d t F) scope n
  judged_agrees {p = p} {q = q} {scope = scope} {n = n} {F = F} start d t a = by (start == g.at)
    where
      by : (c : Bool) → Agrees g.names g.text p q (if c then F ++ fact.Judged d t ∷ [] else F) scope n
      by true = more_plain g.names g.text p q scope n F (fact.Judged d t) tt a
      by false = a

  pub judge : {p q : ℕ} {scope : Scope} {n : Noted} {F G : List Fact} (start : ℕ) (d : Demand) (t : Ty) → breaks g.breach d t ≡ false → Went p q scope n F G →
      Went p q scope n F (judged g.at start d t G)
  judge {G = G} start d t u w = record { agrees = judged_agrees start d t w.agrees; quiet = λ h. quiet_judged g.breach g.at start d t G u (w.quiet h) }

  pub now : {e : Exp} {t : typing.Ty} {p q : ℕ} {scope : Scope} {n : Noted} {F G : List Fact} → Knows e t p q scope n F G → exp_type g.text G e ≡ told_type t
  now {p = p} {G = G} k = k.told G (S.same (between p g.end) G)

  pub weigh : {e : Exp} {t : typing.Ty} {p q : ℕ} {scope : Scope} {n : Noted} {F G : List Fact} (d : Demand) → breaks g.breach d (told_type t) ≡ false →
      Knows e t p q scope n F G → Knows e t p q scope n F (weighed g.text g.at e d G)
  unfolding weighed
  weigh {e = e} {t = t} {p = p} {G = G} d u k = record {
    went = judge (span_of e).from d (exp_type g.text G e) (subst (λ y. breaks g.breach d y ≡ false) (sym (now k)) u) k.went;
    told = λ H w. k.told H (S.both (between p g.end) (S.judged_adds (between p g.end) g.at (span_of e).from d (exp_type g.text G e) G) w);
  }

  pub recall : {e : Exp} {t : typing.Ty} {p q : ℕ} {scope : Scope} {n m : Noted} {F G : List Fact} → n.shapes ≡ m.shapes → Knows e t p q scope n F G →
      Knows e t p q scope m F G
  recall s k = record { went = reshape s k.went; told = k.told }

  -- an operator's sides, behind both
  pub compare : {p q : ℕ} {scope : Scope} {n : Noted} {F G : List Fact} (whole : ℕ) (op : Op) (x y : Exp) (t u : typing.Ty) →
      exp_type g.text G x ≡ told_type t → exp_type g.text G y ≡ told_type u → breaks g.breach (right_demand op (told_type t)) (told_type u) ≡ false →
      (is_equality op ≡ true → breaks g.breach (BesideNil (told_type t)) (told_type u) ≡ false) → Went p q scope n F G →
      Went p q scope n F (compared g.text g.at whole op x y G)
  unfolding compared weighed
  compare {p = p} {q = q} {scope = scope} {n = n} {F = F} {G = G} whole op x y t u i j r beside w = by (is_equality op) refl
    where
      asked : breaks g.breach (right_demand op (exp_type g.text G x)) (exp_type g.text G y) ≡ false
      asked = subst (λ v. breaks g.breach (right_demand op v) (exp_type g.text G y) ≡ false) (sym i)
          (subst (λ v. breaks g.breach (right_demand op (told_type t)) v ≡ false) (sym j) r)

      all : Went p q scope n F (judged g.at (span_of y).from (right_demand op (exp_type g.text G x)) (exp_type g.text G y) G)
      all = judge (span_of y).from (right_demand op (exp_type g.text G x)) (exp_type g.text G y) asked w

      by : (c : Bool) → is_equality op ≡ c → Went p q scope n F (if c
          then judged g.at whole (BesideNil (exp_type g.text G x)) (exp_type g.text G y)
          (judged g.at (span_of y).from (right_demand op (exp_type g.text G x)) (exp_type g.text G y) G)
          else judged g.at (span_of y).from (right_demand op (exp_type g.text G x)) (exp_type g.text G y) G)
      by true e = judge whole (BesideNil (exp_type g.text G x)) (exp_type g.text G y)
          (subst (λ v. breaks g.breach (BesideNil v) (exp_type g.text G y) ≡ false) (sym i)
          (subst (λ v. breaks g.breach (BesideNil (told_type t)) v ≡ false) (sym j) (beside e))) all
      by false e = all

  -- ---- parts that are wanted

  pub record Weighed {A : Type 0} (e : Exp) (d : Demand) (q : ℕ) (scope : Scope) (F : List Fact) (next : Check A) (a : A) (end : Noted) : Type 0 where
    pub type : typing.Ty
    pub middle : Noted
    pub part : Knows e type (span_of e).to q scope middle F (weighed g.text g.at e d (exp_facts g.text g.at e F))
    pub onward : next middle ≡ fine a end

  abbrev pub IsKnown : (e : Exp) (q : ℕ) → Scope → Noted → List Fact → Type 0
  IsKnown e q scope n F = (t : typing.Ty) (m : Noted) → typed e scope n ≡ fine t m → Knows e t (span_of e).to q scope m F (exp_facts g.text g.at e F)

  pub fitting : {A : Type 0} {e : Exp} {q : ℕ} {scope : Scope} {F : List Fact} {end : Noted} {next : Check A} {a : A} (n : Noted) (wanted : typing.Ty)
      (d : Demand) → Fits (told_type wanted) ≡ d → IsKnown e q scope n F → (typed e scope >>= λ t. expect wanted t (start_of e) >>= λ _. next) n ≡ fine a end →
      Weighed e d q scope F next a end
  fitting n wanted d is known h =
      let p = steps h in
      let r = steps p.onward in
      let k = U.expected g.tests g.breach _ _ _ _ _ _ r.first in
      record {
        type = p.value;
        middle = r.between;
        part = weigh d (subst (λ y. breaks g.breach y (told_type p.value) ≡ false) is k.0)
            (recall (ap (λ (y : Noted). y.shapes) k.1) (known p.value p.between p.first));
        onward = r.onward;
      }

  -- the same, with nothing behind it
  pub record Fitted (e : Exp) (d : Demand) (q : ℕ) (scope : Scope) (F : List Fact) (end : Noted) : Type 0 where
    pub type : typing.Ty
    pub part : Knows e type (span_of e).to q scope end F (weighed g.text g.at e d (exp_facts g.text g.at e F))

  pub fitted : {e : Exp} {q : ℕ} {scope : Scope} {F : List Fact} {end : Noted} {x : Unit {0}} (n : Noted) (wanted : typing.Ty) (d : Demand) →
      Fits (told_type wanted) ≡ d → IsKnown e q scope n F → (typed e scope >>= λ t. expect wanted t (start_of e)) n ≡ fine x end →
      Fitted e d q scope F end
  fitted n wanted d is known h =
      let p = steps h in
      let k = U.expected g.tests g.breach _ _ _ _ _ _ p.onward in
      record {
        type = p.value;
        part = weigh d (subst (λ y. breaks g.breach y (told_type p.value) ≡ false) is k.0)
            (recall (ap (λ (y : Noted). y.shapes) k.1) (known p.value p.between p.first));
      }

  pub voided : {A : Type 0} {e : Exp} {q : ℕ} {scope : Scope} {F : List Fact} {end : Noted} {next : Check A} {a : A} (n : Noted) →
      IsKnown e q scope n F → (typed e scope >>= λ t. expect_none t (start_of e) >>= λ _. next) n ≡ fine a end → Weighed e Valueless q scope F next a end
  voided n known h =
      let p = steps h in
      let r = steps p.onward in
      let k = U.expected_none g.tests g.breach _ _ _ _ _ r.first in
      record {
        type = p.value;
        middle = r.between;
        part = weigh Valueless k.0 (recall (ap (λ (y : Noted). y.shapes) k.1) (known p.value p.between p.first));
        onward = r.onward;
      }

  -- ---- the ends of parts

  pub finish : {p q : ℕ} {scope : Scope} {k m : Noted} {F G : List Fact} (e : Exp) (p' : ℕ) (u t : typing.Ty) → Went p q scope k F G → p ≤ p' →
      ((H : List Fact) → AddsWithin (between p' g.end) G H → exp_type g.text H e ≡ told_type u) → give u k ≡ fine t m → Knows e t p' q scope m F G
  finish {q = q} {scope = scope} {F = F} {G = G} e p' u t w i told h =
      let d = given _ _ _ _ h in
      record {
        went = subst (λ y. Went p' q scope y F G) d.1 (raise p' w i);
        told = λ H l. told H l ∙ ap told_type d.0;
      }

  -- out of a part with a scope of its own
  pub back : {p q : ℕ} (p' q' : ℕ) {scope inner : Scope} {n m : Noted} {F G : List Fact} → Agrees g.names g.text p q F scope n → p ≤ p' → p' ≤ q →
      AddsWithin (between p p') F G → Went p' q' inner m F G → Went p' q scope m F G
  back p' q' a i j w v = record {
    agrees = record { named = names_behind g.names g.text _ _ p' _ _ _ a.named i w; shaped = v.agrees.shaped };
    quiet = v.quiet;
  }

  pub declare_variable : {p q : ℕ} (from end : ℕ) {scope : Scope} {n : Noted} {F G : List Fact} (x : Ident) (place : ℕ) (t : typing.Ty) (loop : Bool)
      (got : Ty) → told_type t ≡ got → Went p q scope n F G → p ≤ from → end ≤ q →
      Went from end (binding x (variable_at place t loop) scope) n F (G ++ fact.Variable x got (between from end) ∷ [])
  declare_variable {p = p} {q = q} from end {scope = scope} {n = n} {G = G} x place t loop got is w i j = record {
    agrees = subst (λ y. Agrees g.names g.text from end (G ++ fact.Variable x y (between from end) ∷ []) (binding x (variable_at place t loop) scope) n) is
        (variable_agrees g.names g.text p q from end scope n G w.agrees i j x place t loop);
    quiet = λ h. quiet_behind g.breach G (fact.Variable x got (between from end) ∷ []) refl (w.quiet h);
  }

-- ---- the last of several

abbrev pub last_or : (outer : Ty) → (text : List ℕ) → List Fact → Exps → Ty
last_or outer text H no_exps = outer
last_or outer text H (exp e rest) = last_type text H (exp e rest)

pub last_step : (text : List ℕ) (H : List Fact) (e : Exp) (rest : Exps) (u t : Ty) → exp_type text H e ≡ u → last_or u text H rest ≡ t →
    last_type text H (exp e rest) ≡ t
last_step text H e no_exps u t h k = h ∙ k
last_step text H e (exp o rest) u t h k = k
