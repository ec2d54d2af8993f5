-- Declarations one after another, and blocks.
use Rattle.std.proofs.Common.{◌≡◌, ◌≢◌, ℕ, zero, suc, ◌+◌, ◌*◌, ◌<◌, ◌≤◌, List, [], ◌∷◌, ◌++◌, Option, Some, None, Bool, true, false, refl, sym, ap, ◌∙◌, arith, subst, inl, inr}
use Rattle.std.specs.Prelude.{length, ◌⊎◌, is_some}
use Rattle.tg_base.specs.declared.ids.Span.{Span}
use Rattle.tg_syntax.specs.declared.tokens.Ident.{Ident}
use Rattle.tg_syntax.specs.OfWords.{DecsOfWords, BodiesOfWords}
use Rattle.tg_syntax.specs.Functions.{Levels, own, own_functions, own_decs}
use Rattle.tg_syntax.specs.Tree as source
use Rattle.tg_syntax.specs.Tree.{TypeDec, Exp, Let, Exps, Decs, no_decs, types, functions, FunDecs}
use Rattle.tg_simulation.specs.Runs.{Run}
use Rattle.tg_simulation.specs.Ran.{Ran}
use Rattle.tg_simulation.specs.Changes.{costs}
use Rattle.tg_simulation.specs.Agreement.{Source}
use Rattle.tg_simulation.proofs.Following.{follows_paying}
use Rattle.tg_semantics.specs.Values.{Value, SourceWorld, Env, group}
use Rattle.tg_semantics.specs.Levels.{levels_of}
use Rattle.tg_semantics.specs.Evaluation as evaluation
use Rattle.tg_semantics.specs.Evaluation.{function_count, with_variable}
use Rattle.tg_semantics.specs.Passing.{Rest, Passing, passing}
use Rattle.tg_semantics.specs.MachineRuns.{rest_run}
use Rattle.tg_semantics.specs.laws.Laws.{behind}
use Rattle.tg_typecheck.specs.Types.{Ty}
use Rattle.tg_semantics.specs.Environments.{name_of}
use Rattle.tg_typecheck.specs.Scopes.{Scope, Signature, variable_at, binding, at_of, in_no_loop}
use Rattle.tg_typecheck.specs.Groups.{with_functions}
use Rattle.tg_typecheck.specs.Has as has
use Rattle.tg_typecheck.specs.Has.{Has, HasDecs, HasBodies, Apart}
use Rattle.tg_tree.specs.Tree.{Ts, Stms, no_stms, stm}
use Rattle.tg_tree.specs.glue.Lists.{join_stms}
use Rattle.tg_tree.proofs.ListLaws.{join_stms-none, join_stms-assoc}
use Rattle.tg_tree.specs.Actions.{World, Temps, Next}
use Rattle.tg_translate.specs.declared.homes.Within.{Within}
use Rattle.tg_translate.specs.declared.wants.Want.{Want}
use Rattle.tg_translate.specs.declared.wants.Want.TheVariants as want
use Rattle.tg_frame.specs.declared.accesses.Access.TheVariants.{InTemp, InFrame}
use Rattle.tg_translate.specs.mirror.States.{TranslationState, drawn, Translates, one_temp, one_slot}
use Rattle.tg_translate.specs.mirror.Wants.{Made, value_of, followed}
use Rattle.tg_translate.specs.mirror.Functions.{declare_functions}
use Rattle.tg_translate.specs.mirror.Translate.{expression, declarations, declaration_of, bodies}
use Rattle.tg_correctness.specs.laws.Laws.{tree_work}
use Rattle.tg_translate_proof.specs.glue.Covered.{CoversDecs, CoversFunctions}
use Rattle.tg_translate_proof.specs.glue.Tables.{Later, HasFound}
use Rattle.tg_translate_proof.specs.glue.Worlds.{Holdings, GrowsTo, Key, temporary, variable, kept, Places}
use Rattle.tg_translate_proof.specs.glue.Situations as situations
use Rattle.tg_translate_proof.specs.glue.Situations.{Program, Part, Setting, Holds, IsReady, AreDone, Extends, statement_runs, statements_run}
use Rattle.tg_translate_proof.specs.glue.Shown.{Shown, FollowsHere, left_over}
use Rattle.tg_translate_proof.proofs.state.TranslationStates.{made_in, state_in, after_inv, later_none, later_on, later_value, behind_none, front_none}
use Rattle.tg_translate_proof.proofs.invariant.Cases.{grows_none, grows_on}
use Rattle.tg_translate_proof.proofs.invariant.Parts.{StatesGrow, more, extends_none, extends_on}
use Rattle.tg_translate_proof.proofs.state.Keys.{put_place, by_key}
use Rattle.tg_translate_proof.proofs.invariant.Asked.{Standing}
use Rattle.tg_translate_proof.proofs.program.VariableDeclaration.{inside, with_home, Declared, declared_follows}

-- What declarations are made, one after another: statements for variables, and functions that are done.
pub data DecsMade (P : Program) : Within → Decs → TranslationState → Stms → TranslationState → Type 0 where
  no_more : (within : Within) (s t : TranslationState) → s ≡ t → DecsMade P within no_decs s no_stms t
  some_types : (within : Within) (ts : List TypeDec) (rest : Decs) (s : TranslationState) (ss : Stms) (t : TranslationState) → DecsMade P within rest s ss t → DecsMade P within (types ts rest) s ss t
  a_variable :
      (within : Within) (x : Ident) (kind : Option Ident) (e : Exp) (rest : Decs) (s : TranslationState) (one : Ts) (u : TranslationState) (ss : Stms) (t : TranslationState) →
      declaration_of P.findings.escapes within.level (at_of x) (λ v o. expression P.findings e v within o) s ≡ drawn one u →
      DecsMade P within rest u ss t → DecsMade P within (source.variable x kind e rest) s (stm one ss) t
  some_functions :
      (within : Within) (fs : FunDecs) (rest : Decs) (s u v : TranslationState) (a b : Unit {0}) (ss : Stms) (t : TranslationState) →
      declare_functions within.level fs s ≡ drawn a u → bodies P.findings fs s.label within u ≡ drawn b v →
      DecsMade P within rest v ss t → DecsMade P within (functions fs rest) s ss t

pub decs_made : (P : Program) (within : Within) (ds : Decs) (before : Stms) (s : TranslationState) (made : Stms) (t : TranslationState) → declarations P.findings ds before within s ≡ drawn made t →
    (ss : Stms) × (made ≡ join_stms before ss) × DecsMade P within ds s ss t
decs_made P within no_decs before s made t e =
    (no_stms, sym (ap made_in e) ∙ sym (join_stms-none before), no_more within s t (ap state_in e))
decs_made P within (types ts rest) before s made t e =
    let r = decs_made P within rest before s made t e in (r.0, r.1, some_types within ts rest s r.0 t r.2)
decs_made P within (source.variable x kind e0 rest) before s made t e =
    let i = after_inv (declaration_of P.findings.escapes within.level (at_of x) (λ v o. expression P.findings e0 v within o) s) _ made t e in
    let r = decs_made P within rest (followed before i.0) i.1 made t i.3 in
    (stm i.0 r.0, r.1 ∙ join_stms-assoc before (stm i.0 no_stms) r.0, a_variable within x kind e0 rest s i.0 i.1 r.0 t i.2 r.2)
decs_made P within (functions fs rest) before s made t e =
    let i = after_inv (declare_functions within.level fs s) _ made t e in
    let j = after_inv (bodies P.findings fs s.label within i.1) _ made t i.3 in
    let r = decs_made P within rest before j.1 made t j.3 in
    (r.0, r.1, some_functions within fs rest s i.1 j.1 i.0 j.0 r.0 t i.2 j.2 r.2)

-- a law on each value that is declared
abbrev pub DecsShown : Program → ℕ → Decs → Type 0
DecsShown P n no_decs = Unit {0}
DecsShown P n (types ts rest) = DecsShown P n rest
DecsShown P n (source.variable x kind e rest) = Shown P n e × DecsShown P n rest
DecsShown P n (functions fs rest) = DecsShown P n rest

module _ (P : Program) (set : Setting P) (grow : StatesGrow P) where
  -- What is asked of a group of functions that is declared: that its functions are done, and found.
  pub record GroupDone (n : ℕ) (k : Standing P set grow n) (fs : FunDecs) (ss : List Signature) (v : TranslationState) : Type 0 where
    pub later : Later k.σ v
    pub many : length ss ≡ function_count fs
    pub done : AreDone P (with_functions fs ss k.p.scope) k.p.env.level k.p.scene.keeps (group k.p.env.level fs ∷ k.p.env.entries) fs ss
    pub found : HasFound P.table v (with_functions fs ss k.p.scope).bindings
    pub fits : situations.GroupsFit P (group k.p.env.level fs ∷ k.p.env.entries)

  abbrev pub GroupsAreDone : Type 0
  GroupsAreDone =
      (n : ℕ) (k : Standing P set grow n) (fs : FunDecs) (ss : List Signature) (u v : TranslationState) (a b : Unit {0}) → Apart fs →
      HasBodies P.shapes P.notes fs ss (in_no_loop (with_functions fs ss k.p.scope)) → BodiesOfWords fs →
      CoversFunctions P.findings P.table P.weight k.p.scene.level k.p.scene.keeps (own_functions k.p.scene.level fs (levels_of k.p.env.entries)) fs →
      declare_functions k.p.within.level fs k.σ ≡ drawn a u → bodies P.findings fs k.σ.label k.p.within u ≡ drawn b v → Later v k.τ → GroupDone n k fs ss v

  abbrev pub declares : Decs → Env → (Env → Rest) → Rest → Rest
  declares ds env go out = evaluation.declare Passing (passing P.heap P.stack) (behind P.heap P.stack) ds env go out

  -- What stands after declarations.
  pub record Opened (n : ℕ) (k : Standing P set grow n) (ds : Decs) (inner : Scope) (u : TranslationState) (env : Env) (places : Places) (g : Holdings) (ms : List Ty) (s : SourceWorld) (w : World) (t : Temps) : Type 0 where
    pub grows : GrowsTo k.h g
    pub extends : Extends k.types ms
    pub ready : IsReady P (inside k.p inner env places) ms u k.τ
    pub holds : Holds P (inside k.p inner env places) g ms s w t
    pub back : (g3 : Holdings) (ms3 : List Ty) (s3 : SourceWorld) (w3 : World) (t3 : Temps) → Holds P (inside k.p inner env places) g3 ms3 s3 w3 t3 → Holds P k.p g3 ms3 s3 w3 t3
    pub plain : (i place z : ℕ) → places (temporary k.p.scene.depth i) ≢ kept place z
    pub levels : levels_of env.entries ≡ own_decs k.p.scene.level ds (levels_of k.p.env.entries)
    pub in_loop : inner.in_loop ≡ k.p.scope.in_loop

  abbrev pub OpenedOnward : (n : ℕ) (k : Standing P set grow n) → Decs → Scope → TranslationState → (Env → Rest) → Next → Type 0
  OpenedOnward n k ds inner u go next =
      (env : Env) (places : Places) (g : Holdings) (ms : List Ty) (s : SourceWorld) (w : World) (t : Temps) → Opened n k ds inner u env places g ms s w t →
      FollowsHere P k.r n (rest_run (go env) s) (next w t)

  -- a moment that sees more
  abbrev pub stands_inside : (n : ℕ) (k : Standing P set grow n) (inner : Scope) (u : TranslationState) (env : Env) (places : Places) (g : Holdings) (ms : List Ty) (s : SourceWorld) (w : World) (t : Temps) (r : ℕ) → k.r ≤ r →
      GrowsTo k.h g → Extends k.types ms → inner.in_loop ≡ k.p.scope.in_loop → IsReady P (inside k.p inner env places) ms u k.τ → Holds P (inside k.p inner env places) g ms s w t →
      ((g3 : Holdings) (ms3 : List Ty) (s3 : SourceWorld) (w3 : World) (t3 : Temps) → Holds P (inside k.p inner env places) g3 ms3 s3 w3 t3 → Holds P k.p g3 ms3 s3 w3 t3) → Standing P set grow n
  stands_inside n k inner u env places g ms s w t r le gg ee loop ready holds back = record {
    p = inside k.p inner env places;
    σ = u;
    τ = k.τ;
    h = g;
    types = ms;
    r = r;
    out = k.out;
    s = s;
    w = w;
    t = t;
    ready = ready;
    outward = λ g3 ms3 s3 w3 t3 l gg3 ee3 hh3.
        more P (k.r + left_over) (r + left_over) n (rest_run k.out s3) (k.p.around.out k.p.within.leave w3 t3) (omega (arith, le))
        (k.outward g3 ms3 s3 w3 t3 (sym loop ∙ l) (grows_on k.h g g3 gg gg3) (extends_on k.types ms ms3 ee ee3) (back g3 ms3 s3 w3 t3 hh3));
    holds = holds;
  }

  -- the same part with other names in sight
  abbrev pub same_holds : (p : Part) (scope : Scope) (env : Env) (g : Holdings) (ms : List Ty) (s : SourceWorld) (w : World) (t : Temps) → Holds P p g ms s w t → Holds P (inside p scope env p.places) g ms s w t
  same_holds p scope env g ms s w t hh = record { invariant = hh.invariant; weight = hh.weight; depth = hh.depth; statics = hh.statics; literals = hh.literals }

  abbrev pub same_back : (p : Part) (scope : Scope) (env : Env) (g : Holdings) (ms : List Ty) (s : SourceWorld) (w : World) (t : Temps) → Holds P (inside p scope env p.places) g ms s w t → Holds P p g ms s w t
  same_back p scope env g ms s w t hh = record { invariant = hh.invariant; weight = hh.weight; depth = hh.depth; statics = hh.statics; literals = hh.literals }

  -- with what was in sight
  pub names_ready : (p : Part) (ms : List Ty) (s t : TranslationState) → IsReady P p ms s t → IsReady P (inside p p.scope p.env p.places) ms s t
  names_ready p ms s t x = record {
    scene = x.scene;
    along = x.along;
    fits = x.fits;
    found = x.found;
    moment = x.moment;
    level = x.level;
    same_level = x.same_level;
    links = x.links;
    slots_free = x.slots_free;
    temps_free = x.temps_free;
    slots_there = x.slots_there;
    activation = x.activation;
  }

  -- with other types in sight
  pub types_ready : (p : Part) (names : _) (ms : List Ty) (s t : TranslationState) → IsReady P p ms s t → IsReady P (inside p (record p.scope { types = names }) p.env p.places) ms s t
  types_ready p names ms s t x = record {
    scene = x.scene;
    along = x.along;
    fits = x.fits;
    found = x.found;
    moment = x.moment;
    level = x.level;
    same_level = x.same_level;
    links = x.links;
    slots_free = x.slots_free;
    temps_free = x.temps_free;
    slots_there = x.slots_there;
    activation = x.activation;
  }

  abbrev pub with_group : Env → FunDecs → Env
  with_group env fs = record env { entries = group env.level fs ∷ env.entries }

  -- with a group of functions
  pub functions_ready : (n : ℕ) (k : Standing P set grow n) (fs : FunDecs) (ss : List Signature) (v : TranslationState) → GroupDone n k fs ss v → Later v k.τ →
      IsReady P (inside k.p (with_functions fs ss k.p.scope) (with_group k.p.env fs) k.p.places) k.types v k.τ
  functions_ready n k fs ss v q last =
      let x = k.ready in
      let le : k.p.env.level ≤ k.p.scene.level = let e = x.same_level in omega (arith, e) in
      record {
        scene = x.scene;
        along = situations.a_group k.p.scene.level k.p.env.level k.p.scene.keeps fs ss k.p.env.entries k.p.scope le (λ j lj. refl) q.many q.done
            (subst (λ o. situations.Along P k.p.places k.types k.p.scene o k.p.env.entries k.p.scope.bindings) (sym x.same_level) x.along);
        fits = q.fits;
        found = q.found;
        moment = x.moment;
        level = x.level;
        same_level = x.same_level;
        links = x.links;
        slots_free = λ j a b. x.slots_free j (let o = q.later.slots in omega (arith, o, a)) b;
        temps_free = λ i a b. x.temps_free i (let o = q.later.temps in omega (arith, o, a)) b;
        slots_there = x.slots_there;
        activation = x.activation;
      }

  pub with_functions_loop : (fs : FunDecs) (ss : List Signature) (scope : Scope) → (with_functions fs ss scope).in_loop ≡ scope.in_loop
  with_functions_loop source.no_functions ss scope = refl
  with_functions_loop (source.function f ps r e rest) [] scope = refl
  with_functions_loop (source.function f ps r e rest) (s ∷ ss) scope = with_functions_loop rest ss _

  -- what stands after declarations, from a moment further on
  pub opened_further : (n : ℕ) (k : Standing P set grow n) (d : Decs) (rest : Decs) (scope inner : Scope) (v u : TranslationState) (env env2 : Env) (places places2 : Places) (g g2 : Holdings) (ms ms2 : List Ty) (s s2 : SourceWorld) (w w2 : World) (t t2 : Temps) →
      (gg : GrowsTo k.h g) (ee : Extends k.types ms) (loop : scope.in_loop ≡ k.p.scope.in_loop) (ready : IsReady P (inside k.p scope env places) ms v k.τ) (holds : Holds P (inside k.p scope env places) g ms s w t)
      (back : (g3 : Holdings) (ms3 : List Ty) (s3 : SourceWorld) (w3 : World) (t3 : Temps) → Holds P (inside k.p scope env places) g3 ms3 s3 w3 t3 → Holds P k.p g3 ms3 s3 w3 t3) →
      own_decs k.p.scene.level rest (levels_of env.entries) ≡ own_decs k.p.scene.level d (levels_of k.p.env.entries) →
      Opened n (stands_inside n k scope v env places g ms s w t k.r (omega arith) gg ee loop ready holds back) rest inner u env2 places2 g2 ms2 s2 w2 t2 →
      Opened n k d inner u env2 places2 g2 ms2 s2 w2 t2
  opened_further n k d rest scope inner v u env env2 places places2 g g2 ms ms2 s s2 w w2 t t2 gg ee loop ready holds back levels x = record {
    grows = grows_on k.h g g2 gg x.grows;
    extends = extends_on k.types ms ms2 ee x.extends;
    ready = x.ready;
    holds = x.holds;
    back = λ g3 ms3 s3 w3 t3 hh. back g3 ms3 s3 w3 t3 (x.back g3 ms3 s3 w3 t3 hh);
    plain = x.plain;
    levels = x.levels ∙ levels;
    in_loop = x.in_loop ∙ loop;
  }

  -- What is asked of groups of functions.
  pub record Groups : Type 0 where
    pub done : GroupsAreDone
    pub grows :
        (fs : FunDecs) (within : Within) (s u v : TranslationState) (a b : Unit {0}) → declare_functions within.level fs s ≡ drawn a u →
        bodies P.findings fs s.label within u ≡ drawn b v → Later s v

  -- states grow over declarations

  declaration_later : (within : Within) (x : Ident) (e : Exp) (s : TranslationState) (one : Ts) (u : TranslationState) →
      declaration_of P.findings.escapes within.level (at_of x) (λ v o. expression P.findings e v within o) s ≡ drawn one u → Later s u
  declaration_later within x e s one u made = by (P.findings.escapes (at_of x)) made
    where
      by : (b : Bool) → declaration_of (λ _. b) within.level (at_of x) (λ v o. expression P.findings e v within o) s ≡ drawn one u → Later s u
      by true h =
          let s1 : TranslationState = record s { homes = (at_of x, record { level = within.level; access = InFrame s.frame.slots }) ∷ s.homes; frame = one_slot s.frame } in
          let i1 = after_inv (expression P.findings e want.Value within s1) _ one u h in
          let i2 = after_inv (value_of i1.0 i1.1) _ one u i1.3 in
          let first : Later s s1 = record {
            temps = omega arith;
            slots = omega arith;
            homes = record { more = (at_of x, record { level = within.level; access = InFrame s.frame.slots }) ∷ []; whole_is = refl };
            callees = behind_none;
            literals = front_none;
            functions = front_none;
          } in
          later_on s s1 u first (later_on s1 i1.1 u (grow e want.Value within i1.0 s1 i1.1 i1.2) (subst (λ o. Later i1.1 o) (ap state_in i2.3) (later_value i1.0 i1.1 i2.1 i2.0 i2.2)))
      by false h =
          let i : ℕ = s.frame.temps in
          let s1 : TranslationState = record s { homes = (at_of x, record { level = within.level; access = InTemp (record { 0 = i }) }) ∷ s.homes; frame = one_temp s.frame } in
          let i1 = after_inv (expression P.findings e (want.Into (record { 0 = i })) within s1) _ one u h in
          let first : Later s s1 = record {
            temps = omega arith;
            slots = omega arith;
            homes = record { more = (at_of x, record { level = within.level; access = InTemp (record { 0 = i }) }) ∷ []; whole_is = refl };
            callees = behind_none;
            literals = front_none;
            functions = front_none;
          } in
          later_on s s1 u first (subst (λ o. Later s1 o) (ap state_in i1.3) (grow e (want.Into (record { 0 = i })) within i1.0 s1 i1.1 i1.2))

  pub decs_later : Groups → (within : Within) (ds : Decs) (s : TranslationState) (ss : Stms) (t : TranslationState) → DecsMade P within ds s ss t → Later s t
  decs_later groups _ _ _ _ _ (no_more within s t e) = subst (λ o. Later s o) e (later_none s)
  decs_later groups _ _ _ _ _ (some_types within ts rest s ss t made) = decs_later groups within rest s ss t made
  decs_later groups _ _ _ _ _ (a_variable within x kind e rest s one u ss t first made) = later_on s u t (declaration_later within x e s one u first) (decs_later groups within rest u ss t made)
  decs_later groups _ _ _ _ _ (some_functions within fs rest s u v a b ss t d e made) = later_on s v t (groups.grows fs within s u v a b d e) (decs_later groups within rest v ss t made)

  pub decs_end : (scope inner : Scope) → HasDecs P.shapes P.notes no_decs scope inner → inner ≡ scope
  decs_end scope inner has.end_decs = refl

  -- Declarations, from the first on.
  pub declare_all : Groups → (n : ℕ) (k : Standing P set grow n) (ds : Decs) (inner : Scope) (ss : Stms) (u : TranslationState) → DecsMade P k.p.within ds k.σ ss u → HasDecs P.shapes P.notes ds k.p.scope inner →
      DecsShown P n ds → DecsOfWords ds → CoversDecs P.findings P.table P.weight k.p.scene.level k.p.scene.keeps (levels_of k.p.env.entries) ds →
      ((i place z : ℕ) → k.p.places (temporary k.p.scene.depth i) ≢ kept place z) → Later u k.τ → (go : Env → Rest) (next : Next) → OpenedOnward n k ds inner u go next →
      FollowsHere P k.r n (rest_run (declares ds k.p.env go k.out) k.s) (statements_run P k.p ss k.p.around next k.w k.t)
  declare_all groups n k _ inner _ u (no_more _ _ _ same) typed shown words covers plain last go next onward =
      (subst (λ o. OpenedOnward n k no_decs o k.σ go next) (decs_end k.p.scope inner typed) (subst (λ o. OpenedOnward n k no_decs inner o go next) (sym same) onward)) k.p.env k.p.places k.h k.types k.s k.w k.t
      (record {
        grows = grows_none k.h;
        extends = extends_none k.types;
        ready = names_ready k.p k.types k.σ k.τ k.ready;
        holds = same_holds k.p k.p.scope k.p.env k.h k.types k.s k.w k.t k.holds;
        back = λ g3 ms3 s3 w3 t3 hh. same_back k.p k.p.scope k.p.env g3 ms3 s3 w3 t3 hh;
        plain = plain;
        levels = refl;
        in_loop = refl;
      })
  declare_all groups n k _ inner _ u (some_types _ ts rest _ ss _ made) (has.type_names names typed) shown words covers plain last go next onward =
      let scope : Scope = record k.p.scope { types = names } in
      let ready : IsReady P (inside k.p scope k.p.env k.p.places) k.types k.σ k.τ = types_ready k.p names k.types k.σ k.τ k.ready in
      let hh : Holds P (inside k.p scope k.p.env k.p.places) k.h k.types k.s k.w k.t = same_holds k.p scope k.p.env k.h k.types k.s k.w k.t k.holds in
      let back : (g3 : Holdings) (ms3 : List Ty) (s3 : SourceWorld) (w3 : World) (t3 : Temps) → Holds P (inside k.p scope k.p.env k.p.places) g3 ms3 s3 w3 t3 → Holds P k.p g3 ms3 s3 w3 t3 =
      λ g3 ms3 s3 w3 t3 h3. same_back k.p scope k.p.env g3 ms3 s3 w3 t3 h3 in
      let source : Run Source = rest_run (declares rest k.p.env go k.out) k.s in
      let target : Run Ran = statements_run P k.p ss k.p.around next k.w k.t in
      follows_paying P.stack tree_work k.r n (length ts) source target
      (more P k.r (k.r + tree_work * length ts) n source target (omega arith)
      (declare_all groups n
      (stands_inside n k scope k.σ k.p.env k.p.places k.h k.types k.s k.w k.t k.r (omega arith) (grows_none k.h) (extends_none k.types) refl ready hh back)
      rest inner ss u made typed shown words covers plain last go next
      (λ env2 places2 g2 ms2 s2 w2 t2 o.
      onward env2 places2 g2 ms2 s2 w2 t2
      (opened_further n k (types ts rest) rest scope inner k.σ u k.p.env env2 k.p.places places2 k.h g2 k.types ms2 k.s s2 k.w w2 k.t t2 (grows_none k.h) (extends_none k.types) refl ready hh back refl o))))
  declare_all groups n k _ inner _ u (a_variable _ x kind e rest _ one σ1 ss _ first made) (has.variables ty from values he fits typed) shown words covers plain last go next onward =
      let scope : Scope = binding x (variable_at (at_of x) ty false) k.p.scope in
      let level : ℕ = k.p.scene.level in
      let last1 : Later σ1 k.τ = later_on σ1 u k.τ (decs_later groups k.p.within rest σ1 ss u made) last in
      declared_follows P set grow n k x e ty from false values fits shown.0 he words.0 covers.0 (inr plain) one σ1 first last1
      (λ place. declares rest (with_variable (name_of x) place k.p.env) go k.out)
      (λ w1 t1. statements_run P k.p ss k.p.around next w1 t1)
      (λ place key g ms s w t d.
      let env : Env = with_variable (name_of x) place k.p.env in
      let places : Places = put_place key (variable place) k.p.places in
      let same : k.p.env.level ≡ level = k.ready.same_level in
      let seen_is : levels_of env.entries ≡ own level x (levels_of k.p.env.entries) = ap (λ o. record { name = name_of x; level = o } ∷ levels_of k.p.env.entries) same in
      declare_all groups n
      (stands_inside n k scope σ1 env places g ms s w t k.r (omega arith) d.grows d.extends refl d.ready d.holds d.back)
      rest inner ss u made typed shown.1 words.1
      (subst (λ o. CoversDecs P.findings P.table P.weight level k.p.scene.keeps o rest) (sym seen_is) covers.1)
      (λ i l z. by_key (temporary k.p.scene.depth i) key (λ c. c ≢ kept l z) (variable place) k.p.places (λ _ f. cc) (plain i l z)) last go next
      (λ env2 places2 g2 ms2 s2 w2 t2 o.
      onward env2 places2 g2 ms2 s2 w2 t2
      (opened_further n k (source.variable x kind e rest) rest scope inner σ1 u env env2 places places2 g g2 ms ms2 s s2 w w2 t t2 d.grows d.extends refl d.ready d.holds d.back
      (ap (λ o2. own_decs level rest o2) seen_is) o)))
  declare_all groups n k _ inner _ u (some_functions _ fs rest _ σ1 σ2 a b ss _ first second made) (has.group sigs apart bodies_typed typed) shown words covers plain last go next onward =
      let scope : Scope = with_functions fs sigs k.p.scope in
      let env : Env = with_group k.p.env fs in
      let level : ℕ = k.p.scene.level in
      let last2 : Later σ2 k.τ = later_on σ2 u k.τ (decs_later groups k.p.within rest σ2 ss u made) last in
      let q = groups.done n k fs sigs σ1 σ2 a b apart bodies_typed words.0 covers.0 first second last2 in
      let loop : scope.in_loop ≡ k.p.scope.in_loop = with_functions_loop fs sigs k.p.scope in
      let ready : IsReady P (inside k.p scope env k.p.places) k.types σ2 k.τ = functions_ready n k fs sigs σ2 q last2 in
      let hh : Holds P (inside k.p scope env k.p.places) k.h k.types k.s k.w k.t = same_holds k.p scope env k.h k.types k.s k.w k.t k.holds in
      let back : (g3 : Holdings) (ms3 : List Ty) (s3 : SourceWorld) (w3 : World) (t3 : Temps) → Holds P (inside k.p scope env k.p.places) g3 ms3 s3 w3 t3 → Holds P k.p g3 ms3 s3 w3 t3 =
      λ g3 ms3 s3 w3 t3 h3. same_back k.p scope env g3 ms3 s3 w3 t3 h3 in
      let seen_is : levels_of env.entries ≡ own_functions level fs (levels_of k.p.env.entries) = ap (λ o. own_functions o fs (levels_of k.p.env.entries)) k.ready.same_level in
      let source : Run Source = rest_run (declares rest env go k.out) k.s in
      let target : Run Ran = statements_run P k.p ss k.p.around next k.w k.t in
      follows_paying P.stack tree_work k.r n (function_count fs) source target
      (more P k.r (k.r + tree_work * function_count fs) n source target (omega arith)
      (declare_all groups n
      (stands_inside n k scope σ2 env k.p.places k.h k.types k.s k.w k.t k.r (omega arith) (grows_none k.h) (extends_none k.types) loop ready hh back)
      rest inner ss u made typed shown words.1
      (subst (λ o. CoversDecs P.findings P.table P.weight level k.p.scene.keeps o rest) (sym seen_is) covers.1) plain last go next
      (λ env2 places2 g2 ms2 s2 w2 t2 o.
      onward env2 places2 g2 ms2 s2 w2 t2
      (opened_further n k (functions fs rest) rest scope inner σ2 u env env2 k.p.places places2 k.h g2 k.types ms2 k.s s2 k.w w2 k.t t2 (grows_none k.h) (extends_none k.types) loop ready hh back
      (ap (λ o2. own_decs level rest o2) seen_is) o))))
