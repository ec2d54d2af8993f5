-- `let`: declarations, and then a sequence that sees them.
use Rattle.std.proofs.Common.{◌≡◌, ◌≢◌, ℕ, ◌+◌, ◌*◌, ◌<◌, ◌≤◌, List, [], ◌∷◌, Option, Some, Bool, true, false, refl, sym, ap, ◌∙◌, arith, subst, inl, inr}
use Rattle.std.specs.Prelude.{length, ◌⊎◌}
use Rattle.tg_base.specs.declared.ids.Span.{Span}
use Rattle.tg_syntax.specs.OfWords.{DecsOfWords}
use Rattle.tg_syntax.specs.Functions.{own_functions, own_decs}
use Rattle.tg_syntax.specs.Tree.{Exp, Let, Exps, no_exps, Decs, no_decs, types, functions}
use Rattle.tg_simulation.specs.Runs.{Run}
use Rattle.tg_simulation.specs.Ran.{Ran}
use Rattle.tg_simulation.specs.Agreement.{Source}
use Rattle.tg_simulation.proofs.Following.{follows_paying}
use Rattle.tg_semantics.specs.Values.{Value, nothing, SourceWorld, Env}
use Rattle.tg_semantics.specs.Evaluation.{function_count}
use Rattle.tg_semantics.specs.Levels.{levels_of}
use Rattle.tg_semantics.specs.Passing.{Rest}
use Rattle.tg_semantics.specs.MachineRuns.{rest_run}
use Rattle.tg_typecheck.specs.Types.{Ty, none_type}
use Rattle.tg_typecheck.specs.Scopes.{Scope}
use Rattle.tg_typecheck.specs.Groups.{with_functions}
use Rattle.tg_typecheck.specs.Has as has
use Rattle.tg_typecheck.specs.Has.{Has, HasDecs, HasLast}
use Rattle.tg_tree.specs.Tree.{Tx, Const, Address, Temp, FrameAddress, Binary, Load, LoadByte, Call, Service, After, Ts, Stms, no_stms, stm}
use Rattle.tg_tree.specs.Units.{Trees}
use Rattle.tg_tree.specs.glue.Lists.{join_stms}
use Rattle.tg_tree.proofs.Alikes.{runs_in_turn}
use Rattle.tg_tree.specs.Actions.{World, Temps, set_temp, Go, Next}
use Rattle.tg_tree.specs.Actions as actions
use Rattle.tg_translate.specs.declared.wants.Want.{Want}
use Rattle.tg_translate.specs.declared.wants.Want.TheVariants as want
use Rattle.tg_translate.specs.mirror.States.{TranslationState, drawn}
use Rattle.tg_translate.specs.mirror.Wants.{Made, value, done, test, value_of, put_in, dropped, behind}
use Rattle.tg_translate.specs.mirror.Translate.{declarations, sequence}
use Rattle.tg_correctness.specs.laws.Laws.{tree_work}
use Rattle.tg_translate_proof.specs.glue.Covered.{CoversDecs, CoversExps}
use Rattle.tg_translate_proof.specs.glue.Tables.{Later}
use Rattle.tg_translate_proof.specs.glue.Worlds.{Holdings, Stands, GrowsTo, Places, temporary, kept}
use Rattle.tg_translate_proof.specs.glue.Situations.{Program, Part, Setting, Holds, MayAssign, Extends, value_runs, test_runs, statement_runs, statements_run}
use Rattle.tg_translate_proof.specs.glue.Situations.{calling, heads, frames_at}
use Rattle.tg_translate_proof.specs.glue.Shown.{IsShown, Situation, IsWantable, IsWanted, IsLeft, IsTold, IsNamed, FollowsHere, Onward, left_over, put_where}
use Rattle.tg_translate_proof.proofs.state.TranslationStates.{made_in, state_in, after_inv, later_none, later_on}
use Rattle.tg_translate_proof.proofs.invariant.Cases.{by_made, grows_none, grows_on}
use Rattle.tg_translate_proof.proofs.invariant.Parts.{StatesGrow, more, extends_none, extends_on}
use Rattle.tg_translate_proof.proofs.invariant.Asked.{Standing}
use Rattle.tg_translate_proof.proofs.expressions.SeqInTurn.{AllShown, SequenceFollows, MadeWithin, AskedAll, MadeInTurn, made_in_turn, in_turn_grows, sequence_follows, evaluates_all}
use Rattle.tg_translate_proof.proofs.expressions.Seq.{delivered, begins_at, behind_later}
use Rattle.tg_translate_proof.proofs.program.VariableDeclaration.{inside}
use Rattle.tg_translate_proof.proofs.program.Declarations.{DecsMade, no_more, some_types, a_variable, some_functions, decs_made, decs_later, DecsShown, Groups}
use Rattle.tg_translate_proof.proofs.program.Declarations.{Opened, opened_further, stands_inside, declares, declare_all, names_ready, types_ready}
use Rattle.tg_translate_proof.proofs.program.Declarations.{functions_ready, with_group, with_functions_loop, same_holds, same_back, decs_end}

no_statement : (s : Ts) (ss : Stms) → stm s ss ≡ no_stms → ⊥
no_statement s ss e = cc

join_none : (a b : Stms) → join_stms a b ≡ no_stms → (a ≡ no_stms) × (b ≡ no_stms)
join_none no_stms b e = (refl, e)
join_none (stm s ss) b e = absurd (no_statement s (join_stms ss b) e)

module _ (P : Program) where
  -- statements after others
  pub joined_runs : (p : Part) (a b : Stms) (next : Next) (w : World) (t : Temps) →
      statements_run P p (join_stms a b) p.around next w t ≡ statements_run P p a p.around (λ w1 t1. statements_run P p b p.around next w1 t1) w t
  joined_runs p a b next w t =
      ap (λ (m : actions.Acts Next). m p.around next w t) (runs_in_turn Trees P.heap P.code.literals (calling P (frames_at P p)) (heads P (frames_at P p)) a b)

  -- whatever is followed from one run on is followed from another
  abbrev pub Leads : (n : ℕ) (from to : Run Source) → Type 0
  Leads n from to = (q : ℕ) (d : Run Ran) → FollowsHere P q n from d → FollowsHere P q n to d

  named_led : (n r : ℕ) (p : Part) (scope : Scope) (env : Env) (s : SourceWorld) (go : Value → Rest) (from to : Run Source) (m : Made) → Leads n from to →
      IsNamed P n r (inside p scope env p.places) s go from m → IsNamed P n r p s go to m
  named_led n r p scope env s go from to (value (Temp i)) leads x = record { place = x.place; is_of = x.is_of; v = x.v; has = x.has; pays = λ d f. leads r d (x.pays d f) }
  named_led n r p scope env s go from to (value (Const k)) leads x = tt
  named_led n r p scope env s go from to (value (Address k)) leads x = tt
  named_led n r p scope env s go from to (value FrameAddress) leads x = tt
  named_led n r p scope env s go from to (value (Binary o a b)) leads x = tt
  named_led n r p scope env s go from to (value (Load a)) leads x = tt
  named_led n r p scope env s go from to (value (LoadByte a)) leads x = tt
  named_led n r p scope env s go from to (value (Call l a)) leads x = tt
  named_led n r p scope env s go from to (value (Service k a)) leads x = tt
  named_led n r p scope env s go from to (value (After k a)) leads x = tt
  named_led n r p scope env s go from to (done y) leads x = tt
  named_led n r p scope env s go from to (test c) leads x = tt

  -- what comes next, from a part that sees more
  onward_inside : {A : Type 0} (n r : ℕ) (p q : Part) (h g : Holdings) (ts ms : List Ty) (stands : Holdings → Value → A → Type 0) (go : Value → Rest) (go' : Go A) → GrowsTo h g → Extends ts ms →
      ((g3 : Holdings) (ms3 : List Ty) (s3 : SourceWorld) (w3 : World) (t3 : Temps) → Holds P q g3 ms3 s3 w3 t3 → Holds P p g3 ms3 s3 w3 t3) →
      Onward P n r p h ts stands go go' → Onward P n r q g ms stands go go'
  onward_inside n r p q h g ts ms stands go go' gg ee back onward g2 ms2 v u s2 w2 t2 gg2 ee2 hh2 st =
      onward g2 ms2 v u s2 w2 t2 (grows_on h g g2 gg gg2) (extends_on ts ms ms2 ee ee2) (back g2 ms2 s2 w2 t2 hh2) st

  made_led : (n low high : ℕ) (p : Part) (scope : Scope) (env : Env) (h : Holdings) (ts : List Ty) (wanted : Want) (ty : Ty) (go : Value → Rest) (from to : Run Source) (w : World) (t : Temps) (m : Made) → Leads n from to →
      ((g3 : Holdings) (ms3 : List Ty) (s3 : SourceWorld) (w3 : World) (t3 : Temps) → Holds P (inside p scope env p.places) g3 ms3 s3 w3 t3 → Holds P p g3 ms3 s3 w3 t3) →
      MadeWithin P n low high (inside p scope env p.places) h ts wanted ty go from w t m → MadeWithin P n low high p h ts wanted ty go to w t m
  made_led n low high p scope env h ts wanted ty go from to w t (value x) leads back f = λ go' onward.
      leads high _ (f go' (onward_inside n low p (inside p scope env p.places) h h ts ts (λ g v u. IsWanted g wanted v ty u) go go' (grows_none h) (extends_none ts) back onward))
  made_led n low high p scope env h ts wanted ty go from to w t (done x) leads back f = λ next onward.
      leads high _ (f next (onward_inside n low p (inside p scope env p.places) h h ts ts (λ g v u. IsLeft g wanted v ty u) go (λ u w1 t1. next w1 (put_where wanted u t1)) (grows_none h) (extends_none ts) back onward))
  made_led n low high p scope env h ts wanted ty go from to w t (test c) leads back f = λ go' onward.
      leads high _ (f go' (onward_inside n low p (inside p scope env p.places) h h ts ts (λ g v b. IsTold wanted v ty b) go go' (grows_none h) (extends_none ts) back onward))

module _ (P : Program) (set : Setting P) (grow : StatesGrow P) (groups : Groups P set grow) where
  -- Declarations of types and functions alone, which do nothing.
  pub record Quiet (n : ℕ) (k : Standing P set grow n) (ds : Decs) (inner : Scope) (u : TranslationState) : Type 0 where
    pub env : Env
    pub opened : Opened P set grow n k ds inner u env k.p.places k.h k.types k.s k.w k.t
    pub leads : (go : Env → Rest) → Leads P n (rest_run (go env) k.s) (rest_run (declares P set grow ds k.p.env go k.out) k.s)

  quiet : (n : ℕ) (k : Standing P set grow n) (ds : Decs) (inner : Scope) (ss : Stms) (u : TranslationState) → DecsMade P k.p.within ds k.σ ss u → ss ≡ no_stms → HasDecs P.shapes P.notes ds k.p.scope inner →
      DecsOfWords ds → CoversDecs P.findings P.table P.weight k.p.scene.level k.p.scene.keeps (levels_of k.p.env.entries) ds →
      ((i place z : ℕ) → k.p.places (temporary k.p.scene.depth i) ≢ kept place z) → Later u k.τ → Quiet n k ds inner u
  quiet n k _ inner _ u (no_more _ _ _ same) none typed words covers plain last =
      subst (λ o. Quiet n k no_decs o u) (sym (decs_end P set grow k.p.scope inner typed)) (subst (λ o. Quiet n k no_decs k.p.scope o) same
      (record {
        env = k.p.env;
        opened = record {
          grows = grows_none k.h;
          extends = extends_none k.types;
          ready = names_ready P set grow k.p k.types k.σ k.τ k.ready;
          holds = same_holds P set grow k.p k.p.scope k.p.env k.h k.types k.s k.w k.t k.holds;
          back = λ g3 ms3 s3 w3 t3 hh. same_back P set grow k.p k.p.scope k.p.env g3 ms3 s3 w3 t3 hh;
          plain = plain;
          levels = refl;
          in_loop = refl;
        };
        leads = λ go q d f. f;
      }))
  quiet n k _ inner _ u (some_types _ ts rest _ ss _ made) none (has.type_names names typed) words covers plain last =
      let scope : Scope = record k.p.scope { types = names } in
      let ready = types_ready P set grow k.p names k.types k.σ k.τ k.ready in
      let hh : Holds P (inside k.p scope k.p.env k.p.places) k.h k.types k.s k.w k.t = same_holds P set grow k.p scope k.p.env k.h k.types k.s k.w k.t k.holds in
      let back : (g3 : Holdings) (ms3 : List Ty) (s3 : SourceWorld) (w3 : World) (t3 : Temps) → Holds P (inside k.p scope k.p.env k.p.places) g3 ms3 s3 w3 t3 → Holds P k.p g3 ms3 s3 w3 t3 =
      λ g3 ms3 s3 w3 t3 h3. same_back P set grow k.p scope k.p.env g3 ms3 s3 w3 t3 h3 in
      let x = quiet n (stands_inside P set grow n k scope k.σ k.p.env k.p.places k.h k.types k.s k.w k.t k.r (omega arith) (grows_none k.h) (extends_none k.types) refl ready hh back) rest inner ss u made none typed words covers plain last in
      record {
        env = x.env;
        opened = opened_further P set grow n k (types ts rest) rest scope inner k.σ u k.p.env x.env k.p.places k.p.places k.h k.h k.types k.types k.s k.s k.w k.w k.t k.t (grows_none k.h) (extends_none k.types) refl ready hh back refl x.opened;
        leads = λ go q d f.
            follows_paying P.stack tree_work q n (length ts) (rest_run (declares P set grow rest k.p.env go k.out) k.s) d
            (more P q (q + tree_work * length ts) n (rest_run (declares P set grow rest k.p.env go k.out) k.s) d (omega arith) (x.leads go q d f));
      }
  quiet n k _ inner _ u (a_variable _ x kind e rest _ one σ1 ss _ first made) none typed words covers plain last = absurd (no_statement one ss none)
  quiet n k _ inner _ u (some_functions _ fs rest _ σ1 σ2 a b ss _ first second made) none (has.group sigs apart bodies_typed typed) words covers plain last =
      let scope : Scope = with_functions fs sigs k.p.scope in
      let env : Env = with_group P set grow k.p.env fs in
      let level : ℕ = k.p.scene.level in
      let last2 : Later σ2 k.τ = later_on σ2 u k.τ (decs_later P set grow groups k.p.within rest σ2 ss u made) last in
      let q = groups.done n k fs sigs σ1 σ2 a b apart bodies_typed words.0 covers.0 first second last2 in
      let loop : scope.in_loop ≡ k.p.scope.in_loop = with_functions_loop P set grow fs sigs k.p.scope in
      let ready = functions_ready P set grow n k fs sigs σ2 q last2 in
      let hh : Holds P (inside k.p scope env k.p.places) k.h k.types k.s k.w k.t = same_holds P set grow k.p scope env k.h k.types k.s k.w k.t k.holds in
      let back : (g3 : Holdings) (ms3 : List Ty) (s3 : SourceWorld) (w3 : World) (t3 : Temps) → Holds P (inside k.p scope env k.p.places) g3 ms3 s3 w3 t3 → Holds P k.p g3 ms3 s3 w3 t3 =
      λ g3 ms3 s3 w3 t3 h3. same_back P set grow k.p scope env g3 ms3 s3 w3 t3 h3 in
      let seen_is : levels_of env.entries ≡ own_functions level fs (levels_of k.p.env.entries) = ap (λ o. own_functions o fs (levels_of k.p.env.entries)) k.ready.same_level in
      let x = quiet n (stands_inside P set grow n k scope σ2 env k.p.places k.h k.types k.s k.w k.t k.r (omega arith) (grows_none k.h) (extends_none k.types) loop ready hh back) rest inner ss u made none typed words.1
      (subst (λ o. CoversDecs P.findings P.table P.weight level k.p.scene.keeps o rest) (sym seen_is) covers.1) plain last in
      record {
        env = x.env;
        opened = opened_further P set grow n k (functions fs rest) rest scope inner σ2 u env x.env k.p.places k.p.places k.h k.h k.types k.types k.s k.s k.w k.w k.t k.t (grows_none k.h) (extends_none k.types) loop ready hh back
            (ap (λ o2. own_decs level rest o2) seen_is) x.opened;
        leads = λ go q d f.
            follows_paying P.stack tree_work q n (function_count fs) (rest_run (declares P set grow rest env go k.out) k.s) d
            (more P q (q + tree_work * function_count fs) n (rest_run (declares P set grow rest env go k.out) k.s) d (omega arith) (x.leads go q d f));
      }

  -- A block.
  module _ (n : ℕ) (sp : Span) (ds : Decs) (es : Exps) (decs_shown : DecsShown P n ds) (exps_shown : AllShown P n es) (x : Situation P n (Let sp ds es)) where
    abbrev E : Exp
    E = Let sp ds es

    pub record LetTyped : Type 0 where
      pub inner : Scope
      pub decs : HasDecs P.shapes P.notes ds x.p.scope inner
      pub body : HasLast P.shapes P.notes none_type es inner x.ty

    let_typed : LetTyped
    let_typed = by x.typed
      where
        by : Has P.shapes P.notes (Let sp ds es) x.p.scope x.ty → LetTyped
        by (has.block inner decs body) = record { inner = inner; decs = decs; body = body }

    plain : (j place u : ℕ) → x.p.places (temporary x.p.scene.depth j) ≢ kept place u
    plain = by x.may_assign
      where
        by : MayAssign P x.p (Let sp ds es) → (j place u : ℕ) → x.p.places (temporary x.p.scene.depth j) ≢ kept place u
        by (inl f) = cc
        by (inr f) = f

    abbrev k0 : Standing P set grow n
    k0 = begins_at P set grow n E x (x.r + 190) (omega arith)

    -- four units more, for what the sequence spends
    abbrev kd : Standing P set grow n
    kd = begins_at P set grow n E x (x.r + 190 + 4) (omega arith)

    abbrev body_of : Env → Rest
    body_of env = evaluates_all P set grow nothing es env x.go x.out

    abbrev start : Run Source
    start = rest_run (declares P set grow ds x.p.env body_of x.out) x.s

    block_follows : (dss ss : Stms) (σ1 : TranslationState) (m : Made) (τ : TranslationState) → DecsMade P x.p.within ds x.σ dss σ1 → MadeInTurn P x.wanted x.p.within es σ1 ss m τ → Later τ x.τ →
        SequenceFollows P set grow n k0 x.wanted x.ty x.go start (join_stms dss ss) m τ
    block_follows dss ss σ1 m τ made turn last =
        let l1 : Later σ1 x.τ = later_on σ1 τ x.τ (in_turn_grows P grow x.wanted x.p.within es σ1 ss m τ turn) last in
        let inner_follows : (env : Env) (places : Places) (g : Holdings) (ms : List Ty) (s : SourceWorld) (w : World) (t : Temps) (o : Opened P set grow n kd ds let_typed.inner σ1 env places g ms s w t) →
        SequenceFollows P set grow n (stands_inside P set grow n k0 let_typed.inner σ1 env places g ms s w t (x.r + 190) (omega arith) o.grows o.extends o.in_loop o.ready o.holds o.back) x.wanted x.ty x.go (rest_run (body_of env) s) ss m τ =
        λ env places g ms s w t o.
        sequence_follows P set grow n x.wanted (stands_inside P set grow n k0 let_typed.inner σ1 env places g ms s w t (x.r + 190) (omega arith) o.grows o.extends o.in_loop o.ready o.holds o.back) es none_type x.ty nothing ss m τ x.go (λ e. (refl, refl))
        (record {
          shown = exps_shown;
          typed = let_typed.body;
          words = x.words.1;
          covers = subst (λ z. CoversExps P.findings P.table P.weight x.p.scene.level x.p.scene.keeps z es) (sym o.levels) x.covers.1;
          may_assign = inr o.plain;
        }) turn last in
        let through : (next : Next) → ((env : Env) (places : Places) (g : Holdings) (ms : List Ty) (s : SourceWorld) (w : World) (t : Temps) → Opened P set grow n kd ds let_typed.inner σ1 env places g ms s w t →
        FollowsHere P (x.r + 190 + 4) n (rest_run (body_of env) s) (statements_run P x.p ss x.p.around next w t)) → FollowsHere P (x.r + 190 + 4) n start (statements_run P x.p (join_stms dss ss) x.p.around next x.w x.t) =
        λ next f.
        subst (λ z. FollowsHere P (x.r + 190 + 4) n start z) (sym (joined_runs P x.p dss ss next x.w x.t))
        (declare_all P set grow groups n kd ds let_typed.inner dss σ1 made let_typed.decs decs_shown x.words.0 x.covers.0 plain l1 body_of (λ w1 t1. statements_run P x.p ss x.p.around next w1 t1) f) in
        let still : dss ≡ no_stms → Quiet n kd ds let_typed.inner σ1 = λ none. quiet n kd ds let_typed.inner dss σ1 made none let_typed.decs x.words.0 x.covers.0 plain l1 in
        record {
          last = last;
          named = λ none able.
              let parts = join_none dss ss none in
              let q = still parts.0 in
              named_led P n (x.r + 190) x.p let_typed.inner q.env x.s x.go (rest_run (body_of q.env) x.s) start m (q.leads body_of)
              ((inner_follows q.env x.p.places x.h x.types x.s x.w x.t q.opened).named parts.1 able);
          by_itself = λ none able.
              let parts = join_none dss ss none in
              let q = still parts.0 in
              made_led P n (x.r + 190) (x.r + 190 + 4) x.p let_typed.inner q.env x.h x.types x.wanted x.ty x.go (rest_run (body_of q.env) x.s) start x.w x.t m (q.leads body_of) q.opened.back
              ((inner_follows q.env x.p.places x.h x.types x.s x.w x.t q.opened).by_itself parts.1 able);
          by_value = λ loose able y u made_y l go' onward.
              through (λ w1 t1. value_runs P x.p y x.p.around go' w1 t1)
              (λ env places g ms s w t o.
              (inner_follows env places g ms s w t o).by_value loose able y u made_y l go'
              (onward_inside P n (x.r + 190) x.p (inside x.p let_typed.inner env places) x.h g x.types ms (λ g3 v z. IsWanted g3 x.wanted v x.ty z) x.go go' o.grows o.extends o.back onward));
          by_arm = λ i is able next onward.
              through (λ w1 t1. statement_runs P x.p (put_in i m) x.p.around next w1 t1)
              (λ env places g ms s w t o.
              (inner_follows env places g ms s w t o).by_arm i is able next
              (onward_inside P n (x.r + 190) x.p (inside x.p let_typed.inner env places) x.h g x.types ms (λ g3 v z. Stands g3 v x.ty z) x.go (λ u w1 t1. next w1 (set_temp i u t1)) o.grows o.extends o.back onward));
          by_drop = λ is next onward.
              through (λ w1 t1. statement_runs P x.p (dropped m) x.p.around next w1 t1)
              (λ env places g ms s w t o.
              (inner_follows env places g ms s w t o).by_drop is next
              (onward_inside P n (x.r + 190) x.p (inside x.p let_typed.inner env places) x.h g x.types ms (λ g3 v z. Unit {0}) x.go (λ u w1 t1. next w1 t1) o.grows o.extends o.back onward));
        }

    pub let_shown : IsShown P n E x
    let_shown =
        let i = after_inv (declarations P.findings ds no_stms x.p.within x.σ) _ x.m x.τ x.is_made in
        let made = decs_made P x.p.within ds no_stms x.σ i.0 i.1 i.2 in
        let j = after_inv (sequence P.findings es x.wanted i.0 x.p.within i.1) _ x.m x.τ i.3 in
        let turn = made_in_turn P x.p.within x.wanted es i.0 i.1 j.0 j.1 j.2 in
        let all : j.0.before ≡ join_stms made.0 turn.0 = turn.1 ∙ ap (λ o. join_stms o turn.0) made.1 in
        let whole : behind x.wanted (join_stms made.0 turn.0) j.0.last j.1 ≡ drawn x.m x.τ = ap (λ o. behind x.wanted o j.0.last j.1) (sym all) ∙ j.3 in
        let last : Later j.1 x.τ = behind_later x.wanted (join_stms made.0 turn.0) j.0.last j.1 x.τ x.m whole in
        let d = delivered P set grow n x.r k0 (omega arith) (omega arith) x.wanted x.ty x.go start j.0.last j.1 x.τ x.m x.wantable (later_none x.τ) (join_stms made.0 turn.0)
        (block_follows made.0 turn.0 i.1 j.0.last j.1 made.2 turn.2 last) whole in
        by_made P n E x x.m x.τ refl d.named d.follows
