-- Expressions one after another: all but the last are dropped, and the last is what its place wants.
use Rattle.std.proofs.Common.{◌≡◌, ◌≢◌, ℕ, ◌+◌, ◌<◌, ◌≤◌, List, Option, Some, Bool, true, false, refl, sym, ap, ◌∙◌, arith, subst, inl, inr}
use Rattle.std.specs.Prelude.{◌⊎◌, ◌&&◌}
use Rattle.tg_base.specs.declared.ids.Span.{Span}
use Rattle.tg_syntax.specs.OfWords.{OfWords, ExpsOfWords}
use Rattle.tg_syntax.specs.Tree.{Exp, Seq, Exps, no_exps, exp}
use Rattle.tg_simulation.specs.Runs.{Run}
use Rattle.tg_simulation.specs.Ran.{Ran, works}
use Rattle.tg_simulation.specs.Agreement.{Source}
use Rattle.tg_semantics.specs.Values.{Value, nothing, SourceWorld, Env}
use Rattle.tg_semantics.specs.Passing.{Rest, Passing, passing}
use Rattle.tg_semantics.specs.Evaluation as evaluation
use Rattle.tg_semantics.specs.MachineRuns.{rest_run}
use Rattle.tg_semantics.specs.laws.Laws.{behind}
use Rattle.tg_semantics.specs.Levels.{levels_of}
use Rattle.tg_typecheck.specs.Types.{Ty, int_type, none_type}
use Rattle.tg_typecheck.specs.Has as has
use Rattle.tg_typecheck.specs.Has.{Has, HasLast}
use Rattle.tg_tree.specs.Tree as tree
use Rattle.tg_tree.specs.Tree.{Tx, Const, Ts, Stms, no_stms, stm}
use Rattle.tg_tree.specs.glue.Lists.{join_stms}
use Rattle.tg_tree.proofs.ListLaws.{join_stms-none, join_stms-assoc}
use Rattle.tg_tree.specs.Actions.{World, Temps, set_temp, Go, Next}
use Rattle.tg_translate.specs.declared.homes.Within.{Within}
use Rattle.tg_translate.specs.declared.wants.Want.{Want}
use Rattle.tg_translate.specs.declared.wants.Want.TheVariants as want
use Rattle.tg_translate.specs.mirror.States.{TranslationState, drawn, after}
use Rattle.tg_translate.specs.mirror.Wants.{Made, value, done, test, value_of, put_in, dropped, followed, statement_from}
use Rattle.tg_translate.specs.mirror.Purity.{assigns_nothing, all_assign_nothing}
use Rattle.tg_translate.specs.mirror.Translate.{expression, sequence, Begun}
use Rattle.tg_translate_proof.specs.glue.Covered.{CoversExps}
use Rattle.tg_translate_proof.specs.glue.Tables.{Later}
use Rattle.tg_translate_proof.specs.glue.Worlds.{Holdings, Stands, GrowsTo, temporary, kept}
use Rattle.tg_translate_proof.specs.glue.Situations.{Program, Part, Setting, Holds, IsReady, MayAssign, Extends, value_runs, test_runs, statement_runs}
use Rattle.tg_translate_proof.specs.glue.Situations.{statements_run}
use Rattle.tg_translate_proof.specs.glue.Shown.{Shown, IsWantable, IsWanted, IsLeft, IsTold, IsNamed, FollowsHere, Onward, MadeFollows, left_over, evaluates}
use Rattle.tg_translate_proof.specs.glue.Shown.{put_where}
use Rattle.tg_translate_proof.proofs.state.TranslationStates.{made_in, state_in, after_inv, later_none, later_on}
use Rattle.tg_translate_proof.proofs.invariant.Cases.{worked, grows_none, grows_on, IsLoose}
use Rattle.tg_translate_proof.proofs.invariant.Parts.{StatesGrow, more, extends_none, extends_on, ready_part}
use Rattle.tg_translate_proof.proofs.expressions.BinarySides.{both_true}
use Rattle.tg_translate_proof.proofs.invariant.Asked.{Standing, Asked, asked_named, asked_made, asked_value, asked_arm, asked_dropped}

-- nothing of the activation is kept while they are evaluated, or they assign nothing
abbrev pub AllMayAssign : Part → Exps → Type 0
AllMayAssign p es =
    (all_assign_nothing es ≡ true) ⊎ ((i place u : ℕ) → p.places (temporary p.scene.depth i) ≢ kept place u)

-- a law on each of some expressions
abbrev pub AllShown : Program → ℕ → Exps → Type 0
AllShown P n no_exps = Unit {0}
AllShown P n (exp e rest) = Shown P n e × AllShown P n rest

pub may_first : (P : Program) (p : Part) (e : Exp) (rest : Exps) → AllMayAssign p (exp e rest) → MayAssign P p e
may_first P p e rest (inl x) = inl (both_true (assigns_nothing e) (all_assign_nothing rest) x).0
may_first P p e rest (inr f) = inr f

pub may_rest : (p : Part) (e : Exp) (rest : Exps) → AllMayAssign p (exp e rest) → AllMayAssign p rest
may_rest p e rest (inl x) = inl (both_true (assigns_nothing e) (all_assign_nothing rest) x).1
may_rest p e rest (inr f) = inr f

no_expression : (e : Exp) (es : Exps) → exp e es ≡ no_exps → ⊥
no_expression e es f = cc

no_statement : (s : Ts) (ss : Stms) → stm s ss ≡ no_stms → ⊥
no_statement s ss e = cc

-- What expressions are made, one after another: statements that drop all but the last, and the last.
pub data MadeInTurn (P : Program) (wanted : Want) : Within → Exps → TranslationState → Stms → Made → TranslationState → Type 0 where
  none_made : (within : Within) (s t : TranslationState) → s ≡ t → MadeInTurn P wanted within no_exps s no_stms (value (Const 0)) t
  a_last :
      (within : Within) (e : Exp) (s : TranslationState) (m : Made) (t : TranslationState) → expression P.findings e wanted within s ≡ drawn m t →
      MadeInTurn P wanted within (exp e no_exps) s no_stms m t
  a_dropped :
      (within : Within) (e f : Exp) (rest : Exps) (s : TranslationState) (one : Made) (u : TranslationState) (ss : Stms) (m : Made) (t : TranslationState) →
      expression P.findings e want.Dropped within s ≡ drawn one u → MadeInTurn P wanted within (exp f rest) u ss m t →
      MadeInTurn P wanted within (exp e (exp f rest)) s (stm (dropped one) ss) m t

pub made_in_turn : (P : Program) (within : Within) (wanted : Want) (es : Exps) (before : Stms) (s : TranslationState) (begun : Begun) (t : TranslationState) →
    sequence P.findings es wanted before within s ≡ drawn begun t →
    (ss : Stms) × (begun.before ≡ join_stms before ss) × MadeInTurn P wanted within es s ss begun.last t
made_in_turn P within wanted no_exps before s begun t made =
    let b : record { before = before; last = value (Const 0) } ≡ begun = ap made_in made in (
      no_stms,
      sym (ap (λ (o : Begun). o.before) b) ∙ sym (join_stms-none before),
      subst (λ o. MadeInTurn P wanted within no_exps s no_stms o t) (ap (λ (o : Begun). o.last) b)
          (none_made within s t (ap state_in made)),
    )
made_in_turn P within wanted (exp e no_exps) before s begun t made =
    let i = after_inv (expression P.findings e wanted within s) _ begun t made in
    let b : record { before = before; last = i.0 } ≡ begun = ap made_in i.3 in (
      no_stms,
      sym (ap (λ (o : Begun). o.before) b) ∙ sym (join_stms-none before),
      a_last within e s begun.last t (i.2 ∙ ap (λ o. drawn i.0 o) (ap state_in i.3) ∙ ap (λ (o : Begun). drawn o.last t) b),
    )
made_in_turn P within wanted (exp e (exp f rest)) before s begun t made =
    let i = after_inv (statement_from (λ o. expression P.findings e want.Dropped within o) s) _ begun t made in
    let j = after_inv (expression P.findings e want.Dropped within s) _ i.0 i.1 i.2 in
    let r = made_in_turn P within wanted (exp f rest) (followed before i.0) i.1 begun t i.3 in
    let one : dropped j.0 ≡ i.0 = ap made_in j.3 in (
      stm (dropped j.0) r.0,
      r.1 ∙ (join_stms-assoc before (stm i.0 no_stms) r.0 ∙ ap (λ o. join_stms before (stm o r.0)) (sym one)),
      a_dropped within e f rest s j.0 i.1 r.0 begun.last t (j.2 ∙ ap (λ o. drawn j.0 o) (ap state_in j.3)) r.2,
    )

pub in_turn_grows : (P : Program) → StatesGrow P → (wanted : Want) (within : Within) (es : Exps) (s : TranslationState) (ss : Stms) (m : Made) (t : TranslationState) →
    MadeInTurn P wanted within es s ss m t → Later s t
in_turn_grows P grow wanted _ _ _ _ _ _ (none_made within s t e) = subst (λ o. Later s o) e (later_none s)
in_turn_grows P grow wanted _ _ _ _ _ _ (a_last within e s m t made) = grow e wanted within m s t made
in_turn_grows P grow wanted _ _ _ _ _ _ (a_dropped within e f rest s one u ss m t made turn) =
    later_on s u t (grow e want.Dropped within one s u made) (in_turn_grows P grow wanted within (exp f rest) u ss m t turn)

-- What follows of what is made, with these units before and after.
abbrev pub MadeWithin : (P : Program) (n low high : ℕ) → Part → Holdings → List Ty → Want → Ty → (Value → Rest) → Run Source → World → Temps → Made → Type 0
MadeWithin P n low high p h types wanted ty go source w t (value x) =
    (go' : Go ℕ) → Onward P n low p h types (λ g v u. IsWanted g wanted v ty u) go go' → FollowsHere P high n source (value_runs P p x p.around go' w t)
MadeWithin P n low high p h types wanted ty go source w t (done x) =
    (next : Next) → Onward P n low p h types (λ g v u. IsLeft g wanted v ty u) go (λ u w1 t1. next w1 (put_where wanted u t1)) → FollowsHere P high n source (statement_runs P p x p.around next w t)
MadeWithin P n low high p h types wanted ty go source w t (test c) =
    (go' : Go Bool) → Onward P n low p h types (λ g v b. IsTold wanted v ty b) go go' → FollowsHere P high n source (test_runs P p c p.around go' w t)

onward_less : (P : Program) {A : Type 0} (n r q : ℕ) (p : Part) (h : Holdings) (types : List Ty) (stands : Holdings → Value → A → Type 0) (go : Value → Rest) (go' : Go A) → r ≤ q →
    Onward P n r p h types stands go go' → Onward P n q p h types stands go go'
onward_less P n r q p h types stands go go' le onward g ms v u s w t gg ee hh st = more P r q n (rest_run (go v) s) (go' u w t) le (onward g ms v u s w t gg ee hh st)

pub made_within : (P : Program) (n r low high : ℕ) → low ≤ r + left_over → r ≤ high → (p : Part) (h : Holdings) (types : List Ty) (wanted : Want) (ty : Ty) (go : Value → Rest) (source : Run Source) (w : World) (t : Temps) (m : Made) →
    MadeFollows P n r p h types wanted ty go source w t m → MadeWithin P n low high p h types wanted ty go source w t m
made_within P n r low high a b p h types wanted ty go source w t (value x) f = λ go' onward.
    more P r high n source _ b (f go' (onward_less P n low (r + left_over) p h types (λ g v u. IsWanted g wanted v ty u) go go' a onward))
made_within P n r low high a b p h types wanted ty go source w t (done x) f = λ next onward.
    more P r high n source _ b (f next (onward_less P n low (r + left_over) p h types (λ g v u. IsLeft g wanted v ty u) go (λ u w1 t1. next w1 (put_where wanted u t1)) a onward))
made_within P n r low high a b p h types wanted ty go source w t (test c) f = λ go' onward.
    more P r high n source _ b (f go' (onward_less P n low (r + left_over) p h types (λ g v b. IsTold wanted v ty b) go go' a onward))

-- no value is what is wanted of an expression without one
pub nothing_wanted : (h : Holdings) (w : Want) (u : ℕ) → IsWantable w none_type → IsWanted h w nothing none_type u
nothing_wanted h want.Value u able = absurd (able refl)
nothing_wanted h (want.Into i) u able = absurd (able refl)
nothing_wanted h want.Dropped u able = tt
nothing_wanted h want.Test u able = cc

not_loose : (w : Want) → IsLoose w → IsWantable w none_type → ⊥
not_loose want.Value loose able = able refl
not_loose (want.Into i) loose able = loose
not_loose want.Dropped loose able = loose
not_loose want.Test loose able = cc

module _ (P : Program) (set : Setting P) (grow : StatesGrow P) where
  abbrev pub evaluates_all : Value → Exps → Env → (Value → Rest) → Rest → Rest
  evaluates_all v es env go out = evaluation.eval_last Passing (passing P.heap P.stack) (behind P.heap P.stack) v es env go out

  -- What is known of expressions that are evaluated from a moment on.
  pub record AskedAll (n : ℕ) (k : Standing P set grow n) (es : Exps) (v0 ty : Ty) : Type 0 where
    pub shown : AllShown P n es
    pub typed : HasLast P.shapes P.notes v0 es k.p.scope ty
    pub words : ExpsOfWords es
    pub covers : CoversExps P.findings P.table P.weight k.p.scene.level k.p.scene.keeps (levels_of k.p.env.entries) es
    pub may_assign : AllMayAssign k.p es

  -- What follows of them: the statements that they begin with, and then the last one, as its place
  -- wants it.
  pub record SequenceFollows (n : ℕ) (k : Standing P set grow n) (wanted : Want) (ty : Ty) (go : Value → Rest) (source : Run Source) (ss : Stms) (m : Made) (τ : TranslationState) : Type 0 where
    pub last : Later τ k.τ
    -- where it begins with none, what is made follows itself
    pub named : ss ≡ no_stms → IsWantable wanted ty → IsNamed P n k.r k.p k.s go source m
    pub by_itself : ss ≡ no_stms → IsWantable wanted ty → MadeWithin P n k.r (k.r + 4) k.p k.h k.types wanted ty go source k.w k.t m
    pub by_value :
        IsLoose wanted → IsWantable wanted ty → (y : Tx) (u : TranslationState) → value_of m τ ≡ drawn y u → Later u k.τ → (go' : Go ℕ) →
        Onward P {A = ℕ} n k.r k.p k.h k.types (λ g v z. IsWanted g wanted v ty z) go go' →
        FollowsHere P (k.r + 4) n source (statements_run P k.p ss k.p.around (λ w1 t1. value_runs P k.p y k.p.around go' w1 t1) k.w k.t)
    pub by_arm :
        (i : ℕ) → wanted ≡ want.Into (record { 0 = i }) → ty ≢ none_type → (next : Next) →
        Onward P {A = ℕ} n k.r k.p k.h k.types (λ g v u. Stands g v ty u) go (λ u w1 t1. next w1 (set_temp i u t1)) →
        FollowsHere P (k.r + 4) n source (statements_run P k.p ss k.p.around (λ w1 t1. statement_runs P k.p (put_in i m) k.p.around next w1 t1) k.w k.t)
    pub by_drop :
        wanted ≡ want.Dropped → (next : Next) → Onward P {A = ℕ} n k.r k.p k.h k.types (λ g v u. Unit {0}) go (λ u w1 t1. next w1 t1) →
        FollowsHere P (k.r + 4) n source (statements_run P k.p ss k.p.around (λ w1 t1. statement_runs P k.p (dropped m) k.p.around next w1 t1) k.w k.t)

  -- what comes next is the same from a moment further on
  pub onward_moved : {A : Type 0} (n r q : ℕ) (p : Part) (h g : Holdings) (types ms : List Ty) (stands : Holdings → Value → A → Type 0) (go : Value → Rest) (go' : Go A) → r ≤ q →
      GrowsTo h g → Extends types ms → Onward P n r p h types stands go go' → Onward P n q p g ms stands go go'
  onward_moved n r q p h g types ms stands go go' le gg ee onward g2 ms2 v u s2 w2 t2 gg2 ee2 hh2 st =
      more P r q n (rest_run (go v) s2) (go' u w2 t2) le (onward g2 ms2 v u s2 w2 t2 (grows_on h g g2 gg gg2) (extends_on types ms ms2 ee ee2) hh2 st)

  abbrev pub onward_here : {A : Type 0} (n r q : ℕ) (k : Standing P set grow n) (stands : Holdings → Value → A → Type 0) (go : Value → Rest) (go' : Go A) → r ≤ q →
      Onward P n r k.p k.h k.types stands go go' → Onward P n q k.p k.h k.types stands go go'
  onward_here n r q k stands go go' le onward = onward_moved n r q k.p k.h k.h k.types k.types stands go go' le (grows_none k.h) (extends_none k.types) onward

  -- the last one
  last_follows : (n : ℕ) (k : Standing P set grow n) (e : Exp) (ty : Ty) (q : Asked P set grow n k e ty) (wanted : Want) (m : Made) (τ : TranslationState) (go : Value → Rest) →
      expression P.findings e wanted k.p.within k.σ ≡ drawn m τ → Later τ k.τ → SequenceFollows n k wanted ty go (rest_run (evaluates P e k.p.env go k.out) k.s) no_stms m τ
  last_follows n k e ty q wanted m τ go made last = record {
    last = last;
    named = λ none able. asked_named P set grow n k e ty q go wanted m τ able last made;
    by_itself = λ none able. made_within P n k.r k.r (k.r + 4) (omega arith) (omega arith) k.p k.h k.types wanted ty go _ k.w k.t m (asked_made P set grow n k e ty q go wanted m τ able last made);
    by_value = λ loose able y u made_y l go' onward.
        asked_value P set grow n k e ty q go wanted m τ y u loose able made made_y l go' (onward_here n k.r (k.r + 56) k (λ g v z. IsWanted g wanted v ty z) go go' (omega arith) onward);
    by_arm = λ i is able next onward.
        asked_arm P set grow n k e ty q go m τ i able (subst (λ o. expression P.findings e o k.p.within k.σ ≡ drawn m τ) is made) last next
        (onward_here n k.r (k.r + 56) k (λ g v u. Stands g v ty u) go (λ u w1 t1. next w1 (set_temp i u t1)) (omega arith) onward);
    by_drop = λ is next onward.
        asked_dropped P set grow n k e ty q go m τ (subst (λ o. expression P.findings e o k.p.within k.σ ≡ drawn m τ) is made) last next
        (onward_here n k.r (k.r + 56) k (λ g v u. Unit {0}) go (λ u w1 t1. next w1 t1) (omega arith) onward);
  }

  -- the moment after one that is dropped
  abbrev moved : (n : ℕ) (k : Standing P set grow n) (σ2 : TranslationState) (g : Holdings) (ms : List Ty) (s2 : SourceWorld) (w2 : World) (t2 : Temps) →
      GrowsTo k.h g → Extends k.types ms → Later k.σ σ2 → Later σ2 k.τ → Holds P k.p g ms s2 w2 t2 → Standing P set grow n
  moved n k σ2 g ms s2 w2 t2 gg ee l1 l2 hh = record {
    p = k.p;
    σ = σ2;
    τ = k.τ;
    h = g;
    types = ms;
    r = k.r + 52;
    out = k.out;
    s = s2;
    w = w2;
    t = t2;
    ready = ready_part P set k.p k.types ms k.σ k.τ σ2 k.τ ee l1 l2 (later_none k.τ) k.ready;
    outward = λ g3 ms3 s3 w3 t3 l gg3 ee3 hh3.
        more P (k.r + left_over) (k.r + 52 + left_over) n (rest_run k.out s3) (k.p.around.out k.p.within.leave w3 t3) (omega arith)
        (k.outward g3 ms3 s3 w3 t3 l (grows_on k.h g g3 gg gg3) (extends_on k.types ms ms3 ee ee3) hh3);
    holds = hh;
  }

  -- of none, nothing comes
  none_follows : (n : ℕ) (k : Standing P set grow n) (wanted : Want) (go : Value → Rest) (τ : TranslationState) → Later τ k.τ →
      SequenceFollows n k wanted none_type go (rest_run (go nothing) k.s) no_stms (value (Const 0)) τ
  none_follows n k wanted go τ last = record {
    last = last;
    named = λ none able. tt;
    by_itself = λ none able go' onward.
        worked P k.r (k.r + 4) 2 n (rest_run (go nothing) k.s) _ (omega arith)
        (onward k.h k.types nothing 0 k.s k.w k.t (grows_none k.h) (extends_none k.types) k.holds (nothing_wanted k.h wanted 0 able));
    by_value = λ loose able y u made_y l go' onward. absurd (not_loose wanted loose able);
    by_arm = λ i is able next onward. absurd (able refl);
    by_drop = λ is next onward.
        worked P (k.r + 4) (k.r + 4) 0 n (rest_run (go nothing) k.s) _ (omega arith)
        (worked P k.r (k.r + 4) 2 n (rest_run (go nothing) k.s) _ (omega arith)
        (onward k.h k.types nothing 0 k.s k.w k.t (grows_none k.h) (extends_none k.types) k.holds tt));
  }

  lasts_end : (v0 ty : Ty) (scope : _) → HasLast P.shapes P.notes v0 no_exps scope ty → v0 ≡ ty
  lasts_end v0 ty scope has.end_lasts = refl

  lasts_one : (e : Exp) (v0 ty : Ty) (scope : _) → HasLast P.shapes P.notes v0 (exp e no_exps) scope ty → Has P.shapes P.notes e scope ty
  lasts_one e v0 ty scope (has.a_last u he has.end_lasts) = he

  pub sequence_follows : (n : ℕ) (wanted : Want) (k : Standing P set grow n) (es : Exps) (v0 ty : Ty) (v : Value) (ss : Stms) (m : Made) (τ : TranslationState) (go : Value → Rest) →
      (es ≡ no_exps → (v ≡ nothing) × (v0 ≡ none_type)) → AskedAll n k es v0 ty → MadeInTurn P wanted k.p.within es k.σ ss m τ → Later τ k.τ →
      SequenceFollows n k wanted ty go (rest_run (evaluates_all v es k.p.env go k.out) k.s) ss m τ
  sequence_follows n wanted k _ v0 ty v _ _ _ go bare q (none_made _ _ τ same) last =
      let b = bare refl in
      subst (λ o. SequenceFollows n k wanted o go (rest_run (go v) k.s) no_stms (value (Const 0)) τ) (sym b.1 ∙ lasts_end v0 ty k.p.scope q.typed)
      (subst (λ o. SequenceFollows n k wanted none_type go (rest_run (go o) k.s) no_stms (value (Const 0)) τ) (sym b.0) (none_follows n k wanted go τ last))
  sequence_follows n wanted k _ v0 ty v _ _ _ go bare q (a_last _ e _ m τ made) last =
      last_follows n k e ty
      (record { shown = q.shown.0; typed = lasts_one e v0 ty k.p.scope q.typed; words = q.words.0; covers = q.covers.0; may_assign = may_first P k.p e no_exps q.may_assign }) wanted m τ go made last
  sequence_follows n wanted k _ v0 ty v _ _ _ go bare q (a_dropped _ e f rest _ one u ss m τ made turn) last =
      by q.typed
      (λ g ms s2 w2 t2 gg ee hh z val asked. sequence_follows n wanted (moved n k u g ms s2 w2 t2 gg ee l1 l2 hh) (exp f rest) z ty val ss m τ go (λ o. absurd (no_expression f rest o)) asked turn last)
    where
      l1 : Later k.σ u
      l1 = grow e want.Dropped k.p.within one k.σ u made

      l2 : Later u k.τ
      l2 = later_on u τ k.τ (in_turn_grows P grow wanted k.p.within (exp f rest) u ss m τ turn) last

      rest_of : Value → Rest
      rest_of z = evaluates_all z (exp f rest) k.p.env go k.out

      by : HasLast P.shapes P.notes v0 (exp e (exp f rest)) k.p.scope ty →
          ((g : Holdings) (ms : List Ty) (s2 : SourceWorld) (w2 : World) (t2 : Temps) (gg : GrowsTo k.h g) (ee : Extends k.types ms) (hh : Holds P k.p g ms s2 w2 t2) (z : Ty) (val : Value) →
          AskedAll n (moved n k u g ms s2 w2 t2 gg ee l1 l2 hh) (exp f rest) z ty →
          SequenceFollows n (moved n k u g ms s2 w2 t2 gg ee l1 l2 hh) wanted ty go (rest_run (rest_of val) s2) ss m τ) →
          SequenceFollows n k wanted ty go (rest_run (evaluates_all v (exp e (exp f rest)) k.p.env go k.out) k.s) (stm (dropped one) ss) m τ
      by (has.a_last z he rest_typed) again =
          let asked : Asked P set grow n k e z = record { shown = q.shown.0; typed = he; words = q.words.0; covers = q.covers.0; may_assign = may_first P k.p e (exp f rest) q.may_assign } in
          let next_one : (g : Holdings) (ms : List Ty) (s2 : SourceWorld) (w2 : World) (t2 : Temps) (gg : GrowsTo k.h g) (ee : Extends k.types ms) (hh : Holds P k.p g ms s2 w2 t2) (val : Value) →
          SequenceFollows n (moved n k u g ms s2 w2 t2 gg ee l1 l2 hh) wanted ty go (rest_run (rest_of val) s2) ss m τ =
          λ g ms s2 w2 t2 gg ee hh val.
          again g ms s2 w2 t2 gg ee hh z val
          (record { shown = q.shown.1; typed = rest_typed; words = q.words.1; covers = q.covers.1; may_assign = may_rest k.p e (exp f rest) q.may_assign }) in
          record {
            last = last;
            named = λ none able. absurd (no_statement (dropped one) ss none);
            by_itself = λ none able. absurd (no_statement (dropped one) ss none);
            by_value = λ loose able y o made_y l go' onward.
                asked_dropped P set grow n k e z asked rest_of one u made l2 (λ w1 t1. statements_run P k.p ss k.p.around (λ w3 t3. value_runs P k.p y k.p.around go' w3 t3) w1 t1)
                (λ g ms val _ s2 w2 t2 gg ee hh _.
                more P (k.r + 52 + 4) (k.r + 56) n (rest_run (rest_of val) s2) _ (omega arith)
                ((next_one g ms s2 w2 t2 gg ee hh val).by_value loose able y o made_y l go'
                (onward_moved n k.r (k.r + 52) k.p k.h g k.types ms (λ g3 v3 z3. IsWanted g3 wanted v3 ty z3) go go' (omega arith) gg ee onward)));
            by_arm = λ i is able next onward.
                asked_dropped P set grow n k e z asked rest_of one u made l2 (λ w1 t1. statements_run P k.p ss k.p.around (λ w3 t3. statement_runs P k.p (put_in i m) k.p.around next w3 t3) w1 t1)
                (λ g ms val _ s2 w2 t2 gg ee hh _.
                more P (k.r + 52 + 4) (k.r + 56) n (rest_run (rest_of val) s2) _ (omega arith)
                ((next_one g ms s2 w2 t2 gg ee hh val).by_arm i is able next
                (onward_moved n k.r (k.r + 52) k.p k.h g k.types ms (λ g3 v3 z3. Stands g3 v3 ty z3) go (λ z3 w3 t3. next w3 (set_temp i z3 t3)) (omega arith) gg ee onward)));
            by_drop = λ is next onward.
                asked_dropped P set grow n k e z asked rest_of one u made l2 (λ w1 t1. statements_run P k.p ss k.p.around (λ w3 t3. statement_runs P k.p (dropped m) k.p.around next w3 t3) w1 t1)
                (λ g ms val _ s2 w2 t2 gg ee hh _.
                more P (k.r + 52 + 4) (k.r + 56) n (rest_run (rest_of val) s2) _ (omega arith)
                ((next_one g ms s2 w2 t2 gg ee hh val).by_drop is next
                (onward_moved n k.r (k.r + 52) k.p k.h g k.types ms (λ g3 v3 z3. Unit {0}) go (λ z3 w3 t3. next w3 t3) (omega arith) gg ee onward)));
          }
