-- The parts of an expression that stands somewhere: each is evaluated at a moment, for what its
-- place wants of it, and leaves 56 units to what comes next, which begins at a later moment.
use Rattle.std.proofs.Common.{◌≡◌, ◌≢◌, ℕ, ◌+◌, ◌*◌, ◌<◌, ◌≤◌, List, Option, Some, None, Bool, refl, sym, ap, ◌∙◌, arith, subst}
use Rattle.std.specs.Prelude.{◌⊎◌, if◌then◌else◌}
use Rattle.tg_syntax.specs.Tree.{Exp}
use Rattle.tg_syntax.specs.OfWords.{OfWords}
use Rattle.tg_simulation.specs.Runs.{Run}
use Rattle.tg_simulation.specs.Ran.{Ran, works, Ended}
use Rattle.tg_simulation.specs.Outcomes.{ended}
use Rattle.tg_simulation.specs.Changes.{costs}
use Rattle.tg_simulation.specs.Agreement.{Source, same}
use Rattle.tg_simulation.proofs.Following.{follows_paying, follows_with_credit}
use Rattle.tg_semantics.specs.Values.{Value, SourceWorld, Env, Ending}
use Rattle.tg_semantics.specs.Passing.{Rest, ends}
use Rattle.tg_semantics.specs.MachineEnds.{machine_end}
use Rattle.tg_semantics.specs.MachineRuns.{rest_run}
use Rattle.tg_typecheck.specs.Types.{Ty, int_type, none_type}
use Rattle.tg_typecheck.specs.Scopes.{Binding}
use Rattle.tg_typecheck.specs.Has.{Has}
use Rattle.tg_tree.specs.Tree.{Tx, Cond, Ts}
use Rattle.tg_tree.specs.Actions.{World, Temps, set_temp, Go, Next, over}
use Rattle.tg_translate.specs.declared.homes.Within.{Within}
use Rattle.tg_translate.specs.declared.wants.Want.{Want}
use Rattle.tg_translate.specs.declared.wants.Want.TheVariants as want
use Rattle.tg_translate.specs.mirror.States.{TranslationState, drawn, Translates}
use Rattle.tg_translate.specs.mirror.Wants.{Made, value_of, test_of, put_in, dropped, value_from, condition_from, arm_from, statement_from}
use Rattle.tg_translate.specs.mirror.Translate.{expression}
use Rattle.tg_correctness.specs.laws.Laws.{tree_work}
use Rattle.tg_translate_proof.specs.glue.Tables.{Later, IsMoment}
use Rattle.tg_translate_proof.specs.glue.Worlds.{Holdings, Stands, GrowsTo, Places, Scene, Key, IsOf}
use Rattle.tg_translate_proof.specs.glue.Situations as situations
use Rattle.tg_translate_proof.specs.glue.Situations.{Program, Part, Setting, Holds, IsReady, IsCovered, MayAssign, Extends, Along}
use Rattle.tg_translate_proof.specs.glue.Situations.{value_runs, test_runs, statement_runs}
use Rattle.tg_translate_proof.specs.glue.Shown.{Shown, SituationBy, IsWantable, IsWanted, left_over, is_set, evaluates, FollowsHere}
use Rattle.tg_translate_proof.specs.glue.Shown.{Onward, MadeFollows, IsNamed}
use Rattle.tg_translate_proof.proofs.state.TranslationStates.{made_in, state_in, after_inv, later_none, later_on, later_value, moment_before, found_later}
use Rattle.tg_translate_proof.proofs.expressions.BinaryLeft.{LeftSide}
use Rattle.tg_translate_proof.proofs.invariant.Cases.{value_follows, condition_follows, arm_follows, dropped_follows, grows_none, grows_on}

-- the states of a translation only grow
abbrev pub StatesGrow : Program → Type 0
StatesGrow P =
    (e : Exp) (wanted : Want) (within : _) (m : Made) (s t : TranslationState) →
    expression P.findings e wanted within s ≡ drawn m t → Later s t

-- with more credit, or after work
pub more : (P : Program) (r q n : ℕ) (c : Run Source) (d : Run Ran) → r ≤ q → FollowsHere P r n c d → FollowsHere P q n c d
more P r q n c d le f = follows_with_credit P.stack tree_work r q n c d le f

-- a unit of cost pays
pub paid : (P : Program) (r n : ℕ) (c : Run Source) (d : Run Ran) → FollowsHere P (r + 256) n c d → FollowsHere P r n (λ i. costs 1 (c i)) d
paid P r n c d f = follows_paying P.stack tree_work r n 1 c d (more P (r + 256) (r + tree_work * 1) n c d (omega arith) f)

-- both runs end
pub stop_follows : (P : Program) (k n : ℕ) (e : Ending) (s : SourceWorld) (w : World) → w.input ≡ s.input →
    FollowsHere P k n (rest_run (ends (ended e)) s) (over (Ended (machine_end e)) w)
stop_follows P k n e s w input i le = (i, omega arith, same refl input refl (omega arith) (omega arith))

-- names stand for the same where variables stay where they are, and links are kept as they were
pub along_on : (P : Program) (p q : Places) (types more_types : List Ty) (c : Scene) → ((k : Key) (l : ℕ) → IsOf l (p k) → IsOf l (q k)) → Extends types more_types →
    (level : ℕ) (es : List _) (bs : List (ℕ × Binding)) → Along P p types c level es bs → Along P q more_types c level es bs
along_on P p q types ms c keep ext _ _ _ (situations.nothing_declared level names) = situations.nothing_declared level names
along_on P p q types ms c keep ext _ _ _ (situations.a_variable level l x at place t loop home es bs le values e1 e2 is_of e3 rest) =
    situations.a_variable level l x at place t loop home es bs le values e1 e2 (λ near. keep _ place (is_of near)) (ext place t e3) (along_on P p q types ms c keep ext level es bs rest)
along_on P p q types ms c keep ext _ _ _ (situations.a_group level l keeps fs ss es scope le agree many dd rest) =
    situations.a_group level l keeps fs ss es scope le agree many dd (along_on P p q types ms c keep ext l es scope.bindings rest)

-- a part of what stands here
pub ready_part : (P : Program) → Setting P → (p : Part) (types ms : List Ty) (σ τ s t : TranslationState) → Extends types ms → Later σ s → Later s t → Later t τ →
    IsReady P p types σ τ → IsReady P p ms s t
ready_part P set p types ms σ τ s t ext a b c x = record {
  scene = x.scene;
  along = along_on P p.places p.places types ms p.scene (λ k l h. h) ext p.scene.level p.env.entries p.scope.bindings x.along;
  fits = x.fits;
  found = found_later P set σ s p.scope.bindings a (moment_before P.table P.code s t (moment_before P.table P.code t τ x.moment c) b) x.found;
  moment = moment_before P.table P.code t τ x.moment c;
  level = x.level;
  same_level = x.same_level;
  links = x.links;
  slots_free = λ k le lt. x.slots_free k (omega (arith, a.slots, le)) (omega (arith, c.slots, lt));
  temps_free = λ i le lt. x.temps_free i (omega (arith, a.temps, le)) (omega (arith, c.temps, lt));
  slots_there = omega (arith, c.slots, x.slots_there);
  activation = x.activation;
}

pub extends_none : (types : List Ty) → Extends types types
extends_none types i a e = e

pub extends_on : (types ms ns : List Ty) → Extends types ms → Extends ms ns → Extends types ns
extends_on types ms ns a b i t e = b i t (a i t e)

module _ (P : Program) (set : Setting P) (grow : StatesGrow P) (n : ℕ) (E : Exp) {made_by : Want → Within → Translates Made}
    (x : SituationBy P n E made_by) where
  -- what is known of a part of the expression, whenever it is evaluated
  pub record Piece (e : Exp) (ty : Ty) : Type 0 where
    pub shown : Shown P n e
    pub typed : Has P.shapes P.notes e x.p.scope ty
    pub words : OfWords e
    pub covers : IsCovered P x.p e
    pub may_assign : MayAssign P x.p e

  -- a moment in its evaluation, between the parts
  pub record Moment : Type 0 where
    pub σ : TranslationState  -- where the translation is
    pub h : Holdings
    pub types : List Ty
    pub r : ℕ  -- the units that are left
    pub s : SourceWorld
    pub w : World
    pub t : Temps
    pub enough : x.r ≤ r
    pub later : Later x.σ σ
    pub grows : GrowsTo x.h h
    pub extends : Extends x.types types
    pub holds : Holds P x.p h types s w t

  -- where it begins, with so many units
  abbrev pub at_begin : (r : ℕ) → x.r ≤ r → Moment
  at_begin r le = record {
    σ = x.σ;
    h = x.h;
    types = x.types;
    r = r;
    s = x.s;
    w = x.w;
    t = x.t;
    enough = le;
    later = later_none x.σ;
    grows = grows_none x.h;
    extends = extends_none x.types;
    holds = x.holds;
  }

  -- what both sides have after a part that was evaluated from a moment on
  pub record Behind (k : Moment) : Type 0 where
    pub h : Holdings
    pub types : List Ty
    pub s : SourceWorld
    pub w : World
    pub t : Temps
    pub grows : GrowsTo k.h h
    pub extends : Extends k.types types
    pub holds : Holds P x.p h types s w t

  -- the moment that comes then, in this state of the translation and with so many units
  abbrev pub at_then : (k : Moment) → Behind k → (τ : TranslationState) → Later k.σ τ → (r : ℕ) → x.r ≤ r → Moment
  at_then k b τ l r le = record {
    σ = τ;
    h = b.h;
    types = b.types;
    r = r;
    s = b.s;
    w = b.w;
    t = b.t;
    enough = le;
    later = later_on x.σ k.σ τ k.later l;
    grows = grows_on x.h k.h b.h k.grows b.grows;
    extends = extends_on x.types k.types b.types k.extends b.extends;
    holds = b.holds;
  }

  -- what the part does in the source
  abbrev pub from : (e : Exp) → (Value → Rest) → SourceWorld → Run Source
  from e go s = rest_run (evaluates P e x.p.env go x.out) s

  part_follows : (k : Moment) (e : Exp) (ty : Ty) (wanted : Want) (t : TranslationState) (m : Made) (go : Value → Rest) →
      Piece e ty → IsWantable wanted ty → Later k.σ t → Later t x.τ → expression P.findings e wanted x.p.within k.σ ≡ drawn m t →
      MadeFollows P n k.r x.p k.h k.types wanted ty go (from e go k.s) k.w k.t m
  part_follows k e ty wanted t m go piece able b c made = (piece.shown (record {
    ty = ty;
    wanted = wanted;
    p = x.p;
    σ = k.σ;
    τ = t;
    m = m;
    h = k.h;
    types = k.types;
    r = k.r;
    go = go;
    out = x.out;
    s = k.s;
    w = k.w;
    t = k.t;
    typed = piece.typed;
    words = piece.words;
    covers = piece.covers;
    wantable = able;
    may_assign = piece.may_assign;
    ready = ready_part P set x.p x.types k.types x.σ x.τ k.σ t k.extends k.later b c x.ready;
    is_made = made;
    outward = λ g ms s2 w2 t2 l g2 e2 h2.
        more P (x.r + left_over) (k.r + left_over) n (rest_run x.out s2) (x.p.around.out x.p.within.leave w2 t2) (let le = k.enough in omega (arith, le))
        (x.outward g ms s2 w2 t2 l (grows_on x.h k.h g k.grows g2) (extends_on x.types k.types ms k.extends e2) h2);
    holds = k.holds;
  })).1

  -- A part as a value.
  pub sub_value : (k : Moment) (e : Exp) (ty : Ty) → Piece e ty → (q : ℕ) → k.r + 4 ≤ q → ty ≢ none_type → (y : Tx) (τ : TranslationState) →
      value_from (λ s. expression P.findings e want.Value x.p.within s) k.σ ≡ drawn y τ → Later τ x.τ → (go : Value → Rest) (go' : Go ℕ) →
      ((b : Behind k) (v : Value) (u : ℕ) → Later k.σ τ → Stands b.h v ty u → FollowsHere P (k.r + 56) n (rest_run (go v) b.s) (go' u b.w b.t)) →
      FollowsHere P q n (from e go k.s) (value_runs P x.p y x.p.around go' k.w k.t)
  sub_value k e ty piece q enough able y τ made last go go' onward =
      let i = after_inv (expression P.findings e want.Value x.p.within k.σ) value_of y τ made in
      let m : Made = i.0 in
      let t : TranslationState = i.1 in
      let l1 : Later k.σ t = grow e want.Value x.p.within m k.σ t i.2 in
      let l2 : Later t τ = later_value m t τ y i.3 in
      let before : Later x.σ k.σ = k.later in
      more P (k.r + 4) q n (from e go k.s) (value_runs P x.p y x.p.around go' k.w k.t) enough
      (value_follows P n k.r x.p k.h k.types want.Value ty go (from e go k.s) k.w k.t m t τ y go' tt i.3
      (λ j a b. x.ready.temps_free j (omega (arith, before.temps, l1.temps, a)) (omega (arith, b, last.temps)))
      (part_follows k e ty want.Value t m go piece able l1 (later_on t τ x.τ l2 last) i.2)
      (λ g ms v u s w t0 gg ee hh st. onward (record { h = g; types = ms; s = s; w = w; t = t0; grows = gg; extends = ee; holds = hh }) v u (later_on k.σ t τ l1 l2) st))

  -- A part as a condition: a word of its truth stands for it.
  pub sub_condition : (k : Moment) (e : Exp) → Piece e int_type → (q : ℕ) → k.r + 4 ≤ q → (c : Cond) (τ : TranslationState) →
      condition_from (λ s. expression P.findings e want.Test x.p.within s) k.σ ≡ drawn c τ → Later τ x.τ → (go : Value → Rest) (go' : Go Bool) →
      ((b : Behind k) (v : Value) (u : ℕ) → Later k.σ τ → IsWanted b.h want.Test v int_type u → FollowsHere P (k.r + 56) n (rest_run (go v) b.s) (go' (is_set u) b.w b.t)) →
      FollowsHere P q n (from e go k.s) (test_runs P x.p c x.p.around go' k.w k.t)
  sub_condition k e piece q enough c τ made last go go' onward =
      let i = after_inv (expression P.findings e want.Test x.p.within k.σ) _ c τ made in
      let m : Made = i.0 in
      let same_state : i.1 ≡ τ = ap state_in i.3 in
      let made_m : expression P.findings e want.Test x.p.within k.σ ≡ drawn m τ = i.2 ∙ ap (λ o. drawn m o) same_state in
      let l1 : Later k.σ τ = grow e want.Test x.p.within m k.σ τ made_m in
      more P (k.r + 4) q n (from e go k.s) (test_runs P x.p c x.p.around go' k.w k.t) enough
      (subst (λ o. FollowsHere P (k.r + 4) n (from e go k.s) (test_runs P x.p o x.p.around go' k.w k.t)) (ap made_in i.3)
      (condition_follows P n k.r x.p k.h k.types want.Test int_type go (from e go k.s) k.w k.t m go' tt
      (part_follows k e int_type want.Test τ m go piece refl l1 last made_m)
      (λ g ms v b s w t0 gg ee hh st.
      subst (λ o. FollowsHere P (k.r + 56) n (rest_run (go v) s) (go' o w t0)) (sym st.2)
      (onward (record { h = g; types = ms; s = s; w = w; t = t0; grows = gg; extends = ee; holds = hh }) v st.0 l1 st.1))))

  -- A part that is put into a temporary.
  pub sub_arm : (k : Moment) (e : Exp) (ty : Ty) → Piece e ty → (q : ℕ) → k.r + 4 ≤ q → ty ≢ none_type → (into : ℕ) (a : Ts) (τ : TranslationState) →
      arm_from (want.Into (record { 0 = into })) (λ s. expression P.findings e (want.Into (record { 0 = into })) x.p.within s) k.σ ≡ drawn a τ → Later τ x.τ →
      (go : Value → Rest) (next : Next) →
      ((b : Behind k) (v : Value) (u : ℕ) → Later k.σ τ → Stands b.h v ty u → FollowsHere P (k.r + 56) n (rest_run (go v) b.s) (next b.w (set_temp into u b.t))) →
      FollowsHere P q n (from e go k.s) (statement_runs P x.p a x.p.around next k.w k.t)
  sub_arm k e ty piece q enough able into a τ made last go next onward =
      let wanted : Want = want.Into (record { 0 = into }) in
      let i = after_inv (expression P.findings e wanted x.p.within k.σ) _ a τ made in
      let m : Made = i.0 in
      let made_m : expression P.findings e wanted x.p.within k.σ ≡ drawn m τ = i.2 ∙ ap (λ o. drawn m o) (ap state_in i.3) in
      let l1 : Later k.σ τ = grow e wanted x.p.within m k.σ τ made_m in
      more P (k.r + 4) q n (from e go k.s) (statement_runs P x.p a x.p.around next k.w k.t) enough
      (subst (λ o. FollowsHere P (k.r + 4) n (from e go k.s) (statement_runs P x.p o x.p.around next k.w k.t)) (ap made_in i.3)
      (arm_follows P n k.r x.p k.h k.types ty go (from e go k.s) k.w k.t m into next
      (part_follows k e ty wanted τ m go piece able l1 last made_m)
      (λ g ms v u s w t0 gg ee hh st. onward (record { h = g; types = ms; s = s; w = w; t = t0; grows = gg; extends = ee; holds = hh }) v u l1 st)))

  -- A part that is dropped.
  pub sub_dropped : (k : Moment) (e : Exp) (ty : Ty) → Piece e ty → (q : ℕ) → k.r + 4 ≤ q → (a : Ts) (τ : TranslationState) →
      statement_from (λ s. expression P.findings e want.Dropped x.p.within s) k.σ ≡ drawn a τ → Later τ x.τ → (go : Value → Rest) (next : Next) →
      ((b : Behind k) (v : Value) → Later k.σ τ → FollowsHere P (k.r + 56) n (rest_run (go v) b.s) (next b.w b.t)) →
      FollowsHere P q n (from e go k.s) (statement_runs P x.p a x.p.around next k.w k.t)
  sub_dropped k e ty piece q enough a τ made last go next onward =
      let i = after_inv (expression P.findings e want.Dropped x.p.within k.σ) _ a τ made in
      let m : Made = i.0 in
      let made_m : expression P.findings e want.Dropped x.p.within k.σ ≡ drawn m τ = i.2 ∙ ap (λ o. drawn m o) (ap state_in i.3) in
      let l1 : Later k.σ τ = grow e want.Dropped x.p.within m k.σ τ made_m in
      more P (k.r + 4) q n (from e go k.s) (statement_runs P x.p a x.p.around next k.w k.t) enough
      (subst (λ o. FollowsHere P (k.r + 4) n (from e go k.s) (statement_runs P x.p o x.p.around next k.w k.t)) (ap made_in i.3)
      (dropped_follows P n k.r x.p k.h k.types ty go (from e go k.s) k.w k.t m next
      (part_follows k e ty want.Dropped τ m go piece tt l1 last made_m)
      (λ g ms v u s w t0 gg ee hh st. onward (record { h = g; types = ms; s = s; w = w; t = t0; grows = gg; extends = ee; holds = hh }) v l1)))

  -- A left side, which is evaluated where the whole begins.
  pub record LeftPiece (a : Exp) (left : LeftSide P n a) (ty : Ty) : Type 0 where
    pub begun : left.here x.p x.h x.types x.s x.w x.t
    pub typed : Has P.shapes P.notes a x.p.scope ty
    pub words : OfWords a
    pub covers : IsCovered P x.p a
    pub may_assign : MayAssign P x.p a

  module _ (r : ℕ) (le : x.r ≤ r) (a : Exp) (left : LeftSide P n a) (ty : Ty) (piece : LeftPiece a left ty) where
    abbrev first_at : (wanted : Want) (m : Made) (t : TranslationState) (go : Value → Rest) → IsWantable wanted ty → Later t x.τ →
        left.by wanted x.p.within x.σ ≡ drawn m t → SituationBy P n a left.by
    first_at wanted m t go able last made = record {
      ty = ty;
      wanted = wanted;
      p = x.p;
      σ = x.σ;
      τ = t;
      m = m;
      h = x.h;
      types = x.types;
      r = r;
      go = go;
      out = x.out;
      s = x.s;
      w = x.w;
      t = x.t;
      typed = piece.typed;
      words = piece.words;
      covers = piece.covers;
      wantable = able;
      may_assign = piece.may_assign;
      ready = ready_part P set x.p x.types x.types x.σ x.τ x.σ t (extends_none x.types) (later_none x.σ) (left.grows wanted x.p.within m x.σ t made) last x.ready;
      is_made = made;
      outward = λ g ms s2 w2 t2 l g2 e2 h2.
          more P (x.r + left_over) (r + left_over) n (rest_run x.out s2) (x.p.around.out x.p.within.leave w2 t2) (omega (arith, le)) (x.outward g ms s2 w2 t2 l g2 e2 h2);
      holds = x.holds;
    }

    pub first_named : (wanted : Want) (m : Made) (t : TranslationState) (go : Value → Rest) → IsWantable wanted ty → Later t x.τ →
        left.by wanted x.p.within x.σ ≡ drawn m t → IsNamed P n r x.p x.s go (from a go x.s) m
    first_named wanted m t go able last made = (left.shown (first_at wanted m t go able last made) piece.begun).0

    first_made : (wanted : Want) (m : Made) (t : TranslationState) (go : Value → Rest) → IsWantable wanted ty → Later t x.τ →
        left.by wanted x.p.within x.σ ≡ drawn m t → MadeFollows P n r x.p x.h x.types wanted ty go (from a go x.s) x.w x.t m
    first_made wanted m t go able last made = (left.shown (first_at wanted m t go able last made) piece.begun).1

    pub first_value : (q : ℕ) → r + 4 ≤ q → ty ≢ none_type → (y : Tx) (τ : TranslationState) →
        value_from (λ s. left.by want.Value x.p.within s) x.σ ≡ drawn y τ → Later τ x.τ → (go : Value → Rest) (go' : Go ℕ) →
        ((b : Behind (at_begin r le)) (v : Value) (u : ℕ) → Later x.σ τ → Stands b.h v ty u → FollowsHere P (r + 56) n (rest_run (go v) b.s) (go' u b.w b.t)) →
        FollowsHere P q n (from a go x.s) (value_runs P x.p y x.p.around go' x.w x.t)
    first_value q enough able y τ made last go go' onward =
        let i = after_inv (left.by want.Value x.p.within x.σ) value_of y τ made in
        let m : Made = i.0 in
        let t : TranslationState = i.1 in
        let l1 : Later x.σ t = left.grows want.Value x.p.within m x.σ t i.2 in
        let l2 : Later t τ = later_value m t τ y i.3 in
        more P (r + 4) q n (from a go x.s) (value_runs P x.p y x.p.around go' x.w x.t) enough
        (value_follows P n r x.p x.h x.types want.Value ty go (from a go x.s) x.w x.t m t τ y go' tt i.3
        (λ j c d. x.ready.temps_free j (omega (arith, l1.temps, c)) (omega (arith, d, last.temps)))
        (first_made want.Value m t go able (later_on t τ x.τ l2 last) i.2)
        (λ g ms v u s w t0 gg ee hh st. onward (record { h = g; types = ms; s = s; w = w; t = t0; grows = gg; extends = ee; holds = hh }) v u (later_on x.σ t τ l1 l2) st))

    pub first_condition : (q : ℕ) → r + 4 ≤ q → ty ≡ int_type → (c : Cond) (τ : TranslationState) →
        condition_from (λ s. left.by want.Test x.p.within s) x.σ ≡ drawn c τ → Later τ x.τ → (go : Value → Rest) (go' : Go Bool) →
        ((b : Behind (at_begin r le)) (v : Value) (u : ℕ) → Later x.σ τ → IsWanted b.h want.Test v ty u → FollowsHere P (r + 56) n (rest_run (go v) b.s) (go' (is_set u) b.w b.t)) →
        FollowsHere P q n (from a go x.s) (test_runs P x.p c x.p.around go' x.w x.t)
    first_condition q enough able c τ made last go go' onward =
        let i = after_inv (left.by want.Test x.p.within x.σ) _ c τ made in
        let m : Made = i.0 in
        let same_state : i.1 ≡ τ = ap state_in i.3 in
        let made_m : left.by want.Test x.p.within x.σ ≡ drawn m τ = i.2 ∙ ap (λ o. drawn m o) same_state in
        let l1 : Later x.σ τ = left.grows want.Test x.p.within m x.σ τ made_m in
        more P (r + 4) q n (from a go x.s) (test_runs P x.p c x.p.around go' x.w x.t) enough
        (subst (λ o. FollowsHere P (r + 4) n (from a go x.s) (test_runs P x.p o x.p.around go' x.w x.t)) (ap made_in i.3)
        (condition_follows P n r x.p x.h x.types want.Test ty go (from a go x.s) x.w x.t m go' tt
        (first_made want.Test m τ go able last made_m)
        (λ g ms v b s w t0 gg ee hh st.
        subst (λ o. FollowsHere P (r + 56) n (rest_run (go v) s) (go' o w t0)) (sym st.2)
        (onward (record { h = g; types = ms; s = s; w = w; t = t0; grows = gg; extends = ee; holds = hh }) v st.0 l1 st.1))))
