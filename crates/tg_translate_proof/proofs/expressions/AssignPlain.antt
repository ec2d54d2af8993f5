-- Assignments to l-values, where the value doesn't begin with a read of the same place.
use Rattle.std.proofs.Common.{◌≡◌, ◌≢◌, ℕ, ◌+◌, ◌-◌, ◌*◌, ◌<◌, ◌≤◌, List, Option, Some, None, Bool, true, false, refl, sym, ap, ◌∙◌, arith, subst, inl, inr}
use Rattle.std.specs.Prelude.{slice_get, ◌⊎◌}
use Rattle.tg_base.specs.declared.ids.Span.{Span}
use Rattle.tg_syntax.specs.Tree.{Exp, LValue, Assign}
use Rattle.tg_simulation.specs.Runs.{Run}
use Rattle.tg_simulation.specs.Ran.{Ran, works}
use Rattle.tg_simulation.specs.Agreement.{Source}
use Rattle.tg_simulation.proofs.Following.{follows_along}
use Rattle.tg_semantics.specs.Values.{Value, nothing, SourceWorld, put_variable}
use Rattle.tg_semantics.specs.Evaluation.{Location, in_variable}
use Rattle.tg_semantics.specs.Passing.{Rest, with_found}
use Rattle.tg_semantics.specs.MachineRuns.{rest_run}
use Rattle.tg_typecheck.specs.Types.{Ty, none_type}
use Rattle.tg_typecheck.specs.Has as has
use Rattle.tg_typecheck.specs.Has.{Has, HasPlace, HasValues, Fits}
use Rattle.tg_tree.specs.Tree.{Tx, Ts, Store, Stms, no_stms, stm}
use Rattle.tg_tree.specs.Units.{Trees, hoisted_units}
use Rattle.tg_tree.specs.Shapes.{is_flat}
use Rattle.tg_tree.specs.Memory.{store}
use Rattle.tg_tree.specs.Actions.{World, Temps, set_temp, Go, Next, charged, with_memory}
use Rattle.tg_tree.specs.Actions as actions
use Rattle.tg_tree.proofs.Alikes.{runs_in_turn}
use Rattle.tg_translate.specs.declared.wants.Want.{Want}
use Rattle.tg_translate.specs.declared.wants.Want.TheVariants as want
use Rattle.tg_translate.specs.mirror.States.{TranslationState, drawn, Translates, after}
use Rattle.tg_translate.specs.mirror.Wants.{Made, value, done, value_of, put_in, followed, as_statement, value_from, arm_from}
use Rattle.tg_translate.specs.mirror.Constructs.{Storage, in_temp, at_address, want_for, assign, store_at}
use Rattle.tg_translate.specs.mirror.Updates.{begins_with}
use Rattle.tg_translate.specs.mirror.Translate.{expression, locate, assignment, assigned, behind_read}
use Rattle.tg_correctness.specs.laws.Laws.{tree_work}
use Rattle.tg_translate_proof.specs.glue.Tables.{Later}
use Rattle.tg_translate_proof.specs.glue.Worlds.{Holdings, unknown, Stands, GrowsTo, Key, cell, temporary, IsOf, variable, kept}
use Rattle.tg_translate_proof.specs.glue.Situations.{Program, Part, Setting, Holds, MayAssign, Extends, with_temps, floor, value_runs, statement_runs}
use Rattle.tg_translate_proof.specs.glue.Situations.{statements_run, calling, heads, frames_at}
use Rattle.tg_translate_proof.specs.glue.Shown.{Shown, IsShown, Situation, FollowsHere, Onward, MadeFollows, IsWantable, IsLeft, left_over, evaluates}
use Rattle.tg_translate_proof.proofs.state.TranslationStates.{made_in, state_in, after_inv, later_none, later_on, later_value}
use Rattle.tg_translate_proof.proofs.invariant.Cases.{by_made, source_of, worked, grows_none, grows_on}
use Rattle.tg_translate_proof.proofs.invariant.Parts.{StatesGrow, Piece, Moment, Behind, more, paid, extends_none, extends_on, sub_value, sub_arm, ready_part}
use Rattle.tg_translate_proof.proofs.expressions.BinarySides.{hoisted_small}
use Rattle.tg_translate_proof.proofs.state.ValueWords.{stands_fit, fits_has_values}
use Rattle.tg_translate_proof.proofs.state.Keys.{some_same}
use Rattle.tg_translate_proof.proofs.state.HomeWrites.{temp_written}
use Rattle.tg_translate_proof.proofs.state.HomeWrites as storing
use Rattle.tg_translate_proof.proofs.expressions.LValueAddress.{IsAt, is_at_grows, Premises, PlaceSituation, PlaceShown, PlaceMayAssign, StorageFollows, IsOwn}
use Rattle.tg_translate_proof.proofs.expressions.LValueAddress.{locates, writes_to, place_has_values}
use Rattle.tg_translate_proof.proofs.expressions.LValueAccess.{plainly, write_at}
use Rattle.tg_translate_proof.proofs.expressions.Read.{own_value}

pub dropped_only : (w : Want) → IsWantable w none_type → w ≡ want.Dropped
dropped_only want.Value ne = absurd (ne refl)
dropped_only (want.Into i) ne = absurd (ne refl)
dropped_only want.Dropped t = refl
dropped_only want.Test e = cc

module _ (P : Program) where
  -- a statement after others
  pub followed_runs : (p : Part) (ss : Stms) (y : Ts) (next : Next) (w : World) (t : Temps) →
      statements_run P p (followed ss y) p.around next w t ≡ statements_run P p ss p.around (λ w1 t1. statement_runs P p y p.around next w1 t1) w t
  followed_runs p ss y next w t =
      ap (λ (m : actions.Acts Next). m p.around next w t)
      (runs_in_turn Trees P.heap P.code.literals (calling P (frames_at P p)) (heads P (frames_at P p)) ss (stm y no_stms))

  -- a store after checks
  pub store_runs : (p : Part) (r n : ℕ) (source : Run Source) (before : Stms) (a y : Tx) (next : Next) (w : World) (t : Temps) →
      FollowsHere P r n source (statements_run P p before p.around (λ w1 t1. statement_runs P p (Store a y) p.around next w1 t1) w t) →
      FollowsHere P r n source (statement_runs P p (store_at before a y) p.around next w t)
  store_runs p r n source no_stms a y next w t f = f
  store_runs p r n source (stm x xs) a y next w t f =
      worked P r r 0 n source (statements_run P p (followed (stm x xs) (Store a y)) p.around next w t) (omega arith)
      (subst (λ o. FollowsHere P r n source o) (sym (followed_runs p (stm x xs) (Store a y) next w t)) f)

module _ (P : Program) (set : Setting P) (premises : Premises P) (grow : StatesGrow P) where
  pub record AssignTyped (v : LValue) (e : Exp) (p : Part) (ty : Ty) : Type 0 where
    pub t : Ty
    pub u : Ty
    pub place : HasPlace P.shapes P.notes v p.scope t
    pub value_typed : Has P.shapes P.notes e p.scope u
    pub fits : Fits u t
    pub none : ty ≡ none_type

  pub assign_typed : (sp : Span) (v : LValue) (e : Exp) (p : Part) (ty : Ty) → Has P.shapes P.notes (Assign sp v e) p.scope ty → AssignTyped v e p ty
  assign_typed sp v e p ty (has.assign {t = t} {u = u} place he fits) = record { t = t; u = u; place = place; value_typed = he; fits = fits; none = refl }

  module _ (n : ℕ) (sp : Span) (v : LValue) (e : Exp) (show_v : PlaceShown P n v) (show_e : Shown P n e) (x : Situation P n (Assign sp v e)) where
    abbrev pub E : Exp
    E = Assign sp v e

    abbrev pub typed_ : AssignTyped v e x.p x.ty
    typed_ = assign_typed sp v e x.p x.ty x.typed

    pub may_all : (j place u : ℕ) → x.p.places (temporary x.p.scene.depth j) ≢ kept place u
    may_all = by x.may_assign
      where
        by : MayAssign P x.p (Assign sp v e) → (j place u : ℕ) → x.p.places (temporary x.p.scene.depth j) ≢ kept place u
        by (inl f) = cc
        by (inr f) = f

    pub has_values : HasValues typed_.t
    has_values = place_has_values P premises x.p x.types x.σ x.τ v typed_.t x.ready x.covers.0 typed_.place

    able : typed_.u ≢ none_type
    able = fits_has_values typed_.u typed_.t typed_.fits has_values

    abbrev piece : Piece P set grow n E x e typed_.u
    piece = record { shown = show_e; typed = typed_.value_typed; words = x.words.1; covers = x.covers.1; may_assign = inr may_all }

    -- what the source does with the location and the value
    abbrev pub writes_value : Location → Value → Rest
    writes_value l val = writes_to P l val (λ o. x.go nothing) x.out

    abbrev pub with_location : Location → Rest
    with_location l = evaluates P e x.p.env (writes_value l) x.out

    -- the l-value
    abbrev pub place_at : (storage : Storage) (s : TranslationState) → locate P.findings v x.p.within x.σ ≡ drawn storage s → Later s x.τ → PlaceSituation P n v
    place_at storage s made last = record {
      ty = typed_.t;
      p = x.p;
      σ = x.σ;
      τ = s;
      storage = storage;
      h = x.h;
      types = x.types;
      r = x.r + 150;
      go = with_location;
      out = x.out;
      s = x.s;
      w = x.w;
      t = x.t;
      typed = typed_.place;
      words = x.words.0;
      covers = x.covers.0;
      may_assign = inr may_all;
      ready = ready_part P set x.p x.types x.types x.σ x.τ x.σ s (extends_none x.types) (later_none x.σ) (premises.place_grows v x.p.within storage x.σ s made) last x.ready;
      is_made = made;
      outward = λ g ms s2 w2 t2 l g2 e2 h2.
          more P (x.r + left_over) (x.r + 150 + left_over) n (rest_run x.out s2) (x.p.around.out x.p.within.leave w2 t2) (omega arith) (x.outward g ms s2 w2 t2 l g2 e2 h2);
      holds = x.holds;
    }

    -- what comes next, after the assignment
    abbrev OnwardHere : Next → Type 0
    OnwardHere next = Onward P {A = ℕ} n (x.r + left_over) x.p x.h x.types (λ g v u. IsLeft g want.Dropped v x.ty u) x.go (λ u w1 t1. next w1 t1)

    -- at an address
    at_address_follows : (before : Stms) (a y : Tx) (s1 s2 : TranslationState) → Later x.σ s1 → Later s2 x.τ → value_from (λ s. expression P.findings e want.Value x.p.within s) s1 ≡ drawn y s2 →
        StorageFollows P n (x.r + 150) x.p x.h x.types typed_.t with_location (rest_run (locates P v x.p.env with_location x.out) x.s) x.s x.w x.t (at_address before a) →
        (next : Next) → OnwardHere next →
        FollowsHere P (x.r + 256) n (rest_run (locates P v x.p.env with_location x.out) x.s) (statement_runs P x.p (store_at before a y) x.p.around next x.w x.t)
    at_address_follows before a y s1 s2 l1 l2 made_y follows next onward =
        let j : ℕ = 1 + hoisted_units Trees (is_flat y) in
        let source : Run Source = rest_run (locates P v x.p.env with_location x.out) x.s in
        let stores : ℕ → Go ℕ = λ u z w2 t2. with_memory (store w2.memory u z) w2 (λ w3. next w3 t2) in
        let go' : Go ℕ = λ u w1 t1. value_runs P x.p y x.p.around (stores u) w1 t1 in
        let small = hoisted_small (is_flat y) in
        store_runs P x.p (x.r + 256) n source before a y next x.w x.t
        (more P (x.r + 150 + j) (x.r + 256) n source (statements_run P x.p before x.p.around (λ w1 t1. charged j (value_runs P x.p a x.p.around go' w1 t1)) x.w x.t) (omega (arith, small))
        (follows j go'
        (λ g ms l u sx w1 t1 gg ee hh at.
        let k : Moment P set grow n E x = record {
          σ = s1;
          h = g;
          types = ms;
          r = x.r + 150;
          s = sx;
          w = w1;
          t = t1;
          enough = omega arith;
          later = l1;
          grows = gg;
          extends = ee;
          holds = hh;
        } in
        sub_value P set grow n E x k e typed_.u piece (x.r + 150 + left_over) (omega arith) able y s2 made_y l2 (writes_value l) (stores u)
        (λ b val z later st.
        let at2 = is_at_grows P x.p.places g b.h ms b.types l typed_.t u b.grows b.extends at in
        let q = write_at P set premises x.p b.h b.types b.s b.w b.t b.holds l typed_.t u val z at2 has_values (stands_fit b.h val typed_.u typed_.t z typed_.fits st) in
        follows_along P.stack tree_work (x.r + 150 + 56) n (rest_run (x.go nothing) q.s1) (rest_run (writes_value l val) b.s) (stores u z b.w b.t) (stores u z b.w b.t)
        (λ i. q.does (λ o. x.go nothing) x.out i) (λ i. refl)
        (subst (λ o. FollowsHere P (x.r + 150 + 56) n (rest_run (x.go nothing) q.s1) (with_memory o b.w (λ w3. next w3 b.t))) (sym q.stored)
        (more P (x.r + left_over) (x.r + 150 + 56) n (rest_run (x.go nothing) q.s1) (next (record b.w { memory = q.m1 }) b.t) (omega arith)
        (onward b.h b.types nothing 0 q.s1 (record b.w { memory = q.m1 }) b.t (grows_on x.h g b.h gg b.grows) (extends_on x.types ms b.types ee b.extends) q.after tt)))))))

    -- in a temporary
    in_temp_follows : (i : ℕ) (y : Ts) (s1 s2 : TranslationState) → Later x.σ s1 → Later s2 x.τ →
        arm_from (want.Into (record { 0 = i })) (λ s. expression P.findings e (want.Into (record { 0 = i })) x.p.within s) s1 ≡ drawn y s2 →
        StorageFollows P n (x.r + 150) x.p x.h x.types typed_.t with_location (rest_run (locates P v x.p.env with_location x.out) x.s) x.s x.w x.t (in_temp i) →
        (next : Next) → OnwardHere next →
        FollowsHere P (x.r + 256) n (rest_run (locates P v x.p.env with_location x.out) x.s) (statement_runs P x.p y x.p.around next x.w x.t)
    in_temp_follows i y s1 s2 l1 l2 made_y own next onward =
        let source : Run Source = rest_run (locates P v x.p.env with_location x.out) x.s in
        let key : Key = temporary x.p.scene.depth i in
        let here : x.p.places key ≡ variable own.place = plainly (x.p.places key) own.place (may_all i) own.is_of in
        let k : Moment P set grow n E x = record {
          σ = s1;
          h = x.h;
          types = x.types;
          r = x.r + 250;
          s = x.s;
          w = x.w;
          t = x.t;
          enough = omega arith;
          later = l1;
          grows = grows_none x.h;
          extends = extends_none x.types;
          holds = x.holds;
        } in
        more P (x.r + 150) (x.r + 256) n source _ (omega arith)
        (own.pays (statement_runs P x.p y x.p.around next x.w x.t)
        (sub_arm P set grow n E x k e typed_.u piece (x.r + 150 + 256) (omega arith) able i y s2 made_y l2 (writes_value (in_variable own.place)) next
        (λ b val z later st.
        let type_is = b.extends own.place typed_.t own.type_is in
        let o = own_value P set premises x.p b.h b.types b.s b.w b.t typed_.t own.place i b.holds own.is_of type_is in
        follows_along P.stack tree_work (x.r + 250 + 56) n (rest_run (x.go nothing) (put_variable own.place val b.s)) (rest_run (writes_value (in_variable own.place) val) b.s)
        (next b.w (set_temp i z b.t)) (next b.w (set_temp i z b.t))
        (λ c. ap (λ q. rest_run (with_found q (λ v2 w2. x.go nothing (put_variable own.place val w2))) b.s c) o.has) (λ c. refl)
        (more P (x.r + left_over) (x.r + 250 + 56) n (rest_run (x.go nothing) (put_variable own.place val b.s)) (next b.w (set_temp i z b.t)) (omega arith)
        (onward b.h b.types nothing 0 (put_variable own.place val b.s) b.w (set_temp i z b.t) b.grows b.extends
        (record {
          invariant = storing.assigned P.shapes P.heap (floor P) x.p.places b.h b.types b.s b.w b.w (with_temps x.p.scene.depth b.t x.p.others) (with_temps x.p.scene.depth (set_temp i z b.t) x.p.others)
              b.holds.invariant key z (temp_written b.w.memory x.p.scene.depth i z b.t x.p.others b.holds.invariant.memory.whole) refl (λ c known e. cc) (λ c e. cc)
              own.place val typed_.t here type_is (stands_fit b.h val typed_.u typed_.t z typed_.fits st);
          weight = b.holds.weight;
          depth = b.holds.depth;
          statics = b.holds.statics;
          literals = b.holds.literals;
        }) tt)))))

    abbrev E_of : Want → Translates Made
    E_of w = λ s. expression P.findings e w x.p.within s

    pub by_place : (storage : Storage) (s1 : TranslationState) → locate P.findings v x.p.within x.σ ≡ drawn storage s1 →
        after (assigned storage E_of s1) (λ st u. drawn (done st) u) ≡ drawn x.m x.τ → IsShown P n E x
    by_place (in_temp i) s1 made rest =
        let i1 = after_inv (assigned (in_temp i) E_of s1) _ x.m x.τ rest in
        let l1 = premises.place_grows v x.p.within (in_temp i) x.σ s1 made in
        let same : i1.1 ≡ x.τ = ap state_in i1.3 in
        let last : Later i1.1 x.τ = subst (λ o. Later i1.1 o) same (later_none i1.1) in
        let dropped_ : x.wanted ≡ want.Dropped = dropped_only x.wanted (subst (λ o. IsWantable x.wanted o) typed_.none x.wantable) in
        let j1 = after_inv (expression P.findings e (want.Into (record { 0 = i })) x.p.within s1) _ i1.0 i1.1 i1.2 in
        let l2 : Later s1 i1.1 = later_on s1 j1.1 i1.1 (grow e (want.Into (record { 0 = i })) x.p.within j1.0 s1 j1.1 j1.2) (subst (λ o. Later j1.1 o) (ap state_in j1.3) (later_none j1.1)) in
        by_made P n E x (done i1.0) i1.1 i1.3 tt
        (subst (λ o. MadeFollows P n x.r x.p x.h x.types o x.ty x.go (source_of P n E x) x.w x.t (done i1.0)) (sym dropped_)
        (λ next onward.
        paid P x.r n (rest_run (locates P v x.p.env with_location x.out) x.s) (statement_runs P x.p i1.0 x.p.around next x.w x.t)
        (in_temp_follows i i1.0 s1 i1.1 l1 last i1.2 (show_v (place_at (in_temp i) s1 made (later_on s1 i1.1 x.τ l2 last))) next onward)))
    by_place (at_address before a) s1 made rest =
        let i1 = after_inv (assigned (at_address before a) E_of s1) _ x.m x.τ rest in
        let j1 = after_inv (expression P.findings e want.Value x.p.within s1) _ i1.0 i1.1 i1.2 in
        let k1 = after_inv (value_of j1.0 j1.1) _ i1.0 i1.1 j1.3 in
        let made_y : after (expression P.findings e want.Value x.p.within s1) value_of ≡ drawn k1.0 k1.1 = ap (λ o. after o value_of) j1.2 ∙ k1.2 in
        let l1 = premises.place_grows v x.p.within (at_address before a) x.σ s1 made in
        let store_ : Ts = store_at before a k1.0 in
        let all : drawn (done store_) k1.1 ≡ drawn x.m x.τ = ap (λ o. after o (λ st u. drawn (done st) u)) k1.3 ∙ i1.3 in
        let last : Later k1.1 x.τ = subst (λ o. Later k1.1 o) (ap state_in all) (later_none k1.1) in
        let l2 : Later s1 k1.1 = later_on s1 j1.1 k1.1 (grow e want.Value x.p.within j1.0 s1 j1.1 j1.2) (later_value j1.0 j1.1 k1.1 k1.0 k1.2) in
        let dropped_ : x.wanted ≡ want.Dropped = dropped_only x.wanted (subst (λ o. IsWantable x.wanted o) typed_.none x.wantable) in
        by_made P n E x (done store_) k1.1 all tt
        (subst (λ o. MadeFollows P n x.r x.p x.h x.types o x.ty x.go (source_of P n E x) x.w x.t (done store_)) (sym dropped_)
        (λ next onward.
        paid P x.r n (rest_run (locates P v x.p.env with_location x.out) x.s) (statement_runs P x.p store_ x.p.around next x.w x.t)
        (at_address_follows before a k1.0 s1 k1.1 l1 last made_y (show_v (place_at (at_address before a) s1 made (later_on s1 k1.1 x.τ l2 last))) next onward)))

    pub assign_shown : begins_with P.findings.meaning e v ≡ false → IsShown P n E x
    assign_shown plain =
        let i = after_inv (locate P.findings v x.p.within x.σ) _ x.m x.τ x.is_made in
        by_place i.0 i.1 i.2
        (sym (ap (λ o. after (assignment o i.0 E_of (λ r w. behind_read P.findings e r w x.p.within) i.1) (λ st u. drawn (done st) u)) plain) ∙ i.3)
