-- A variable is declared: its value is put into its home, and what stands after sees it; and where
-- its block ends its home is in no use again.
use Rattle.std.proofs.Common.{◌≡◌, ◌≢◌, ℕ, zero, suc, ◌+◌, ◌-◌, ◌*◌, ◌%◌, ◌<◌, ◌≤◌, ◌==◌, List, [], ◌∷◌, ◌++◌, Option, Some, None, Bool, true, false, refl, sym, ap, ◌∙◌}
use Rattle.std.proofs.Common.{arith, subst, inl, inr, eq-eqb, append_assoc}
use Rattle.std.specs.Prelude.{slice_get, length, ◌⊎◌, if◌then◌else◌}
use Rattle.tg_machine_state.specs.State.{stack_top, heap_base}
use Rattle.tg_syntax.specs.declared.tokens.Ident.{Ident}
use Rattle.tg_syntax.specs.OfWords.{OfWords}
use Rattle.tg_syntax.specs.Tree.{Exp}
use Rattle.tg_symbols.specs.Tables.{looked_up}
use Rattle.tg_simulation.specs.Runs.{Run}
use Rattle.tg_simulation.specs.Ran.{Ran}
use Rattle.tg_simulation.specs.Changes.{costs}
use Rattle.tg_simulation.specs.Agreement.{Source}
use Rattle.tg_semantics.specs.Values.{Value, SourceWorld, Env, add_variable}
use Rattle.tg_semantics.specs.Evaluation.{with_variable}
use Rattle.tg_semantics.specs.Passing.{Rest}
use Rattle.tg_semantics.specs.MachineRuns.{rest_run}
use Rattle.tg_typecheck.specs.Types.{Ty, int_type, none_type}
use Rattle.tg_semantics.specs.Environments.{name_of}
use Rattle.tg_typecheck.specs.Scopes.{Scope, variable_at, binding, at_of}
use Rattle.tg_typecheck.specs.Has.{Has, HasValues, Fits}
use Rattle.tg_frame.specs.declared.accesses.Access.{Access}
use Rattle.tg_frame.specs.declared.accesses.Access.TheVariants.{InTemp, InFrame}
use Rattle.tg_tree.specs.Tree.{Tx, Ts, FrameAddress, Store}
use Rattle.tg_tree.specs.Units.{Trees, hoisted_units}
use Rattle.tg_tree.specs.Shapes.{is_flat}
use Rattle.tg_tree.specs.Memory.{Memory, Closed, Has as HasWord, put, slot, store}
use Rattle.tg_base.specs.Words.{sub}
use Rattle.tg_tree.specs.Actions.{World, Temps, set_temp, Go, Next, with_memory}
use Rattle.tg_translate.specs.declared.homes.Home.{Home}
use Rattle.tg_translate.specs.declared.wants.Want.{Want}
use Rattle.tg_translate.specs.declared.wants.Want.TheVariants as want
use Rattle.tg_translate.specs.mirror.States.{TranslationState, drawn, Translates, after, one_temp, one_slot}
use Rattle.tg_translate.specs.mirror.Wants.{Made, value_of, put_in}
use Rattle.tg_translate.specs.mirror.Constructs.{slot_address}
use Rattle.tg_translate.specs.mirror.Translate.{expression, declaration_of}
use Rattle.tg_translate_proof.specs.glue.Tables.{Later, IsMoment, IsSuffix}
use Rattle.tg_translate_proof.specs.glue.Worlds.{Holdings, unknown, Stands, GrowsTo, Key, cell, temporary, Content, nowhere, free, variable, kept, fixed}
use Rattle.tg_translate_proof.specs.glue.Worlds.{Places, IsOf, HoldsAt, Invariant}
use Rattle.tg_translate_proof.specs.glue.Situations as situations
use Rattle.tg_translate_proof.specs.glue.Situations.{Program, Part, Setting, Holds, IsReady, IsCovered, MayAssign, Extends, with_temps, floor, key_of}
use Rattle.tg_translate_proof.specs.glue.Situations.{statement_runs, value_runs}
use Rattle.tg_translate_proof.specs.glue.Shown.{Shown, FollowsHere, left_over, evaluates}
use Rattle.tg_translate_proof.proofs.state.TranslationStates.{made_in, state_in, after_inv, later_none, later_on, later_value, behind_none, behind_on, front_none, found_later, moment_before}
use Rattle.tg_translate_proof.proofs.invariant.Cases.{worked, grows_none, grows_on}
use Rattle.tg_translate_proof.proofs.invariant.Parts.{StatesGrow, more, paid, along_on, ready_part, extends_none, extends_on}
use Rattle.tg_translate_proof.proofs.state.ValueWords.{stands_fit, fits_has_values}
use Rattle.tg_translate_proof.proofs.expressions.BinarySides.{hoisted_small}
use Rattle.tg_translate_proof.proofs.state.Keys.{put_place, put_here, by_key, depth_of, index_of, scene_put, get_front, get_last}
use Rattle.tg_translate_proof.proofs.state.HomeWrites.{Written, temp_written, slot_written, begins, is_nowhere_again, is_free_again}
use Rattle.tg_translate_proof.proofs.state.StaticLinks.{slot_word}
use Rattle.tg_translate_proof.proofs.invariant.Asked.{Standing, Asked, asked_arm, asked_value}

-- a part that sees more, in more places
abbrev pub inside : Part → Scope → Env → Places → Part
inside p scope env places = record p { scope = scope; env = env; places = places }

pub extends_front : (types more : List Ty) → Extends types (types ++ more)
extends_front types more i t e = get_front types more i t e

module _ (P : Program) (set : Setting P) where
  -- a heap is below the stack
  pub heap_under : (p : Part) (h : Holdings) (types : List Ty) (s : SourceWorld) (w : World) (t : Temps) → Holds P p h types s w t → heap_base + length w.memory.heap ≤ floor P
  heap_under p h types s w t hh = let a = hh.invariant.memory.taken in let b = set.heap_small in let c = set.stack_small in omega (arith, a, b, c)

  -- what a variable that is declared here makes of a part
  abbrev pub with_home : Part → Ident → Ty → (loop : Bool) → (place : ℕ) → Key → Part
  with_home p x ty loop place key =
      inside p (binding x (variable_at (at_of x) ty loop) p.scope) (with_variable (name_of x) place p.env) (put_place key (variable place) p.places)

  -- A home that is free to be declared, where a variable is.
  pub record Home_at (p : Part) (σ τ : TranslationState) (x : Ident) (access : Access) (key : Key) : Type 0 where
    pub key_is : key_of p.scene p.env.level access ≡ key
    pub seen : looked_up (at_of x) σ.homes ≡ looked_up (at_of x) P.table.homes
    pub tabled : looked_up (at_of x) P.table.homes ≡ Some (record { level = p.within.level; access = access })
    pub unlinked : (u : ℕ) → p.places key ≢ fixed u
    pub unused : (l : ℕ) → IsOf l (p.places key) → ⊥
    pub shallow : depth_of key ≤ p.scene.depth
    pub high : (a : ℕ) → key ≡ cell a → p.scene.activation.base - p.scene.activation.size ≤ a
    pub apart_slots : (k : ℕ) → σ.frame.slots ≤ k → k < τ.frame.slots → cell (slot p.scene.activation.base k) ≢ key
    pub apart_temps : (i : ℕ) → σ.frame.temps ≤ i → i < τ.frame.temps → temporary p.scene.depth i ≢ key

  -- what stands after a declaration is ready
  pub ready_with : (p : Part) (types ms : List Ty) (σ τ u : TranslationState) (x : Ident) (ty : Ty) (loop : Bool) (place : ℕ) (access : Access) (key : Key) → IsReady P p types σ τ → Extends types ms → Later σ u → Later u τ →
      Home_at p u τ x access key → HasValues ty → slice_get ms place ≡ Some ty → IsReady P (with_home p x ty loop place key) ms u τ
  ready_with p types ms σ τ u x ty loop place access key ready ee l1 l2 home values type_is =
      let o = ready_part P set p types ms σ τ u τ ee l1 l2 (later_none τ) ready in
      let levels : p.env.level ≤ p.scene.level = let e = ready.same_level in omega (arith, e) in
      let stays : (k : Key) (l : ℕ) → IsOf l (p.places k) → IsOf l (put_place key (variable place) p.places k) =
      λ k l is. by_key k key (λ c. IsOf l c) (variable place) p.places (λ f. absurd (home.unused l (subst (λ z. IsOf l (p.places z)) f is))) is in
      record {
        scene = scene_put (floor P) P.stack p.places p.scene key (variable place) home.unlinked home.shallow home.high o.scene;
        along = situations.a_variable p.scene.level p.env.level (name_of x) (at_of x) place ty loop (record { level = p.within.level; access = access }) p.env.entries p.scope.bindings levels values
            home.tabled (ready.level ∙ sym ready.same_level)
            (λ near. subst (λ z. IsOf place (put_place key (variable place) p.places z)) (sym home.key_is) (subst (λ c. IsOf place c) (sym (put_here key (variable place) p.places)) refl))
            type_is (along_on P p.places (put_place key (variable place) p.places) ms ms p.scene stays (extends_none ms) p.scene.level p.env.entries p.scope.bindings o.along);
        fits = o.fits;
        found = (home.seen, o.found);
        moment = o.moment;
        level = o.level;
        same_level = o.same_level;
        links = o.links;
        slots_free = λ k a b. by_key (cell (slot p.scene.activation.base k)) key (λ c. c ≡ free) (variable place) p.places (λ f. absurd (home.apart_slots k a b f)) (o.slots_free k a b);
        temps_free = λ i a b. by_key (temporary p.scene.depth i) key (λ c. c ≡ nowhere) (variable place) p.places (λ f. absurd (home.apart_temps i a b f)) (o.temps_free i a b);
        slots_there = o.slots_there;
        activation = o.activation;
      }

  -- a home that was just declared is the table's, in each later state
  pub home_tabled : (p : Part) (s u τ : TranslationState) (x : Ident) (access : Access) (homes : _) → IsMoment P.table P.code τ → Later s u → Later u τ →
      s.homes ≡ (at_of x, record { level = p.within.level; access = access }) ∷ homes →
      (looked_up (at_of x) u.homes ≡ looked_up (at_of x) P.table.homes) ×
      (looked_up (at_of x) P.table.homes ≡ Some (record { level = p.within.level; access = access }))
  home_tabled p s u τ x access homes m l1 l2 first =
      let home : Home = record { level = p.within.level; access = access } in
      let at : ℕ = at_of x in
      let mu : IsMoment P.table P.code u = moment_before P.table P.code u τ m l2 in
      let behind_ : IsSuffix P.table.homes s.homes = behind_on mu.homes l1.homes in
      let here : looked_up at s.homes ≡ Some home =
      ap (λ o. looked_up at o) first ∙ ap (λ b. if b then Some home else looked_up at homes) (eq-eqb at at refl) in
      let tabled : looked_up at P.table.homes ≡ Some home = set.homes_once at home behind_.more s.homes behind_.whole_is here in
      ((found_later P set s u ((name_of x, variable_at at int_type false) ∷ []) l1 mu (here ∙ sym tabled, tt)).0, tabled)

  -- Where a variable begins.
  module _ (grow : StatesGrow P) (n : ℕ) (k : Standing P set grow n) (x : Ident) (e : Exp) (ty from : Ty) (loop : Bool) (values : HasValues ty) (fits : Fits from ty) (shown : Shown P n e) (typed : Has P.shapes P.notes e k.p.scope from)
      (words : OfWords e) (covers : IsCovered P k.p e) (may_assign : MayAssign P k.p e) where
    able : from ≢ none_type
    able = fits_has_values from ty fits values

    -- what the source goes on with, by the place of the variable
    abbrev pub new_place : (rest : (place : ℕ) → Rest) → Value → Rest
    new_place rest v w = rest (length w.variables) (add_variable v w)

    -- the moment after the declaration of its home
    abbrev at_value : (s : TranslationState) → Later k.σ s → Later s k.τ → Standing P set grow n
    at_value s l1 l2 = record {
      p = k.p;
      σ = s;
      τ = k.τ;
      h = k.h;
      types = k.types;
      r = k.r + 200;
      out = k.out;
      s = k.s;
      w = k.w;
      t = k.t;
      ready = ready_part P set k.p k.types k.types k.σ k.τ s k.τ (extends_none k.types) l1 l2 (later_none k.τ) k.ready;
      outward = λ g ms s2 w2 t2 l gg ee hh. more P (k.r + left_over) (k.r + 200 + left_over) n (rest_run k.out s2) (k.p.around.out k.p.within.leave w2 t2) (omega arith) (k.outward g ms s2 w2 t2 l gg ee hh);
      holds = k.holds;
    }

    abbrev asked_there : (s : TranslationState) (l1 : Later k.σ s) (l2 : Later s k.τ) → Asked P set grow n (at_value s l1 l2) e from
    asked_there s l1 l2 = record { shown = shown; typed = typed; words = words; covers = covers; may_assign = may_assign }

    -- What stands after a declaration.
    pub record Declared (u : TranslationState) (place : ℕ) (key : Key) (g : Holdings) (ms : List Ty) (s : SourceWorld) (w : World) (t : Temps) : Type 0 where
      pub grows : GrowsTo k.h g
      pub extends : Extends k.types ms
      pub ready : IsReady P (with_home k.p x ty loop place key) ms u k.τ
      pub holds : Holds P (with_home k.p x ty loop place key) g ms s w t
      -- it ends where its block does
      pub back : (g3 : Holdings) (ms3 : List Ty) (s3 : SourceWorld) (w3 : World) (t3 : Temps) → Holds P (with_home k.p x ty loop place key) g3 ms3 s3 w3 t3 → Holds P k.p g3 ms3 s3 w3 t3

    abbrev pub DeclaredOnward : (u : TranslationState) → (rest : (place : ℕ) → Rest) → Next → Type 0
    DeclaredOnward u rest next =
        (place : ℕ) (key : Key) (g : Holdings) (ms : List Ty) (s : SourceWorld) (w : World) (t : Temps) → Declared u place key g ms s w t → FollowsHere P k.r n (rest_run (rest place) s) (next w t)

    -- in a temporary
    abbrev temp_state : TranslationState
    temp_state = record k.σ { homes = (at_of x, record { level = k.p.within.level; access = InTemp (record { 0 = k.σ.frame.temps }) }) ∷ k.σ.homes; frame = one_temp k.σ.frame }

    abbrev slot_state : TranslationState
    slot_state = record k.σ { homes = (at_of x, record { level = k.p.within.level; access = InFrame k.σ.frame.slots }) ∷ k.σ.homes; frame = one_slot k.σ.frame }

    to_temp : Later k.σ temp_state
    to_temp = record { temps = omega arith; slots = omega arith; homes = record { more = (at_of x, record { level = k.p.within.level; access = InTemp (record { 0 = k.σ.frame.temps }) }) ∷ []; whole_is = refl }; callees = behind_none; literals = front_none; functions = front_none }

    to_slot : Later k.σ slot_state
    to_slot = record { temps = omega arith; slots = omega arith; homes = record { more = (at_of x, record { level = k.p.within.level; access = InFrame k.σ.frame.slots }) ∷ []; whole_is = refl }; callees = behind_none; literals = front_none; functions = front_none }

    abbrev E_of : Want → Translates Made
    E_of v = λ s. expression P.findings e v k.p.within s

    in_temporary : (one : Ts) (u : TranslationState) → declaration_of (λ _. false) k.p.within.level (at_of x) E_of k.σ ≡ drawn one u → Later u k.τ → (rest : (place : ℕ) → Rest) (next : Next) → DeclaredOnward u rest next →
        FollowsHere P k.r n (λ i. costs 1 (rest_run (evaluates P e k.p.env (new_place rest) k.out) k.s i)) (statement_runs P k.p one k.p.around next k.w k.t)
    in_temporary one u made last rest next onward =
        let i : ℕ = k.σ.frame.temps in
        let access : Access = InTemp (record { 0 = i }) in
        let key : Key = temporary k.p.scene.depth i in
        let i1 = after_inv (expression P.findings e (want.Into (record { 0 = i })) k.p.within temp_state) _ one u made in
        let m : Made = i1.0 in
        let same : i1.1 ≡ u = ap state_in i1.3 in
        let made_m : expression P.findings e (want.Into (record { 0 = i })) k.p.within temp_state ≡ drawn m u = i1.2 ∙ ap (λ o. drawn m o) same in
        let la : Later temp_state u = grow e (want.Into (record { 0 = i })) k.p.within m temp_state u made_m in
        let l1 : Later k.σ u = later_on k.σ temp_state u to_temp la in
        let lt : Later temp_state k.τ = later_on temp_state u k.τ la last in
        let k1 : Standing P set grow n = at_value temp_state to_temp lt in
        let idle : k.p.places key ≡ nowhere = k.ready.temps_free i (omega arith) (let a = lt.temps in omega (arith, a)) in
        let found = home_tabled k.p temp_state u k.τ x access k.σ.homes k.ready.moment la last refl in
        let home : Home_at k.p u k.τ x access key = record {
          key_is = refl;
          seen = found.0;
          tabled = found.1;
          unlinked = λ z f. let g = sym idle ∙ f in cc;
          unused = λ l is. absurd (subst (λ c. IsOf l c) idle is);
          shallow = omega arith;
          high = λ a f. cc;
          apart_slots = λ j a b f. cc;
          apart_temps = λ j a b f. let g : j ≡ i = ap index_of f in let o = la.temps in omega (arith, a, g, o);
        } in
        let source : Run Source = rest_run (evaluates P e k.p.env (new_place rest) k.out) k.s in
        paid P k.r n source (statement_runs P k.p one k.p.around next k.w k.t)
        (more P (k.r + 200 + 4) (k.r + 256) n source (statement_runs P k.p one k.p.around next k.w k.t) (omega arith)
        (subst (λ o. FollowsHere P (k.r + 200 + 4) n source (statement_runs P k.p o k.p.around next k.w k.t)) (ap made_in i1.3)
        (asked_arm P set grow n k1 e from (asked_there temp_state to_temp lt) (new_place rest) m u i able made_m last next
        (λ g ms v z s2 w2 t2 gg ee hh st.
        let place : ℕ = length s2.variables in
        let ms2 : List Ty = ms ++ ty ∷ [] in
        let type_is : slice_get ms2 place ≡ Some ty = subst (λ o. slice_get ms2 o ≡ Some ty) hh.invariant.variables (get_last ms ty) in
        let t3 : Temps = set_temp i z t2 in
        more P k.r (k.r + 200 + 56) n (rest_run (rest place) (add_variable v s2)) (next w2 t3) (omega arith)
        (onward place key g ms2 (add_variable v s2) w2 t3
        (record {
          grows = gg;
          extends = extends_on k.types ms ms2 ee (extends_front ms (ty ∷ []));
          ready = ready_with k.p k.types ms2 k.σ k.τ u x ty loop place access key k.ready (extends_on k.types ms ms2 ee (extends_front ms (ty ∷ []))) l1 last home values type_is;
          holds = record {
            invariant = begins P.shapes P.heap (floor P) k.p.places g ms s2 w2 w2 (with_temps k.p.scene.depth t2 k.p.others) (with_temps k.p.scene.depth t3 k.p.others) hh.invariant key z
                (temp_written w2.memory k.p.scene.depth i z t2 k.p.others hh.invariant.memory.whole) refl (λ b known f. cc) (λ a f. cc) v ty (stands_fit g v from ty z fits st);
            weight = hh.weight;
            depth = hh.depth;
            statics = hh.statics;
            literals = hh.literals;
          };
          back = λ g3 ms3 s3 w3 t4 hp. record {
            invariant = is_nowhere_again P.shapes P.heap (floor P) (put_place key (variable place) k.p.places) g3 ms3 s3 w3 (with_temps k.p.scene.depth t4 k.p.others) hp.invariant key k.p.places (variable place) refl idle (λ b known f. cc);
            weight = hp.weight;
            depth = hp.depth;
            statics = hp.statics;
            literals = hp.literals;
          };
        }))))))

    in_slot : (one : Ts) (u : TranslationState) → declaration_of (λ _. true) k.p.within.level (at_of x) E_of k.σ ≡ drawn one u → Later u k.τ → (rest : (place : ℕ) → Rest) (next : Next) → DeclaredOnward u rest next →
        FollowsHere P k.r n (λ i. costs 1 (rest_run (evaluates P e k.p.env (new_place rest) k.out) k.s i)) (statement_runs P k.p one k.p.around next k.w k.t)
    in_slot one u made last rest next onward =
        let j : ℕ = k.σ.frame.slots in
        let access : Access = InFrame j in
        let base : ℕ = k.p.scene.activation.base in
        let a : ℕ = slot base j in
        let key : Key = cell a in
        let i1 = after_inv (expression P.findings e want.Value k.p.within slot_state) _ one u made in
        let m : Made = i1.0 in
        let i2 = after_inv (value_of m i1.1) _ one u i1.3 in
        let y : Tx = i2.0 in
        let same : i2.1 ≡ u = ap state_in i2.3 in
        let made_y : value_of m i1.1 ≡ drawn y u = i2.2 ∙ ap (λ o. drawn y o) same in
        let lm : Later slot_state i1.1 = grow e want.Value k.p.within m slot_state i1.1 i1.2 in
        let la : Later slot_state u = later_on slot_state i1.1 u lm (later_value m i1.1 u y made_y) in
        let l1 : Later k.σ u = later_on k.σ slot_state u to_slot la in
        let lt : Later slot_state k.τ = later_on slot_state u k.τ la last in
        let k1 : Standing P set grow n = at_value slot_state to_slot lt in
        let drawn_one : j < k.τ.frame.slots = let o = lt.slots in omega (arith, o) in
        let idle : k.p.places key ≡ free = k.ready.slots_free j (omega arith) drawn_one in
        let used : k.p.places key ≢ nowhere = λ f. let g = sym idle ∙ f in cc in
        let scene = k.ready.scene in
        let within_slots : j < k.p.scene.slots = let o = k.ready.slots_there in omega (arith, o, drawn_one) in
        let room_ = scene.within in
        let fits_ = scene.fits in
        let top = scene.high k.p.scene.level (omega arith) in
        let here = scene.here in
        let levels = k.ready.same_level in
        let low : 4 * (j + 1) ≤ base = omega (arith, room_, fits_, within_slots) in
        let up = k.holds.invariant.above a used in
        let found = home_tabled k.p slot_state u k.τ x access k.σ.homes k.ready.moment la last refl in
        let home : Home_at k.p u k.τ x access key = record {
          key_is = ap (λ o. cell (slot o j)) (ap k.p.scene.chain levels ∙ here);
          seen = found.0;
          tabled = found.1;
          unlinked = λ z f. let g = sym idle ∙ f in cc;
          unused = λ l is. absurd (subst (λ c. IsOf l c) idle is);
          shallow = omega arith;
          high = λ b f. let g : a ≡ b = ap index_of f in omega (arith, g, fits_, within_slots);
          apart_slots = λ b lo hi f.
              let g : slot base b ≡ a = ap index_of f in
              let o = la.slots in
              let there = k.ready.slots_there in
              omega (arith, g, o, lo, hi, there, fits_, room_, low);
          apart_temps = λ b lo hi f. cc;
        } in
        let source : Run Source = rest_run (evaluates P e k.p.env (new_place rest) k.out) k.s in
        let flat = hoisted_small (is_flat y) in
        let at_base : k.p.around.activation.base ≡ base = ap (λ o. o.base) k.ready.activation in
        let address : sub k.p.around.activation.base (4 * (j + 1)) ≡ a = ap (λ o. sub o (4 * (j + 1))) at_base ∙ slot_word base j low (omega (arith, top, here)) in
        let stores : ℕ → Go ℕ = λ b z w2 t2. with_memory (store w2.memory b z) w2 (λ w3. next w3 t2) in
        let put_at : ℕ → Run Ran = λ b. value_runs P k.p y k.p.around (stores b) k.w k.t in
        paid P k.r n source (statement_runs P k.p one k.p.around next k.w k.t)
        (subst (λ o. FollowsHere P (k.r + 256) n source (statement_runs P k.p o k.p.around next k.w k.t)) (ap made_in i2.3)
        (worked P (k.r + 200 + 4 + 4) (k.r + 256) (1 + hoisted_units Trees (is_flat y)) n source _ (omega (arith, flat))
        (worked P (k.r + 200 + 4 + 3) (k.r + 200 + 4 + 4) 1 n source _ (omega arith)
        (worked P (k.r + 200 + 4 + 2) (k.r + 200 + 4 + 3) 1 n source _ (omega arith)
        (worked P (k.r + 200 + 4) (k.r + 200 + 4 + 2) 2 n source (put_at (sub k.p.around.activation.base (4 * (j + 1)))) (omega arith)
        (subst (λ o. FollowsHere P (k.r + 200 + 4) n source (put_at o)) (sym address)
        (asked_value P set grow n k1 e from (asked_there slot_state to_slot lt) (new_place rest) want.Value m i1.1 y u tt able i1.2 made_y last (stores a)
        (λ g ms v z s2 w2 t2 gg ee hh st.
        let place : ℕ = length s2.variables in
        let ms2 : List Ty = ms ++ ty ∷ [] in
        let ts = with_temps k.p.scene.depth t2 k.p.others in
        let type_is : slice_get ms2 place ≡ Some ty = subst (λ o. slice_get ms2 o ≡ Some ty) hh.invariant.variables (get_last ms ty) in
        let under = heap_under k.p g ms s2 w2 t2 hh in
        let is_open : w2.memory.stack a ≢ Closed = subst (λ c. HoldsAt g ms s2 w2.memory ts key c) idle (hh.invariant.holds key) in
        let q = slot_written w2.memory a z ts hh.invariant.memory.whole up.2 (omega (arith, under, up.0)) is_open in
        let w3 : World = record w2 { memory = put a (HasWord z) w2.memory } in
        subst (λ o. FollowsHere P (k.r + 200 + 56) n (rest_run (rest place) (add_variable v s2)) (with_memory o w2 (λ w4. next w4 t2))) (sym q.0)
        (more P k.r (k.r + 200 + 56) n (rest_run (rest place) (add_variable v s2)) (next w3 t2) (omega arith)
        (onward place key g ms2 (add_variable v s2) w3 t2
        (record {
          grows = gg;
          extends = extends_on k.types ms ms2 ee (extends_front ms (ty ∷ []));
          ready = ready_with k.p k.types ms2 k.σ k.τ u x ty loop place access key k.ready (extends_on k.types ms ms2 ee (extends_front ms (ty ∷ []))) l1 last home values type_is;
          holds = record {
            invariant = begins P.shapes P.heap (floor P) k.p.places g ms s2 w2 w3 ts ts hh.invariant key z q.1 refl
                (λ b known f. let low_ = hh.invariant.known b known in let o : b ≡ a = ap index_of f in omega (arith, low_.1, o, under, up.0))
                (λ b f. subst (λ o. (floor P ≤ o) × (o < stack_top) × (o % 4 ≡ 0)) (ap index_of f) up) v ty (stands_fit g v from ty z fits st);
            weight = hh.weight;
            depth = hh.depth;
            statics = hh.statics;
            literals = hh.literals;
          };
          back = λ g3 ms3 s3 w4 t4 hp.
              let under3 = heap_with place key g3 ms3 s3 w4 t4 hp in
              record {
                invariant = is_free_again P.shapes P.heap (floor P) k.p.places g3 ms3 s3 w4 (with_temps k.p.scene.depth t4 k.p.others) a (variable place) hp.invariant (λ f. cc) idle under3
                    (λ b known f. let low_ = hp.invariant.known b known in let o : b ≡ a = ap index_of f in omega (arith, low_.1, o, under3, up.0));
                weight = hp.weight;
                depth = hp.depth;
                statics = hp.statics;
                literals = hp.literals;
              };
        })))))))))))
      where
        heap_with : (place : ℕ) (key : Key) (g3 : Holdings) (ms3 : List Ty) (s3 : SourceWorld) (w4 : World) (t4 : Temps) → Holds P (with_home k.p x ty loop place key) g3 ms3 s3 w4 t4 → heap_base + length w4.memory.heap ≤ floor P
        heap_with place key g3 ms3 s3 w4 t4 hp = heap_under (with_home k.p x ty loop place key) g3 ms3 s3 w4 t4 hp

    pub declared_follows : (one : Ts) (u : TranslationState) → declaration_of P.findings.escapes k.p.within.level (at_of x) E_of k.σ ≡ drawn one u → Later u k.τ → (rest : (place : ℕ) → Rest) (next : Next) → DeclaredOnward u rest next →
        FollowsHere P k.r n (λ i. costs 1 (rest_run (evaluates P e k.p.env (new_place rest) k.out) k.s i)) (statement_runs P k.p one k.p.around next k.w k.t)
    declared_follows one u made last rest next onward = by (P.findings.escapes (at_of x)) made
      where
        by : (b : Bool) → declaration_of (λ _. b) k.p.within.level (at_of x) E_of k.σ ≡ drawn one u →
            FollowsHere P k.r n (λ i. costs 1 (rest_run (evaluates P e k.p.env (new_place rest) k.out) k.s i)) (statement_runs P k.p one k.p.around next k.w k.t)
        by true e2 = in_slot one u e2 last rest next onward
        by false e2 = in_temporary one u e2 last rest next onward
