-- The body of a declared function that is called: its frame is laid, its parameters are bound, and it is followed until after its return.
use Rattle.std.proofs.Common.{◌≡◌, ◌≢◌, ℕ, suc, ◌+◌, ◌<◌, ◌≤◌, ◌==◌, List, ◌∷◌, Some, Bool, true, false}
use Rattle.std.proofs.Common.{refl, sym, ap, ◌∙◌, arith, subst}
use Rattle.std.proofs.Common.{eq-eqb, ne_eqb, inl, inr}
use Rattle.std.specs.Prelude.{if◌then◌else◌, ◌%◌, ◌-◌, ◌⊎◌, length, map}
use Rattle.std.proofs.lemmas.Bool.{cases_lt}
use Rattle.std.proofs.lemmas.List.{length-map}
use Rattle.tg_machine_state.specs.State.{stack_top}
use Rattle.tg_frame.specs.declared.accesses.Access.{Access}
use Rattle.tg_frame.specs.Homes.{homes_of, homes_from, slots_of, temps_of}
use Rattle.tg_simulation.specs.Runs.{Run}
use Rattle.tg_simulation.specs.Agreement.{Source}
use Rattle.tg_simulation.proofs.Following.{follows_along}
use Rattle.tg_semantics.specs.Values.{Value, SourceWorld, add_weight, drop_weight, go_deeper, go_back}
use Rattle.tg_semantics.specs.Environments.{SourceFunction}
use Rattle.tg_semantics.specs.Evaluation as evaluation
use Rattle.tg_semantics.specs.Evaluation.{Job, run_function}
use Rattle.tg_semantics.specs.Levels.{function_weight}
use Rattle.tg_semantics.specs.Passing.{Rest, Passing, passing, ends}
use Rattle.tg_semantics.specs.MachineRuns.{rest_run, as_source}
use Rattle.tg_semantics.specs.laws.Laws.{behind}
use Rattle.tg_semantics.proofs.Unfolding.{fuel_unfolds}
use Rattle.tg_simulation.specs.Outcomes.{stuck}
use Rattle.tg_typecheck.specs.Types.{Ty, none_type}
use Rattle.tg_typecheck.specs.Scopes.{Signature, at_of, in_no_loop}
use Rattle.tg_typecheck.specs.Groups.{with_params}
use Rattle.tg_tree.specs.Tree.{Ts, Function}
use Rattle.tg_tree.specs.Units.{Trees}
use Rattle.tg_tree.specs.FrameSizes.{IsSizeOf}
use Rattle.tg_tree.specs.Memory.{Unset, Closed, Has, put, slot}
use Rattle.tg_tree.specs.Actions.{World, Temps, set_temp, Around, Back, Next, wrong}
use Rattle.tg_tree.specs.Meaning as meaning
use Rattle.tg_tree.specs.Running.{body_point, function_of, outermost, with_slots}
use Rattle.tg_tree.specs.Running.{without_slots, no_temps}
use Rattle.tg_tree.specs.Links.{LinkedPoint}
use Rattle.tg_tree.proofs.Linked.{linked_own}
use Rattle.tg_runtime_proof.proofs.Calling.{placed_world, placed_temps}
use Rattle.tg_translate.specs.declared.homes.Within.{Within}
use Rattle.tg_translate.specs.mirror.States.{TranslationState, drawn}
use Rattle.tg_translate.specs.mirror.Wants.{Made, done}
use Rattle.tg_translate.specs.mirror.Functions.{asked, own_homes, frame_for, opened as opened_state, inside, closing, result_want, with_body, parameters}
use Rattle.tg_translate.specs.mirror.Translate.{expression}
use Rattle.tg_correctness.specs.laws.Laws.{tree_work}
use Rattle.tg_translate_proof.specs.glue.Covered.{with_level, Covers}
use Rattle.tg_translate_proof.specs.glue.Tables.{IsMoment, Later, HasFound}
use Rattle.tg_translate_proof.specs.glue.Worlds.{Holdings, Stands, Places, Key, cell, temporary, nowhere, fixed}
use Rattle.tg_translate_proof.specs.glue.Worlds.{AllTemps, GrowsTo, Scene, IsScene}
use Rattle.tg_translate_proof.specs.glue.Situations.{Program, Setting, Part, floor, with_temps, Extends, Holds, IsReady}
use Rattle.tg_translate_proof.specs.glue.Situations.{frames_of, frames_at, calling, heads, going, statement_runs}
use Rattle.tg_translate_proof.specs.glue.Shown.{FollowsHere, Shown, evaluates}
use Rattle.tg_translate_proof.proofs.state.TranslationStates.{after_inv, moment_before}
use Rattle.tg_translate_proof.proofs.invariant.Parts.{StatesGrow}
use Rattle.tg_translate_proof.proofs.state.OneKey.{put_place, put_here}
use Rattle.tg_translate_proof.proofs.state.NewFrames.{HasRoom, NewFrame, opened, laid_places, slot_fixed, temp_fixed}
use Rattle.tg_translate_proof.proofs.state.NamesInSight.{IsSeenFunction}
use Rattle.tg_translate_proof.proofs.program.FunctionEntry.{adds_fit, IsGiven, AreTabled, params_found, found_alike, along_inside, along_up, Opens}
use Rattle.tg_translate_proof.proofs.program.FunctionEntry.{IsBound, params_bound, returned_invariant, deeper_invariant}
use Rattle.tg_translate_proof.proofs.state.Frames.{frames_alike, label_found, link_slots, link_temps, own_is, slots_are}
use Rattle.tg_translate_proof.proofs.state.Frames.{temps_are, homes_many, params_loop, placed_statics, lay_statics}
use Rattle.tg_translate_proof.proofs.state.StatesGrow.{frame_by, text_grows}
use Rattle.tg_translate_proof.proofs.program.FunctionReturn.{body_wantable, closing_later, closing_follows}

-- A call of a declared function, its arguments evaluated: where it is called, and what both sides have then.
pub record Called (P : Program) : Type 0 where
  pub p : Part
  pub name : ℕ  -- by which it is called
  pub at : ℕ  -- the byte where it is declared
  pub sig : Signature
  pub types : List Ty  -- of the variables
  pub h : Holdings
  pub s : SourceWorld
  pub w : World
  pub t : Temps
  pub scene : IsScene (floor P) P.stack p.places p.scene
  pub holds : Holds P p h types s w t
  pub function : IsSeenFunction P p.places types p.scene p.scene.level p.env.entries name at sig

module _ (P : Program) (set : Setting P) (grow : StatesGrow P) (x : Called P) where
  abbrev pub p : Part
  p = x.p

  abbrev pub sig : Signature
  sig = x.sig

  abbrev pub types : List Ty
  types = x.types

  abbrev pub h : Holdings
  h = x.h

  abbrev pub s : SourceWorld
  s = x.s

  abbrev pub w : World
  w = x.w

  abbrev pub t : Temps
  t = x.t

  abbrev pub scene : IsScene (floor P) P.stack x.p.places x.p.scene
  scene = x.scene

  abbrev pub holds : Holds P x.p x.h x.types x.s x.w x.t
  holds = x.holds

  abbrev pub K : IsSeenFunction P x.p.places x.types x.p.scene x.p.scene.level x.p.env.entries x.name x.at x.sig
  K = x.function

  -- what comes after the return, on both sides: nothing is said of a value that isn't one
  abbrev pub CallerOnward : (n r : ℕ) → (Value → Rest) → Back → Type 0
  CallerOnward n r go back =
      (g : Holdings) (types1 : List Ty) (v : Value) (u : ℕ) (s2 : SourceWorld) (w2 : World) → GrowsTo h g → Extends types types1 →
      Holds P p g types1 s2 w2 t → (sig.result ≢ none_type → Stands g v sig.result u) →
      FollowsHere P (r + 38) n (rest_run (go v) s2) (back u w2)

  abbrev pub c : Scene
  c = p.scene

  abbrev pub label : ℕ
  label = K.done.callee.label.0

  abbrev pub f : Function Ts
  f = with_body K.done.last.frame K.done.text

  -- where its frame begins
  abbrev pub top : ℕ
  top = c.activation.base - c.activation.size

  abbrev pub size : ℕ
  size = P.size f.label

  abbrev pub low : ℕ
  low = top - size

  abbrev pub d : ℕ
  d = c.depth + 1

  abbrev pub kept_link : Bool
  kept_link = P.findings.keeps_link (at_of K.f)

  abbrev pub bools : List Bool
  bools = map (λ q. P.findings.escapes (at_of q.name)) K.ps

  abbrev pub source_function : SourceFunction
  source_function = record { params = K.ps; body = K.e }

  abbrev pub weight : ℕ
  weight = function_weight K.l source_function K.seen

  pub label_is : f.label ≡ label
  label_is = label_found label P.code.functions f K.done.there

  pub sized : IsSizeOf f size
  sized = set.sizes f (subst (λ o. function_of o P.code.functions ≡ Some f) (sym label_is) K.done.there)

  pub light : size ≤ weight
  light =
      let a : P.size f.label ≡ P.size label = ap P.size label_is in
      let b : P.weight (at_of K.f) ≡ weight = ap P.weight K.at_is ∙ K.weighs in
      let l = set.light (at_of K.f) K.done.callee K.done.tabled in
      omega (arith, a, b, l)

  level_is : K.done.within.level + 1 ≡ suc K.l
  level_is = let e = K.done.inner in omega (arith, e)

  -- The translation of its text: where its parameters are declared, what its body is made, and the state after that.
  abbrev pub begun : TranslationState
  begun = record (opened_state K.done.before (frame_for label (asked P.findings.escapes kept_link K.ps))) {
    homes = parameters (K.done.within.level + 1) K.ps (own_homes (homes_of (kept_link ∷ bools))) K.done.before.homes;
  }

  abbrev pub within_body : Within
  within_body = inside K.done.within kept_link

  pub record BodyMade : Type 0 where
    pub made : Made
    pub after_body : TranslationState
    pub is : expression P.findings K.e (result_want K.has_result) within_body begun ≡ drawn made after_body
    pub closes : closing K.has_result made after_body ≡ drawn K.done.text K.done.last

  pub body_made : BodyMade
  body_made =
      let i = after_inv (expression P.findings K.e (result_want K.has_result) within_body begun)
      (λ m. closing K.has_result m) K.done.text K.done.last K.done.is_text in
      record { made = i.0; after_body = i.1; is = i.2; closes = i.3 }

  abbrev pub after_body : TranslationState
  after_body = body_made.after_body

  later_body : Later begun after_body
  later_body = grow K.e (result_want K.has_result) within_body body_made.made begun after_body body_made.is

  later_close : Later after_body K.done.last
  later_close = closing_later K.has_result body_made.made after_body K.done.last K.done.text body_made.closes

  moment : IsMoment P.table P.code after_body
  moment = moment_before P.table P.code after_body K.done.last K.done.moment later_close

  begun_moment : IsMoment P.table P.code begun
  begun_moment = moment_before P.table P.code begun after_body moment later_body

  pub params_are : f.params ≡ homes_of (kept_link ∷ bools)
  params_are =
      (frame_by (text_grows P.findings (frame_for label (asked P.findings.escapes kept_link K.ps)) K.ps kept_link K.has_result K.e K.done.within
      (opened_state K.done.before (frame_for label (asked P.findings.escapes kept_link K.ps)))) K.done.is_text).params

  abbrev pub own : List Access
  own = homes_from (link_slots kept_link) (link_temps kept_link) bools

  own_many : length own ≡ length K.ps
  own_many = homes_many (link_slots kept_link) (link_temps kept_link) bools ∙ length-map K.ps (λ q. P.findings.escapes (at_of q.name))

  slots_enough : link_slots kept_link + slots_of bools ≤ f.slots
  slots_enough = let a = later_body.slots in let b = later_close.slots in let e = slots_are kept_link bools in omega (arith, a, b, e)

  -- what is found at its begin
  found_tabled : HasFound P.table begun (with_params K.ps sig.params (in_no_loop K.scope)).bindings × AreTabled P.table (suc K.l) K.ps own
  found_tabled =
      let before : TranslationState = opened_state K.done.before (frame_for label (asked P.findings.escapes kept_link K.ps)) in
      let r = params_found P set (K.done.within.level + 1) K.ps (own_homes (homes_of (kept_link ∷ bools))) sig.params before (in_no_loop K.scope)
      (ap (λ l. length l) (own_is kept_link bools) ∙
      own_many) K.done.many (found_alike P.table K.done.before before K.scope.bindings refl refl K.done.saw) begun_moment in (
        r.0,
        subst (λ o. AreTabled P.table o K.ps own) level_is
            (subst (λ o. AreTabled P.table (K.done.within.level + 1) K.ps o) (own_is kept_link bools) r.1),
      )

  -- The frame is within the stack.
  module _ (fits : floor P + size ≤ top) where
    pub room : HasRoom (floor P) p.places top f.slots low d
    room =
        let holds_ = sized.holds in
        let base = scene.here in
        let high = scene.high c.level (omega arith) in
        let aligned = scene.aligned c.level (omega arith) in
        let even = scene.even in
        record {
          high = omega (arith, base, high);
          within = omega (arith, fits, holds_);
          aligned = let e : c.activation.base % 4 ≡ 0 = ap (λ o. o % 4) (sym base) ∙ aligned in let i = scene.within in omega (arith, e, even, i);
          ends = omega (arith, fits, holds_);
          below = λ a lt. scene.under a lt;
          later = λ e i le. scene.deeper e i (omega (arith, le));
        }

    -- the callee's activation, and those around it
    abbrev pub c1 : Scene
    c1 = record {
      activation = record { base = top; size = size };
      level = suc K.l;
      depth = d;
      chain = λ k. if k == suc K.l then top else c.chain k;
      keeps = with_level (suc K.l) kept_link K.keeps;
      weight = c.weight + weight;
      slots = f.slots;
    }

    pub chain_here : c1.chain (suc K.l) ≡ top
    chain_here = ap (λ b. if b then top else c.chain (suc K.l)) (eq-eqb (suc K.l) (suc K.l) refl)

    chain_below : (k : ℕ) → k ≤ K.l → c1.chain k ≡ c.chain k
    chain_below k le = ap (λ b. if b then top else c.chain k) (ne_eqb k (suc K.l) (λ e. omega (arith, e, le)))

    keeps_here : c1.keeps (suc K.l) ≡ kept_link
    keeps_here = ap (λ b. if b then kept_link else K.keeps (suc K.l)) (eq-eqb (suc K.l) (suc K.l) refl)

    keeps_below : (k : ℕ) → k ≤ K.l → c1.keeps k ≡ c.keeps k
    keeps_below k le = ap (λ b. if b then kept_link else K.keeps k) (ne_eqb k (suc K.l) (λ e. omega (arith, e, le))) ∙ K.agree k le

    abbrev pub others : AllTemps
    others = with_temps c.depth t p.others

    abbrev pub frame : NewFrame P
    frame = record { places = p.places; top = top; slots = f.slots; low = low; depth = d; room = room; others = others; h = h }

    abbrev pub s1 : SourceWorld
    s1 = go_deeper (add_weight weight s)

    abbrev pub Opens1 : (q : Places) (a b : ℕ) → SourceWorld → World → Temps → Type 0
    Opens1 q a b s2 w2 t2 = Opens P set frame q a b types s2 w2 t2

    first_opened : Opens1 (laid_places top f.slots p.places) 0 0 s1 (with_slots f top w) no_temps
    first_opened =
        opened P set frame types s1 w no_temps
        (deeper_invariant P set p.places d others h types s s1 w no_temps (λ i. scene.deeper d i (omega arith)) refl refl refl refl holds.invariant)

    -- the static link is laid
    abbrev pub link : ℕ
    link = c.chain K.l

    abbrev pub link_places : Bool → Places
    link_places true = put_place (cell (slot top 0)) (fixed link) (laid_places top f.slots p.places)
    link_places false = put_place (temporary d 0) (fixed link) (laid_places top f.slots p.places)

    abbrev pub link_world : Bool → World
    link_world true = record (with_slots f top w) { memory = put (slot top 0) (Has link) (with_slots f top w).memory }
    link_world false = with_slots f top w

    abbrev pub link_values : Bool → Temps
    link_values true = no_temps
    link_values false = set_temp 0 link no_temps

    link_opened : (b : Bool) → link_slots b ≤ f.slots → Opens1 (link_places b) (link_slots b) (link_temps b) s1 (link_world b) (link_values b)
    link_opened true le =
        slot_fixed P set frame (laid_places top f.slots p.places) 0 0 link types s1 (with_slots f top w) no_temps
        (omega (arith, le)) first_opened
    link_opened false le = temp_fixed P set frame (laid_places top f.slots p.places) 0 0 link types s1
        (with_slots f top w) no_temps first_opened

    link_in_slot : (b : Bool) → b ≡ true → link_places b (cell (slot top 0)) ≡ fixed link
    link_in_slot true e = put_here (cell (slot top 0)) (fixed link) (laid_places top f.slots p.places)
    link_in_slot false e = cc

    link_in_temp : (b : Bool) → b ≡ false → link_places b (temporary d 0) ≡ fixed link
    link_in_temp true e = cc
    link_in_temp false e = put_here (temporary d 0) (fixed link) (laid_places top f.slots p.places)

    pub link_placed_world : (b : Bool) (bs : List Bool) (us : List ℕ) →
        placed_world top (homes_of (b ∷ bs)) (link ∷ us) (with_slots f top w) ≡ placed_world top (homes_from (link_slots b) (link_temps b) bs) us
        (link_world b)
    link_placed_world true bs us = refl
    link_placed_world false bs us = refl

    pub link_placed_temps : (b : Bool) (bs : List Bool) (us : List ℕ) →
        placed_temps (homes_of (b ∷ bs)) (link ∷ us) no_temps ≡ placed_temps (homes_from (link_slots b) (link_temps b) bs) us (link_values b)
    link_placed_temps true bs us = refl
    link_placed_temps false bs us = refl

    link_statics : (b : Bool) → (link_world b).memory.statics ≡ w.memory.statics
    link_statics true = lay_statics top f.slots Unset w.memory
    link_statics false = lay_statics top f.slots Unset w.memory

    pub link_input : (b : Bool) → (link_world b).input ≡ w.input
    link_input true = refl
    link_input false = refl

    module _ (us : List ℕ) where
      abbrev pub world_in : World
      world_in = placed_world top own us (link_world kept_link)

      abbrev pub temps_in : Temps
      temps_in = placed_temps own us (link_values kept_link)

      abbrev pub Bound : Type 0
      Bound =
          IsBound P set frame c1 (suc K.l) refl chain_here (link_places kept_link) types s1 K.seen K.ps
          (with_params K.ps sig.params (in_no_loop K.scope)).bindings (link_slots kept_link + slots_of bools)
          (link_temps kept_link + temps_of bools) world_in temps_in

      module _ (B : Bound) (back : Back) where
        abbrev pub around_body : Around
        around_body = outermost (record { base = top; size = size }) (λ v w2. back v (without_slots f top w2))

        abbrev pub part : Part
        part = record {
          scope = with_params K.ps sig.params (in_no_loop K.scope);
          env = record { level = suc K.l; entries = B.entries };
          within = within_body;
          scene = c1;
          places = B.places;
          others = others;
          around = around_body;
        }

        old_fixed : (k : Key) (u : ℕ) → p.places k ≡ fixed u → B.places k ≡ fixed u
        old_fixed k u e = B.opens.old k (λ n. let x : fixed u ≡ nowhere = sym e ∙ n in cc) ∙ e

        -- a link of a function around that keeps it in its slot
        outer_link : (k : ℕ) → suc k ≤ K.l → c.keeps (suc k) ≡ true → p.places (cell (slot (c.chain (suc k)) 0)) ≡ fixed (c.chain k)
        outer_link k le keep = by (cases_lt (suc k) c.level)
          where
            by : (suc k < c.level) ⊎ (c.level ≤ suc k) → p.places (cell (slot (c.chain (suc k)) 0)) ≡ fixed (c.chain k)
            by (inl lt) = scene.links k lt keep
            by (inr ge) =
                let same : c.level ≡ suc k = let i = K.within in omega (arith, ge, le, i) in
                let less : c.level - 1 ≡ k = omega (arith, same) in
                ap (λ o. p.places (cell (slot o 0))) (sym (ap c.chain same) ∙ scene.here) ∙
                (scene.in_slot (omega (arith, same)) (ap c.keeps same ∙ keep) ∙ ap (λ o. fixed (c.chain o)) less)

        by_level : (Q : ℕ → Type 0) (k : ℕ) → k ≤ suc K.l → Q top → (k ≤ K.l → Q (c.chain k)) → Q (c1.chain k)
        by_level Q k le here below = by (k == suc K.l) refl
          where
            by : (b : Bool) → (k == suc K.l) ≡ b → Q (if b then top else c.chain k)
            by true e = here
            by false e = below (let ne : k ≢ suc K.l = λ q. let z : (k == suc K.l) ≡ true = eq-eqb k (suc K.l) q in cc in omega (arith, le, ne))

        body_scene : IsScene (floor P) P.stack B.places c1
        body_scene =
            let least = scene.least in
            let own_least = sized.least in
            let high = room.high in
            let below_own : K.l ≡ suc K.l - 1 = omega arith in
            record {
              here = chain_here;
              high = λ k le. by_level (λ o. o ≤ stack_top) k le high (λ l. scene.high k (let i = K.within in omega (arith, l, i)));
              room = λ k lt le. by_level (λ o. 4 ≤ o) k le (omega (arith, fits, own_least))
                  (λ l. scene.room k lt (let i = K.within in omega (arith, l, i)));
              aligned = λ k le. by_level (λ o. o % 4 ≡ 0) k le room.aligned (λ l. scene.aligned k (let i = K.within in omega (arith, l, i)));
              even = sized.words;
              in_slot = λ lt e.
                  B.stays (cell (slot top 0)) link (link_in_slot kept_link (sym keeps_here ∙ e)) ∙
                  (ap fixed (sym (chain_below K.l (omega arith))) ∙ ap (λ o. fixed (c1.chain o)) below_own);
              in_temp = λ lt e.
                  B.stays (temporary d 0) link (link_in_temp kept_link (sym keeps_here ∙ e)) ∙
                  (ap fixed (sym (chain_below K.l (omega arith))) ∙ ap (λ o. fixed (c1.chain o)) below_own);
              links = λ k lt e.
                  ap (λ o. B.places (cell (slot o 0))) (chain_below (suc k) (omega (arith, lt))) ∙
                  (old_fixed (cell (slot (c.chain (suc k)) 0)) (c.chain k)
                  (outer_link k (omega (arith, lt)) (sym (keeps_below (suc k) (omega (arith, lt))) ∙ e)) ∙
                  ap fixed (sym (chain_below k (omega (arith, lt)))));
              deeper = B.opens.deeper;
              under = B.opens.under;
              fits = let a = sized.holds in omega (arith, a);
              least = own_least;
              within = fits;
              weighs = let a = scene.weighs in let l = light in omega (arith, a, l, fits);
              top = scene.top;
              deep = let a = scene.deep in let i = scene.within in omega (arith, a, least, i);
            }

        body_ready : IsReady P part B.types begun after_body
        body_ready = record {
          scene = body_scene;
          along = B.along;
          found = found_tabled.0;
          moment = moment;
          fits = adds_fit P K.seen B.entries B.adds K.fit;
          level = level_is;
          same_level = refl;
          links = sym keeps_here;
          slots_free = λ k le lt. B.opens.open_slots k (let e = slots_are kept_link bools in omega (arith, e, le)) (let l =
              later_close.slots in omega (arith, l, lt));
          temps_free = λ i le lt. B.opens.idle i (let e = temps_are kept_link bools in omega (arith, e, le));
          slots_there = later_close.slots;
          activation = refl;
        }

        body_holds : Holds P part h B.types B.s world_in temps_in
        body_holds = record {
          invariant = B.opens.inv;
          weight = B.weight ∙ ap (λ o. o + weight) holds.weight;
          depth = B.depth ∙ ap (λ o. o + 1) holds.depth;
          statics = placed_statics top own us (link_world kept_link) ∙ link_statics kept_link ∙ holds.statics;
          literals = holds.literals;
        }

        -- after the return: what the caller has again
        caller_holds : (g : Holdings) (types1 : List Ty) (s2 : SourceWorld) (w2 : World) (t2 : Temps) → Holds P part g types1 s2 w2 t2 →
            Holds P p g types1 (drop_weight weight (go_back s2)) (without_slots f top w2) t
        caller_holds g types1 s2 w2 t2 x =
            let e = x.weight in
            let k = x.depth in
            record {
              invariant = returned_invariant P set p.places B.places top f.slots low d room c.depth t p.others g types1 s2 w2 t2 weight B.opens.old
                  x.invariant;
              weight = omega (arith, e);
              depth = omega (arith, k);
              statics = lay_statics top f.slots Closed w2.memory ∙ x.statics;
              literals = x.literals;
            }

        abbrev pub goes_on : (Value → Rest) → Value → Rest
        goes_on go v s2 = go v (drop_weight weight (go_back s2))

        -- the body is followed, from its begin until after its return
        body_follows : (n r : ℕ) (go : Value → Rest) (next : Next) → Shown P n K.e → CallerOnward n r go back →
            FollowsHere P (r + 20) n (rest_run (evaluates P K.e part.env (goes_on go) (ends stuck)) B.s)
            (statement_runs P part K.done.text around_body next world_in temps_in)
        body_follows n r go next shown onward =
            let ty : Ty = K.done.ty in
            closing_follows P n r part h B.types ty sig.result (goes_on go) (rest_run (evaluates P K.e part.env (goes_on go) (ends stuck)) B.s)
            world_in temps_in
            K.has_result K.done.result K.done.fits body_made.made after_body K.done.last K.done.text body_made.closes
            (λ i le. B.opens.idle i (let e = temps_are kept_link bools in let l = later_body.temps in omega (arith, e, le, l)))
            (shown (record {
              ty = ty;
              wanted = result_want K.has_result;
              p = part;
              σ = begun;
              τ = after_body;
              m = body_made.made;
              h = h;
              types = B.types;
              r = r;
              go = goes_on go;
              out = ends stuck;
              s = B.s;
              w = world_in;
              t = temps_in;
              typed = K.done.typed;
              words = K.done.words;
              covers = subst (λ o. Covers P.findings P.table P.weight (suc K.l) c1.keeps o K.e) (sym B.levels) K.done.covers;
              wantable = body_wantable K.has_result ty sig.result K.done.fits K.done.result;
              may_assign = inr (λ i place u. B.opens.loose i place u);
              ready = body_ready;
              is_made = body_made.is;
              outward = λ g more1 s2 w2 t2 in_loop gg ee hh.
                  let x : false ≡ true = sym (params_loop K.ps sig.params (in_no_loop K.scope)) ∙ in_loop in cc;
              holds = body_holds;
            })).1 next
            (λ g types1 v u s2 w2 t2 gg ee hh st. onward g types1 v u (drop_weight weight (go_back s2)) (without_slots f top w2) gg
            (λ i a e. ee i a (B.extends i a e)) (caller_holds g types1 s2 w2 t2 hh) st)

      -- The function after the unit of fuel.
      module _ (back : Back) where
        abbrev pub around_it : Around
        around_it = outermost (record { base = top; size = size }) (λ v w2. back v (without_slots f top w2))

        abbrev pub point_in : LinkedPoint
        point_in = record { point = body_point K.done.text around_it world_in temps_in; frames = top ∷ frames_of c.chain K.l }

        runs_is : (next : Next) (frames : List ℕ) → frames ≡ top ∷ frames_of c.chain K.l → (i : ℕ) → next ≡ (λ w2 t2. wrong w2) →
            going P point_in i ≡ meaning.run Trees P.heap P.code.literals (calling P frames) (heads P frames) K.done.text around_it next world_in
            temps_in i
        runs_is next frames e i e2 =
            linked_own Trees P.code P.size (floor P) P.heap P.level point_in i ∙
            (ap (λ o. meaning.run Trees P.heap P.code.literals (calling P o) (heads P o) K.done.text around_it
            (λ w2 t2. wrong w2) world_in temps_in i) (sym e) ∙
            ap (λ (o : Next). meaning.run Trees P.heap P.code.literals (calling P frames) (heads P frames) K.done.text around_it o world_in temps_in
            i) (sym e2))

        pub function_follows : (n r : ℕ) (go : Value → Rest) (out : Rest) (vs : List Value) → Shown P n K.e → IsGiven h K.ps bools sig.params vs us →
            CallerOnward n r go back →
            FollowsHere P (r + 20) n (rest_run (behind P.heap P.stack (run_function K.l source_function K.seen vs) go out) s1) (going P point_in)
        function_follows n r go out vs shown args onward =
            let job : Job = run_function K.l source_function K.seen vs in
            let runs : Run Source = rest_run (evaluation.run Passing (passing P.heap P.stack) (behind P.heap P.stack) job go out) s1 in
            follows_along P.stack tree_work (r + 20) n runs (rest_run (behind P.heap P.stack job go out) s1) (going P point_in) (going P point_in)
            (λ i. ap as_source (fuel_unfolds P.heap P.stack job go out s1 i)) (λ i. refl)
            (params_bound P set frame c1 (suc K.l) refl chain_here K.ps bools sig.params vs us args
            (link_slots kept_link) (link_temps kept_link)
            (link_places kept_link) types s1 (link_world kept_link) (link_values kept_link) K.seen (in_no_loop K.scope)
            (link_opened kept_link (let e = slots_enough in omega (arith, e))) slots_enough
            (along_up P (link_places kept_link) types c1 K.l (suc K.l) K.seen K.scope.bindings (omega arith)
            (along_inside P p.places (link_places kept_link) types c c1 K.l K.within refl chain_below (λ k le. sym (keeps_below k le))
            (link_opened kept_link (let e = slots_enough in omega (arith, e))).old K.l K.seen K.scope.bindings (omega arith) K.along))
            found_tabled.1 (λ env. evaluation.eval Passing (passing P.heap P.stack) (behind P.heap P.stack) K.e env
            (λ v s2. go v (drop_weight weight (go_back s2))) (ends stuck)) out
            (r + 20) n (going P point_in)
            (λ B. follows_along P.stack tree_work (r + 20) n (rest_run (evaluates P K.e (part B back).env (goes_on B back go) (ends stuck)) B.s)
            (rest_run (evaluates P K.e (part B back).env (goes_on B back go) (ends stuck)) B.s)
            (statement_runs P (part B back) K.done.text around_it (λ w2 t2. wrong w2) world_in temps_in) (going P point_in) (λ i. refl)
            (λ i. runs_is (λ w2 t2. wrong w2) (frames_at P (part B back))
            (ap (λ o. o ∷ frames_of c1.chain K.l) chain_here ∙ ap (λ o. top ∷ o) (frames_alike c.chain c1.chain K.l chain_below)) i refl)
            (body_follows B back n r go (λ w2 t2. wrong w2) shown onward)))
