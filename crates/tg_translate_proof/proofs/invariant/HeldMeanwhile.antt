-- Operands that are held while whatever comes next is evaluated: as numbers, in their variables' temporaries, or in their own.
use Rattle.std.proofs.Common.{◌≡◌, ◌≢◌, ℕ, ◌+◌, ◌<◌, ◌≤◌, List, [], ◌∷◌, Option, Some, None, Bool, true, false, refl, sym, ap, ◌∙◌, arith, subst, inl, inr, eq-eqb}
use Rattle.std.specs.Prelude.{◌⊎◌, if◌then◌else◌}
use Rattle.tg_syntax.specs.Tree.{Exp}
use Rattle.tg_symbols.specs.Tables.{looked_up}
use Rattle.tg_simulation.specs.Runs.{Run}
use Rattle.tg_simulation.specs.Agreement.{Source}
use Rattle.tg_semantics.specs.Values.{Value, SourceWorld}
use Rattle.tg_semantics.specs.Passing.{Rest}
use Rattle.tg_semantics.specs.MachineRuns.{rest_run}
use Rattle.tg_typecheck.specs.Types.{Ty, none_type}
use Rattle.tg_tree.specs.Tree.{Tx, Const, Address, Temp, FrameAddress, Binary, Load, LoadByte, Call, Service, After, Stms}
use Rattle.tg_tree.specs.glue.Lists.{join_stms}
use Rattle.tg_tree.proofs.ListLaws.{join_stms-none}
use Rattle.tg_tree.specs.Actions.{World, Temps, set_temp, Go, Next, with_word}
use Rattle.tg_translate.specs.declared.operands.Operand.{Operand}
use Rattle.tg_translate.specs.declared.operands.Operand.TheVariants.{Number, Kept}
use Rattle.tg_translate.specs.declared.wants.Want.TheVariants as want
use Rattle.tg_translate.specs.mirror.States.{TranslationState, drawn, with_frame, one_temp}
use Rattle.tg_translate.specs.mirror.Wants.{Made, value, done, test, value_of, value_from}
use Rattle.tg_translate.specs.mirror.Constructs.{hold}
use Rattle.tg_translate.specs.mirror.Translate.{expression}
use Rattle.tg_translate_proof.specs.glue.Tables.{Later}
use Rattle.tg_translate_proof.specs.glue.Worlds.{Holdings, unknown, Stands, GrowsTo, Key, cell, temporary, Content, nowhere, free, variable, kept, fixed}
use Rattle.tg_translate_proof.specs.glue.Worlds.{Places, IsOf, HoldsAt, HoldsVariable, AllTemps}
use Rattle.tg_tree.specs.Memory.{Memory}
use Rattle.tg_translate_proof.specs.glue.Situations.{Program, Part, Setting, Holds, IsReady, Extends, with_temps, floor, value_runs, statements_run}
use Rattle.tg_translate_proof.specs.glue.Shown.{FollowsHere, IsNamed, IsVariables}
use Rattle.tg_translate_proof.proofs.state.TranslationStates.{after_inv, later_none, later_on, later_value}
use Rattle.tg_translate_proof.proofs.invariant.Cases.{worked}
use Rattle.tg_translate_proof.proofs.invariant.Parts.{StatesGrow, more, along_on, ready_part, extends_none}
use Rattle.tg_translate_proof.proofs.state.Keys.{put_place, put_here, put_is, back_is, by_key, index_of, scene_put, held_word, own_temps, of_is_used, some_same}
use Rattle.tg_translate_proof.proofs.state.HomeWrites.{temp_written, is_fixed, is_nowhere_again, unchanged}
use Rattle.tg_translate_proof.proofs.invariant.Asked.{Standing, Asked, asked_value, asked_named, asked_source}
use Rattle.tg_translate_proof.proofs.invariant.HeldOperands.{OperandIs, has_word, word_there, kept_later}
use Rattle.tg_translate_proof.proofs.invariant.HeldLeft.{placed, LeftHeld, as_number, as_variable, as_kept, left_extra, left_operand, left_state}
use Rattle.tg_translate_proof.proofs.invariant.LessWork.{follows_unworked, follows_wrong}

-- how an expression is held
pub held_how : (direct : Bool) (x : Tx) → LeftHeld direct x
held_how direct (Const n) = as_number n
held_how true (Temp i) = as_variable i refl
held_how false (Temp i) = as_kept (Temp i) (λ b s. refl)
held_how direct (Address l) = as_kept (Address l) (λ b s. refl)
held_how direct FrameAddress = as_kept FrameAddress (λ b s. refl)
held_how direct (Binary o x y) = as_kept (Binary o x y) (λ b s. refl)
held_how direct (Load x) = as_kept (Load x) (λ b s. refl)
held_how direct (LoadByte x) = as_kept (LoadByte x) (λ b s. refl)
held_how direct (Call l xs) = as_kept (Call l xs) (λ b s. refl)
held_how direct (Service n x) = as_kept (Service n x) (λ b s. refl)
held_how direct (After y x) = as_kept (After y x) (λ b s. refl)

-- what it makes after other statements
pub held_is : (direct : Bool) (before : Stms) (x : Tx) (s : TranslationState) (lh : LeftHeld direct x) →
    hold direct before x s ≡
    drawn (record { before = join_stms before (left_extra direct x s lh); operand = left_operand direct x s lh }) (left_state direct x s lh)
held_is direct before _ s (as_number n) =
    ap (λ o. drawn (record { before = o; operand = Number n }) s) (sym (join_stms-none before))
held_is direct before _ s (as_variable i e) =
    ap (λ o. hold o before (Temp i) s) e ∙
    ap (λ o. drawn (record { before = o; operand = Kept (record { 0 = i }) }) s) (sym (join_stms-none before))
held_is direct before x s (as_kept _ e) = e before s

pub held_later : (direct : Bool) (x : Tx) (s : TranslationState) (lh : LeftHeld direct x) → Later s (left_state direct x s lh)
held_later direct _ s (as_number n) = later_none s
held_later direct _ s (as_variable i e) = later_none s
held_later direct x s (as_kept _ e) = kept_later s

-- an operand doesn't stand in this temporary
abbrev pub IsApart : Operand → ℕ → Type 0
IsApart (Number n) i = Unit {0}
IsApart (Kept j) i = j.0 ≢ i

abbrev pub AreApart : List Operand → ℕ → Type 0
AreApart [] i = Unit {0}
AreApart (l ∷ os) i = IsApart l i × AreApart os i

module _ (P : Program) where
  -- no variable is kept
  abbrev pub NoneKept : Part → Places → Type 0
  NoneKept p places = (i place u : ℕ) → places (temporary p.scene.depth i) ≢ kept place u

  -- What stands here while an operand is held besides: places where its word stays.
  pub record Beyond (p : Part) (direct : Bool) (σ τ : TranslationState) (g : Holdings) (ms : List Ty) (s : SourceWorld) (w : World) (t : Temps)
      (l : Operand) (u : ℕ) : Type 0 where
    pub places : Places
    pub ready : IsReady P (placed p places) ms σ τ
    pub holds : Holds P (placed p places) g ms s w t
    pub back :
        (g3 : Holdings) (ms3 : List Ty) (s3 : SourceWorld) (w3 : World) (t3 : Temps) → Holds P (placed p places) g3 ms3 s3 w3 t3 →
        Holds P p g3 ms3 s3 w3 t3 × OperandIs l u t3
    pub keeps : (direct ≡ true) ⊎ (NoneKept p p.places → NoneKept p places)
    pub apart : (i : ℕ) → σ.frame.temps ≤ i → i < τ.frame.temps → IsApart l i

module _ (P : Program) (set : Setting P) where
  -- temporaries of this activation are no part of the heap
  no_cell : (p : Part) (h : Holdings) (i : ℕ) (b : ℕ) → h.at b ≢ unknown → cell b ≢ temporary p.scene.depth i
  no_cell p h i b known e = cc

  -- what is ready stays so where a temporary that isn't drawn any more has other content
  ready_beyond : (p : Part) (i : ℕ) (c : Content) (ms : List Ty) (σ τ : TranslationState) → IsReady P p ms σ τ →
      ((z : ℕ) → p.places (temporary p.scene.depth i) ≢ fixed z) →
      ((l : ℕ) → IsOf l (p.places (temporary p.scene.depth i)) → IsOf l c) → ((j : ℕ) → σ.frame.temps ≤ j → j < τ.frame.temps → j ≢ i) →
      IsReady P (placed p (put_place (temporary p.scene.depth i) c p.places)) ms σ τ
  ready_beyond p i c ms σ τ o unlinked stays outside =
      let key : Key = temporary p.scene.depth i in
      record {
        scene = scene_put (floor P) P.stack p.places p.scene key c unlinked (omega arith) (λ a f. cc) o.scene;
        along = along_on P p.places (put_place key c p.places) ms ms p.scene
            (λ z l is. by_key z key (λ c2. IsOf l c2) c p.places (λ f. stays l (subst (λ q. IsOf l (p.places q)) f is)) is)
            (extends_none ms) p.scene.level p.env.entries p.scope.bindings o.along;
        found = o.found;
        moment = o.moment;
        level = o.level;
        same_level = o.same_level;
        links = o.links;
        slots_free = λ j a b. by_key (cell _) key (λ z. z ≡ free) c p.places (λ f. cc) (o.slots_free j a b);
        temps_free = λ j a b. by_key (temporary p.scene.depth j) key (λ z. z ≡ nowhere) c p.places (λ f. absurd (outside j a b (ap index_of f)))
            (o.temps_free j a b);
        slots_there = o.slots_there;
        activation = o.activation;
        fits = o.fits;
      }

  -- in a temporary of its own
  beyond_own : (p : Part) (direct : Bool) (sx τ : TranslationState) (g : Holdings) (ms : List Ty) (s : SourceWorld) (w : World) (t : Temps) (u : ℕ) →
      Later (with_frame (one_temp sx.frame) sx) τ → IsReady P p ms sx τ → IsReady P p ms (with_frame (one_temp sx.frame) sx) τ →
      Holds P p g ms s w t →
      Beyond P p direct (with_frame (one_temp sx.frame) sx) τ g ms s w (set_temp sx.frame.temps u t) (Kept (record { 0 = sx.frame.temps })) u
  beyond_own p direct sx τ g ms s w t u later before ready hh =
      let i : ℕ = sx.frame.temps in
      let key : Key = temporary p.scene.depth i in
      let a = later.temps in
      let idle : p.places key ≡ nowhere = before.temps_free i (omega arith) (omega (arith, a)) in
      record {
        places = put_place key (fixed u) p.places;
        ready = ready_beyond p i (fixed u) ms (with_frame (one_temp sx.frame) sx) τ ready (λ z f. let o = sym idle ∙ f in cc)
            (λ l is. absurd (subst (λ q. IsOf l q) idle is)) (λ j low _ f. omega (arith, low, f));
        holds = record {
          invariant = is_fixed P.shapes P.heap (floor P) p.places g ms s w w (with_temps p.scene.depth t p.others) (with_temps p.scene.depth
              (set_temp i u t) p.others) hh.invariant key u
              (temp_written w.memory p.scene.depth i u t p.others hh.invariant.memory.whole) refl (no_cell p g i) (λ a2 f. cc);
          weight = hh.weight;
          depth = hh.depth;
          statics = hh.statics;
          literals = hh.literals;
        };
        back = λ g3 ms3 s3 w3 t3 h3. (
          record {
            invariant = is_nowhere_again P.shapes P.heap (floor P) (put_place key (fixed u) p.places) g3 ms3 s3 w3
                (with_temps p.scene.depth t3 p.others) h3.invariant key p.places (fixed u) refl idle (no_cell p g3 i);
            weight = h3.weight;
            depth = h3.depth;
            statics = h3.statics;
            literals = h3.literals;
          },
          sym (ap (λ (f : Temps). f i) (own_temps p.scene.depth t3 p.others)) ∙
              subst (λ q. HoldsAt g3 ms3 s3 w3.memory (with_temps p.scene.depth t3 p.others) key q) (put_here key (fixed u) p.places)
              (h3.invariant.holds key),
        );
        keeps = inr (λ none j l z. by_key (temporary p.scene.depth j) key (λ q. q ≢ kept l z) (fixed u) p.places (λ _ f. cc) (none j l z));
        apart = λ j low _ f. omega (arith, low, f);
      }

  -- as a number
  beyond_number : (p : Part) (direct : Bool) (sx τ : TranslationState) (g : Holdings) (ms : List Ty) (s : SourceWorld) (w : World) (t : Temps) (u : ℕ) →
      IsReady P p ms sx τ → Holds P p g ms s w t → Beyond P p direct sx τ g ms s w t (Number u) u
  beyond_number p direct sx τ g ms s w t u o hh = record {
    places = p.places;
    ready = record {
      scene = o.scene;
      along = o.along;
      found = o.found;
      moment = o.moment;
      level = o.level;
      same_level = o.same_level;
      links = o.links;
      slots_free = o.slots_free;
      temps_free = o.temps_free;
      slots_there = o.slots_there;
      activation = o.activation;
      fits = o.fits;
    };
    holds = record { invariant = hh.invariant; weight = hh.weight; depth = hh.depth; statics = hh.statics; literals = hh.literals };
    back = λ g3 ms3 s3 w3 t3 h3. (
      record {
        invariant = h3.invariant;
        weight = h3.weight;
        depth = h3.depth;
        statics = h3.statics;
        literals = h3.literals;
      },
      refl,
    );
    keeps = inr (λ none. none);
    apart = λ j low high. tt;
  }

  no_link : (place : ℕ) (c : Content) (z : ℕ) → IsOf place c → c ≡ fixed z → ⊥
  no_link place c z is f = subst (λ q. IsOf place q) f is

  one_place : (place : ℕ) (c : Content) (l : ℕ) → IsOf place c → IsOf l c → place ≡ l
  one_place place nowhere l a b = absurd a
  one_place place free l a b = absurd a
  one_place place (fixed z) l a b = absurd a
  one_place place (variable q) l a b = sym a ∙ b
  one_place place (kept q z) l a b = sym a ∙ b

  restored : (place u : ℕ) (d j : ℕ) (c : Content) (g : Holdings) (ms : List Ty) (s : SourceWorld) (m : Memory) (ts : AllTemps) (g3 : Holdings)
      (ms3 : List Ty) (s3 : SourceWorld) (m3 : Memory) (ts3 : AllTemps) → IsOf place c →
      ts d j ≡ Some u → HoldsAt g ms s m ts (temporary d j) c → HoldsAt g3 ms3 s3 m3 ts3 (temporary d j) (kept place u) →
      HoldsAt g3 ms3 s3 m3 ts3 (temporary d j) c
  restored place u d j nowhere g ms s m ts g3 ms3 s3 m3 ts3 is word old now = absurd is
  restored place u d j free g ms s m ts g3 ms3 s3 m3 ts3 is word old now = absurd is
  restored place u d j (fixed z) g ms s m ts g3 ms3 s3 m3 ts3 is word old now = absurd is
  restored place u d j (variable l) g ms s m ts g3 ms3 s3 m3 ts3 is word old now = (u, now.0, subst (λ o. HoldsVariable g3 ms3 s3 o u) (sym is) now.1)
  restored place u d j (kept l z) g ms s m ts g3 ms3 s3 m3 ts3 is word old now =
      let same : u ≡ z = some_same u z (sym word ∙ old.0) in (
        subst (λ o. ts3 d j ≡ Some o) same now.0,
        subst (λ o. HoldsVariable g3 ms3 s3 l o) same (subst (λ o. HoldsVariable g3 ms3 s3 o u) (sym is) now.1),
      )

  -- in its variable's temporary
  beyond_variable : (p : Part) (direct : Bool) (sx τ : TranslationState) (g : Holdings) (ms : List Ty) (s : SourceWorld) (w : World) (t : Temps) (u : ℕ) →
      direct ≡ true → (i place : ℕ) → IsOf place (p.places (temporary p.scene.depth i)) →
      IsReady P p ms sx τ → Holds P p g ms s w t → t i ≡ Some u → Beyond P p direct sx τ g ms s w t (Kept (record { 0 = i })) u
  beyond_variable p direct sx τ g ms s w t u is_direct i place is_of ready hh there =
      let key : Key = temporary p.scene.depth i in
      let ts = with_temps p.scene.depth t p.others in
      let used : p.places key ≢ nowhere = of_is_used place (p.places key) is_of in
      let word : ts p.scene.depth i ≡ Some u = ap (λ (f : Temps). f i) (own_temps p.scene.depth t p.others) ∙ there in
      let y = held_word g ms s w.memory ts key place (p.places key) is_of (hh.invariant.holds key) in
      let same : y.0 ≡ u = some_same y.0 u (sym y.1 ∙ word) in
      record {
        places = put_place key (kept place u) p.places;
        ready = ready_beyond p i (kept place u) ms sx τ ready (λ z f. no_link place (p.places key) z is_of f)
            (λ l o. one_place place (p.places key) l is_of o)
            (λ j low high f. used (subst (λ o. p.places (temporary p.scene.depth o) ≡ nowhere) f (ready.temps_free j low high)));
        holds = record {
          invariant = unchanged P.shapes P.heap (floor P) p.places g ms s w ts hh.invariant key (put_place key (kept place u) p.places)
              (kept place u) (put_is key (kept place u) p.places)
              (word, subst (λ o. HoldsVariable g ms s place o) same y.2) (λ l o. subst (λ z. IsOf z (p.places key)) o is_of) (λ _. used) (no_cell p g i);
          weight = hh.weight;
          depth = hh.depth;
          statics = hh.statics;
          literals = hh.literals;
        };
        back = λ g3 ms3 s3 w3 t3 h3.
            let ts3 = with_temps p.scene.depth t3 p.others in
            let now : HoldsAt g3 ms3 s3 w3.memory ts3 key (kept place u) = subst (λ q. HoldsAt g3 ms3 s3 w3.memory ts3 key q) (put_here key
            (kept place u) p.places) (h3.invariant.holds key) in (
              record {
                invariant = unchanged P.shapes P.heap (floor P) (put_place key (kept place u) p.places) g3 ms3 s3 w3 ts3 h3.invariant key p.places
                    (p.places key) (back_is key (kept place u) p.places (p.places key) refl)
                    (restored place u p.scene.depth i (p.places key) g ms s w.memory ts g3 ms3 s3 w3.memory ts3 is_of word (hh.invariant.holds key) now)
                    (λ l o. subst (λ q. IsOf l q) (sym (put_here key (kept place u) p.places)) (one_place place (p.places key) l is_of o))
                    (λ _ f. let z = sym (put_here key (kept place u) p.places) ∙ f in cc) (no_cell p g3 i);
                weight = h3.weight;
                depth = h3.depth;
                statics = h3.statics;
                literals = h3.literals;
              },
              sym (ap (λ (f : Temps). f i) (own_temps p.scene.depth t3 p.others)) ∙ now.0,
            );
        keeps = inl is_direct;
        apart = λ j low high f. used (subst (λ o. p.places (temporary p.scene.depth o) ≡ nowhere) (sym f) (ready.temps_free j low high));
      }

module _ (P : Program) (set : Setting P) (grow : StatesGrow P) (n : ℕ) where
  -- an expression that is made a temporary is a variable's
  named_place : (k : Standing P set grow n) (e : Exp) (ty : Ty) (q : Asked P set grow n k e ty) (go : Value → Rest) (m : Made) (s1 s2 : TranslationState)
      (i : ℕ) → IsNamed P n k.r k.p k.s go (asked_source P set grow n k e ty q go) m → value_of m s1 ≡ drawn (Temp i) s2 →
      (place : ℕ) × IsOf place (k.p.places (temporary k.p.scene.depth i))
  named_place k e ty q go (value y) s1 s2 i looked_up made =
      let same : value y ≡ value (Temp i) = ap value (tree_in made) in
      let own : IsVariables P n k.r k.p k.s go (asked_source P set grow n k e ty q go) i =
      subst (λ o. IsNamed P n k.r k.p k.s go (asked_source P set grow n k e ty q go) o) same looked_up in
      (own.place, own.is_of)
    where
      tree_in : {a b : Tx} {s t : TranslationState} → drawn a s ≡ drawn b t → a ≡ b
      tree_in e = cc
  named_place k e ty q go (done y) s1 s2 i looked_up made = cc
  named_place k e ty q go (test c) s1 s2 i looked_up made = cc

  -- After an expression that is held: what comes next is told the operand, and where its word stays meanwhile.
  abbrev pub HeldOn : (k : Standing P set grow n) (direct : Bool) (sh : TranslationState) (ty : Ty) → (Value → Rest) → (Operand → Next) → Type 0
  HeldOn k direct sh ty go next =
      (g : Holdings) (ms : List Ty) (v : Value) (u : ℕ) (s : SourceWorld) (w : World) (t : Temps) (l : Operand) → GrowsTo k.h g →
      Extends k.types ms → Stands g v ty u → Beyond P k.p direct sh k.τ g ms s w t l u →
      FollowsHere P (k.r + 56) n (rest_run (go v) s) (next l w t)

  -- One expression that is held.
  module _ (k : Standing P set grow n) (e : Exp) (ty : Ty) (q : Asked P set grow n k e ty) (go : Value → Rest) (able : ty ≢ none_type) where
    abbrev pub source : Run Source
    source = asked_source P set grow n k e ty q go

    ready_at : (s2 sh : TranslationState) (ms : List Ty) → Later k.σ s2 → Later s2 sh → Later sh k.τ → Extends k.types ms → IsReady P k.p ms sh k.τ
    ready_at s2 sh ms a b c ee =
        ready_part P set k.p k.types ms k.σ k.τ sh k.τ ee (later_on k.σ s2 sh a b) c (later_none k.τ) k.ready

    pub one_held : (direct : Bool) (x : Tx) (s2 : TranslationState) (lh : LeftHeld direct x) →
        value_from (λ σ. expression P.findings e want.Value k.p.within σ) k.σ ≡ drawn x s2 → Later (left_state direct x s2 lh) k.τ →
        (next : Operand → Next) → HeldOn k direct (left_state direct x s2 lh) ty go next →
        FollowsHere P (k.r + 6) n source
        (statements_run P k.p (left_extra direct x s2 lh) k.p.around (next (left_operand direct x s2 lh)) k.w k.t)
    one_held direct _ s2 (as_number j) made last next onward =
        let i = after_inv (expression P.findings e want.Value k.p.within k.σ) value_of (Const j) s2 made in
        let l1 : Later k.σ s2 = later_on k.σ i.1 s2 (grow e want.Value k.p.within i.0 k.σ i.1 i.2) (later_value i.0 i.1 s2 (Const j) i.3) in
        more P (k.r + 4) (k.r + 6) n source _ (omega arith)
        (follows_unworked P.stack _ (k.r + 4) n 2 source (next (Number j) k.w k.t)
        (asked_value P set grow n k e ty q go want.Value i.0 i.1 (Const j) s2 tt able i.2 i.3 last (λ u w t. next (Number u) w t)
        (λ g ms v u s w t gg ee hh st.
        onward g ms v u s w t (Number u) gg ee st
        (beyond_number P set k.p direct s2 k.τ g ms s w t u (ready_at s2 s2 ms l1 (later_none s2) last ee) hh))))
    one_held direct x s2 (as_kept _ kept_) made last next onward =
        let i = after_inv (expression P.findings e want.Value k.p.within k.σ) value_of x s2 made in
        let l1 : Later k.σ s2 = later_on k.σ i.1 s2 (grow e want.Value k.p.within i.0 k.σ i.1 i.2) (later_value i.0 i.1 s2 x i.3) in
        let j : ℕ = s2.frame.temps in
        let sh : TranslationState = with_frame (one_temp s2.frame) s2 in
        let l2 : Later s2 k.τ = later_on s2 sh k.τ (kept_later s2) last in
        worked P (k.r + 4) (k.r + 6) 2 n source _ (omega arith)
        (asked_value P set grow n k e ty q go want.Value i.0 i.1 x s2 tt able i.2 i.3 l2
        (λ u w t. next (Kept (record { 0 = j })) w (set_temp j u t))
        (λ g ms v u s w t gg ee hh st.
        onward g ms v u s w (set_temp j u t) (Kept (record { 0 = j })) gg ee st
        (beyond_own P set k.p direct s2 k.τ g ms s w t u last (ready_at s2 s2 ms l1 (later_none s2) l2 ee)
        (ready_at s2 sh ms l1 (kept_later s2) last ee) hh)))
    one_held direct _ s2 (as_variable j is_direct) made last next onward =
        more P (k.r + 4) (k.r + 6) n source _ (omega arith)
        (by_word (k.t j) refl
        (asked_value P set grow n k e ty q go want.Value i.0 i.1 (Temp j) s2 tt able i.2 i.3 last chosen
        (λ g ms v u s w t gg ee hh st. choose g ms v u s w t gg ee hh st (has_word (t j) u) refl)))
      where
        i : (m : Made) × (s1 : TranslationState) × (expression P.findings e want.Value k.p.within k.σ ≡ drawn m s1) ×
            (value_of m s1 ≡ drawn (Temp j) s2)
        i = after_inv (expression P.findings e want.Value k.p.within k.σ) value_of (Temp j) s2 made

        l2 : Later i.1 s2
        l2 = later_value i.0 i.1 s2 (Temp j) i.3

        l1 : Later k.σ s2
        l1 = later_on k.σ i.1 s2 (grow e want.Value k.p.within i.0 k.σ i.1 i.2) l2

        at : (place : ℕ) × IsOf place (k.p.places (temporary k.p.scene.depth j))
        at = named_place k e ty q go i.0 i.1 s2 j
            (asked_named P set grow n k e ty q go want.Value i.0 i.1 able (later_on i.1 s2 k.τ l2 last) i.2) i.3

        on_kept : Next
        on_kept w t = next (Kept (record { 0 = j })) w t

        on_number : ℕ → Next
        on_number u w t = next (Number u) w t

        chosen : Go ℕ
        chosen u w t = (if has_word (t j) u then on_kept else on_number u) w t

        choose : (g : Holdings) (ms : List Ty) (v : Value) (u : ℕ) (s : SourceWorld) (w : World) (t : Temps) → GrowsTo k.h g → Extends k.types ms →
            Holds P k.p g ms s w t → Stands g v ty u → (b : Bool) → has_word (t j) u ≡ b →
            FollowsHere P (k.r + 56) n (rest_run (go v) s) ((if b then on_kept else on_number u) w t)
        choose g ms v u s w t gg ee hh st true o =
            onward g ms v u s w t (Kept (record { 0 = j })) gg ee st
            (beyond_variable P set k.p direct s2 k.τ g ms s w t u is_direct j at.0 at.1 (ready_at s2 s2 ms l1 (later_none s2) last ee) hh
            (word_there (t j) u o))
        choose g ms v u s w t gg ee hh st false o =
            onward g ms v u s w t (Number u) gg ee st
            (beyond_number P set k.p direct s2 k.τ g ms s w t u (ready_at s2 s2 ms l1 (later_none s2) last ee) hh)

        by_word : (o : Option ℕ) → k.t j ≡ o → FollowsHere P (k.r + 4) n source (value_runs P k.p (Temp j) k.p.around (λ u w t. (if has_word
            (t j) u then on_kept else on_number u) w t) k.w k.t) → FollowsHere P (k.r + 4) n source (on_kept k.w k.t)
        by_word None e2 f =
            follows_wrong P.stack _ (k.r + 4) n source k.w (on_kept k.w k.t)
            (subst (λ o. FollowsHere P (k.r + 4) n source (with_word o k.w (λ u. (if has_word (k.t j) u then on_kept else on_number u) k.w k.t))) e2
            (follows_unworked P.stack _ (k.r + 4) n 0 source (with_word (k.t j) k.w (λ u. (if has_word (k.t j) u then on_kept else on_number u) k.w k.t)) f))
        by_word (Some a) e2 f =
            let here : has_word (k.t j) a ≡ true = ap (λ o. has_word o a) e2 ∙ eq-eqb a a refl in
            subst (λ b. FollowsHere P (k.r + 4) n source ((if b then on_kept else on_number a) k.w k.t)) here
            (subst (λ o. FollowsHere P (k.r + 4) n source (with_word o k.w (λ u. (if has_word (k.t j) u then on_kept else on_number u) k.w k.t))) e2
            (follows_unworked P.stack _ (k.r + 4) n 0 source (with_word (k.t j) k.w (λ u. (if has_word (k.t j) u then on_kept else on_number u) k.w k.t)) f))
