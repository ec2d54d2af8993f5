-- Two operands, of which the left one is held while the right one is evaluated: in a temporary of
-- its own, in its variable's, which nothing assigns meanwhile, or as a number.
use Rattle.std.proofs.Common.{◌≡◌, ◌≢◌, ℕ, ◌+◌, ◌<◌, ◌≤◌, ◌==◌, List, Option, Some, None, Bool, true, false, refl, sym, ap, ◌∙◌, arith, subst, inl, inr, eq-eqb}
use Rattle.std.specs.Prelude.{◌⊎◌, if◌then◌else◌}
use Rattle.tg_syntax.specs.OfWords.{OfWords}
use Rattle.tg_syntax.specs.Tree.{Exp}
use Rattle.tg_simulation.specs.Runs.{Run}
use Rattle.tg_simulation.specs.Ran.{Ran}
use Rattle.tg_simulation.specs.Agreement.{Source}
use Rattle.tg_semantics.specs.Values.{Value, SourceWorld}
use Rattle.tg_semantics.specs.Passing.{Rest}
use Rattle.tg_semantics.specs.MachineRuns.{rest_run}
use Rattle.tg_typecheck.specs.Types.{Ty, none_type}
use Rattle.tg_typecheck.specs.Has.{Has}
use Rattle.tg_tree.specs.Tree.{Tx, Const, Temp, Move, Stms, no_stms, stm}
use Rattle.tg_tree.specs.glue.Lists.{join_stms}
use Rattle.tg_tree.specs.Actions.{World, Temps, set_temp, Go, Next, with_word}
use Rattle.tg_translate.specs.declared.operands.Operand.{Operand}
use Rattle.tg_translate.specs.declared.operands.Operand.TheVariants.{Number, Kept}
use Rattle.tg_translate.specs.declared.wants.Want.TheVariants as want
use Rattle.tg_translate.specs.mirror.States.{TranslationState, drawn, with_frame, one_temp}
use Rattle.tg_translate.specs.mirror.Wants.{Made, value_of}
use Rattle.tg_translate.specs.mirror.Constructs.{Held, hold, keep}
use Rattle.tg_translate.specs.mirror.Purity.{assigns_nothing}
use Rattle.tg_translate.specs.mirror.Translate.{expression}
use Rattle.tg_translate_proof.specs.glue.Tables.{Later}
use Rattle.tg_translate_proof.specs.glue.Worlds.{Holdings, unknown, Stands, GrowsTo, Key, cell, temporary, Content, nowhere, free, variable, kept, fixed}
use Rattle.tg_translate_proof.specs.glue.Worlds.{Places, IsOf, HoldsAt, HoldsVariable, AllTemps, word_of}
use Rattle.tg_tree.specs.Memory.{Memory}
use Rattle.tg_translate_proof.specs.glue.Situations.{Program, Part, Setting, Holds, IsReady, IsCovered, MayAssign, Extends, with_temps, floor, value_runs}
use Rattle.tg_translate_proof.specs.glue.Situations.{statements_run}
use Rattle.tg_translate_proof.specs.glue.Shown.{Shown, FollowsHere, Onward, left_over, evaluates}
use Rattle.tg_translate_proof.proofs.state.TranslationStates.{later_none, later_on, later_value}
use Rattle.tg_translate_proof.proofs.invariant.Cases.{worked, grows_none, grows_on}
use Rattle.tg_translate_proof.proofs.invariant.Parts.{StatesGrow, more, along_on, ready_part, extends_none, extends_on}
use Rattle.tg_translate_proof.proofs.state.ValueWords.{stands_grows}
use Rattle.tg_translate_proof.proofs.state.Keys.{put_place, put_here, put_is, back_is, by_key, depth_of, index_of, scene_put, held_word, own_temps, of_is_used, some_same}
use Rattle.tg_translate_proof.proofs.state.HomeWrites.{temp_written, is_fixed, is_nowhere_again, unchanged}
use Rattle.tg_translate_proof.proofs.invariant.Asked.{Standing, Asked}
use Rattle.tg_translate_proof.proofs.invariant.HeldOperands.{OperandIs, Holding, IsAnother, RightIs, a_number, a_temp, another, held_as, held_follows, has_word, word_there, kept_later}
use Rattle.tg_translate_proof.proofs.invariant.LessWork.{follows_unworked, follows_wrong}

-- a part with other places
abbrev pub placed : Part → Places → Part
placed p places = record p { places = places }

-- how the left operand is held
pub data LeftHeld (direct : Bool) : Tx → Type 0 where
  as_number : (n : ℕ) → LeftHeld direct (Const n)
  as_variable : (i : ℕ) → direct ≡ true → LeftHeld direct (Temp i)
  as_kept : (x : Tx) → ((before : Stms) (s : TranslationState) → hold direct before x s ≡ keep before x s) → LeftHeld direct x

abbrev pub left_extra : (direct : Bool) (x : Tx) → TranslationState → LeftHeld direct x → Stms
left_extra direct _ s (as_number n) = no_stms
left_extra direct _ s (as_variable i e) = no_stms
left_extra direct x s (as_kept _ e) = stm (Move s.frame.temps x) no_stms

abbrev pub left_operand : (direct : Bool) (x : Tx) → TranslationState → LeftHeld direct x → Operand
left_operand direct _ s (as_number n) = Number n
left_operand direct _ s (as_variable i e) = Kept (record { 0 = i })
left_operand direct x s (as_kept _ e) = Kept (record { 0 = s.frame.temps })

abbrev pub left_state : (direct : Bool) (x : Tx) → TranslationState → LeftHeld direct x → TranslationState
left_state direct _ s (as_number n) = s
left_state direct _ s (as_variable i e) = s
left_state direct x s (as_kept _ e) = with_frame (one_temp s.frame) s

module _ (P : Program) (set : Setting P) (grow : StatesGrow P) (n : ℕ) (k : Standing P set grow n) where
  -- temporaries of this activation are no part of the heap
  no_cell : (h : Holdings) (i : ℕ) (b : ℕ) → h.at b ≢ unknown → cell b ≢ temporary k.p.scene.depth i
  no_cell h i b known e = cc

  module _ (e : Exp) (tyl tyr : Ty) (able : tyr ≢ none_type) (shown : Shown P n e) (typed : Has P.shapes P.notes e k.p.scope tyr) (words : OfWords e)
      (covers : IsCovered P k.p e) (may_assign : MayAssign P k.p e)
      (σa s1 s2 sh : TranslationState) (m : Made) (y : Tx) (made : expression P.findings e want.Value k.p.within σa ≡ drawn m s1)
      (made_y : value_of m s1 ≡ drawn y s2)
      (first : Later k.σ σa) (later_h : Later s2 sh) (last : Later sh k.τ) (hd : Holding y) (fresh : IsAnother y hd →
      sh.frame.temps < k.τ.frame.temps) (r : ℕ) (low : k.r ≤ r) (go : Value → Value → Rest) (next : Operand → Operand → Next) where
    to_value : Later σa s2
    to_value = later_on σa s1 s2 (grow e want.Value k.p.within m σa s1 made) (later_value m s1 s2 y made_y)

    -- the statements that hold the right operand, and what it is
    abbrev pub right_extra : Stms
    right_extra = (held_as y sh hd).extra

    abbrev pub right_operand : Operand
    right_operand = (held_as y sh hd).operand

    -- What comes next, whatever the operands are, as long as they are the words of both.
    abbrev pub BothOnward : Type 0
    BothOnward =
        (g : Holdings) (ms : List Ty) (v b : Value) (u z : ℕ) (s : SourceWorld) (w : World) (t : Temps) (l o : Operand) → GrowsTo k.h g →
        Extends k.types ms → Holds P k.p g ms s w t →
        Stands g v tyl u → Stands g b tyr z → OperandIs l u t → OperandIs o z t → RightIs y sh hd o → FollowsHere P r n (rest_run (go v b) s) (next l o w t)

    -- the right side, where the left operand is known while other places hold
    right_follows : BothOnward → (places : Places) (l : Operand) (g : Holdings) (ms : List Ty) (v : Value) (u : ℕ) (s : SourceWorld) (w : World)
        (t : Temps) → GrowsTo k.h g → Extends k.types ms →
        IsReady P (placed k.p places) ms σa s2 → Holds P (placed k.p places) g ms s w t → Stands g v tyl u → MayAssign P (placed k.p places) e →
        ((g3 : Holdings) (ms3 : List Ty) (s3 : SourceWorld) (w3 : World) (t3 : Temps) → Holds P (placed k.p places) g3 ms3 s3 w3 t3 →
        Holds P k.p g3 ms3 s3 w3 t3 × OperandIs l u t3) →
        (IsAnother y hd → places (temporary k.p.scene.depth sh.frame.temps) ≡ nowhere) →
        FollowsHere P (r + 6) n (rest_run (evaluates P e k.p.env (go v) k.out) s) (statements_run P k.p right_extra k.p.around (next l right_operand) w t)
    right_follows onward places l g ms v u s w t gg ee ready hh st may back idle =
        let kb : Standing P set grow n = record {
          p = placed k.p places;
          σ = σa;
          τ = s2;
          h = g;
          types = ms;
          r = r;
          out = k.out;
          s = s;
          w = w;
          t = t;
          ready = ready;
          outward = λ g3 ms3 s3 w3 t3 lo gg3 ee3 hh3.
              more P (k.r + left_over) (r + left_over) n (rest_run k.out s3) (k.p.around.out k.p.within.leave w3 t3) (omega (arith, low))
              (k.outward g3 ms3 s3 w3 t3 lo (grows_on k.h g g3 gg gg3) (extends_on k.types ms ms3 ee ee3) (back g3 ms3 s3 w3 t3 hh3).0);
          holds = hh;
        } in
        held_follows P set grow n kb e tyr (record { shown = shown; typed = typed; words = words; covers = covers; may_assign = may })
        (go v) m s1 s2 sh y able made made_y (later_none s2) hd idle (next l)
        (λ g2 ms2 b z s3 w3 t3 o gg2 ee2 hh2 st2 is right.
        let x = back g2 ms2 s3 w3 t3 hh2 in
        onward g2 ms2 v b u z s3 w3 t3 l o (grows_on k.h g g2 gg gg2) (extends_on k.types ms ms2 ee ee2) x.0
        (stands_grows g g2 v tyl u gg2 st) st2 x.1 is right)

    -- the part is ready where a temporary that the right side doesn't draw has other content
    ready_over : (i : ℕ) (c : Content) (ms : List Ty) → Extends k.types ms → ((z : ℕ) → k.p.places (temporary k.p.scene.depth i) ≢ fixed z) →
        ((l : ℕ) → IsOf l (k.p.places (temporary k.p.scene.depth i)) → IsOf l c) → ((j : ℕ) → σa.frame.temps ≤ j → j < s2.frame.temps → j ≢ i) →
        IsReady P (placed k.p (put_place (temporary k.p.scene.depth i) c k.p.places)) ms σa s2
    ready_over i c ms ee unlinked stays outside =
        let key : Key = temporary k.p.scene.depth i in
        let o = ready_part P set k.p k.types ms k.σ k.τ σa s2 ee first to_value (later_on s2 sh k.τ later_h last) k.ready in
        record {
          scene = scene_put (floor P) P.stack k.p.places k.p.scene key c unlinked (omega arith) (λ a f. cc) o.scene;
          along = along_on P k.p.places (put_place key c k.p.places) ms ms k.p.scene
              (λ z l is. by_key z key (λ c2. IsOf l c2) c k.p.places (λ f. stays l (subst (λ q. IsOf l (k.p.places q)) f is)) is)
              (extends_none ms) k.p.scene.level k.p.env.entries k.p.scope.bindings o.along;
          found = o.found;
          moment = o.moment;
          level = o.level;
          same_level = o.same_level;
          links = o.links;
          slots_free = λ j a b. by_key (cell _) key (λ z. z ≡ free) c k.p.places (λ f. cc) (o.slots_free j a b);
          temps_free = λ j a b. by_key (temporary k.p.scene.depth j) key (λ z. z ≡ nowhere) c k.p.places (λ f. absurd (outside j a b (ap index_of f)))
              (o.temps_free j a b);
          slots_there = o.slots_there;
          activation = o.activation;
          fits = o.fits;
        }

    other_idle : (i : ℕ) (c : Content) → IsAnother y hd → sh.frame.temps ≢ i →
        put_place (temporary k.p.scene.depth i) c k.p.places (temporary k.p.scene.depth sh.frame.temps) ≡ nowhere
    other_idle i c an ne =
        let f0 = fresh an in
        let a = first.temps in
        let b = to_value.temps in
        let c2 = later_h.temps in
        by_key (temporary k.p.scene.depth sh.frame.temps) (temporary k.p.scene.depth i) (λ z. z ≡ nowhere) c k.p.places (λ f. absurd (ne (ap index_of f)))
        (k.ready.temps_free sh.frame.temps (omega (arith, a, b, c2)) f0)

    -- in a temporary of its own
    over_own : BothOnward → (i : ℕ) → s2.frame.temps ≤ i → i < sh.frame.temps →
        (g : Holdings) (ms : List Ty) (v : Value) (u : ℕ) (s : SourceWorld) (w : World) (t : Temps) → GrowsTo k.h g → Extends k.types ms →
        Holds P k.p g ms s w t → Stands g v tyl u →
        FollowsHere P (r + 6) n (rest_run (evaluates P e k.p.env (go v) k.out) s) (statements_run P k.p right_extra k.p.around (next (Kept
        (record { 0 = i })) right_operand) w (set_temp i u t))
    over_own onward i lo hi g ms v u s w t gg ee hh st =
        let key : Key = temporary k.p.scene.depth i in
        let a = first.temps in
        let b = to_value.temps in
        let c = last.temps in
        let idle : k.p.places key ≡ nowhere = k.ready.temps_free i (omega (arith, a, b, lo)) (omega (arith, c, hi)) in
        right_follows onward (put_place key (fixed u) k.p.places) (Kept (record { 0 = i })) g ms v u s w (set_temp i u t) gg ee
        (ready_over i (fixed u) ms ee (λ z f. let o = sym idle ∙ f in cc) (λ l is. absurd (subst (λ q. IsOf l q) idle is)) (λ j _ b2 f. omega
        (arith, b2, f, lo)))
        (record {
          invariant = is_fixed P.shapes P.heap (floor P) k.p.places g ms s w w (with_temps k.p.scene.depth t k.p.others) (with_temps k.p.scene.depth
              (set_temp i u t) k.p.others) hh.invariant key u
              (temp_written w.memory k.p.scene.depth i u t k.p.others hh.invariant.memory.whole) refl (no_cell g i) (λ a2 f. cc);
          weight = hh.weight;
          depth = hh.depth;
          statics = hh.statics;
          literals = hh.literals;
        })
        st (may_on key (fixed u) (λ l z f. cc) may_assign)
        (λ g3 ms3 s3 w3 t3 h3. (
          record {
            invariant = is_nowhere_again P.shapes P.heap (floor P) (put_place key (fixed u) k.p.places) g3 ms3 s3 w3
                (with_temps k.p.scene.depth t3 k.p.others) h3.invariant key k.p.places (fixed u) refl idle (no_cell g3 i);
            weight = h3.weight;
            depth = h3.depth;
            statics = h3.statics;
            literals = h3.literals;
          },
          sym (ap (λ (f : Temps). f i) (own_temps k.p.scene.depth t3 k.p.others)) ∙
              subst (λ q. HoldsAt g3 ms3 s3 w3.memory (with_temps k.p.scene.depth t3 k.p.others) key q) (put_here key (fixed u) k.p.places)
              (h3.invariant.holds key),
        ))
        (λ an. other_idle i (fixed u) an (λ f. omega (arith, hi, f)))
      where
        may_on : (key : Key) (c : Content) → ((l z : ℕ) → c ≢ kept l z) → MayAssign P k.p e → MayAssign P (placed k.p (put_place key c k.p.places)) e
        may_on key c not_kept (inl pure) = inl pure
        may_on key c not_kept (inr f) = inr (λ j l z. by_key (temporary k.p.scene.depth j) key (λ q. q ≢ kept l z) c k.p.places (λ _. not_kept l z)
            (f j l z))

    -- as a number
    over_number : BothOnward → (g : Holdings) (ms : List Ty) (v : Value) (u : ℕ) (s : SourceWorld) (w : World) (t : Temps) → GrowsTo k.h g →
        Extends k.types ms → Holds P k.p g ms s w t → Stands g v tyl u →
        FollowsHere P (r + 6) n (rest_run (evaluates P e k.p.env (go v) k.out) s) (statements_run P k.p right_extra k.p.around (next
        (Number u) right_operand) w t)
    over_number onward g ms v u s w t gg ee hh st =
        let a = first.temps in
        let b = to_value.temps in
        let c = later_h.temps in
        let o = ready_part P set k.p k.types ms k.σ k.τ σa s2 ee first to_value (later_on s2 sh k.τ later_h last) k.ready in
        right_follows onward k.p.places (Number u) g ms v u s w t gg ee
        (record {
          scene = o.scene;
          along = o.along;
          found = o.found;
          moment = o.moment;
          level = o.level;
          same_level = o.same_level;
          links = o.links;
          slots_free = o.slots_free;
          temps_free = o.temps_free;
          slots_there = o.slots_there;
          activation = o.activation;
          fits = o.fits;
        })
        (record { invariant = hh.invariant; weight = hh.weight; depth = hh.depth; statics = hh.statics; literals = hh.literals }) st may_assign
        (λ g3 ms3 s3 w3 t3 h3. (
          record {
            invariant = h3.invariant;
            weight = h3.weight;
            depth = h3.depth;
            statics = h3.statics;
            literals = h3.literals;
          },
          refl,
        ))
        (λ an. k.ready.temps_free sh.frame.temps (omega (arith, a, b, c)) (fresh an))

    -- in its variable's temporary
    over_variable : BothOnward → assigns_nothing e ≡ true → (i place : ℕ) → IsOf place (k.p.places (temporary k.p.scene.depth i)) →
        (g : Holdings) (ms : List Ty) (v : Value) (u : ℕ) (s : SourceWorld) (w : World) (t : Temps) →
        GrowsTo k.h g → Extends k.types ms → Holds P k.p g ms s w t → Stands g v tyl u → t i ≡ Some u →
        FollowsHere P (r + 6) n (rest_run (evaluates P e k.p.env (go v) k.out) s) (statements_run P k.p right_extra k.p.around (next (Kept
        (record { 0 = i })) right_operand) w t)
    over_variable onward pure i place is_of g ms v u s w t gg ee hh st there =
        let key : Key = temporary k.p.scene.depth i in
        let ts = with_temps k.p.scene.depth t k.p.others in
        let used : k.p.places key ≢ nowhere = of_is_used place (k.p.places key) is_of in
        let a = first.temps in
        let b = to_value.temps in
        let c1 = later_h.temps in
        let c2 = last.temps in
        let word : ts k.p.scene.depth i ≡ Some u = ap (λ (f : Temps). f i) (own_temps k.p.scene.depth t k.p.others) ∙ there in
        let y = held_word g ms s w.memory ts key place (k.p.places key) is_of (hh.invariant.holds key) in
        let same : y.0 ≡ u = some_same y.0 u (sym y.1 ∙ word) in
        right_follows onward (put_place key (kept place u) k.p.places) (Kept (record { 0 = i })) g ms v u s w t gg ee
        (ready_over i (kept place u) ms ee (λ z f. no_link (k.p.places key) z is_of f) (λ l o. one_place (k.p.places key) l is_of o)
        (λ j lo hi f. used (subst (λ o. k.p.places (temporary k.p.scene.depth o) ≡ nowhere) f (k.ready.temps_free j (omega (arith, a, lo)) (omega
        (arith, c1, c2, hi))))))
        (record {
          invariant = unchanged P.shapes P.heap (floor P) k.p.places g ms s w ts hh.invariant key (put_place key (kept place u) k.p.places)
              (kept place u) (put_is key (kept place u) k.p.places)
              (word, subst (λ o. HoldsVariable g ms s place o) same y.2) (λ l o. subst (λ z. IsOf z (k.p.places key)) o is_of) (λ _. used) (no_cell g i);
          weight = hh.weight;
          depth = hh.depth;
          statics = hh.statics;
          literals = hh.literals;
        })
        st (inl pure)
        (λ g3 ms3 s3 w3 t3 h3.
        let ts3 = with_temps k.p.scene.depth t3 k.p.others in
        let now : HoldsAt g3 ms3 s3 w3.memory ts3 key (kept place u) = subst (λ q. HoldsAt g3 ms3 s3 w3.memory ts3 key q) (put_here key
        (kept place u) k.p.places) (h3.invariant.holds key) in (
          record {
            invariant = unchanged P.shapes P.heap (floor P) (put_place key (kept place u) k.p.places) g3 ms3 s3 w3 ts3 h3.invariant key k.p.places
                (k.p.places key) (back_is key (kept place u) k.p.places (k.p.places key) refl)
                (restored k.p.scene.depth i (k.p.places key) g ms s w.memory ts g3 ms3 s3 w3.memory ts3 is_of word (hh.invariant.holds key) now)
                (λ l o. subst (λ q. IsOf l q) (sym (put_here key (kept place u) k.p.places)) (one_place (k.p.places key) l is_of o))
                (λ _ f. let z = sym (put_here key (kept place u) k.p.places) ∙ f in cc) (no_cell g3 i);
            weight = h3.weight;
            depth = h3.depth;
            statics = h3.statics;
            literals = h3.literals;
          },
          sym (ap (λ (f : Temps). f i) (own_temps k.p.scene.depth t3 k.p.others)) ∙ now.0,
        ))
        (λ an. other_idle i (kept place u) an (λ f. used (subst (λ o. k.p.places (temporary k.p.scene.depth o) ≡ nowhere) f
        (k.ready.temps_free sh.frame.temps (omega (arith, a, b, c1)) (fresh an)))))
      where
        no_link : (c : Content) (z : ℕ) → IsOf place c → c ≡ fixed z → ⊥
        no_link c z is f = subst (λ q. IsOf place q) f is

        one_place : (c : Content) (l : ℕ) → IsOf place c → IsOf l c → place ≡ l
        one_place nowhere l a b = absurd a
        one_place free l a b = absurd a
        one_place (fixed z) l a b = absurd a
        one_place (variable q) l a b = sym a ∙ b
        one_place (kept q z) l a b = sym a ∙ b

        restored : (d j : ℕ) (c : Content) (g : Holdings) (ms : List Ty) (s : SourceWorld) (m : Memory) (ts : AllTemps) (g3 : Holdings)
            (ms3 : List Ty) (s3 : SourceWorld) (m3 : Memory) (ts3 : AllTemps) → IsOf place c →
            ts d j ≡ Some u → HoldsAt g ms s m ts (temporary d j) c → HoldsAt g3 ms3 s3 m3 ts3 (temporary d j) (kept place u) →
            HoldsAt g3 ms3 s3 m3 ts3 (temporary d j) c
        restored d j nowhere g ms s m ts g3 ms3 s3 m3 ts3 is word old now = absurd is
        restored d j free g ms s m ts g3 ms3 s3 m3 ts3 is word old now = absurd is
        restored d j (fixed z) g ms s m ts g3 ms3 s3 m3 ts3 is word old now = absurd is
        restored d j (variable l) g ms s m ts g3 ms3 s3 m3 ts3 is word old now = (u, now.0, subst (λ o. HoldsVariable g3 ms3 s3 o u) (sym is) now.1)
        restored d j (kept l z) g ms s m ts g3 ms3 s3 m3 ts3 is word old now =
            let same : u ≡ z = some_same u z (sym word ∙ old.0) in (
              subst (λ o. ts3 d j ≡ Some o) same now.0,
              subst (λ o. HoldsVariable g3 ms3 s3 l o) same (subst (λ o. HoldsVariable g3 ms3 s3 o u)
                  (sym is) now.1),
            )

    -- Both operands: the left one in q units, which come before.
    pub both_follow : (direct : Bool) (x : Tx) (lh : LeftHeld direct x) (sx : TranslationState) (q : ℕ) (source : Run Source) → Later s2 sx →
        sh ≡ left_state direct x sx lh →
        ((go' : Go ℕ) → Onward P {A = ℕ} n (r + 6) k.p k.h k.types (λ g v u. Stands g v tyl u) (λ v. evaluates P e k.p.env (go v) k.out) go' →
        FollowsHere P q n source (value_runs P k.p x k.p.around go' k.w k.t)) →
        (direct ≡ true → (i : ℕ) → x ≡ Temp i → (place : ℕ) × IsOf place (k.p.places (temporary k.p.scene.depth i))) → (direct ≡ true →
        assigns_nothing e ≡ true) → BothOnward →
        FollowsHere P (q + 2) n source (statements_run P k.p (left_extra direct x sx lh) k.p.around
        (λ w t. statements_run P k.p right_extra k.p.around (next (left_operand direct x sx lh) right_operand) w t) k.w k.t)
    both_follow direct _ (as_number j) sx q source lx is left named pure onward =
        more P q (q + 2) n source _ (omega arith)
        (follows_unworked P.stack _ q n 2 source _
        (left (λ u w t. statements_run P k.p right_extra k.p.around (next (Number u) right_operand) w t)
        (λ g ms v u s w t gg ee hh st. over_number onward g ms v u s w t gg ee hh st)))
    both_follow direct x (as_kept _ kept_) sx q source lx is left named pure onward =
        let i : ℕ = sx.frame.temps in
        worked P q (q + 2) 2 n source _ (omega arith)
        (left (λ u w t. statements_run P k.p right_extra k.p.around (next (Kept (record { 0 = i })) right_operand) w (set_temp i u t))
        (λ g ms v u s w t gg ee hh st. over_own onward i (let o = lx.temps in omega (arith, o)) (let o = ap
        (λ (z : TranslationState). z.frame.temps) is in omega (arith, o)) g ms v u s w t gg ee hh st))
    both_follow direct _ (as_variable i is_direct) sx q source lx is left named pure onward =
        let at = named is_direct i refl in
        let chosen : Go ℕ = λ u w t. (if has_word (t i) u then on_kept else on_number u) w t in
        more P q (q + 2) n source _ (omega arith)
        (by_word (k.t i) refl
        (left chosen (λ g ms v u s w t gg ee hh st. choose g ms v u s w t gg ee hh st at.0 at.1 (has_word (t i) u) refl)))
      where
        on_kept : Next
        on_kept w t = statements_run P k.p right_extra k.p.around (next (Kept (record { 0 = i })) right_operand) w t

        on_number : ℕ → Next
        on_number u w t = statements_run P k.p right_extra k.p.around (next (Number u) right_operand) w t

        choose : (g : Holdings) (ms : List Ty) (v : Value) (u : ℕ) (s : SourceWorld) (w : World) (t : Temps) → GrowsTo k.h g → Extends k.types ms →
            Holds P k.p g ms s w t → Stands g v tyl u →
            (place : ℕ) → IsOf place (k.p.places (temporary k.p.scene.depth i)) → (b : Bool) → has_word (t i) u ≡ b →
            FollowsHere P (r + 6) n (rest_run (evaluates P e k.p.env (go v) k.out) s) ((if b then on_kept else on_number u) w t)
        choose g ms v u s w t gg ee hh st place is_of true o = over_variable onward (pure is_direct) i place is_of g ms v u s w t gg ee hh st
            (word_there (t i) u o)
        choose g ms v u s w t gg ee hh st place is_of false o = over_number onward g ms v u s w t gg ee hh st

        by_word : (o : Option ℕ) → k.t i ≡ o → FollowsHere P q n source (value_runs P k.p (Temp i) k.p.around (λ u w t. (if has_word
            (t i) u then on_kept else on_number u) w t) k.w k.t) → FollowsHere P q n source (on_kept k.w k.t)
        by_word None e2 f =
            follows_wrong P.stack _ q n source k.w (on_kept k.w k.t)
            (subst (λ o. FollowsHere P q n source (with_word o k.w (λ u. (if has_word (k.t i) u then on_kept else on_number u) k.w k.t))) e2
            (follows_unworked P.stack _ q n 0 source (with_word (k.t i) k.w (λ u. (if has_word (k.t i) u then on_kept else on_number u) k.w k.t)) f))
        by_word (Some a) e2 f =
            let here : has_word (k.t i) a ≡ true = ap (λ o. has_word o a) e2 ∙ eq-eqb a a refl in
            subst (λ b. FollowsHere P q n source ((if b then on_kept else on_number a) k.w k.t)) here
            (subst (λ o. FollowsHere P q n source (with_word o k.w (λ u. (if has_word (k.t i) u then on_kept else on_number u) k.w k.t))) e2
            (follows_unworked P.stack _ q n 0 source (with_word (k.t i) k.w (λ u. (if has_word (k.t i) u then on_kept else on_number u) k.w k.t)) f))
