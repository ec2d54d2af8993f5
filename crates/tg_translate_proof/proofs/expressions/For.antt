-- `for`: its bounds, and the way into its loop.
use Rattle.std.proofs.Common.{◌≡◌, ◌≢◌, ℕ, ◌+◌, ◌-◌, ◌^◌, ◌<◌, ◌≤◌, List, [], ◌∷◌, ◌++◌, Some, Bool, true, false, refl, sym, ap, ◌∙◌, arith, subst, inl, inr}
use Rattle.std.specs.Prelude.{slice_get, length, not, if◌then◌else◌}
use Rattle.tg_base.specs.Words.{sub, less}
use Rattle.tg_base.specs.declared.ids.Span.{Span}
use Rattle.tg_syntax.specs.declared.tokens.Ident.{Ident}
use Rattle.tg_syntax.specs.Tree.{Exp, For}
use Rattle.tg_syntax.specs.Functions.{own}
use Rattle.tg_simulation.specs.Runs.{Run}
use Rattle.tg_simulation.specs.Ran.{Ran}
use Rattle.tg_simulation.specs.Agreement.{Source}
use Rattle.tg_semantics.specs.Values.{Value, int, nothing, SourceWorld, add_variable}
use Rattle.tg_semantics.specs.Evaluation as evaluation
use Rattle.tg_semantics.specs.Evaluation.{with_variable}
use Rattle.tg_semantics.specs.Levels.{levels_of}
use Rattle.tg_semantics.specs.Passing.{Rest, Passing, passing}
use Rattle.tg_semantics.specs.MachineRuns.{rest_run}
use Rattle.tg_semantics.specs.laws.Laws.{behind}
use Rattle.tg_typecheck.specs.Types.{Ty, int_type, none_type}
use Rattle.tg_semantics.specs.Environments.{name_of}
use Rattle.tg_typecheck.specs.Scopes.{variable_at, binding, in_a_loop, at_of}
use Rattle.tg_typecheck.specs.Has as has
use Rattle.tg_typecheck.specs.Has.{Has}
use Rattle.tg_frame.specs.declared.accesses.Access.{Access}
use Rattle.tg_tree.specs.declared.operators.Rel.TheVariants as rel
use Rattle.tg_tree.specs.Tree as tree
use Rattle.tg_tree.specs.Tree.{Tx, Ts, Stms, no_stms, stm}
use Rattle.tg_tree.specs.glue.Lists.{join_stms}
use Rattle.tg_tree.specs.Shapes.{is_flat}
use Rattle.tg_tree.specs.Units.{Trees, hoisted_units}
use Rattle.tg_tree.specs.Forms.{nothing as nothing_done, when}
use Rattle.tg_tree.specs.Actions.{World, Temps, Next, leaving}
use Rattle.tg_tree.specs.Operators.{holds}
use Rattle.tg_translate.specs.declared.operands.Operand.{Operand}
use Rattle.tg_translate.specs.declared.operands.Operand.TheVariants.{Kept}
use Rattle.tg_translate.specs.declared.wants.Want.TheVariants as want
use Rattle.tg_translate.specs.mirror.States.{TranslationState, drawn, after}
use Rattle.tg_translate.specs.mirror.Wants.{Made, done, dropped, value_of, value_from, statement_from}
use Rattle.tg_translate.specs.mirror.Constructs.{first_minus_one, turns, turn_of, count_of, in_body, operand, keep, Held}
use Rattle.tg_translate.specs.mirror.Translate.{expression}
use Rattle.tg_translate_proof.specs.glue.Covered.{Covers}
use Rattle.tg_translate_proof.specs.glue.Tables.{Later}
use Rattle.tg_translate_proof.specs.glue.Worlds.{Holdings, unknown, GrowsTo, Key, cell, temporary, nowhere, free, variable, kept, fixed, Places, IsOf, word_of}
use Rattle.tg_translate_proof.specs.glue.Situations.{Program, Part, Setting, Holds, IsReady, IsCovered, MayAssign, Extends, with_temps, floor, value_runs}
use Rattle.tg_translate_proof.specs.glue.Situations.{statement_runs, statements_run}
use Rattle.tg_translate_proof.specs.glue.Shown.{Shown, IsShown, Situation, IsWantable, FollowsHere, Onward, MadeFollows, left_over, evaluates}
use Rattle.tg_translate_proof.proofs.state.TranslationStates.{made_in, state_in, after_inv, later_none, later_on, later_value}
use Rattle.tg_translate_proof.proofs.invariant.Cases.{by_made, source_of, worked}
use Rattle.tg_translate_proof.proofs.invariant.Parts.{StatesGrow, more, paid, extends_none, extends_on, along_on, ready_part}
use Rattle.tg_translate_proof.proofs.state.Keys.{put_place, put_here, by_key, index_of, own_temps, scene_put, get_last, is_old}
use Rattle.tg_translate_proof.proofs.state.HomeWrites.{not_written, is_fixed, is_nowhere_again}
use Rattle.tg_translate_proof.proofs.program.VariableDeclaration.{Home_at, home_tabled, ready_with, extends_front}
use Rattle.tg_translate_proof.proofs.state.ValueWords.{stands_int, int_has_values}
use Rattle.tg_translate_proof.proofs.expressions.BinarySides.{hoisted_small}
use Rattle.tg_translate_proof.proofs.invariant.Asked.{Standing, Asked, asked_value}
use Rattle.tg_translate_proof.proofs.expressions.AssignPlain.{dropped_only}
use Rattle.tg_translate_proof.proofs.invariant.HeldOperands.{OperandIs, Holding, always, held_as, operand_follows}
use Rattle.tg_translate_proof.proofs.invariant.HeldLeft.{placed, LeftHeld, left_extra, left_operand, left_state, both_follow}
use Rattle.tg_translate_proof.proofs.expressions.Index.{left_is, left_later}
use Rattle.tg_translate_proof.proofs.expressions.Let.{joined_runs}
use Rattle.tg_translate_proof.proofs.expressions.ForVariable.{write_home, begins_nowhere}
use Rattle.tg_translate_proof.proofs.expressions.ForLoop.{Counted, Turns, loop_follows}
use Rattle.tg_translate_proof.proofs.expressions.ForHomes.{access_of, home_state, key_at, drawn_home, number_or_kept, IsIdle, idle_not_fixed, idle_of_none, idle_use, idle_on, less_more, Homed, homed, no_heap, can_store, idle_again, first_word}

module _ (P : Program) (set : Setting P) (grow : StatesGrow P) (n : ℕ) (sp : Span) (i : Ident) (low high a : Exp) (show_a : (m : ℕ) → m ≤ n → Shown P m a) where
  abbrev E : Exp
  E = For sp i low high a

  module _ (x : Situation P n (For sp i low high a)) where
    pub record ForTyped : Type 0 where
      pub low_typed : Has P.shapes P.notes low x.p.scope int_type
      pub high_typed : Has P.shapes P.notes high x.p.scope int_type
      pub body_typed : Has P.shapes P.notes a (in_a_loop (binding i (variable_at (at_of i) int_type true) x.p.scope)) none_type
      pub none : x.ty ≡ none_type

    for_typed : ForTyped
    for_typed = by x.ty x.typed refl
      where
        by : (t : Ty) → Has P.shapes P.notes (For sp i low high a) x.p.scope t → x.ty ≡ t → ForTyped
        by _ (has.for hl hh ha) e = record { low_typed = hl; high_typed = hh; body_typed = ha; none = e }

    may_all : (j place u : ℕ) → x.p.places (temporary x.p.scene.depth j) ≢ kept place u
    may_all = by x.may_assign
      where
        by : MayAssign P x.p (For sp i low high a) → (j place u : ℕ) → x.p.places (temporary x.p.scene.depth j) ≢ kept place u
        by (inl f) = cc
        by (inr f) = f

    -- what comes after both bounds, with the loop's body
    module _ (escapes : Bool) (s4 s6 : TranslationState) (m : Made) (first : Later x.σ s4)
        (made : expression P.findings a want.Dropped (in_body x.p.within) (home_state escapes x.p i s4) ≡ drawn m s6)
        (bound : ℕ) (behind_body : s6.frame.temps ≤ bound) (bound_drawn : bound < x.τ.frame.temps) (last : Later s6 x.τ)
        (next : Next) (onward : Onward P {A = ℕ} n (x.r + left_over) x.p x.h x.types (λ g v u. Unit {0}) x.go (λ u w1 t1. next w1 t1)) where
      abbrev s5 : TranslationState
      s5 = home_state escapes x.p i s4

      abbrev access : Access
      access = access_of escapes s4

      abbrev key : Key
      key = key_at escapes x.p s4

      abbrev bound_key : Key
      bound_key = temporary x.p.scene.depth bound

      to_home : Later s4 s5
      to_home = drawn_home escapes x.p i s4

      body_grows : Later s5 s6
      body_grows = grow a want.Dropped (in_body x.p.within) m s5 s6 made

      to_end : Later s5 x.τ
      to_end = later_on s5 s6 x.τ body_grows last

      h0 : Homed P set x.p s5 x.τ access key
      h0 = homed P set escapes x.p i x.h x.types x.σ x.τ s4 x.s x.w x.t x.ready x.holds first to_end

      bound_idle : x.p.places bound_key ≡ nowhere
      bound_idle =
          let a1 = first.temps in
          let a2 = to_home.temps in
          let a3 = body_grows.temps in
          x.ready.temps_free bound (omega (arith, a1, a2, a3, behind_body)) bound_drawn

      key_apart : bound_key ≢ key
      key_apart = let a3 = body_grows.temps in h0.apart_temps bound (omega (arith, a3, behind_body))

      -- with the upper bound in its temporary
      abbrev with_bound : ℕ → Places
      with_bound z = put_place bound_key (fixed z) x.p.places

      idle_there : (z : ℕ) → IsIdle (with_bound z) key
      idle_there z = idle_on x.p.places key bound_key (fixed z) (λ f. key_apart (sym f)) h0.idle

      -- the part is ready there, up to the end of the body
      ready_bound : (z : ℕ) (ms : List Ty) → Extends x.types ms → IsReady P (placed x.p (with_bound z)) ms s4 s6
      ready_bound z ms ee =
          let o = ready_part P set x.p x.types ms x.σ x.τ s4 s6 ee first (later_on s4 s5 s6 to_home body_grows) last x.ready in
          record {
            scene = scene_put (floor P) P.stack x.p.places x.p.scene bound_key (fixed z) (λ u f. let q = sym bound_idle ∙ f in cc) (omega arith) (λ b f. cc) o.scene;
            along = along_on P x.p.places (with_bound z) ms ms x.p.scene
                (λ k l is. by_key k bound_key (λ c2. IsOf l c2) (fixed z) x.p.places (λ f. absurd (subst (λ c. IsOf l c) bound_idle (subst (λ q. IsOf l (x.p.places q)) f is))) is)
                (extends_none ms) x.p.scene.level x.p.env.entries x.p.scope.bindings o.along;
            found = o.found;
            moment = o.moment;
            level = o.level;
            same_level = o.same_level;
            links = o.links;
            slots_free = λ j lo hi. by_key (cell _) bound_key (λ c. c ≡ free) (fixed z) x.p.places (λ f. cc) (o.slots_free j lo hi);
            temps_free = λ j lo hi. by_key (temporary x.p.scene.depth j) bound_key (λ c. c ≡ nowhere) (fixed z) x.p.places
                (λ f. let g : j ≡ bound = ap index_of f in absurd (omega (arith, g, hi, behind_body))) (o.temps_free j lo hi);
            slots_there = o.slots_there;
            activation = o.activation;
            fits = o.fits;
          }

      home_there : (z : ℕ) → Home_at P set (placed x.p (with_bound z)) s5 s6 i access key
      home_there z =
          let found = home_tabled P set x.p s5 s5 x.τ i access s4.homes x.ready.moment (later_none s5) to_end refl in
          let a1 = last.slots in
          record {
            key_is = h0.key_is;
            seen = found.0;
            tabled = found.1;
            unlinked = λ u. idle_not_fixed (with_bound z) key u (idle_there z);
            unused = λ l. idle_of_none (with_bound z) key l (idle_there z);
            shallow = h0.shallow;
            high = h0.high;
            apart_slots = λ k lo hi. h0.apart_slots k lo (omega (arith, hi, a1));
            apart_temps = λ k lo hi. h0.apart_temps k lo;
          }

      above_there : (p : Part) (g : Holdings) (ms : List Ty) (s : SourceWorld) (w : World) (t : Temps) → Holds P p g ms s w t → (b : ℕ) → g.at b ≢ unknown → cell b ≢ key
      above_there p g ms s w t hh = no_heap P set p key g ms s w t hh h0.above

      -- after the bounds, where the variable is new
      module _ (g : Holdings) (ms : List Ty) (s : SourceWorld) (z place : ℕ) (grows : GrowsTo x.h g) (extends : Extends x.types ms)
          (old : (k : Key) (l : ℕ) → IsOf l (x.p.places k) → l < place) where
        abbrev counted : Counted P n
        counted = record {
          p = x.p;
          x = i;
          body = a;
          go = x.go;
          out = x.out;
          next = next;
          r = x.r;
          h = x.h;
          types = x.types;
          place = place;
          high = z;
          bound = bound;
          access = access;
          key = key;
          σ = s5;
          τ = s6;
          m = m;
          places = with_bound z;
          home = h0.home;
          lone = λ k is. by_key k bound_key (λ c. IsOf place c → ⊥) (fixed z) x.p.places (λ f q. absurd q) (λ q. let lt = old k place q in omega (arith, lt)) is;
          bound_is = put_here bound_key (fixed z) x.p.places;
          apart_bound = key_apart;
          above = h0.above;
        }

        abbrev with_variable_ : Places
        with_variable_ = put_place key (variable place) (with_bound z)

        abbrev body_there : Part
        body_there = record x.p {
          scope = in_a_loop (binding i (variable_at (at_of i) int_type true) x.p.scope);
          env = with_variable (name_of i) place x.p.env;
          within = in_body x.p.within;
          around = record x.p.around { out = leaving next x.p.around.out };
          places = with_variable_;
        }

        ready_body : (ms2 : List Ty) → Extends x.types ms2 → slice_get ms2 place ≡ Some int_type → IsReady P body_there ms2 s5 s6
        ready_body ms2 ee type_is =
            let o = ready_with P set (placed x.p (with_bound z)) ms2 ms2 s4 s6 s5 i int_type true place access key (ready_bound z ms2 ee) (extends_none ms2) to_home body_grows
            (home_there z) int_has_values type_is in
            record {
              scene = o.scene;
              along = o.along;
              found = o.found;
              moment = o.moment;
              level = o.level;
              same_level = o.same_level;
              links = o.links;
              slots_free = o.slots_free;
              temps_free = o.temps_free;
              slots_there = o.slots_there;
              activation = o.activation;
              fits = o.fits;
            }

        back_out : (g3 : Holdings) (ms3 : List Ty) (s3 : SourceWorld) (w3 : World) (t3 : Temps) → Holds P body_there g3 ms3 s3 w3 t3 → Holds P x.p g3 ms3 s3 w3 t3
        back_out g3 ms3 s3 w3 t3 hh =
            let o = idle_again P set (with_bound z) x.p key place g3 ms3 s3 w3 t3
            (record { invariant = hh.invariant; weight = hh.weight; depth = hh.depth; statics = hh.statics; literals = hh.literals }) (idle_there z) h0.above in
            record {
              invariant = is_nowhere_again P.shapes P.heap (floor P) (with_bound z) g3 ms3 s3 w3 (with_temps x.p.scene.depth t3 x.p.others) o.invariant bound_key x.p.places (fixed z)
                  refl bound_idle (λ b known f. cc);
              weight = o.weight;
              depth = o.depth;
              statics = o.statics;
              literals = o.literals;
            }

        may_body : MayAssign P body_there a
        may_body = inr (λ j l u. by_key (temporary x.p.scene.depth j) key (λ c. c ≢ kept l u) (variable place) (with_bound z) (λ _ f. cc)
            (by_key (temporary x.p.scene.depth j) bound_key (λ c. c ≢ kept l u) (fixed z) x.p.places (λ _ f. cc) (may_all j l u)))

        covers_body : IsCovered P body_there a
        covers_body = subst (λ o. Covers P.findings P.table P.weight x.p.scene.level x.p.scene.keeps o a)
            (sym (ap (λ o. own o i (levels_of x.p.env.entries)) x.ready.same_level)) x.covers.2

        asked_body : (k : ℕ) (le : k ≤ n) (q : Standing P set grow k) → q.p ≡ body_there → Asked P set grow k q a none_type
        asked_body k le q same = record {
          shown = show_a k le;
          typed = subst (λ o. Has P.shapes P.notes a o.scope none_type) (sym same) for_typed.body_typed;
          words = x.words.2;
          covers = subst (λ o. IsCovered P o a) (sym same) covers_body;
          may_assign = subst (λ o. MayAssign P o a) (sym same) may_body;
        }

        abbrev head_there : ℕ → Part
        head_there u = placed x.p (put_place key (fixed u) (with_bound z))

        turns_there : Turns P set grow n counted
        turns_there = record {
          shown = show_a;
          typed = for_typed.body_typed;
          asked = asked_body;
          made = made;
          ready = ready_body;
          back = back_out;
          onward = λ g3 ms3 s3 w3 t3 gg ee hh. onward g3 ms3 nothing 0 s3 w3 t3 gg ee hh tt;
          can = λ g3 ms3 s3 w3 t3 u hh.
              can_store P set (head_there u) key g3 ms3 s3 w3 t3 hh h0.above
              (inl (λ f. let q = sym (put_here key (fixed u) (with_bound z)) ∙ f in cc));
        }

        abbrev looping_there : Rest
        looping_there = evaluation.run Passing (passing P.heap P.stack) (behind P.heap P.stack)
            (evaluation.repeat_for place z a (with_variable (name_of i) place x.p.env)) x.go x.out

        -- into the loop: the home gets one less than the lower bound
        enter : (u : ℕ) (l : Operand) (w : World) (t : Temps) → u < 2 ^ 32 → OperandIs l u t → slice_get ms place ≡ Some int_type →
            slice_get s.variables place ≡ Some (int u) → Holds P (placed x.p (with_bound z)) g ms s w t →
            FollowsHere P (x.r + 70 + 24) n (rest_run looping_there s)
            (statement_runs P x.p (turns access l (Kept (record { 0 = bound })) (dropped m)) x.p.around next w t)
        enter u l w t small is type_is has hh =
            let ts = with_temps x.p.scene.depth t x.p.others in
            let bounded : Part = placed x.p (with_bound z) in
            let source : Run Source = rest_run looping_there s in
            let loop : Next = λ w2 t2. statement_runs P x.p (tree.Loop (turn_of access (Kept (record { 0 = bound })) (dropped m))) x.p.around next w2 t2 in
            worked P (x.r + 70 + 24) (x.r + 70 + 24) 0 n source _ (omega arith)
            (write_home P x.p access key (first_minus_one l) (sub u 1) (x.r + 70) n source loop w t h0.home (first_word P set x.p l u n source w t is)
            (can_store P set bounded key g ms s w t hh h0.above (idle_use (with_bound z) key (idle_there z))) hh.invariant.memory.whole
            (λ w2 t2 input y.
            let hp : Holds P (head_there (sub u 1)) g ms s w2 t2 = record {
              invariant = is_fixed P.shapes P.heap (floor P) (with_bound z) g ms s w w2 ts (with_temps x.p.scene.depth t2 x.p.others) hh.invariant key (sub u 1) y input
                  (above_there bounded g ms s w t hh) h0.above;
              weight = hh.weight;
              depth = hh.depth;
              statics = y.statics ∙ hh.statics;
              literals = hh.literals;
            } in
            loop_follows P set grow n counted turns_there g ms s w2 t2 (sub u 1) u grows extends hp has type_is (less_more u small)))

      -- what the source goes on with, where both bounds have values
      abbrev stops : Passing Value
      stops g o = g nothing

      abbrev begins_loop : (z place : ℕ) → Passing Value
      begins_loop z place g o = evaluation.run Passing (passing P.heap P.stack) (behind P.heap P.stack)
          (evaluation.repeat_for place z a (with_variable (name_of i) place x.p.env)) g o

      abbrev counts : Bool → (z place : ℕ) → Rest
      counts b z place = (if b then stops else begins_loop z place) x.go x.out

      abbrev counting : Operand → Ts
      counting l = when (tree.Compare rel.GreaterEqual (operand (Kept (record { 0 = bound }))) (operand l)) (turns access l (Kept (record { 0 = bound })) (dropped m))

      behind_both : (g : Holdings) (ms : List Ty) (s : SourceWorld) (w : World) (t : Temps) (u z : ℕ) (l : Operand) → GrowsTo x.h g → Extends x.types ms → Holds P x.p g ms s w t →
          u < 2 ^ 32 → OperandIs l u t → t bound ≡ Some z →
          FollowsHere P (x.r + 150) n (rest_run (counts (less z u) z (length s.variables)) (add_variable (int u) s)) (statement_runs P x.p (counting l) x.p.around next w t)
      behind_both g ms s w t u z l gg ee hh small is there =
          let source : Run Source = rest_run (counts (less z u) z place) s2 in
          let flat = hoisted_small (is_flat (operand l)) in
          worked P (x.r + 146) (x.r + 150) 4 n source _ (omega arith)
          (worked P (x.r + 130 + 2 + 2) (x.r + 146) (4 + hoisted_units Trees (is_flat (operand l))) n source _ (omega (arith, flat))
          (operand_follows P set grow x.p (Kept (record { 0 = bound })) z (x.r + 130 + 2) n source
          (λ z1 w1 t1. value_runs P x.p (operand l) x.p.around (λ u1 w2 t2. arms (holds rel.GreaterEqual z1 u1) w2 t2) w1 t1) w t there
          (operand_follows P set grow x.p l u (x.r + 130) n source (λ u1 w2 t2. arms (holds rel.GreaterEqual z u1) w2 t2) w t is (by (less z u) refl))))
        where
          place : ℕ
          place = length s.variables

          s2 : SourceWorld
          s2 = add_variable (int u) s

          ms2 : List Ty
          ms2 = ms ++ int_type ∷ []

          arms : Bool → Next
          arms b w1 t1 = (if b then statement_runs P x.p (turns access l (Kept (record { 0 = bound })) (dropped m)) else statement_runs P x.p nothing_done) x.p.around next w1 t1

          h1 : Holds P x.p g ms2 s2 w t
          h1 = record {
            invariant = begins_nowhere P.shapes P.heap (floor P) x.p.places g ms s w w (with_temps x.p.scene.depth t x.p.others) (with_temps x.p.scene.depth t x.p.others) hh.invariant
                bound_key bound_idle (λ b known f. cc) (int u) int_type;
            weight = hh.weight;
            depth = hh.depth;
            statics = hh.statics;
            literals = hh.literals;
          }

          word : word_of w.memory (with_temps x.p.scene.depth t x.p.others) bound_key ≡ Some z
          word = ap (λ (f : Temps). f bound) (own_temps x.p.scene.depth t x.p.others) ∙ there

          h2 : Holds P (placed x.p (with_bound z)) g ms2 s2 w t
          h2 = record {
            invariant = is_fixed P.shapes P.heap (floor P) x.p.places g ms2 s2 w w (with_temps x.p.scene.depth t x.p.others) (with_temps x.p.scene.depth t x.p.others) h1.invariant
                bound_key z (not_written w.memory (with_temps x.p.scene.depth t x.p.others) bound_key z hh.invariant.memory.whole word) refl (λ b known f. cc) (λ b f. cc);
            weight = hh.weight;
            depth = hh.depth;
            statics = hh.statics;
            literals = hh.literals;
          }

          ee2 : Extends x.types ms2
          ee2 = extends_on x.types ms ms2 ee (extends_front ms (int_type ∷ []))

          by : (b : Bool) → less z u ≡ b → FollowsHere P (x.r + 130) n (rest_run (counts b z place) s2) (arms (not b) w t)
          by true e =
              worked P (x.r + left_over) (x.r + 130) 0 n (rest_run (x.go nothing) s2) (next w t) (omega arith) (onward g ms2 nothing 0 s2 w t gg ee2 h1 tt)
          by false e =
              more P (x.r + 70 + 24) (x.r + 130) n (rest_run (counts false z place) s2) (arms true w t) (omega arith)
              (enter g ms2 s2 z place gg ee2 (λ k l2 o. is_old P.shapes P.heap (floor P) x.p.places g ms s w (with_temps x.p.scene.depth t x.p.others) hh.invariant k l2 o) u l w t small is
              (subst (λ o. slice_get ms2 o ≡ Some int_type) hh.invariant.variables (get_last ms int_type)) (get_last s.variables (int u)) h2)

    -- what the source does with both bounds
    abbrev none_left : Passing Value
    none_left g o = g nothing

    abbrev loops_on : (z place : ℕ) → Passing Value
    loops_on z place g o = evaluation.run Passing (passing P.heap P.stack) (behind P.heap P.stack)
        (evaluation.repeat_for place z a (with_variable (name_of i) place x.p.env)) g o

    abbrev begins_from : (u z place : ℕ) → Rest
    begins_from u z place = (if less z u then none_left else loops_on z place) x.go x.out

    abbrev with_bounds : Value → Value → Rest
    with_bounds v b = evaluation.int_of Passing (passing P.heap P.stack) v
        (λ u. evaluation.int_of Passing (passing P.heap P.stack) b
        (λ z s. begins_from u z (length s.variables) (add_variable (int u) s)) x.out) x.out

    abbrev with_low : Value → Rest
    with_low v = evaluates P high x.p.env (with_bounds v) x.out

    abbrev at_low : Standing P set grow n
    at_low = record {
      p = x.p;
      σ = x.σ;
      τ = x.τ;
      h = x.h;
      types = x.types;
      r = x.r + 180;
      out = x.out;
      s = x.s;
      w = x.w;
      t = x.t;
      ready = x.ready;
      outward = λ g ms s2 w2 t2 l gg ee hh.
          more P (x.r + left_over) (x.r + 180 + left_over) n (rest_run x.out s2) (x.p.around.out x.p.within.leave w2 t2) (omega arith) (x.outward g ms s2 w2 t2 l gg ee hh);
      holds = x.holds;
    }

    abbrev at_high : Standing P set grow n
    at_high = record {
      p = x.p;
      σ = x.σ;
      τ = x.τ;
      h = x.h;
      types = x.types;
      r = x.r;
      out = x.out;
      s = x.s;
      w = x.w;
      t = x.t;
      ready = x.ready;
      outward = x.outward;
      holds = x.holds;
    }

    abbrev start : Run Source
    start = rest_run (evaluates P low x.p.env with_low x.out) x.s

    -- how the lower bound is held
    abbrev low_held : (X : Tx) → LeftHeld false X
    low_held X = number_or_kept X

    abbrev low_state : Tx → TranslationState → TranslationState
    low_state X s = left_state false X s (low_held X)

    -- a loop of these parts
    abbrev made_of : (X Y : Tx) (s4 s6 : TranslationState) (m : Made) → Ts
    made_of X Y s4 s6 m = count_of (join_stms (left_extra false X s6 (low_held X)) (held_as Y (low_state X s6) (always Y)).extra) (access_of (P.findings.escapes (at_of i)) s4)
        (left_operand false X s6 (low_held X)) (Kept (record { 0 = (low_state X s6).frame.temps })) (dropped m)

    made_follows : Shown P n low → Shown P n high → (m1 m2 m : Made) (s1 s2 s3 s4 s6 : TranslationState) (X Y : Tx) →
        expression P.findings low want.Value x.p.within x.σ ≡ drawn m1 s1 → value_of m1 s1 ≡ drawn X s2 →
        expression P.findings high want.Value x.p.within s2 ≡ drawn m2 s3 → value_of m2 s3 ≡ drawn Y s4 →
        expression P.findings a want.Dropped (in_body x.p.within) (home_state (P.findings.escapes (at_of i)) x.p i s4) ≡ drawn m s6 →
        Later (held_as Y (low_state X s6) (always Y)).after x.τ →
        (next : Next) → Onward P {A = ℕ} n (x.r + left_over) x.p x.h x.types (λ g v u. Unit {0}) x.go (λ u w1 t1. next w1 t1) →
        FollowsHere P (x.r + 256) n start (statement_runs P x.p (made_of X Y s4 s6 m) x.p.around next x.w x.t)
    made_follows show_low show_high m1 m2 m s1 s2 s3 s4 s6 X Y made1 made_x made2 made_y made last next onward =
        let escapes : Bool = P.findings.escapes (at_of i) in
        let s5 : TranslationState = home_state escapes x.p i s4 in
        let sh : TranslationState = low_state X s6 in
        let hd : Holding Y = always Y in
        let bound : ℕ = sh.frame.temps in
        let l12 : Later x.σ s2 = later_on x.σ s1 s2 (grow low want.Value x.p.within m1 x.σ s1 made1) (later_value m1 s1 s2 X made_x) in
        let l24 : Later s2 s4 = later_on s2 s3 s4 (grow high want.Value x.p.within m2 s2 s3 made2) (later_value m2 s3 s4 Y made_y) in
        let l46 : Later s4 s6 = later_on s4 s5 s6 (drawn_home escapes x.p i s4) (grow a want.Dropped (in_body x.p.within) m s5 s6 made) in
        let l6h : Later s6 sh = left_later false X s6 (low_held X) in
        let lh : Later sh x.τ = later_on sh (held_as Y sh hd).after x.τ (held_as Y sh hd).later last in
        let bound_drawn : bound < x.τ.frame.temps = let b = last.temps in omega (arith, b) in
        let le : Stms = left_extra false X s6 (low_held X) in
        let re : Stms = (held_as Y sh hd).extra in
        let lo : Operand = left_operand false X s6 (low_held X) in
        let ro : Operand = Kept (record { 0 = bound }) in
        let test_ : Operand → Operand → Ts = λ l o. when (tree.Compare rel.GreaterEqual (operand o) (operand l)) (turns (access_of escapes s4) l o (dropped m)) in
        let tail : Operand → Operand → Next = λ l o w1 t1. statements_run P x.p (stm (test_ l o) no_stms) x.p.around next w1 t1 in
        let inner : Run Ran = statements_run P x.p (join_stms (join_stms le re) (stm (test_ lo ro) no_stms)) x.p.around next x.w x.t in
        let runs : inner ≡ statements_run P x.p le x.p.around (λ w1 t1. statements_run P x.p re x.p.around (tail lo ro) w1 t1) x.w x.t =
        joined_runs P x.p (join_stms le re) (stm (test_ lo ro) no_stms) next x.w x.t ∙ joined_runs P x.p le re (tail lo ro) x.w x.t in
        worked P (x.r + 180 + 4 + 2) (x.r + 256) 0 n start inner (omega arith)
        (subst (λ o. FollowsHere P (x.r + 180 + 4 + 2) n start o) (sym runs)
        (both_follow P set grow n at_high high int_type int_type int_has_values show_high for_typed.high_typed x.words.1 x.covers.1 (inr may_all) s2 s3 s4 sh m2 Y made2 made_y
        l12 (later_on s4 s6 sh l46 l6h) lh hd (λ an. bound_drawn) (x.r + 150) (omega arith) with_bounds tail
        false X (low_held X) s6 (x.r + 180 + 4) start l46 refl
        (λ go2 on.
        asked_value P set grow n at_low low int_type (record { shown = show_low; typed = for_typed.low_typed; words = x.words.0; covers = x.covers.0; may_assign = inr may_all })
        with_low want.Value m1 s1 X s2 tt int_has_values made1 made_x (later_on s2 s4 x.τ l24 (later_on s4 s6 x.τ l46 (later_on s6 sh x.τ l6h lh))) go2
        (λ g ms v u s w t gg ee hh st. more P (x.r + 150 + 6) (x.r + 180 + 56) n (rest_run (with_low v) s) (go2 u w t) (omega arith) (on g ms v u s w t gg ee hh st)))
        (λ e. cc) (λ e. cc)
        (λ g ms v b u z s w t l o gg ee hh sta stb is_l is_o right.
        let v_is = stands_int g v u sta in
        let b_is = stands_int g b z stb in
        subst (λ q. FollowsHere P (x.r + 150) n (rest_run (with_bounds v b) s) (tail l q w t)) (sym right)
        (subst (λ q. FollowsHere P (x.r + 150) n (rest_run q s) (tail l ro w t)) (sym (ap (λ q. with_bounds q b) v_is.0 ∙ ap (λ q. with_bounds (int u) q) b_is.0))
        (behind_both escapes s4 s6 m (later_on x.σ s2 s4 l12 l24) made bound (l6h.temps) bound_drawn (later_on s6 sh x.τ l6h lh) next onward
        g ms s w t u z l gg ee hh v_is.1 is_l (subst (λ q. OperandIs q z t) right is_o))))))

    pub for_shown : Shown P n low → Shown P n high → IsShown P n (For sp i low high a) x
    for_shown show_low show_high =
        let escapes : Bool = P.findings.escapes (at_of i) in
        let i1 = after_inv (value_from (λ s. expression P.findings low want.Value x.p.within s) x.σ) _ x.m x.τ x.is_made in
        let X : Tx = i1.0 in
        let s2 : TranslationState = i1.1 in
        let i2 = after_inv (expression P.findings low want.Value x.p.within x.σ) value_of X s2 i1.2 in
        let i3 = after_inv (value_from (λ s. expression P.findings high want.Value x.p.within s) s2) _ x.m x.τ i1.3 in
        let Y : Tx = i3.0 in
        let s4 : TranslationState = i3.1 in
        let i4 = after_inv (expression P.findings high want.Value x.p.within s2) value_of Y s4 i3.2 in
        let s5 : TranslationState = home_state escapes x.p i s4 in
        let i6 = after_inv (statement_from (λ s. expression P.findings a want.Dropped (in_body x.p.within) s) s5) _ x.m x.τ i3.3 in
        let i7 = after_inv (expression P.findings a want.Dropped (in_body x.p.within) s5) _ i6.0 i6.1 i6.2 in
        let m : Made = i7.0 in
        let s6 : TranslationState = i6.1 in
        let made : expression P.findings a want.Dropped (in_body x.p.within) s5 ≡ drawn m s6 = i7.2 ∙ ap (λ o. drawn m o) (ap state_in i7.3) in
        let sh : TranslationState = low_state X s6 in
        let r2 = held_as Y sh (always Y) in
        let whole : drawn (done (count_of (join_stms (left_extra false X s6 (low_held X)) r2.extra) (access_of escapes s4) (left_operand false X s6 (low_held X))
        (Kept (record { 0 = sh.frame.temps })) i6.0)) r2.after ≡ drawn x.m x.τ =
        sym (ap (λ o. after (after o (λ (l : Held) s. after (keep l.before Y s) (λ (h : Held) s8. drawn (count_of h.before (access_of escapes s4) l.operand h.operand i6.0) s8)))
        (λ (q : Ts) s. drawn (done q) s)) (left_is false X s6 (low_held X))) ∙ i6.3 in
        let all : drawn (done (made_of X Y s4 s6 m)) r2.after ≡ drawn x.m x.τ =
        ap (λ o. drawn (done (count_of (join_stms (left_extra false X s6 (low_held X)) r2.extra) (access_of escapes s4) (left_operand false X s6 (low_held X))
        (Kept (record { 0 = sh.frame.temps })) o)) r2.after) (ap made_in i7.3) ∙ whole in
        let last : Later r2.after x.τ = subst (λ o. Later r2.after o) (ap state_in all) (later_none r2.after) in
        let ew : x.wanted ≡ want.Dropped = dropped_only x.wanted (subst (λ o. IsWantable x.wanted o) for_typed.none x.wantable) in
        by_made P n (For sp i low high a) x (done (made_of X Y s4 s6 m)) r2.after all tt
        (subst (λ o. MadeFollows P n x.r x.p x.h x.types o x.ty x.go (source_of P n (For sp i low high a) x) x.w x.t (done (made_of X Y s4 s6 m))) (sym ew)
        (λ next onward.
        paid P x.r n start (statement_runs P x.p (made_of X Y s4 s6 m) x.p.around next x.w x.t)
        (made_follows show_low show_high i2.0 i4.0 m i2.1 s2 i4.1 s4 s6 X Y i2.2 i2.3 i4.2 i4.3 made last next onward)))
