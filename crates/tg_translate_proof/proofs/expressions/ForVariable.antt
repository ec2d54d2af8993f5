-- A loop's variable in its home: how it is read and assigned, and what the invariant makes of it
-- where the home's word is not yet the variable's.
use Rattle.std.proofs.Common.{◌≡◌, ◌≢◌, ℕ, suc, ◌+◌, ◌-◌, ◌*◌, ◌%◌, ◌^◌, ◌<◌, ◌≤◌, List, [], ◌∷◌, ◌++◌, Option, Some, None, Bool, true, false, refl, sym, ap, ◌∙◌, arith, subst, inl, inr}
use Rattle.std.specs.Prelude.{slice_get, length, ◌⊎◌}
use Rattle.tg_machine_state.specs.State.{stack_top, heap_base}
use Rattle.tg_base.specs.Words.{sub}
use Rattle.tg_simulation.specs.Runs.{Run}
use Rattle.tg_simulation.specs.Ran.{Ran}
use Rattle.tg_simulation.specs.Agreement.{Source}
use Rattle.tg_semantics.specs.Values.{Value, int, SourceWorld, add_variable, put_variable}
use Rattle.tg_typecheck.specs.Types.{Ty, Shape, int_type}
use Rattle.tg_frame.specs.declared.accesses.Access.{Access}
use Rattle.tg_frame.specs.declared.accesses.Access.TheVariants.{InTemp, InFrame}
use Rattle.tg_tree.specs.Tree.{Tx}
use Rattle.tg_tree.specs.Units.{Trees, hoisted_units}
use Rattle.tg_tree.specs.Shapes.{is_flat}
use Rattle.tg_tree.specs.Memory.{Memory, Closed, Has, put, load, store, slot}
use Rattle.tg_tree.specs.Actions.{World, Temps, set_temp, Go, Next, with_word, with_memory}
use Rattle.tg_runtime_proof.specs.Memories.{IsWhole}
use Rattle.tg_translate.specs.mirror.Constructs.{read, own_place, assign_value}
use Rattle.tg_translate_proof.specs.glue.Worlds.{Holdings, unknown, Stands, an_int, Key, cell, temporary, Content, nowhere, free, variable, kept, fixed, Places}
use Rattle.tg_translate_proof.specs.glue.Worlds.{AllTemps, IsOf, HoldsAt, HoldsVariable, Invariant, word_of}
use Rattle.tg_translate_proof.specs.glue.Situations.{Program, Part, with_temps, value_runs, statement_runs}
use Rattle.tg_translate_proof.specs.glue.Shown.{FollowsHere}
use Rattle.tg_translate_proof.proofs.invariant.Cases.{worked}
use Rattle.tg_translate_proof.proofs.invariant.Parts.{more}
use Rattle.tg_translate_proof.proofs.expressions.BinarySides.{hoisted_small}
use Rattle.tg_translate_proof.proofs.state.Keys.{put_place, put_here, IsPut, put_is, same_is, Changed, changed_keeps, own_temps, get_front, get_last, get_set, get_other, set_length, lengths_grow, by_key}
use Rattle.tg_translate_proof.proofs.state.HomeWrites.{Written, temp_written, slot_written}
use Rattle.tg_translate_proof.proofs.state.StaticLinks.{slot_word}

-- where the home of a variable of this activation stands
pub data HomeAt (p : Part) : Access → Key → Type 0 where
  temp_home : (i : ℕ) → HomeAt p (InTemp (record { 0 = i })) (temporary p.scene.depth i)
  slot_home :
      (k : ℕ) → 4 * (k + 1) ≤ p.scene.activation.base → p.scene.activation.base < 2 ^ 32 → p.around.activation ≡ p.scene.activation →
      HomeAt p (InFrame k) (cell (slot p.scene.activation.base k))

module _ (P : Program) where
  pub read_home : (p : Part) (access : Access) (key : Key) (u q n : ℕ) (c : Run Source) (go : Go ℕ) (w : World) (t : Temps) → HomeAt p access key →
      word_of w.memory (with_temps p.scene.depth t p.others) key ≡ Some u → FollowsHere P q n c (go u w t) →
      FollowsHere P (q + 6) n c (value_runs P p (read (own_place access)) p.around go w t)
  read_home p _ _ u q n c go w t (temp_home i) has f =
      let there : t i ≡ Some u = sym (ap (λ (o : Temps). o i) (own_temps p.scene.depth t p.others)) ∙ has in
      worked P q (q + 6) 0 n c (with_word (t i) w (λ v. go v w t)) (omega arith) (subst (λ o. FollowsHere P q n c (with_word o w (λ v. go v w t)))
      (sym there) f)
  read_home p _ _ u q n c go w t (slot_home k low small same) has f =
      let base : ℕ = p.around.activation.base in
      let at : base ≡ p.scene.activation.base = ap (λ o. o.base) same in
      let address : sub base (4 * (k + 1)) ≡ slot p.scene.activation.base k = ap (λ o. sub o
      (4 * (k + 1))) at ∙ slot_word p.scene.activation.base k low small in
      worked P (q + 5) (q + 6) 1 n c _ (omega arith)
      (worked P (q + 4) (q + 5) 1 n c _ (omega arith)
      (worked P (q + 3) (q + 4) 1 n c _ (omega arith)
      (worked P q (q + 3) 2 n c (with_word (load w.memory (sub base (4 * (k + 1)))) w (λ v. go v w t)) (omega arith)
      (subst (λ o. FollowsHere P q n c (with_word o w (λ v. go v w t))) (sym (ap (load w.memory) address ∙ has)) f))))

  -- an expression that does nothing but have a word
  abbrev pub HasWord : (p : Part) (x : Tx) (u n : ℕ) (c : Run Source) (w : World) (t : Temps) → Type 0
  HasWord p x u n c w t = (go : Go ℕ) (r : ℕ) → FollowsHere P r n c (go u w t) → FollowsHere P (r + 12) n c (value_runs P p x p.around go w t)

  -- a slot that can be stored to
  abbrev pub CanStore : World → Key → Type 0
  CanStore w key = (a : ℕ) → key ≡ cell a → (a % 4 ≡ 0) × (heap_base + length w.memory.heap ≤ a) × (w.memory.stack a ≢ Closed)

  pub write_home : (p : Part) (access : Access) (key : Key) (x : Tx) (u q n : ℕ) (c : Run Source) (next : Next) (w : World) (t : Temps) →
      HomeAt p access key → HasWord p x u n c w t → CanStore w key → IsWhole w.memory →
      ((w2 : World) (t2 : Temps) → w2.input ≡ w.input → Written w.memory w2.memory (with_temps p.scene.depth t p.others)
      (with_temps p.scene.depth t2 p.others) key u → FollowsHere P q n c (next w2 t2)) →
      FollowsHere P (q + 24) n c (statement_runs P p (assign_value (own_place access) x) p.around next w t)
  write_home p _ _ x u q n c next w t (temp_home i) has can whole f =
      worked P (q + 12) (q + 24) 2 n c _ (omega arith)
      (has (λ v w1 t1. next w1 (set_temp i v t1)) q (f w (set_temp i u t) refl (temp_written w.memory p.scene.depth i u t p.others whole)))
  write_home p _ _ x u q n c next w t (slot_home k low small same) has can whole f =
      let base : ℕ = p.around.activation.base in
      let a : ℕ = slot p.scene.activation.base k in
      let at : base ≡ p.scene.activation.base = ap (λ o. o.base) same in
      let address : sub base (4 * (k + 1)) ≡ a = ap (λ o. sub o (4 * (k + 1))) at ∙ slot_word p.scene.activation.base k low small in
      let flat = hoisted_small (is_flat x) in
      let stores : ℕ → Go ℕ = λ b v w2 t2. with_memory (store w2.memory b v) w2 (λ w3. next w3 t2) in
      let put_at : ℕ → Run Ran = λ b. value_runs P p x p.around (stores b) w t in
      let open_ = can a refl in
      let y = slot_written w.memory a u (with_temps p.scene.depth t p.others) whole open_.0 open_.1 open_.2 in
      worked P (q + 12 + 4) (q + 24) (1 + hoisted_units Trees (is_flat x)) n c _ (omega (arith, flat))
      (worked P (q + 12 + 3) (q + 12 + 4) 1 n c _ (omega arith)
      (worked P (q + 12 + 2) (q + 12 + 3) 1 n c _ (omega arith)
      (worked P (q + 12) (q + 12 + 2) 2 n c (put_at (sub base (4 * (k + 1)))) (omega arith)
      (subst (λ o. FollowsHere P (q + 12) n c (put_at o)) (sym address)
      (has (stores a) q
      (subst (λ o. FollowsHere P q n c (with_memory o w (λ w3. next w3 t))) (sym y.0)
      (f (record w { memory = put a (Has u) w.memory }) t refl y.1)))))))

-- content over content
pub put_again : (key : Key) (a b : Content) (p : Places) → IsPut (put_place key a p) (put_place key b p) key b
put_again key a b p k = by (put_is key b p k) (put_is key a p k)
  where
    by : ((k ≡ key) × (put_place key b p k ≡ b)) ⊎ ((k ≢ key) × (put_place key b p k ≡ p k)) →
        ((k ≡ key) × (put_place key a p k ≡ a)) ⊎ ((k ≢ key) × (put_place key a p k ≡ p k)) →
        ((k ≡ key) × (put_place key b p k ≡ b)) ⊎ ((k ≢ key) × (put_place key b p k ≡ put_place key a p k))
    by (inl x) y = inl x
    by (inr x) (inl y) = absurd (x.0 y.0)
    by (inr x) (inr y) = inr (x.0, x.1 ∙ sym y.1)

module _ (shapes : List (ℕ × Shape)) (room floor : ℕ) (p : Places) (h : Holdings) (types : List Ty) (s : SourceWorld) (w w2 : World)
    (ts ts2 : AllTemps) where
  -- a variable that stands nowhere yet
  pub begins_nowhere : Invariant shapes room floor p h types s w ts → (key : Key) → p key ≡ nowhere → ((b : ℕ) → h.at b ≢ unknown → cell b ≢ key) →
      (v : Value) (ty : Ty) →
      Invariant shapes room floor p h (types ++ ty ∷ []) (add_variable v s) w ts
  begins_nowhere inv key idle apart v ty =
      changed_keeps shapes room floor p h types s w ts inv p key nowhere (types ++ ty ∷ []) (add_variable v s) w ts
      (record {
        put = same_is key nowhere p idle;
        here = tt;
        elsewhere = λ k ne. refl;
        is_open = λ a ne o. o;
        vars = λ k l o ne is y. (y.0, y.1, get_front s.variables (v ∷ []) l y.0 y.2, get_front types (ty ∷ []) l y.1 y.3, y.4);
        alone = λ k l ne e f. e;
        above = λ a e ne. absurd (ne refl);
        apart = apart;
        heap = refl;
        whole = inv.memory.whole;
        input = refl;
        objects = refl;
        taken = refl;
        left = refl;
        many = lengths_grow types s.variables ty v inv.variables;
      })

  -- the word of a home becomes its variable's
  pub home_begins : (key : Key) (u z place : ℕ) → Invariant shapes room floor (put_place key (fixed u) p) h types s w ts →
      Written w.memory w2.memory ts ts2 key z → w2.input ≡ w.input → z < 2 ^ 32 →
      slice_get s.variables place ≡ Some (int z) → slice_get types place ≡ Some int_type → ((k : Key) → IsOf place (p k) → ⊥) → ((b : ℕ) →
      h.at b ≢ unknown → cell b ≢ key) →
      ((a : ℕ) → key ≡ cell a → (floor ≤ a) × (a < stack_top) × (a % 4 ≡ 0)) →
      Invariant shapes room floor (put_place key (variable place) p) h types s w2 ts2
  home_begins key u z place inv x input small has type_is lone apart above =
      changed_keeps shapes room floor (put_place key (fixed u) p) h types s w ts inv (put_place key (variable place) p) key (variable place) types s w2 ts2
      (record {
        put = put_again key (fixed u) (variable place) p;
        here = (z, x.there, (int z, int_type, has, type_is, an_int z small));
        elsewhere = x.elsewhere;
        is_open = x.is_open;
        vars = λ k l o ne is y. y;
        alone = λ k l ne e f. lone k (subst (λ o. IsOf o (p k)) (sym e) (by_key k key (λ c. IsOf l c →
            IsOf l (p k)) (fixed u) p (λ same g. absurd g) (λ g. g) f));
        above = λ a e ne. above a e;
        apart = apart;
        heap = x.heap;
        whole = x.whole;
        input = input;
        objects = refl;
        taken = refl;
        left = refl;
        many = inv.variables;
      })

  -- the variable goes on by one, and its home has the word that it had
  pub home_stays : (key : Key) (z place : ℕ) (v : Value) → Invariant shapes room floor (put_place key (variable place) p) h types s w ts →
      word_of w.memory ts key ≡ Some z → ((b : ℕ) → h.at b ≢ unknown → cell b ≢ key) →
      ((a : ℕ) → key ≡ cell a → (floor ≤ a) × (a < stack_top) × (a % 4 ≡ 0)) →
      Invariant shapes room floor (put_place key (fixed z) p) h types (put_variable place v s) w ts
  home_stays key z place v inv word apart above =
      changed_keeps shapes room floor (put_place key (variable place) p) h types s w ts inv (put_place key (fixed z) p) key (fixed z) types
      (put_variable place v s) w ts
      (record {
        put = put_again key (variable place) (fixed z) p;
        here = word;
        elsewhere = λ k ne. refl;
        is_open = λ a ne o. o;
        vars = λ k l o ne is y.
            let here : IsOf place (put_place key (variable place) p key) = subst (λ c. IsOf place c) (sym (put_here key (variable place) p)) refl in
            let other : place ≢ l = λ e. ne (inv.once k key l is (subst (λ q. IsOf q (put_place key (variable place) p key)) e here)) in
            (y.0, y.1, get_other s.variables place l v other ∙ y.2, y.3, y.4);
        alone = λ k l ne e f. e;
        above = λ a e ne. above a e;
        apart = apart;
        heap = refl;
        whole = inv.memory.whole;
        input = refl;
        objects = refl;
        taken = refl;
        left = refl;
        many = inv.variables ∙ sym (set_length s.variables place v);
      })
