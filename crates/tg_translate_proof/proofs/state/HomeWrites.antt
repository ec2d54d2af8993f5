-- Words that are written to temporaries and to slots, and what becomes of the variables there: one
-- begins, is assigned, is kept, or ends; and operands that are held.
use Rattle.std.proofs.Common.{◌≡◌, ◌≢◌, ℕ, suc, ◌+◌, ◌-◌, ◌*◌, ◌%◌, ◌<◌, ◌≤◌, ◌==◌, List, [], ◌∷◌, ◌++◌, Option, Some, None, Bool, true, false, refl, sym, ap, ◌∙◌}
use Rattle.std.proofs.Common.{arith, subst, inl, inr, eqb-true}
use Rattle.std.specs.Prelude.{slice_get, length, ◌⊎◌}
use Rattle.tg_machine_state.specs.State.{stack_top, heap_base, most_room}
use Rattle.tg_semantics.specs.Values.{Value, SourceWorld, add_variable, put_variable}
use Rattle.tg_typecheck.specs.Types.{Ty, Shape}
use Rattle.tg_tree.specs.Memory.{Memory, Cell, Closed, Unset, Has, Kept, elsewhere, cell_word, load, store, put, slot}
use Rattle.tg_tree.specs.Actions.{World, Temps, set_temp}
use Rattle.tg_runtime_proof.specs.Memories.{IsWhole}
use Rattle.tg_runtime_proof.proofs.Memories.{spot_above, load_by}
use Rattle.tg_runtime_proof.proofs.Stores.{IsStored, can_lay}
use Rattle.tg_translate_proof.specs.glue.Worlds.{Holdings, unknown, Stands, Key, cell, temporary, Content, nowhere, free, variable, kept, fixed, Places}
use Rattle.tg_translate_proof.specs.glue.Worlds.{AllTemps, word_of, HoldsVariable, HoldsAt, IsOf, Invariant, Scene, IsScene}
use Rattle.tg_translate_proof.specs.glue.Situations as situations
use Rattle.tg_translate_proof.specs.glue.Situations.{Program, Part, Setting, Holds, IsReady, with_temps, floor}
use Rattle.tg_translate_proof.specs.glue.Tables.{Later}
use Rattle.tg_translate_proof.proofs.invariant.Cases.{set_here, two}
use Rattle.tg_translate_proof.proofs.state.Keys.{put_place, put_here, IsPut, put_is, same_is, back_is, Changed, changed_keeps, is_old, held_word, own_temps, of_is_used}
use Rattle.tg_translate_proof.proofs.state.Keys.{get_front, get_last, get_set, get_other, set_length, lengths_grow}

-- a word is written to a key, and nowhere else
pub record Written (m m' : Memory) (ts ts' : AllTemps) (k0 : Key) (u : ℕ) : Type 0 where
  pub there : word_of m' ts' k0 ≡ Some u
  pub elsewhere : (k : Key) → k ≢ k0 → word_of m' ts' k ≡ word_of m ts k
  pub is_open : (a : ℕ) → cell a ≢ k0 → m.stack a ≢ Closed → m'.stack a ≢ Closed
  pub heap : length m'.heap ≡ length m.heap
  pub whole : IsWhole m'
  pub statics : m'.statics ≡ m.statics

-- to a temporary
pub temp_written : (m : Memory) (d i u : ℕ) (t : Temps) (others : AllTemps) → IsWhole m →
    Written m m (with_temps d t others) (with_temps d (set_temp i u t) others) (temporary d i) u
temp_written m d i u t others w = record {
  there = ap (λ (f : Temps). f i) (own_temps d (set_temp i u t) others) ∙ set_here i u t;
  elsewhere = other;
  is_open = λ a ne o. o;
  heap = refl;
  whole = w;
  statics = refl;
}
  where
    at : (e j : ℕ) (a b : Bool) → temporary e j ≢ temporary d i → (e == d) ≡ a → (j == i) ≡ b → with_temps d (set_temp i u t) others e j ≡ with_temps d t others e j
    at e j true true ne ea eb = absurd (ne (ap (λ o. temporary o j) (eqb-true e d ea) ∙ ap (λ o. temporary d o) (eqb-true j i eb)))
    at e j false b ne ea eb = two (e == d) b i u j t (others e) eb (λ p q. cc)
    at e j true false ne ea eb = two (e == d) false i u j t (others e) eb (λ p q. cc)

    other : (k : Key) → k ≢ temporary d i → word_of m (with_temps d (set_temp i u t) others) k ≡ word_of m (with_temps d t others) k
    other (cell a) ne = refl
    other (temporary e j) ne = at e j (e == d) (j == i) ne refl refl

-- nothing is written, where the word is there
pub not_written : (m : Memory) (ts : AllTemps) (k0 : Key) (u : ℕ) → IsWhole m → word_of m ts k0 ≡ Some u → Written m m ts ts k0 u
not_written m ts k0 u w there = record { there = there; elsewhere = λ k ne. refl; is_open = λ a ne o. o; heap = refl; whole = w; statics = refl }

-- to a slot
pub slot_written : (m : Memory) (a u : ℕ) (ts : AllTemps) → IsWhole m → a % 4 ≡ 0 → heap_base + length m.heap ≤ a → m.stack a ≢ Closed →
    (store m a u ≡ Some (put a (Has u) m)) × Written m (put a (Has u) m) ts ts (cell a) u
slot_written m a u ts w even high laid =
    let x = can_lay m a u w even high laid in (
      x.0,
      record {
        there = x.1.there;
        elsewhere = other x.1;
        is_open = λ b ne o e. o (sym (x.1.cells b (λ f. ne (ap cell f))) ∙ e);
        heap = x.1.heap;
        whole = x.1.whole;
        statics = refl;
      },
    )
  where
    other : IsStored m (put a (Has u) m) a u → (k : Key) → k ≢ cell a → word_of (put a (Has u) m) ts k ≡ word_of m ts k
    other x (cell b) ne = x.apart b (λ f. ne (ap cell f))
    other x (temporary d i) ne = refl

-- a slot that has a word is open
pub has_word_open : (m : Memory) (a u : ℕ) → IsWhole m → a % 4 ≡ 0 → heap_base + length m.heap ≤ a → load m a ≡ Some u → m.stack a ≢ Closed
has_word_open m a u w even high has e =
    let at = spot_above m a w.statics high in
    let none : Some u ≡ cell_word (m.stack a) = sym has ∙ load_by m a elsewhere even at in
    let gone : cell_word (m.stack a) ≡ None = ap cell_word e in
    let f : Some u ≡ None = none ∙ gone in
    cc

pub holds_open : (h : Holdings) (types : List Ty) (s : SourceWorld) (m : Memory) (ts : AllTemps) (a : ℕ) (c : Content) → IsWhole m → a % 4 ≡ 0 → heap_base + length m.heap ≤ a →
    c ≢ nowhere → HoldsAt h types s m ts (cell a) c → m.stack a ≢ Closed
holds_open h types s m ts a nowhere w even high ne x = absurd (ne refl)
holds_open h types s m ts a free w even high ne x = x
holds_open h types s m ts a (variable l) w even high ne x = has_word_open m a x.0 w even high x.1
holds_open h types s m ts a (kept l u) w even high ne x = absurd x
holds_open h types s m ts a (fixed u) w even high ne x = has_word_open m a u w even high x

module _ (shapes : List (ℕ × Shape)) (room floor : ℕ) (p : Places) (h : Holdings) (types : List Ty) (s : SourceWorld) (w w' : World) (ts ts' : AllTemps)
    (inv : Invariant shapes room floor p h types s w ts) (k0 : Key) (u : ℕ) (x : Written w.memory w'.memory ts ts' k0 u) (input : w'.input ≡ w.input)
    (apart : (b : ℕ) → h.at b ≢ unknown → cell b ≢ k0) (above : (a : ℕ) → k0 ≡ cell a → (floor ≤ a) × (a < stack_top) × (a % 4 ≡ 0)) where
  -- a new variable, where none stands
  pub begins : (v : Value) (ty : Ty) → Stands h v ty u →
      Invariant shapes room floor (put_place k0 (variable (length s.variables)) p) h (types ++ ty ∷ []) (add_variable v s) w' ts'
  begins v ty st =
      changed_keeps shapes room floor p h types s w ts inv (put_place k0 (variable (length s.variables)) p) k0 (variable (length s.variables)) (types ++ ty ∷ []) (add_variable v s) w' ts'
      (record {
        put = put_is k0 (variable (length s.variables)) p;
        here = here k0 x.there;
        elsewhere = x.elsewhere;
        is_open = x.is_open;
        vars = λ k l o ne is y. (y.0, y.1, get_front s.variables (v ∷ []) l y.0 y.2, get_front types (ty ∷ []) l y.1 y.3, y.4);
        alone = λ k l ne e f. let lt = is_old shapes room floor p h types s w ts inv k l f in omega (arith, e, lt);
        above = λ a e ne. above a e;
        apart = apart;
        heap = x.heap;
        whole = x.whole;
        input = input;
        objects = refl;
        taken = refl;
        left = refl;
        many = lengths_grow types s.variables ty v inv.variables;
      })
    where
      here : (k : Key) → word_of w'.memory ts' k ≡ Some u → HoldsAt h (types ++ ty ∷ []) (add_variable v s) w'.memory ts' k (variable (length s.variables))
      here k e = (u, e, (v, ty, get_last s.variables v, subst (λ o. slice_get (types ++ ty ∷ []) o ≡ Some ty) inv.variables (get_last types ty), st))

  -- a variable is assigned
  pub assigned : (place : ℕ) (v : Value) (ty : Ty) → p k0 ≡ variable place → slice_get types place ≡ Some ty → Stands h v ty u →
      Invariant shapes room floor p h types (put_variable place v s) w' ts'
  assigned place v ty is type_is st =
      let old = held_word h types s w.memory ts k0 place (p k0) (subst (λ c. IsOf place c) (sym is) refl) (inv.holds k0) in
      changed_keeps shapes room floor p h types s w ts inv p k0 (variable place) types (put_variable place v s) w' ts'
      (record {
        put = same_is k0 (variable place) p is;
        here = (u, x.there, (v, ty, get_set s.variables place v old.2.0 old.2.2, type_is, st));
        elsewhere = x.elsewhere;
        is_open = x.is_open;
        vars = λ k l o ne of y.
            let other : place ≢ l = λ e. ne (inv.once k k0 l of (subst (λ c. IsOf l c) (sym is) e)) in
            (y.0, y.1, get_other s.variables place l v other ∙ y.2, y.3, y.4);
        alone = λ k l ne e f. ne (inv.once k k0 l f (subst (λ c. IsOf l c) (sym is) e));
        above = λ a e ne. above a e;
        apart = apart;
        heap = x.heap;
        whole = x.whole;
        input = input;
        objects = refl;
        taken = refl;
        left = refl;
        many = inv.variables ∙ sym (set_length s.variables place v);
      })

  -- the word is held
  pub is_fixed : Invariant shapes room floor (put_place k0 (fixed u) p) h types s w' ts'
  is_fixed =
      changed_keeps shapes room floor p h types s w ts inv (put_place k0 (fixed u) p) k0 (fixed u) types s w' ts'
      (record {
        put = put_is k0 (fixed u) p;
        here = x.there;
        elsewhere = x.elsewhere;
        is_open = x.is_open;
        vars = λ k l o ne of y. y;
        alone = λ k l ne e f. e;
        above = λ a e ne. above a e;
        apart = apart;
        heap = x.heap;
        whole = x.whole;
        input = input;
        objects = refl;
        taken = refl;
        left = refl;
        many = inv.variables;
      })

  -- a word is written where nothing is in use
  pub is_idle : p k0 ≡ nowhere → Invariant shapes room floor p h types s w' ts'
  is_idle e =
      changed_keeps shapes room floor p h types s w ts inv p k0 nowhere types s w' ts'
      (record {
        put = same_is k0 nowhere p e;
        here = tt;
        elsewhere = x.elsewhere;
        is_open = x.is_open;
        vars = λ k l o ne of y. y;
        alone = λ k l ne e f. e;
        above = λ a e ne. above a e;
        apart = apart;
        heap = x.heap;
        whole = x.whole;
        input = input;
        objects = refl;
        taken = refl;
        left = refl;
        many = inv.variables;
      })

module _ (shapes : List (ℕ × Shape)) (room floor : ℕ) (p : Places) (h : Holdings) (types : List Ty) (s : SourceWorld) (w : World) (ts : AllTemps)
    (inv : Invariant shapes room floor p h types s w ts) (k0 : Key) where
  abbrev Unchanged : Places → Content → Type 0
  Unchanged q c = Changed shapes room floor p h types s w ts inv q k0 c types s w ts

  pub unchanged : (q : Places) (c : Content) → IsPut p q k0 c → HoldsAt h types s w.memory ts k0 c → ((l : ℕ) → IsOf l c → IsOf l (p k0)) → (c ≢ nowhere → p k0 ≢ nowhere) →
      ((b : ℕ) → h.at b ≢ unknown → cell b ≢ k0) → Invariant shapes room floor q h types s w ts
  unchanged q c put here of used apart =
      changed_keeps shapes room floor p h types s w ts inv q k0 c types s w ts
      (record {
        put = put;
        here = here;
        elsewhere = λ k ne. refl;
        is_open = λ a ne o. o;
        vars = λ k l o ne is y. y;
        alone = λ k l ne e f. ne (inv.once k k0 l f (of l e));
        above = λ a e ne. inv.above a (subst (λ o. p o ≢ nowhere) e (used ne));
        apart = apart;
        heap = refl;
        whole = inv.memory.whole;
        input = refl;
        objects = refl;
        taken = refl;
        left = refl;
        many = inv.variables;
      })

  -- a variable is kept as it is
  pub is_kept : (d i : ℕ) → k0 ≡ temporary d i → (place u : ℕ) → p k0 ≡ variable place → word_of w.memory ts k0 ≡ Some u → ((b : ℕ) → h.at b ≢ unknown → cell b ≢ k0) →
      Invariant shapes room floor (put_place k0 (kept place u) p) h types s w ts
  is_kept d i key place u is word apart =
      let y = held_word h types s w.memory ts k0 place (p k0) (subst (λ c. IsOf place c) (sym is) refl) (inv.holds k0) in
      let same : y.0 ≡ u = let e : Some y.0 ≡ Some u = sym y.1 ∙ word in cc in
      unchanged (put_place k0 (kept place u) p) (kept place u) (put_is k0 (kept place u) p)
      (subst (λ k. HoldsAt h types s w.memory ts k (kept place u)) (sym key) (ap (λ k. word_of w.memory ts k) (sym key) ∙ word, subst (λ o. HoldsVariable h types s place o) same y.2)) (λ l e. subst (λ c. IsOf l c) (sym is) e) (λ ne e. let f = sym is ∙ e in cc) apart

  -- and is a variable again
  pub is_variable_again : (d i : ℕ) → k0 ≡ temporary d i → (q : Places) (place u : ℕ) → p ≡ put_place k0 (kept place u) q → q k0 ≡ variable place → ((b : ℕ) → h.at b ≢ unknown → cell b ≢ k0) →
      Invariant shapes room floor q h types s w ts
  is_variable_again d i key q place u e is apart =
      let here : p k0 ≡ kept place u = ap (λ (o : Places). o k0) e ∙ put_here k0 (kept place u) q in
      let y : HoldsAt h types s w.memory ts (temporary d i) (kept place u) = subst (λ k. HoldsAt h types s w.memory ts k (kept place u)) key (subst (λ c. HoldsAt h types s w.memory ts k0 c) here (inv.holds k0)) in
      unchanged q (variable place) (subst (λ o. IsPut o q k0 (variable place)) (sym e) (back_is k0 (kept place u) q (variable place) is))
      (u, ap (λ k. word_of w.memory ts k) key ∙ y.0, y.1) (λ l o. subst (λ c. IsOf l c) (sym here) o) (λ ne f. let g = sym here ∙ f in cc) apart

  -- what was in use isn't any more
  pub is_nowhere_again : (q : Places) (c : Content) → p ≡ put_place k0 c q → q k0 ≡ nowhere → ((b : ℕ) → h.at b ≢ unknown → cell b ≢ k0) → Invariant shapes room floor q h types s w ts
  is_nowhere_again q c e is apart =
      unchanged q nowhere (subst (λ o. IsPut o q k0 nowhere) (sym e) (back_is k0 c q nowhere is)) tt (λ l o. absurd o) (λ ne. absurd (ne refl)) apart

-- a slot is free again
pub is_free_again : (shapes : List (ℕ × Shape)) (room floor : ℕ) (q : Places) (h : Holdings) (types : List Ty) (s : SourceWorld) (w : World) (ts : AllTemps) (a : ℕ) (c : Content) →
    Invariant shapes room floor (put_place (cell a) c q) h types s w ts → c ≢ nowhere → q (cell a) ≡ free → heap_base + length w.memory.heap ≤ floor →
    ((b : ℕ) → h.at b ≢ unknown → cell b ≢ cell a) → Invariant shapes room floor q h types s w ts
is_free_again shapes room floor q h types s w ts a c inv ne is low apart =
    let here : put_place (cell a) c q (cell a) ≡ c = put_here (cell a) c q in
    let up = inv.above a (λ f. ne (sym here ∙ f)) in
    unchanged shapes room floor (put_place (cell a) c q) h types s w ts inv (cell a) q free (back_is (cell a) c q free is)
    (holds_open h types s w.memory ts a c inv.memory.whole up.2 (omega (arith, low, up.0)) ne (subst (λ o. HoldsAt h types s w.memory ts (cell a) o) here (inv.holds (cell a))))
    (λ l o. absurd o) (λ n e. ne (sym here ∙ e)) apart
