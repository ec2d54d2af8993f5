-- A frame is laid on both sides: its slots, its link and its parameters, and its end.
use Rattle.std.proofs.Common.{[], ◌≡◌, ◌≢◌, ℕ, zero, suc, ◌+◌, ◌*◌, ◌<◌, ◌≤◌, ◌==◌, List, ◌∷◌, ◌++◌, Some, Bool, true, false}
use Rattle.std.proofs.Common.{refl, sym, ap, ◌∙◌, arith, subst}
use Rattle.std.proofs.Common.{eq-eqb, eqb-true, ne_eqb, inl, inr}
use Rattle.std.specs.Prelude.{if◌then◌else◌, ◌%◌, ◌-◌, ◌⊎◌, length}
use Rattle.std.proofs.lemmas.Bool.{cases_lt}
use Rattle.tg_machine_state.specs.State.{heap_base, stack_top}
use Rattle.tg_semantics.specs.Values.{Value, SourceWorld, add_variable}
use Rattle.tg_typecheck.specs.Types.{Ty}
use Rattle.tg_tree.specs.Memory.{Memory, Cell, Closed, Unset, Has, load, put, slot, lay}
use Rattle.tg_tree.specs.Actions.{World, Temps, set_temp}
use Rattle.tg_runtime_proof.proofs.Memories.{put_apart, put_there, spot_above}
use Rattle.tg_translate_proof.specs.glue.Worlds.{Holdings, Stands, Places, Key, cell, temporary, Content, nowhere, free, variable, kept, fixed}
use Rattle.tg_translate_proof.specs.glue.Worlds.{word_of, AllTemps, Invariant}
use Rattle.tg_translate_proof.specs.glue.Situations.{Program, Setting, floor, with_temps}
use Rattle.tg_translate_proof.proofs.invariant.Cases.{set_here}
use Rattle.tg_translate_proof.proofs.state.OneKey.{put_place, by_key, put_other}
use Rattle.tg_translate_proof.proofs.state.OneKey.{cell_key_apart, depth_key_apart, index_key_apart, kind_apart}
use Rattle.tg_translate_proof.proofs.state.OneKey.{IsRelaid, relaid_none, relaid_on, relaid_put, IsBeside, laid_at, variable_laid}

-- Cells that are laid.

pub lay_relaid : (floor top n : ℕ) (c : Cell) (m : Memory) → floor + 4 * n ≤ top → IsRelaid floor m (lay top n c m)
lay_relaid floor top zero c m le = relaid_none floor m
lay_relaid floor top (suc n) c m le =
    relaid_on floor m (lay top n c m) (lay top (suc n) c m) (lay_relaid floor top n c m (omega (arith, le)))
    (relaid_put floor (lay top n c m) (slot top n) c (omega (arith, le)))

pub lay_above : (top n : ℕ) (c : Cell) (m : Memory) (b : ℕ) → 4 * n ≤ top → top ≤ b → load (lay top n c m) b ≡ load m b
lay_above top zero c m b le up = refl
lay_above top (suc n) c m b le up =
    put_apart (lay top n c m) (slot top n) c b (λ e. omega (arith, e, le, up)) ∙ lay_above top n c m b (omega (arith, le)) up

pub lay_cells : (top n : ℕ) (c : Cell) (m : Memory) (b : ℕ) → 4 * n ≤ top → top ≤ b → (lay top n c m).stack b ≡ m.stack b
lay_cells top zero c m b le up = refl
lay_cells top (suc n) c m b le up =
    ap (λ o. if o then c else (lay top n c m).stack b) (ne_eqb b (slot top n) (λ e. omega (arith, e, le, up))) ∙
    lay_cells top n c m b (omega (arith, le)) up

-- the slots of a frame are free
abbrev pub laid_places : (top n : ℕ) → Places → Places
laid_places top zero p = p
laid_places top (suc n) p = put_place (cell (slot top n)) free (laid_places top n p)

laid_temporary : (top n : ℕ) (p : Places) (d i : ℕ) → laid_places top n p (temporary d i) ≡ p (temporary d i)
laid_temporary top zero p d i = refl
laid_temporary top (suc n) p d i = laid_temporary top n p d i

laid_beside : (top n : ℕ) (p : Places) (a : ℕ) → ((k : ℕ) → k < n → a ≢ slot top k) → laid_places top n p (cell a) ≡ p (cell a)
laid_beside top zero p a ne = refl
laid_beside top (suc n) p a ne =
    put_other (cell a) (cell (slot top n)) free (laid_places top n p) (cell_key_apart a (slot top n) (ne n (omega arith))) ∙
    laid_beside top n p a (λ k lt. ne k (omega (arith, lt)))

laid_free : (top n : ℕ) (p : Places) (k : ℕ) → 4 * n ≤ top → k < n → laid_places top n p (cell (slot top k)) ≡ free
laid_free top zero p k le lt = absurd (omega (arith, lt))
laid_free top (suc n) p k le lt =
    by_key (cell (slot top k)) (cell (slot top n)) (λ o. o ≡ free) free (laid_places top n p) (λ e. refl)
    (λ ne. laid_free top n p k (omega (arith, le)) (below (cases_lt k n) ne))
  where
    below : (k < n) ⊎ (n ≤ k) → cell (slot top k) ≢ cell (slot top n) → k < n
    below (inl l) ne = l
    below (inr l) ne = let same : k ≡ n = omega (arith, l, lt) in absurd (ne (ap (λ o. cell (slot top o)) same))

-- The room for a frame with so many slots, below what is there: where it begins, where it ends, the depth of its activation.
pub record HasRoom (floor : ℕ) (p : Places) (top slots low d : ℕ) : Type 0 where
  pub high : top ≤ stack_top
  pub within : floor + 4 * slots ≤ top
  pub aligned : top % 4 ≡ 0
  pub ends : low + 4 * slots ≤ top
  pub below : (a : ℕ) → a < top → p (cell a) ≡ nowhere
  pub later : (e i : ℕ) → d ≤ e → p (temporary e i) ≡ nowhere

-- A frame that is laid below what is open: where, for how many slots, of which depth, and what is there already.
pub record NewFrame (P : Program) : Type 0 where
  pub places : Places
  pub top : ℕ  -- where it begins
  pub slots : ℕ
  pub low : ℕ  -- where it ends
  pub depth : ℕ
  pub room : HasRoom (floor P) places top slots low depth
  pub others : AllTemps  -- the temporaries of those that are open
  pub h : Holdings

module _ (P : Program) (set : Setting P) (frame : NewFrame P) where
  abbrev p : Places
  p = frame.places

  abbrev top : ℕ
  top = frame.top

  abbrev slots : ℕ
  slots = frame.slots

  abbrev low : ℕ
  low = frame.low

  abbrev d : ℕ
  d = frame.depth

  abbrev room : HasRoom (floor P) frame.places frame.top frame.slots frame.low frame.depth
  room = frame.room

  abbrev others : AllTemps
  others = frame.others

  abbrev h : Holdings
  h = frame.h

  over_heap : heap_base + P.heap ≤ floor P
  over_heap = let a = set.heap_small in let b = set.stack_small in omega (arith, a, b)

  abbrev Keeps : Places → List Ty → SourceWorld → World → AllTemps → Type 0
  Keeps q types s w ts = Invariant P.shapes P.heap (floor P) q h types s w ts

  beside_put : (m : Memory) (a : ℕ) (c : Cell) (ts : AllTemps) → IsBeside P.shapes P.heap (floor P) over_heap h (cell a) m (put a c m) ts ts
  beside_put m a c ts = record {
    words = λ j ne. at j ne;
    cells = λ b ne. ap (λ o. if o then c else m.stack b) (ne_eqb b a (λ e. ne (ap cell e)));
  }
    where
      at : (j : Key) → j ≢ cell a → word_of (put a c m) ts j ≡ word_of m ts j
      at (cell b) ne = put_apart m a c b (λ e. ne (ap cell e))
      at (temporary e i) ne = refl

  beside_set : (m : Memory) (i u : ℕ) (t : Temps) →
      IsBeside P.shapes P.heap (floor P) over_heap h (temporary d i) m m (with_temps d t others) (with_temps d (set_temp i u t) others)
  beside_set m i u t = record { words = λ j ne. at j ne; cells = λ b ne. refl }
    where
      two : (b c : Bool) (e j : ℕ) → (e == d) ≡ b → (j == i) ≡ c → temporary e j ≢ temporary d i →
          (if b then set_temp i u t else others e) j ≡ (if b then t else others e) j
      two false c e j f g ne = refl
      two true false e j f g ne = ap (λ o. if o then Some u else t j) g
      two true true e j f g ne = absurd (ne (ap (λ o. temporary o j) (eqb-true e d f) ∙ ap (λ o. temporary d o) (eqb-true j i g)))

      at : (j : Key) → j ≢ temporary d i → word_of m (with_temps d (set_temp i u t) others) j ≡ word_of m (with_temps d t others) j
      at (cell b) ne = refl
      at (temporary e j) ne = two (e == d) (j == i) e j refl refl ne

  -- a slot of the frame is in the stack
  in_frame : (k : ℕ) → k < slots → (floor P ≤ slot top k) × (slot top k < stack_top) × (slot top k % 4 ≡ 0)
  in_frame k lt = let a = room.within in let b = room.high in let c =
      room.aligned in (omega (arith, a, lt), omega (arith, a, b, lt), omega (arith, a, c, lt))

  high_cell : (k : ℕ) → k < slots → (a : ℕ) → cell (slot top k) ≡ cell a → (floor P ≤ a) × (a < stack_top) × (a % 4 ≡ 0)
  high_cell k lt a e = subst (λ o. (floor P ≤ o) × (o < stack_top) × (o % 4 ≡ 0)) (same (slot top k) a e) (in_frame k lt)
    where
      same : (a b : ℕ) → cell a ≡ cell b → a ≡ b
      same a b e = cc

  high_temp : (e i : ℕ) → (a : ℕ) → temporary e i ≡ cell a → (floor P ≤ a) × (a < stack_top) × (a % 4 ≡ 0)
  high_temp e i a q = absurd (kind_apart a e i (sym q))

  free_is_open : (a : ℕ) (m : Memory) → (put a Unset m).stack a ≢ Closed
  free_is_open a m e = let f : Unset ≡ Closed = sym (ap (λ o. if o then Unset else m.stack a) (eq-eqb a a refl)) ∙ e in cc

  frame_laid : (n : ℕ) → n ≤ slots → (types : List Ty) (s : SourceWorld) (w : World) (ts : AllTemps) → Keeps p types s w ts →
      Keeps (laid_places top n p) types s (record w { memory = lay top n Unset w.memory }) ts
  frame_laid zero le types s w ts inv = inv
  frame_laid (suc n) le types s w ts inv =
      let m : Memory = lay top n Unset w.memory in
      let w0 : World = record w { memory = m } in
      let w1 : World = record w { memory = put (slot top n) Unset m } in
      let bound = in_frame n (omega (arith, le)) in
      laid_at P.shapes P.heap (floor P) over_heap h (cell (slot top n)) (laid_places top n p) types s w0 w1 ts ts
      (frame_laid n (omega (arith, le)) types s w ts inv) (relaid_put (floor P) m (slot top n) Unset bound.0) refl
      (beside_put m (slot top n) Unset ts)
      (high_cell n (omega (arith, le))) free (λ l o. o) (free_is_open (slot top n) m)

  -- What both sides have where so many slots and temporaries of the frame are drawn.
  pub record Opened (q : Places) (drawn_slots drawn_temps : ℕ) (types : List Ty) (s : SourceWorld) (w : World) (t : Temps) : Type 0 where
    pub inv : Keeps q types s w (with_temps d t others)
    pub old : (k : Key) → p k ≢ nowhere → q k ≡ p k
    pub open_slots : (k : ℕ) → drawn_slots ≤ k → k < slots → q (cell (slot top k)) ≡ free
    pub idle : (i : ℕ) → drawn_temps ≤ i → q (temporary d i) ≡ nowhere
    pub deeper : (e i : ℕ) → d < e → q (temporary e i) ≡ nowhere
    pub under : (a : ℕ) → a < low → q (cell a) ≡ nowhere
    pub loose : (i l u : ℕ) → q (temporary d i) ≢ kept l u

  pub opened : (types : List Ty) (s : SourceWorld) (w : World) (t : Temps) → Keeps p types s w (with_temps d t others) →
      Opened (laid_places top slots p) 0 0 types s (record w { memory = lay top slots Unset w.memory }) t
  opened types s w t inv = record {
    inv = frame_laid slots (omega arith) types s w (with_temps d t others) inv;
    old = old;
    open_slots = λ k le lt. laid_free top slots p k (let a = room.within in omega (arith, a)) lt;
    idle = λ i le. laid_temporary top slots p d i ∙ room.later d i (omega arith);
    deeper = λ e i lt. laid_temporary top slots p e i ∙ room.later e i (omega (arith, lt));
    under = λ a lt.
        laid_beside top slots p a (λ k l e. let b = room.ends in omega (arith, e, b, lt, l)) ∙
        room.below a (let b = room.ends in omega (arith, b, lt));
    loose = λ i l u e. let f : nowhere ≡ kept l u = sym (laid_temporary top slots p d i ∙ room.later d i (omega arith)) ∙ e in cc;
  }
    where
      old : (k : Key) → p k ≢ nowhere → laid_places top slots p k ≡ p k
      old (cell a) used =
          laid_beside top slots p a (λ k lt e. used (room.below a (let b = in_frame k lt in let c = room.within in omega (arith, e, c, lt))))
      old (temporary e i) used = laid_temporary top slots p e i

  -- the key that is drawn next
  pub data IsNext (drawn_slots drawn_temps : ℕ) : Key → ℕ → ℕ → Type 0 where
    a_slot : drawn_slots < slots → IsNext drawn_slots drawn_temps (cell (slot top drawn_slots)) (drawn_slots + 1) drawn_temps
    a_temp : IsNext drawn_slots drawn_temps (temporary d drawn_temps) drawn_slots (drawn_temps + 1)

  next_is_new : (a b : ℕ) (k : Key) (x y : ℕ) → IsNext a b k x y → p k ≡ nowhere
  next_is_new a b _ _ _ (a_slot lt) = room.below (slot top a) (let c = room.within in omega (arith, c, lt))
  next_is_new a b _ _ _ a_temp = room.later d b (omega arith)

  -- a new key is in no use, or free
  pub next_is_no_variable : (q : Places) (a b : ℕ) (types : List Ty) (s : SourceWorld) (w : World) (t : Temps) (k : Key) (x y : ℕ) →
      Opened q a b types s w t → IsNext a b k x y →
      (q k ≡ free) ⊎ (q k ≡ nowhere)
  next_is_no_variable q a b types s w t _ _ _ o (a_slot lt) = inl (o.open_slots a (omega arith) lt)
  next_is_no_variable q a b types s w t _ _ _ o a_temp = inr (o.idle b (omega arith))

  -- with what is laid there
  next_opened : (q : Places) (a b : ℕ) (k : Key) (x y : ℕ) (c : Content) (types types1 : List Ty) (s s1 : SourceWorld) (w w1 : World)
      (t t1 : Temps) → IsNext a b k x y →
      Opened q a b types s w t → ((l u : ℕ) → c ≢ kept l u) → Keeps (put_place k c q) types1 s1 w1 (with_temps d t1 others) →
      Opened (put_place k c q) x y types1 s1 w1 t1
  next_opened q a b _ _ _ c types types1 s s1 w w1 t t1 (a_slot lt) o loose inv =
      let k : Key = cell (slot top a) in
      let edge = room.within in
      record {
        inv = inv;
        old = λ j used. put_other j k c q (λ e. used (subst (λ o. p o ≡ nowhere) (sym e) (next_is_new a b k (a + 1) b (a_slot lt)))) ∙ o.old j used;
        open_slots = λ j le l.
            put_other (cell (slot top j)) k c q (cell_key_apart (slot top j) (slot top a) (λ e. omega (arith, e, le, l, edge))) ∙
            o.open_slots j (omega (arith, le)) l;
        idle = o.idle;
        deeper = o.deeper;
        under = λ j l. put_other (cell j) k c q (cell_key_apart j (slot top a) (λ e. let f = room.ends in omega (arith, e, l, f, lt))) ∙
            o.under j l;
        loose = o.loose;
      }
  next_opened q a b _ _ _ c types types1 s s1 w w1 t t1 a_temp o loose inv =
      let k : Key = temporary d b in
      record {
        inv = inv;
        old = λ j used. put_other j k c q (λ e. used (subst (λ o. p o ≡ nowhere) (sym e) (next_is_new a b k a (b + 1) a_temp))) ∙ o.old j used;
        open_slots = o.open_slots;
        idle = λ i le. put_other (temporary d i) k c q (index_key_apart d d i b (λ e. omega (arith, e, le))) ∙ o.idle i (omega (arith, le));
        deeper = λ e i lt. put_other (temporary e i) k c q (depth_key_apart e d i b (λ f. omega (arith, f, lt))) ∙ o.deeper e i lt;
        under = o.under;
        loose = λ i l u. by_key (temporary d i) k (λ r. r ≢ kept l u) c q (λ e. loose l u) (λ n. o.loose i l u);
      }

  abbrev pub put_slot : (k u : ℕ) → World → World
  put_slot k u w = record w { memory = put (slot top k) (Has u) w.memory }

  slot_word_there : (k u : ℕ) (w : World) → k < slots → (types : List Ty) (s : SourceWorld) (q : Places) (ts : AllTemps) → Keeps q types s w ts →
      load (put_slot k u w).memory (slot top k) ≡ Some u
  slot_word_there k u w lt types s q ts inv =
      let b = in_frame k lt in
      let taken = inv.memory.taken in
      put_there w.memory (slot top k) u b.2 (spot_above w.memory (slot top k) inv.memory.whole.statics (let c =
      over_heap in omega (arith, b.0, c, taken)))

  own_temp_there : (i u : ℕ) (t : Temps) → with_temps d (set_temp i u t) others d i ≡ Some u
  own_temp_there i u t = ap (λ b. (if b then set_temp i u t else others d) i) (eq-eqb d d refl) ∙ set_here i u t

  -- a word that stays is laid into the next slot, or the next temporary
  pub slot_fixed : (q : Places) (a b u : ℕ) (types : List Ty) (s : SourceWorld) (w : World) (t : Temps) → a < slots → Opened q a b types s w t →
      Opened (put_place (cell (slot top a)) (fixed u) q) (a + 1) b types s (put_slot a u w) t
  slot_fixed q a b u types s w t lt o =
      let ts : AllTemps = with_temps d t others in
      next_opened q a b (cell (slot top a)) (a + 1) b (fixed u) types types s s w (put_slot a u w) t t (a_slot lt) o (λ l v e. cc)
      (laid_at P.shapes P.heap (floor P) over_heap h (cell (slot top a)) q types s w (put_slot a u w) ts ts o.inv
      (relaid_put (floor P) w.memory (slot top a) (Has u) (in_frame a lt).0) refl (beside_put w.memory (slot top a) (Has u) ts) (high_cell a lt)
      (fixed u) (λ l x. x)
      (slot_word_there a u w lt types s q ts o.inv))

  pub temp_fixed : (q : Places) (a b u : ℕ) (types : List Ty) (s : SourceWorld) (w : World) (t : Temps) → Opened q a b types s w t →
      Opened (put_place (temporary d b) (fixed u) q) a (b + 1) types s w (set_temp b u t)
  temp_fixed q a b u types s w t o =
      let ts : AllTemps = with_temps d t others in
      let ts1 : AllTemps = with_temps d (set_temp b u t) others in
      next_opened q a b (temporary d b) a (b + 1) (fixed u) types types s s w w t (set_temp b u t) a_temp o (λ l v e. cc)
      (laid_at P.shapes P.heap (floor P) over_heap h (temporary d b) q types s w w ts ts1 o.inv (relaid_none (floor P) w.memory) refl
      (beside_set w.memory b u t) (high_temp d b)
      (fixed u) (λ l x. x) (own_temp_there b u t))

  -- a variable is
  pub slot_variable : (q : Places) (a b u : ℕ) (v : Value) (ty : Ty) (types : List Ty) (s : SourceWorld) (w : World) (t : Temps) → a < slots →
      Stands h v ty u → Opened q a b types s w t →
      Opened (put_place (cell (slot top a)) (variable (length s.variables)) q) (a + 1) b (types ++ ty ∷ []) (add_variable v s) (put_slot a u w) t
  slot_variable q a b u v ty types s w t lt st o =
      let ts : AllTemps = with_temps d t others in
      next_opened q a b (cell (slot top a)) (a + 1) b (variable (length s.variables)) types (types ++ ty ∷ []) s (add_variable v s) w
      (put_slot a u w) t t (a_slot lt) o (λ l v e. cc)
      (variable_laid P.shapes P.heap (floor P) over_heap h (cell (slot top a)) q types s w (put_slot a u w) ts ts o.inv
      (relaid_put (floor P) w.memory (slot top a) (Has u) (in_frame a lt).0) refl (beside_put w.memory (slot top a) (Has u) ts)
      (high_cell a lt) u v ty
      (slot_word_there a u w lt types s q ts o.inv) st)

  pub temp_variable : (q : Places) (a b u : ℕ) (v : Value) (ty : Ty) (types : List Ty) (s : SourceWorld) (w : World) (t : Temps) → Stands h v ty u →
      Opened q a b types s w t →
      Opened (put_place (temporary d b) (variable (length s.variables)) q) a (b + 1) (types ++ ty ∷ []) (add_variable v s) w (set_temp b u t)
  temp_variable q a b u v ty types s w t st o =
      let ts : AllTemps = with_temps d t others in
      let ts1 : AllTemps = with_temps d (set_temp b u t) others in
      next_opened q a b (temporary d b) a (b + 1) (variable (length s.variables)) types (types ++ ty ∷ []) s (add_variable v s) w w t
      (set_temp b u t) a_temp o (λ l v e. cc)
      (variable_laid P.shapes P.heap (floor P) over_heap h (temporary d b) q types s w w ts ts1 o.inv (relaid_none (floor P) w.memory) refl
      (beside_set w.memory b u t) (high_temp d b)
      u v ty (own_temp_there b u t) st)
