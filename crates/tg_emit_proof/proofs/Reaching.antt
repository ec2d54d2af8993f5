-- A load or a store of a word or a byte, where the code's is served, is the machine's.
use Rattle.std.proofs.Common.{ℕ, ◌≡◌, ◌≢◌, ◌<◌, ◌≤◌, ◌+◌, ◌-◌, ◌%◌, ◌^◌, ◌==◌, List, length, refl, ap, sym, ◌∙◌}
use Rattle.std.proofs.Common.{subst, arith, eqb-true, Bool, true, false, Option, Some, None}
use Rattle.std.proofs.lemmas.Bool.Decides.{nat_tests}
use Rattle.std.specs.Prelude.{All, Ok, Err, if◌then◌else◌, slice_index, slice_set}
use Rattle.tg_machine_state.specs.declared.ends.RunEnd.TheVariants.{Unaligned}
use Rattle.tg_machine_state.specs.State as machine
use Rattle.tg_machine_state.specs.State.{MachineState, floor, stack_top, most_room, heap_base, statics_base, offset, word_at}
use Rattle.tg_machine_state.specs.State.{set_word, InStack, InHeap, InStatics}
use Rattle.tg_machine_state.specs.State.{in_stack, in_heap, in_statics, word_there, byte_there, set_word_there, set_byte_there}
use Rattle.tg_tree.specs.Memory as memory
use Rattle.tg_tree.specs.Memory.{Memory, Cell, Closed, Unset, Has, Kept, or_heap, word_in, byte_in, cell_word}
use Rattle.tg_tree.specs.Memory.{cell_byte, store_in, store_byte_in, put_open, put_byte, put}
use Rattle.tg_tree.specs.Memory.{byte_of, with_byte}
use Rattle.tg_emit_proof.specs.Setting.{Setting}
use Rattle.tg_emit_proof.specs.glue.Standing.{Finds, IsStackWord, is_at, IsCell, HasMemory, HasSizes}
use Rattle.tg_emit_proof.proofs.Basics.{some_is}
use Rattle.tg_emit_proof.proofs.Regions.{offset_is, offset_in, offset_below, byte_fits, word_fits, byte_in_word}
use Rattle.tg_emit_proof.proofs.Regions.{set_length, set_bytes, set_word_length, set_word_bytes}
use Rattle.tg_emit_proof.proofs.Regions.{word_set, word_apart, byte_apart, byte_set}

not_same : (a b : ℕ) → (b == a) ≡ false → b ≢ a
not_same a b e h = grind (arith, nat_tests, e, h)

-- what a store leaves
pub record IsStored (g : Setting) (finds : Finds) (m : Memory) (s t : MachineState) : Type 0 where
  pub memory : HasMemory finds m t
  pub sizes : HasSizes g t
  pub registers : t.registers ≡ s.registers
  pub high : t.hi ≡ s.hi
  pub low : t.lo ≡ s.lo

module _ (g : Setting) (finds : Finds) (m : Memory) (s : MachineState) (has : HasMemory finds m s)
    (sizes : HasSizes g s)
    (room_most : g.room ≤ most_room) (stack_most : g.stack ≤ most_room) where
  -- where an address falls
  below_floor : (a : ℕ) → a < 0x21000000 → offset a (floor s) (length s.stack) ≡ None
  below_floor a h =
      let w = sizes.whole in let n = stack_most in
      offset_below a (floor s) (length s.stack) (omega (arith, h, w, n))

  spot_statics : (a i : ℕ) → offset a statics_base (length m.statics) ≡ Some i → machine.spot s a ≡ InStatics i
  spot_statics a i e =
      let o = offset_is a statics_base (length m.statics) i e in
      let to = o.to in
      let l : length s.statics ≡ length m.statics = ap (λ (b : List ℕ). length b) has.statics in
      let k = sizes.statics in
      ap (in_stack s a) (below_floor a (omega (arith, to, l, k)))
      ∙ (ap (in_heap s a) (offset_below a heap_base (length s.heap) (omega (arith, to, l, k)))
      ∙ ap (in_statics s a) (ap (λ n. offset a statics_base n) l ∙ e))

  spot_heap : (a i : ℕ) → offset a heap_base (length m.heap) ≡ Some i → machine.spot s a ≡ InHeap i
  spot_heap a i e =
      let o = offset_is a heap_base (length m.heap) i e in
      let to = o.to in
      let l : length s.heap ≡ length m.heap = ap (λ (b : List ℕ). length b) has.heap in
      let k = sizes.taken in let r = room_most in
      ap (in_stack s a) (below_floor a (omega (arith, to, l, k, r)))
      ∙ ap (in_heap s a) (ap (λ n. offset a heap_base n) l ∙ e)

  spot_stack : (a : ℕ) → floor s ≤ a → a < stack_top → machine.spot s a ≡ InStack (a - floor s)
  spot_stack a h k =
      let w = sizes.whole in let n = stack_most in
      ap (in_stack s a) (offset_in a (floor s) (length s.stack) h (omega (arith, h, k, w, n)))

  -- loads of words
  pub load_there : (a v : ℕ) → memory.load m a ≡ Some v → (machine.load_word s a ≡ Ok v) × (v < 2 ^ 32)
  load_there a v h = by (a % 4 == 0) refl h
    where
      cell : (c : Cell) → IsCell (finds a) s a c → cell_word c ≡ Some v → (word_there s (machine.spot s a) ≡ Ok v)
          × (v < 2 ^ 32)
      cell Closed c h = cc
      cell Unset c h = cc
      cell (Kept r) c h = cc
      cell (Has u) c h =
          let e = some_is u v h in
          let w = c.0.2 in (
            ap (word_there s) (spot_stack a c.0.1 (omega (arith, w))) ∙ ap Ok (c.2 ∙ e),
            subst (λ n. n < 2 ^ 32) e c.1,
          )

      at : (o : Option ℕ) → offset a statics_base (length m.statics) ≡ o → (p : Option ℕ) →
          offset a heap_base (length m.heap) ≡ p →
          word_in m a (or_heap o p) ≡ Some v → (word_there s (machine.spot s a) ≡ Ok v) × (v < 2 ^ 32)
      at (Some i) o p q h =
          let e = some_is (word_at m.statics i) v h in (
            ap (word_there s) (spot_statics a i o) ∙ ap Ok (ap (λ (b : List ℕ). word_at b i) has.statics ∙ e),
            subst (λ n. n < 2 ^ 32) e (word_fits m.statics i has.whole_statics.0),
          )
      at None o (Some i) q h =
          let e = some_is (word_at m.heap i) v h in (
            ap (word_there s) (spot_heap a i q) ∙ ap Ok (ap (λ (b : List ℕ). word_at b i) has.heap ∙ e),
            subst (λ n. n < 2 ^ 32) e (word_fits m.heap i has.whole_heap.0),
          )
      at None o None q h = cell (m.stack a) (has.cells a) h

      by : (b : Bool) → (a % 4 == 0) ≡ b → (if b then word_in m a (memory.spot m a) else None) ≡ Some v →
          ((if b then word_there s (machine.spot s a) else Err (Unaligned a)) ≡ Ok v) × (v < 2 ^ 32)
      by true e h = at (offset a statics_base (length m.statics)) refl (offset a heap_base (length m.heap)) refl h
      by false e h = cc

  -- loads of bytes
  pub load_byte_there : (a v : ℕ) → memory.load_byte m a ≡ Some v → (machine.load_byte s a ≡ Ok v) × (v < 256)
  load_byte_there a v h = at (offset a statics_base (length m.statics)) refl
      (offset a heap_base (length m.heap)) refl h
    where
      cell : (c : Cell) → IsCell (finds (a - a % 4)) s (a - a % 4) c → cell_byte c (a % 4) ≡ Some v →
          (byte_there s (machine.spot s a) ≡ Ok v) × (v < 256)
      cell Closed c h = cc
      cell Unset c h = cc
      cell (Kept r) c h = cc
      cell (Has u) c h =
          let e : byte_of u (a % 4) ≡ v = some_is (byte_of u (a % 4)) v h in
          let low = c.0.1 in
          let high = c.0.2 in
          let b = byte_in_word s.stack (a - a % 4 - floor s) (a % 4) has.stack (omega arith) in
          let j : a - a % 4 - floor s + a % 4 ≡ a - floor s = omega (arith, low) in
          let is : slice_index s.stack (a - floor s) ≡ v =
          ap (λ i. slice_index s.stack i) (sym j) ∙ (sym b ∙ (ap (λ w. byte_of w (a % 4)) c.2 ∙ e)) in (
            ap (byte_there s) (spot_stack a (omega (arith, low)) (omega (arith, high))) ∙ ap Ok is,
            subst (λ n. n < 256) is (byte_fits s.stack (a - floor s) has.stack),
          )

      at : (o : Option ℕ) → offset a statics_base (length m.statics) ≡ o → (p : Option ℕ) →
          offset a heap_base (length m.heap) ≡ p →
          byte_in m a (or_heap o p) ≡ Some v → (byte_there s (machine.spot s a) ≡ Ok v) × (v < 256)
      at (Some i) o p q h =
          let e = some_is (slice_index m.statics i) v h in (
            ap (byte_there s) (spot_statics a i o) ∙ ap Ok (ap (λ (b : List ℕ). slice_index b i) has.statics ∙ e),
            subst (λ n. n < 256) e (byte_fits m.statics i has.whole_statics.0),
          )
      at None o (Some i) q h =
          let e = some_is (slice_index m.heap i) v h in (
            ap (byte_there s) (spot_heap a i q) ∙ ap Ok (ap (λ (b : List ℕ). slice_index b i) has.heap ∙ e),
            subst (λ n. n < 256) e (byte_fits m.heap i has.whole_heap.0),
          )
      at None o None q h = cell (m.stack (a - a % 4)) (has.cells (a - a % 4)) h

  -- The states after a store.
  abbrev pub with_statics : List ℕ → MachineState
  with_statics b = record s { statics = b }

  abbrev pub with_heap : List ℕ → MachineState
  with_heap b = record s { heap = b }

  abbrev pub with_stack : List ℕ → MachineState
  with_stack b = record s { stack = b }

  stored_statics : (b c : List ℕ) → b ≡ c → All (λ x. x < 256) c → length c ≡ length m.statics →
      IsStored g finds (record m { statics = c }) s (with_statics b)
  stored_statics b c e h l = record {
    memory = record {
      statics = e;
      heap = has.heap;
      stack = has.stack;
      cells = has.cells;
      whole_statics = (h, ap (λ n. n % 4) l ∙ has.whole_statics.1);
      whole_heap = has.whole_heap;
    };
    sizes = record {
      heap = sizes.heap;
      taken = sizes.taken;
      whole = sizes.whole;
      statics =
          let x : length b ≡ length s.statics = ap (λ (y : List ℕ). length y) e
          ∙ (l ∙ sym (ap (λ (y : List ℕ). length y) has.statics)) in
          let k = sizes.statics in omega (arith, x, k);
    };
    registers = refl;
    high = refl;
    low = refl;
  }

  stored_heap : (b c : List ℕ) → b ≡ c → All (λ x. x < 256) c → length c ≡ length m.heap →
      IsStored g finds (record m { heap = c }) s (with_heap b)
  stored_heap b c e h l = record {
    memory = record {
      statics = has.statics;
      heap = e;
      stack = has.stack;
      cells = has.cells;
      whole_statics = has.whole_statics;
      whole_heap = (h, ap (λ n. n % 4) l ∙ has.whole_heap.1);
    };
    sizes = record {
      heap = sizes.heap;
      taken =
          let x : length b ≡ length s.heap = ap (λ (y : List ℕ). length y) e
          ∙ (l ∙ sym (ap (λ (y : List ℕ). length y) has.heap)) in
          let k = sizes.taken in omega (arith, x, k);
      whole = sizes.whole;
      statics = sizes.statics;
    };
    registers = refl;
    high = refl;
    low = refl;
  }

  -- a cell is as before where its word is
  cell_stays : (found : ℕ → ℕ) (b : List ℕ) (a : ℕ) (c : Cell) → length b ≡ length s.stack →
      (IsStackWord s a → word_at b (a - floor s) ≡ word_at s.stack (a - floor s)) → IsCell found s a c →
      IsCell found (with_stack b) a c
  cell_stays found b a c l same is = by c is
    where
      f : floor (with_stack b) ≡ floor s
      f = ap (λ n. stack_top - n) l

      within : IsStackWord s a → IsStackWord (with_stack b) a
      within w = (w.0, subst (λ n. n ≤ a) (sym f) w.1, w.2)

      word : IsStackWord s a → is_at (with_stack b) a ≡ is_at s a
      word w = ap (λ n. word_at b (a - n)) f ∙ same w

      by : (c : Cell) → IsCell found s a c → IsCell found (with_stack b) a c
      by Closed is = tt
      by Unset is = within is
      by (Has v) is = (within is.0, is.1, word is.0 ∙ is.2)
      by (Kept r) is = (within is.0, word is.0 ∙ is.1)

  stored_cell : (b : List ℕ) (a : ℕ) (v : Cell) → length b ≡ length s.stack → All (λ x. x < 256) b →
      IsCell (finds a) (with_stack b) a v →
      ((c : ℕ) → c ≢ a → IsStackWord s c → word_at b (c - floor s) ≡ word_at s.stack (c - floor s)) →
      IsStored g finds (put a v m) s (with_stack b)
  stored_cell b a v l h here apart = record {
    memory = record {
      statics = has.statics;
      heap = has.heap;
      stack = h;
      cells = λ c. by c (c == a) refl;
      whole_statics = has.whole_statics;
      whole_heap = has.whole_heap;
    };
    sizes = record { heap = sizes.heap; taken = sizes.taken; whole = l ∙ sizes.whole; statics = sizes.statics };
    registers = refl;
    high = refl;
    low = refl;
  }
    where
      by : (c : ℕ) (e : Bool) → (c == a) ≡ e → IsCell (finds c) (with_stack b) c (if e then v else m.stack c)
      by c true e = subst (λ n. IsCell (finds n) (with_stack b) n v) (sym (eqb-true c a e)) here
      by c false e = cell_stays (finds c) b c (m.stack c) l (apart c (not_same a c e)) (has.cells c)

  within_there : (b : List ℕ) (a : ℕ) → length b ≡ length s.stack → IsStackWord s a → IsStackWord (with_stack b) a
  within_there b a l w = (w.0, subst (λ n. n ≤ a) (sym (ap (λ n. stack_top - n) l)) w.1, w.2)

  word_is_at : (b : List ℕ) (a v : ℕ) → length b ≡ length s.stack → word_at b (a - floor s) ≡ v →
      is_at (with_stack b) a ≡ v
  word_is_at b a v l e = let k : floor (with_stack b) ≡ floor s = ap (λ n. stack_top - n) l in
      ap (λ n. word_at b (a - n)) k ∙ e

  stored_stack : (b : List ℕ) (a v : ℕ) → length b ≡ length s.stack → All (λ x. x < 256) b → IsStackWord s a →
      v < 2 ^ 32 → word_at b (a - floor s) ≡ v →
      ((c : ℕ) → c ≢ a → IsStackWord s c → word_at b (c - floor s) ≡ word_at s.stack (c - floor s)) →
      IsStored g finds (put a (Has v) m) s (with_stack b)
  stored_stack b a v l h w f is apart =
      stored_cell b a (Has v) l h (within_there b a l w, f, word_is_at b a v l is) apart

  -- a word of the stack, whatever its cell
  pub load_cell : (a : ℕ) → IsStackWord s a → (machine.load_word s a ≡ Ok (is_at s a)) × (is_at s a < 2 ^ 32)
  load_cell a w =
      let t : (a % 4 == 0) ≡ true = rw w.0 refl in
      let high = w.2 in (
        rw t (ap (word_there s) (spot_stack a w.1 (omega (arith, high)))),
        word_fits s.stack (a - floor s) has.stack,
      )

  pub store_cell : (a v : ℕ) (c : Cell) → IsStackWord s a → v < 2 ^ 32 →
      ((t : MachineState) → IsStackWord t a → is_at t a ≡ v → IsCell (finds a) t a c) →
      (t : MachineState) × (machine.store_word s a v ≡ Ok t) × IsStored g finds (put a c m) s t
  store_cell a v c w f cell =
      let t : (a % 4 == 0) ≡ true = rw w.0 refl in
      let low = w.1 in let high = w.2 in let z = w.0 in
      let l = sizes.whole in let most = stack_most in
      let n = set_word_length s.stack (a - floor s) v in
      let b = with_stack (set_word s.stack (a - floor s) v) in (
        b,
        rw t (ap (λ p. set_word_there s p v) (spot_stack a low (omega (arith, high)))),
        stored_cell (set_word s.stack (a - floor s) v) a c n (set_word_bytes s.stack (a - floor s) v f has.stack)
            (cell b (within_there (set_word s.stack (a - floor s) v) a n w)
            (word_is_at (set_word s.stack (a - floor s) v) a v n
            (word_set s.stack (a - floor s) v (omega (arith, low, high, l, most)) f)))
            (λ d e x. let p = x.0 in let q = x.1 in word_apart s.stack (a - floor s) v (d - floor s)
            (λ y u. e (omega (arith, y, u, z, p, q, low)))),
      )

  -- A store of a word.
  pub store_there : (a v : ℕ) (n : Memory) → v < 2 ^ 32 → memory.store m a v ≡ Some n →
      (t : MachineState) × (machine.store_word s a v ≡ Ok t) × IsStored g finds n s t
  store_there a v n f h = by (a % 4 == 0) refl h
    where
      in_stack_there : IsStackWord s a → Some (put a (Has v) m) ≡ Some n →
          (t : MachineState) × (set_word_there s (machine.spot s a) v ≡ Ok t) × IsStored g finds n s t
      in_stack_there w h =
          let low = w.1 in let high = w.2 in let z = w.0 in
          let l = sizes.whole in let most = stack_most in (
            with_stack (set_word s.stack (a - floor s) v),
            ap (λ p. set_word_there s p v) (spot_stack a low (omega (arith, high))),
            subst (λ x. IsStored g finds x s (with_stack (set_word s.stack (a - floor s) v))) (some_is _ n h)
                (stored_stack (set_word s.stack (a - floor s) v) a v (set_word_length s.stack (a - floor s) v)
                (set_word_bytes s.stack (a - floor s) v f has.stack) w f
                (word_set s.stack (a - floor s) v (omega (arith, low, high, l, most)) f)
                (λ c d x. let p = x.0 in let q = x.1 in word_apart s.stack (a - floor s) v (c - floor s)
                (λ y u. d (omega (arith, y, u, z, p, q, low))))),
          )

      cell : (c : Cell) → IsCell (finds a) s a c → put_open c a v m ≡ Some n →
          (t : MachineState) × (set_word_there s (machine.spot s a) v ≡ Ok t) × IsStored g finds n s t
      cell Closed c h = cc
      cell Unset c h = in_stack_there c h
      cell (Kept r) c h = in_stack_there c.0 h
      cell (Has u) c h = in_stack_there c.0 h

      at : (o : Option ℕ) → offset a statics_base (length m.statics) ≡ o → (p : Option ℕ) →
          offset a heap_base (length m.heap) ≡ p →
          store_in m a (or_heap o p) v ≡ Some n →
          (t : MachineState) × (set_word_there s (machine.spot s a) v ≡ Ok t) × IsStored g finds n s t
      at (Some i) o p q h = (
        with_statics (set_word s.statics i v),
        ap (λ p. set_word_there s p v) (spot_statics a i o),
        subst (λ x. IsStored g finds x s (with_statics (set_word s.statics i v))) (some_is _ n h)
            (stored_statics (set_word s.statics i v) (set_word m.statics i v)
            (ap (λ (b : List ℕ). set_word b i v) has.statics)
            (set_word_bytes m.statics i v f has.whole_statics.0) (set_word_length m.statics i v)),
      )
      at None o (Some i) q h = (
        with_heap (set_word s.heap i v),
        ap (λ p. set_word_there s p v) (spot_heap a i q),
        subst (λ x. IsStored g finds x s (with_heap (set_word s.heap i v))) (some_is _ n h)
            (stored_heap (set_word s.heap i v) (set_word m.heap i v) (ap (λ (b : List ℕ). set_word b i v) has.heap)
            (set_word_bytes m.heap i v f has.whole_heap.0) (set_word_length m.heap i v)),
      )
      at None o None q h = cell (m.stack a) (has.cells a) h

      by : (b : Bool) → (a % 4 == 0) ≡ b → (if b then store_in m a (memory.spot m a) v else None) ≡ Some n →
          (t : MachineState) × ((if b then set_word_there s (machine.spot s a) v else Err (Unaligned a)) ≡ Ok t)
          × IsStored g finds n s t
      by true e h = at (offset a statics_base (length m.statics)) refl (offset a heap_base (length m.heap)) refl h
      by false e h = cc

  -- A store of a byte.
  pub store_byte_there : (a v : ℕ) (n : Memory) → memory.store_byte m a v ≡ Some n →
      (t : MachineState) × (machine.store_byte s a v ≡ Ok t) × IsStored g finds n s t
  store_byte_there a v n h = at (offset a statics_base (length m.statics)) refl
      (offset a heap_base (length m.heap)) refl h
    where
      fits : v % 256 < 256
      fits = omega arith

      cell : (c : Cell) → IsCell (finds (a - a % 4)) s (a - a % 4) c → put_byte c (a - a % 4) (a % 4) v m ≡ Some n →
          (t : MachineState) × (set_byte_there s (machine.spot s a) v ≡ Ok t) × IsStored g finds n s t
      cell Closed c h = cc
      cell Unset c h = cc
      cell (Kept r) c h = cc
      cell (Has u) c h =
          let w = c.0 in
          let low = w.1 in let high = w.2 in let z = w.0 in
          let l = sizes.whole in let most = stack_most in
          let j : a - a % 4 - floor s + a % 4 ≡ a - floor s = omega (arith, low) in
          let e = byte_set s.stack (a - a % 4 - floor s) (a % 4) v has.stack (omega arith)
          (omega (arith, low, high, l, most)) in
          let e' : word_at (slice_set s.stack (a - floor s) (v % 256)) (a - a % 4 - floor s) ≡ with_byte u (a % 4) v =
          ap (λ i. word_at (slice_set s.stack i (v % 256)) (a - a % 4 - floor s)) (sym j)
          ∙ (e ∙ ap (λ x. with_byte x (a % 4) v) c.2) in
          let fine = set_bytes s.stack (a - floor s) (v % 256) fits has.stack in (
            with_stack (slice_set s.stack (a - floor s) (v % 256)),
            ap (λ p. set_byte_there s p v) (spot_stack a (omega (arith, low)) (omega (arith, high))),
            subst (λ x. IsStored g finds x s (with_stack (slice_set s.stack (a - floor s) (v % 256)))) (some_is _ n h)
                (stored_stack (slice_set s.stack (a - floor s) (v % 256)) (a - a % 4) (with_byte u (a % 4) v)
                (set_length s.stack (a - floor s) (v % 256)) fine w
                (subst (λ x. x < 2 ^ 32) e' (word_fits (slice_set s.stack (a - floor s) (v % 256))
                (a - a % 4 - floor s) fine)) e'
                (λ c1 d x. let p = x.0 in let q = x.1 in byte_apart s.stack (a - floor s) (v % 256) (c1 - floor s)
                (λ y k. d (omega (arith, y, k, z, p, q, low))))),
          )

      at : (o : Option ℕ) → offset a statics_base (length m.statics) ≡ o → (p : Option ℕ) →
          offset a heap_base (length m.heap) ≡ p →
          store_byte_in m a (or_heap o p) v ≡ Some n →
          (t : MachineState) × (set_byte_there s (machine.spot s a) v ≡ Ok t) × IsStored g finds n s t
      at (Some i) o p q h = (
        with_statics (slice_set s.statics i (v % 256)),
        ap (λ p. set_byte_there s p v) (spot_statics a i o),
        subst (λ x. IsStored g finds x s (with_statics (slice_set s.statics i (v % 256)))) (some_is _ n h)
            (stored_statics (slice_set s.statics i (v % 256)) (slice_set m.statics i (v % 256))
            (ap (λ (b : List ℕ). slice_set b i (v % 256)) has.statics)
            (set_bytes m.statics i (v % 256) fits has.whole_statics.0) (set_length m.statics i (v % 256))),
      )
      at None o (Some i) q h = (
        with_heap (slice_set s.heap i (v % 256)),
        ap (λ p. set_byte_there s p v) (spot_heap a i q),
        subst (λ x. IsStored g finds x s (with_heap (slice_set s.heap i (v % 256)))) (some_is _ n h)
            (stored_heap (slice_set s.heap i (v % 256)) (slice_set m.heap i (v % 256))
            (ap (λ (b : List ℕ). slice_set b i (v % 256)) has.heap)
            (set_bytes m.heap i (v % 256) fits has.whole_heap.0) (set_length m.heap i (v % 256))),
      )
      at None o None q h = cell (m.stack (a - a % 4)) (has.cells (a - a % 4)) h
