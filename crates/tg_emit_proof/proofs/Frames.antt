-- Frames that are opened and closed: memory is held as before, but for the words of the frame.
use Rattle.std.proofs.Common.{ℕ, zero, suc, ◌≡◌, ◌≢◌, ◌<◌, ◌+◌, ◌-◌, ◌*◌, ◌==◌, ◌||◌, List, refl, ap, sym}
use Rattle.std.proofs.Common.{◌∙◌, subst, arith, eqb-true, Bool, true, false}
use Rattle.std.specs.Prelude.{if◌then◌else◌}
use Rattle.tg_machine_state.specs.State.{MachineState}
use Rattle.tg_tree.specs.Memory.{Memory, Cell, Closed, Unset, slot, lay}
use Rattle.tg_tree.specs.Actions.{World, Activation}
use Rattle.tg_tree.specs.Tree.{Function}
use Rattle.tg_instr.specs.declared.instr.Instr.{Instr}
use Rattle.tg_instr.specs.Running.{lay_out, with_frame}
use Rattle.tg_emit_proof.specs.Setting.{later}
use Rattle.tg_emit_proof.specs.glue.Standing.{Finds, IsStackWord, IsCell, HasMemory, HasFrame}
use Rattle.tg_emit_proof.proofs.Basics.{no_true, same_number}

-- whether an address is a slot of a frame, or a word at its low end
abbrev pub is_slot : (base slots a : ℕ) → Bool
is_slot base zero a = false
is_slot base (suc n) a = a == slot base n || is_slot base n a

abbrev pub is_low : (low words a : ℕ) → Bool
is_low low zero a = false
is_low low (suc n) a = a == low + 4 * n || is_low low n a

laid : (base n : ℕ) (c : Cell) (m : Memory) (a : ℕ) → (lay base n c m).stack a
    ≡ (if is_slot base n a then c else m.stack a)
laid base zero c m a = refl
laid base (suc n) c m a = by (a == slot base n) (laid base n c m a)
  where
    by : (b : Bool) → (lay base n c m).stack a ≡ (if is_slot base n a then c else m.stack a) →
        (if b then c else (lay base n c m).stack a) ≡ (if b || is_slot base n a then c else m.stack a)
    by true e = refl
    by false e = e

laid_out : (low n : ℕ) (c : Cell) (m : Memory) (a : ℕ) → (lay_out low n c m).stack a
    ≡ (if is_low low n a then c else m.stack a)
laid_out low zero c m a = refl
laid_out low (suc n) c m a = by (a == low + 4 * n) (laid_out low n c m a)
  where
    by : (b : Bool) → (lay_out low n c m).stack a ≡ (if is_low low n a then c else m.stack a) →
        (if b then c else (lay_out low n c m).stack a) ≡ (if b || is_low low n a then c else m.stack a)
    by true e = refl
    by false e = e

lay_statics : (base n : ℕ) (c : Cell) (m : Memory) → (lay base n c m).statics ≡ m.statics
lay_statics base zero c m = refl
lay_statics base (suc n) c m = lay_statics base n c m

lay_heap : (base n : ℕ) (c : Cell) (m : Memory) → (lay base n c m).heap ≡ m.heap
lay_heap base zero c m = refl
lay_heap base (suc n) c m = lay_heap base n c m

out_statics : (low n : ℕ) (c : Cell) (m : Memory) → (lay_out low n c m).statics ≡ m.statics
out_statics low zero c m = refl
out_statics low (suc n) c m = out_statics low n c m

out_heap : (low n : ℕ) (c : Cell) (m : Memory) → (lay_out low n c m).heap ≡ m.heap
out_heap low zero c m = refl
out_heap low (suc n) c m = out_heap low n c m

-- where slots and low words are
slot_is : (base n a : ℕ) → is_slot base n a ≡ true → (k : ℕ) × (k < n) × (a ≡ slot base k)
slot_is base zero a h = cc
slot_is base (suc n) a h = by (a == slot base n) refl h (slot_is base n a)
  where
    by : (b : Bool) → (a == slot base n) ≡ b → (b || is_slot base n a) ≡ true →
        (is_slot base n a ≡ true → (k : ℕ) × (k < n) × (a ≡ slot base k)) →
        (k : ℕ) × (k < suc n) × (a ≡ slot base k)
    by true e h later = (n, omega arith, eqb-true a (slot base n) e)
    by false e h later = let t = later h in let l = t.1 in (t.0, omega (arith, l), t.2)

low_is : (low n a : ℕ) → is_low low n a ≡ true → (k : ℕ) × (k < n) × (a ≡ low + 4 * k)
low_is low zero a h = cc
low_is low (suc n) a h = by (a == low + 4 * n) refl h (low_is low n a)
  where
    by : (b : Bool) → (a == low + 4 * n) ≡ b → (b || is_low low n a) ≡ true →
        (is_low low n a ≡ true → (k : ℕ) × (k < n) × (a ≡ low + 4 * k)) →
        (k : ℕ) × (k < suc n) × (a ≡ low + 4 * k)
    by true e h later = (n, omega arith, eqb-true a (low + 4 * n) e)
    by false e h later = let t = later h in let l = t.1 in (t.0, omega (arith, l), t.2)

slots_differ : (base n k : ℕ) → (slot base k == slot base n) ≡ false → k ≢ n
slots_differ base n k e k_is =
    no_true (sym e ∙ (ap (λ j. slot base j == slot base n) k_is ∙ same_number (slot base n)))

pub slot_there : (base n k : ℕ) → k < n → is_slot base n (slot base k) ≡ true
slot_there base zero k h = absurd (omega (arith, h))
slot_there base (suc n) k h = by (slot base k == slot base n) refl (slot_there base n k)
  where
    by : (b : Bool) → (slot base k == slot base n) ≡ b → (k < n → is_slot base n (slot base k) ≡ true) →
        (b || is_slot base n (slot base k)) ≡ true
    by true e later = refl
    by false e later = later (let o = slots_differ base n k e in omega (arith, h, o))

-- what an activation found, known of its slots
abbrev pub found_in : (base slots : ℕ) → (found : ℕ → ℕ) → Finds → Finds
found_in base slots found finds a r = if is_slot base slots a then found r else finds a r

pub owns_slots : (base slots : ℕ) (found : ℕ → ℕ) (finds : Finds) (k : ℕ) → k < slots →
    found_in base slots found finds (slot base k) ≡ found
owns_slots base slots found finds k h =
    ap (λ b. (λ r. if b then found r else finds (slot base k) r)) (slot_there base slots k h)

module _ (f : Function (List Instr)) (a : Activation) (s : MachineState) (found : ℕ → ℕ) (finds : Finds) where
  abbrev with_found : Finds
  with_found = found_in a.base f.slots found finds

  slot_within : HasFrame a f s → (b : ℕ) → is_slot a.base f.slots b ≡ true → IsStackWord s b
  slot_within h b e =
      let t = slot_is a.base f.slots b e in
      let k = t.1 in let p = t.2 in
      let w = h.words in let z = h.holds in let l = h.above in let u = h.below in
      (omega (arith, k, p, w, z, l, u), omega (arith, k, p, w, z, l, u), omega (arith, k, p, w, z, l, u))

  low_within : HasFrame a f s → (b : ℕ) → is_low (a.base - a.size) f.out b ≡ true → IsStackWord s b
  low_within h b e =
      let t = low_is (a.base - a.size) f.out b e in
      let k = t.1 in let p = t.2 in
      let w = h.words in let v = h.size_words in let z = h.holds in let l = h.above in let u = h.below in
      (omega (arith, k, p, w, v, z, l, u), omega (arith, k, p, w, v, z, l, u), omega (arith, k, p, w, v, z, l, u))

  cell_at : (c : Cell) (w : World) (b : ℕ) → (with_frame f a c w).memory.stack b
      ≡ (if is_low (a.base - a.size) f.out b then c else if is_slot a.base f.slots b then c else w.memory.stack b)
  cell_at c w b =
      laid_out (a.base - a.size) f.out c (lay a.base f.slots c w.memory) b
      ∙ ap (λ d. if is_low (a.base - a.size) f.out b then c else d) (laid a.base f.slots c w.memory b)

  pub opened : HasFrame a f s → (w : World) → HasMemory finds w.memory s →
      HasMemory with_found (with_frame f a Unset w).memory s
  opened h w m = record {
    statics = m.statics ∙ sym (out_statics (a.base - a.size) f.out Unset (lay a.base f.slots Unset w.memory)
        ∙ lay_statics a.base f.slots Unset w.memory);
    heap = m.heap ∙ sym (out_heap (a.base - a.size) f.out Unset (lay a.base f.slots Unset w.memory)
        ∙ lay_heap a.base f.slots Unset w.memory);
    stack = m.stack;
    cells = λ b. subst (IsCell (with_found b) s b) (sym (cell_at Unset w b))
        (by b (is_low (a.base - a.size) f.out b) refl (is_slot a.base f.slots b) refl);
    whole_statics = rw (
      out_statics (a.base - a.size) f.out Unset (lay a.base f.slots Unset w.memory),
      lay_statics a.base f.slots Unset w.memory,
    ) m.whole_statics;
    whole_heap = rw (
      out_heap (a.base - a.size) f.out Unset (lay a.base f.slots Unset w.memory),
      lay_heap a.base f.slots Unset w.memory,
    ) m.whole_heap;
  }
    where
      by : (b : ℕ) (x : Bool) → is_low (a.base - a.size) f.out b ≡ x → (y : Bool) → is_slot a.base f.slots b ≡ y →
          IsCell (λ r. if y then found r else finds b r) s b
          (if x then Unset else if y then Unset else w.memory.stack b)
      by b true p y q = low_within h b p
      by b false p true q = slot_within h b q
      by b false p false q = m.cells b

  pub closed : (w : World) → HasMemory with_found w.memory s → HasMemory finds (with_frame f a Closed w).memory s
  closed w m = record {
    statics = m.statics ∙ sym (out_statics (a.base - a.size) f.out Closed (lay a.base f.slots Closed w.memory)
        ∙ lay_statics a.base f.slots Closed w.memory);
    heap = m.heap ∙ sym (out_heap (a.base - a.size) f.out Closed (lay a.base f.slots Closed w.memory)
        ∙ lay_heap a.base f.slots Closed w.memory);
    stack = m.stack;
    cells = λ b. subst (IsCell (finds b) s b) (sym (cell_at Closed w b))
        (by b (is_low (a.base - a.size) f.out b) (is_slot a.base f.slots b) refl (m.cells b));
    whole_statics = rw (
      out_statics (a.base - a.size) f.out Closed (lay a.base f.slots Closed w.memory),
      lay_statics a.base f.slots Closed w.memory,
    ) m.whole_statics;
    whole_heap = rw (
      out_heap (a.base - a.size) f.out Closed (lay a.base f.slots Closed w.memory),
      lay_heap a.base f.slots Closed w.memory,
    ) m.whole_heap;
  }
    where
      by : (b : ℕ) (x y : Bool) → is_slot a.base f.slots b ≡ y →
          IsCell (λ r. if y then found r else finds b r) s b (w.memory.stack b) →
          IsCell (finds b) s b (if x then Closed else if y then Closed else w.memory.stack b)
      by b true y q c = tt
      by b false true q c = tt
      by b false false q c = c
