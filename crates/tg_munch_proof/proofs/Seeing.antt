-- What instructions see of what flat code reads, from worlds that hold at least and frames above the heap.
use Rattle.std.proofs.Common.{subst, ◌≡◌, ◌≤◌, ℕ, ◌+◌, ◌-◌, ◌*◌, ◌%◌, length, Bool, refl, sym, ap, ◌∙◌, arith}
use Rattle.std.proofs.lemmas.Bool.Decides.{nat_tests}
use Rattle.std.proofs.lemmas.Grind.{common_steps}
use Rattle.std.specs.Prelude.{IsTrue, ◌==◌, ◌&&◌, nat_lt, nat_le, false, true, Some, None, if◌then◌else◌}
use Rattle.tg_machine_state.specs.State.{offset, statics_base, heap_base}
use Rattle.tg_base.specs.Words.{sub}
use Rattle.tg_tree.specs.Memory.{Memory, Cell, Closed, Unset, Has, Kept, spot, or_heap, elsewhere, load, cell_word}
use Rattle.tg_tree.specs.Memory.{word_in, slot}
use Rattle.tg_tree.specs.Actions.{World, Temps}
use Rattle.tg_tree.specs.Holding.{WorldHoldsAtLeast}
use Rattle.tg_munch_proof.specs.Words.{IsWord}
use Rattle.tg_munch_proof.specs.glue.Places.{each_one, Walks, Place}
use Rattle.tg_munch_proof.specs.laws.Values.{Sees}
use Rattle.tg_munch_proof.proofs.Marked.{behind_is}
use Rattle.tg_munch_proof.proofs.Words.{loads_seen, bytes_seen, ReadsWords, flat_words}
use Rattle.tg_instr.specs.Codes.{marks_differ}
use Rattle.tg_instr.specs.Running.{behind}
use Rattle.tg_instr.proofs.CodeRuns.{code_steps}

-- an address after a region
past : (a base size : ℕ) → base + size ≤ a → offset a base size ≡ None
past a base size h = by (nat_le base a) (nat_lt a (base + size)) not_below
  where
    not_below : nat_lt a (base + size) ≡ false
    not_below = grind (arith, nat_tests)

    by : (b c : Bool) → c ≡ false → (if b && c then Some (a - base) else None) ≡ None
    by true true e = absurd (no e)
      where
        no : true ≡ false → ⊥
        no e = cc
    by true false e = refl
    by false c e = refl

has_it : (c : Cell) (v : ℕ) → cell_word c ≡ Some v → c ≡ Has v
has_it (Has u) v e = ap (λ i. Has i) (same u v e)
  where
    same : (i j : ℕ) → Some i ≡ Some j → i ≡ j
    same i j q = cc
has_it Closed v e = absurd (none e)
  where
    none : None ≡ Some v → ⊥
    none e = cc
has_it Unset v e = absurd (none e)
  where
    none : None ≡ Some v → ⊥
    none e = cc
has_it (Kept r) v e = absurd (none e)
  where
    none : None ≡ Some v → ⊥
    none e = cc

pub above_regions : (m : Memory) (a : ℕ) → statics_base + length m.statics ≤ a → heap_base + length m.heap ≤ a →
    spot m a ≡ elsewhere
above_regions m a hs hh =
    ap (λ o. or_heap o (offset a heap_base (length m.heap))) (past a statics_base (length m.statics) hs) ∙
    ap (λ o. or_heap None o) (past a heap_base (length m.heap) hh)

pub slot_seen : (m : Memory) (a v : ℕ) → statics_base + length m.statics ≤ a → heap_base + length m.heap ≤ a → load m a ≡
    Some v → m.stack a ≡ Has v
slot_seen m a v hs hh e =
    by (a % 4 == 0) (ap (λ (z : _). if a % 4 == 0 then word_in m a z else None) (sym (above_regions m a hs hh)) ∙ e)
  where
    by : (b : Bool) → (if b then cell_word (m.stack a) else None) ≡ Some v → m.stack a ≡ Has v
    by true q = has_it (m.stack a) v q
    by false q = absurd (none q)
      where
        none : None ≡ Some v → ⊥
        none e = cc

-- a frame of so many slots, above statics and heap
pub record HasFrame (p : Place) (m : Memory) (slots : ℕ) : Type 0 where
  pub slots_are : p.function.slots ≡ slots
  pub word : IsWord p.activation.base
  pub statics : statics_base + length m.statics + 4 * slots ≤ p.activation.base
  pub heap : heap_base + length m.heap + 4 * slots ≤ p.activation.base

pub below_base : (base k : ℕ) → IsWord base → 4 * (k + 1) ≤ base → sub base (4 * (k + 1)) ≡ slot base k
below_base base k h le = grind (arith, common_steps)

pub sees_it : (p : Place) (w x : World) (t : Temps) (slots : ℕ) → WorldHoldsAtLeast w x → HasFrame p x.memory slots →
    ReadsWords p.code.literals p.activation.base w.memory t → Sees p x w.memory t slots
sees_it p w x t slots holds frame reads = record {
  slots_are = frame.slots_are;
  loads = loads_seen w x holds;
  loads_byte = bytes_seen w x holds;
  slot_loads = λ k v lt e.
      let hs = frame.statics in
      let hh = frame.heap in
      let is = below_base p.activation.base k frame.word (omega (arith, hs, lt)) in
      slot_seen x.memory (slot p.activation.base k) v (omega (arith, hs, lt)) (omega (arith, hh, lt))
      (ap (load x.memory) (sym is) ∙ loads_seen w x holds (sub p.activation.base (4 * (k + 1))) v e);
  words = λ e v f h q. flat_words p.code.literals p.activation.base w.memory t reads e v f h q;
}

-- and what is known of code whose marks differ
pub walks_it : (p : Place) → IsTrue (marks_differ p.function.body) → Walks p
walks_it p differ = record {
  marked = λ m rest part.
      ap (λ xs. behind m xs) part.1 ∙
      behind_is m part.0 rest (subst (λ xs. IsTrue (marks_differ xs)) part.1 differ);
  steps = λ q n. code_steps each_one p.code p.size p.floor p.room q n;
}
