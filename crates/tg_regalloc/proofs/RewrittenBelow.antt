-- The temporaries and the slots of the code after a round that spills.
use Rattle.std.proofs.Common.{ℕ, ◌≡◌, ◌<◌, ◌≤◌, ◌+◌, List, [], ◌∷◌, Bool, true, false, Option, Some, None, refl, arith}
use Rattle.std.specs.Prelude.{IsTrue, nat_lt}
use Rattle.std.specs.List.{list_all}
use Rattle.std.proofs.lemmas.Bool.Decides.{nat_tests}
use Rattle.tg_tree.specs.declared.operators.Rel.{Rel}
use Rattle.tg_instr.specs.declared.operands.Opnd.{Opnd}
use Rattle.tg_instr.specs.declared.operands.Opnd.TheVariants.{Temp, Reg}
use Rattle.tg_instr.specs.declared.instr.Test.{Test}
use Rattle.tg_instr.specs.declared.instr.Instr.{Instr}
use Rattle.tg_instr.specs.declared.instr.Instr.TheVariants.{Branch, FrameLoad, FrameStore}
use Rattle.tg_instr.specs.Codes.{is_below, has_temps_below, has_slots_below}
use Rattle.tg_instr.specs.Operands.{is_one_row}
use Rattle.tg_instr.specs.Renaming.{named, renamed, tested}
use Rattle.tg_instr.specs.Uses.{uses_of, defs_of}
use Rattle.tg_instr.proofs.Tests.{left_holds, right_holds, both_hold, all_append}
use Rattle.tg_regalloc.specs.Rewriting.{loads, stores, drawn_for, drawn, in_slot, placed, target, first_use, second_use, next_after}
use Rattle.tg_regalloc.specs.Rewriting.{instruction_rewritten, code_rewritten, temps_after}
use Rattle.tg_regalloc.specs.glue.Below.{is_option_below}
use Rattle.tg_regalloc.proofs.Naming.{to_below, first_below, second_below}

-- what holds of each element by a weaker test too
pub all_weaker : {X : Type 0} (p q : X → Bool) → ((x : X) → IsTrue (p x) → IsTrue (q x)) → (xs : List X) → IsTrue (list_all p xs) → IsTrue (list_all q xs)
all_weaker p q f [] h = refl
all_weaker p q f (x ∷ xs) h = both_hold (q x) _ (f x (left_holds (p x) _ h)) (all_weaker p q f xs (right_holds (p x) _ h))

operand_weaker : (n m : ℕ) → n ≤ m → (x : Opnd) → IsTrue (is_below n x) → IsTrue (is_below m x)
operand_weaker n m l (Temp t) h = grind (arith, nat_tests)
operand_weaker n m l (Reg r) h = refl

pub temps_weaker : (n m : ℕ) → n ≤ m → (x : Instr) → IsTrue (has_temps_below n x) → IsTrue (has_temps_below m x)
temps_weaker n m l x h =
    both_hold _ _
    (all_weaker (is_below n) (is_below m) (operand_weaker n m l) (uses_of x) (left_holds _ _ h))
    (all_weaker (is_below n) (is_below m) (operand_weaker n m l) (defs_of x) (right_holds (list_all (is_below n) (uses_of x)) _ h))

tested_below : (m : ℕ) (rel : Rel) (y z : Opnd) (fits : Bool) (e : is_one_row rel y z ≡ fits) (test : Test) (k : ℕ) →
    IsTrue (has_temps_below m (Branch test k)) → IsTrue (is_below m y) → IsTrue (is_below m z) →
    IsTrue (has_temps_below m (Branch (tested rel y z fits e test) k))
tested_below m rel y z true e test k h hy hz = both_hold _ _ (both_hold _ _ hy (both_hold _ _ hz refl)) refl
tested_below m rel y z false e test k h hy hz = h

renamed_below : (m : ℕ) (one : Instr) (x y z : Opnd) → IsTrue (has_temps_below m one) → IsTrue (is_below m x) → IsTrue (is_below m y) →
    IsTrue (is_below m z) → IsTrue (has_temps_below m (renamed one x y z))
renamed_below m (Branch test k) x y z h hx hy hz = tested_below m test.rel y z (is_one_row test.rel y z) refl test k h hy hz
renamed_below m _ x y z h hx hy hz = grind (arith, nat_tests)

in_slot_below : (m temp : ℕ) (x : Opnd) (slot : Option ℕ) → IsTrue (is_below m x) → temp + drawn_for slot ≤ m →
    IsTrue (is_below m (in_slot temp x slot).operand)
in_slot_below m temp x None h l = h
in_slot_below m temp x (Some k) h l = grind (arith, nat_tests)

slot_is : (temp : ℕ) (x : Opnd) (slot : Option ℕ) → (in_slot temp x slot).slot ≡ slot
slot_is temp x None = refl
slot_is temp x (Some k) = refl

loads_below : (m : ℕ) (x : Opnd) (slot : Option ℕ) → IsTrue (is_below m x) → IsTrue (list_all (has_temps_below m) (loads x slot))
loads_below m x None h = refl
loads_below m x (Some k) h = both_hold _ _ (both_hold _ _ h refl) refl

stores_below : (m : ℕ) (x : Opnd) (slot : Option ℕ) → IsTrue (is_below m x) → IsTrue (list_all (has_temps_below m) (stores x slot))
stores_below m x None h = refl
stores_below m x (Some k) h = both_hold _ _ (both_hold _ _ (both_hold _ _ h refl) refl) refl

-- Slots.

abbrev pub AreSlotsBelow : ℕ → Option ℕ → Type 0
AreSlotsBelow m slot = (k : ℕ) → slot ≡ Some k → k < m

below_is : (k m : ℕ) → k < m → IsTrue (nat_lt k m)
below_is k m h = grind (arith, nat_tests)

loads_slots : (m : ℕ) (x : Opnd) (slot : Option ℕ) → AreSlotsBelow m slot → IsTrue (list_all (has_slots_below m) (loads x slot))
loads_slots m x None h = refl
loads_slots m x (Some k) h = both_hold _ _ (below_is k m (h k refl)) refl

stores_slots : (m : ℕ) (x : Opnd) (slot : Option ℕ) → AreSlotsBelow m slot → IsTrue (list_all (has_slots_below m) (stores x slot))
stores_slots m x None h = refl
stores_slots m x (Some k) h = both_hold _ _ (below_is k m (h k refl)) refl

pub slots_renamed : (m : ℕ) (one : Instr) (x y z : Opnd) → IsTrue (has_slots_below m one) → IsTrue (has_slots_below m (renamed one x y z))
slots_renamed m (FrameLoad to k) x y z h = h
slots_renamed m (FrameStore from k) x y z h = h
slots_renamed m _ x y z h = refl

pub slots_weaker : (n m : ℕ) → n ≤ m → (one : Instr) → IsTrue (has_slots_below n one) → IsTrue (has_slots_below m one)
slots_weaker n m l (FrameLoad to k) h = grind (arith, nat_tests)
slots_weaker n m l (FrameStore from k) h = grind (arith, nat_tests)
slots_weaker n m l _ h = refl

module _ (slot_of : ℕ → Option ℕ) where
  placed_below : (m : ℕ) (o : Option Opnd) (next : ℕ) → IsTrue (is_option_below m o) → next + drawn (placed slot_of o next) ≤ m →
      IsTrue (is_below m (placed slot_of o next).operand)
  placed_below m (Some (Temp t)) next h l = in_slot_below m next (Temp t) (slot_of t.0) h (let e = slot_is next (Temp t) (slot_of t.0) in rw e at l)
  placed_below m (Some (Reg r)) next h l = refl
  placed_below m None next h l = refl

  placed_slots : (m : ℕ) → ((t : ℕ) → AreSlotsBelow m (slot_of t)) → (o : Option Opnd) (next : ℕ) → AreSlotsBelow m (placed slot_of o next).slot
  placed_slots m f (Some (Temp t)) next k e = f t.0 k (let i = slot_is next (Temp t) (slot_of t.0) in cc)
  placed_slots m f (Some (Reg r)) next k e = cc
  placed_slots m f None next k e = cc

  instruction_below : (m : ℕ) (x : Instr) (next : ℕ) → IsTrue (has_temps_below m x) → next_after slot_of x next ≤ m →
      IsTrue (list_all (has_temps_below m) (instruction_rewritten slot_of x next))
  instruction_below m x next h l =
      let to = target slot_of x next in
      let first = first_use slot_of x next in
      let second = second_use slot_of x next in
      let a = placed_below m (named x).to next (to_below m x h) (omega arith) in
      let b = placed_below m (named x).first (next + drawn to) (first_below m x h) (omega arith) in
      let c = placed_below m (named x).second (next + drawn to + drawn first) (second_below m x h) (omega arith) in
      all_append (has_temps_below m) (loads first.operand first.slot) _ (loads_below m first.operand first.slot b)
      (all_append (has_temps_below m) (loads second.operand second.slot) _ (loads_below m second.operand second.slot c)
      (both_hold _ _ (renamed_below m x to.operand first.operand second.operand h a b c) (stores_below m to.operand to.slot a)))

  pub temps_grow : (list : List Instr) (next : ℕ) → next ≤ temps_after slot_of list next
  temps_grow [] next = omega arith
  temps_grow (x ∷ rest) next = let l = temps_grow rest (next_after slot_of x next) in omega arith

  all_below : (m : ℕ) (list : List Instr) (next : ℕ) → IsTrue (list_all (has_temps_below m) list) → temps_after slot_of list next ≤ m →
      IsTrue (list_all (has_temps_below m) (code_rewritten slot_of list next))
  all_below m [] next h l = refl
  all_below m (x ∷ rest) next h l =
      let k = temps_grow rest (next_after slot_of x next) in
      all_append (has_temps_below m) (instruction_rewritten slot_of x next) (code_rewritten slot_of rest (next_after slot_of x next))
      (instruction_below m x next (left_holds _ _ h) (omega arith))
      (all_below m rest (next_after slot_of x next) (right_holds (has_temps_below m x) _ h) l)

  pub temps_below : (list : List Instr) (next : ℕ) → IsTrue (list_all (has_temps_below next) list) →
      IsTrue (list_all (has_temps_below (temps_after slot_of list next)) (code_rewritten slot_of list next))
  temps_below list next h =
      all_below (temps_after slot_of list next) list next
      (all_weaker (has_temps_below next) (has_temps_below (temps_after slot_of list next))
      (temps_weaker next (temps_after slot_of list next) (temps_grow list next)) list h)
      (omega arith)

  pub slots_below : (m : ℕ) → ((t : ℕ) → AreSlotsBelow m (slot_of t)) → (list : List Instr) (next : ℕ) → IsTrue (list_all (has_slots_below m) list) →
      IsTrue (list_all (has_slots_below m) (code_rewritten slot_of list next))
  slots_below m f [] next h = refl
  slots_below m f (x ∷ rest) next h =
      let to = target slot_of x next in
      let first = first_use slot_of x next in
      let second = second_use slot_of x next in
      all_append (has_slots_below m) (instruction_rewritten slot_of x next) (code_rewritten slot_of rest (next_after slot_of x next))
      (all_append (has_slots_below m) (loads first.operand first.slot) _
      (loads_slots m first.operand first.slot (placed_slots m f (named x).first (next + drawn to)))
      (all_append (has_slots_below m) (loads second.operand second.slot) _
      (loads_slots m second.operand second.slot (placed_slots m f (named x).second (next + drawn to + drawn first)))
      (both_hold _ _ (slots_renamed m x to.operand first.operand second.operand (left_holds _ _ h))
      (stores_slots m to.operand to.slot (placed_slots m f (named x).to next)))))
      (slots_below m f rest (next_after slot_of x next) (right_holds (has_slots_below m x) _ h))
