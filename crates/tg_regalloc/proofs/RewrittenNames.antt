-- The registers that the code after a round that spills names.
use Rattle.std.proofs.Common.{ℕ, ◌+◌, List, [], ◌∷◌, Bool, Option, Some, None, refl}
use Rattle.std.specs.Prelude.{IsTrue}
use Rattle.std.specs.List.{list_all}
use Rattle.tg_instr.specs.declared.operands.Opnd.{Opnd}
use Rattle.tg_instr.specs.declared.operands.Opnd.TheVariants.{Temp, Reg}
use Rattle.tg_instr.specs.declared.instr.Instr.{Instr}
use Rattle.tg_instr.specs.Renaming.{named}
use Rattle.tg_instr.proofs.Tests.{left_holds, right_holds, both_hold, all_append}
use Rattle.tg_instr.specs.Codes.{has_register, names_registers}
use Rattle.tg_regalloc.specs.Rewriting.{loads, stores, drawn, in_slot, placed, target, first_use, second_use, next_after, instruction_rewritten, code_rewritten}
use Rattle.tg_regalloc.proofs.RegisterNames.{names_renamed}

module _ (allowed : ℕ → Bool) (zero : IsTrue (allowed 0)) (slot_of : ℕ → Option ℕ) where
  slot_names : (temp : ℕ) (x : Opnd) (slot : Option ℕ) → IsTrue (has_register allowed (Some x)) →
      IsTrue (has_register allowed (Some (in_slot temp x slot).operand))
  slot_names temp x None h = h
  slot_names temp x (Some k) h = refl

  placed_names : (o : Option Opnd) (next : ℕ) → IsTrue (has_register allowed o) → IsTrue (has_register allowed (Some (placed slot_of o next).operand))
  placed_names (Some (Temp t)) next h = slot_names next (Temp t) (slot_of t.0) h
  placed_names (Some (Reg r)) next h = h
  placed_names None next h = zero

  loads_names : (x : Opnd) (slot : Option ℕ) → IsTrue (has_register allowed (Some x)) → IsTrue (list_all (names_registers allowed) (loads x slot))
  loads_names x None h = refl
  loads_names x (Some k) h = both_hold _ _ (both_hold _ _ h refl) refl

  stores_names : (x : Opnd) (slot : Option ℕ) → IsTrue (has_register allowed (Some x)) → IsTrue (list_all (names_registers allowed) (stores x slot))
  stores_names x None h = refl
  stores_names x (Some k) h = both_hold _ _ (both_hold _ _ h refl) refl

  instruction_names : (x : Instr) (next : ℕ) → IsTrue (names_registers allowed x) →
      IsTrue (list_all (names_registers allowed) (instruction_rewritten slot_of x next))
  instruction_names x next h =
      let to = target slot_of x next in
      let first = first_use slot_of x next in
      let second = second_use slot_of x next in
      let rest = right_holds (has_register allowed (named x).to) _ h in
      let a = placed_names (named x).to next (left_holds _ _ h) in
      let b = placed_names (named x).first (next + drawn to) (left_holds _ _ rest) in
      let c = placed_names (named x).second (next + drawn to + drawn first) (right_holds (has_register allowed (named x).first) _ rest) in
      all_append (names_registers allowed) (loads first.operand first.slot) _ (loads_names first.operand first.slot b)
      (all_append (names_registers allowed) (loads second.operand second.slot) _ (loads_names second.operand second.slot c)
      (both_hold _ _ (names_renamed allowed x to.operand first.operand second.operand h a b c) (stores_names to.operand to.slot a)))

  pub code_names : (list : List Instr) (next : ℕ) → IsTrue (list_all (names_registers allowed) list) →
      IsTrue (list_all (names_registers allowed) (code_rewritten slot_of list next))
  code_names [] next h = refl
  code_names (x ∷ rest) next h =
      all_append (names_registers allowed) (instruction_rewritten slot_of x next) (code_rewritten slot_of rest (next_after slot_of x next))
      (instruction_names x next (left_holds _ _ h)) (code_names rest (next_after slot_of x next) (right_holds (names_registers allowed x) _ h))
