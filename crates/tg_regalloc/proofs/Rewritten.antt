-- What the code after a round that spills keeps of the code before.
use Rattle.std.proofs.Common.{ℕ, ◌≡◌, ◌≤◌, ◌+◌, List, [], ◌∷◌, ◌++◌, Option, Some, None, refl, ap, ◌∙◌, sym, subst, append_assoc, append-nil, arith}
use Rattle.std.specs.Prelude.{IsTrue}
use Rattle.std.specs.List.{list_all}
use Rattle.tg_instr.specs.declared.operands.Opnd.{Opnd}
use Rattle.tg_instr.specs.declared.instr.Instr.{Instr}
use Rattle.tg_instr.specs.declared.instr.Instr.TheVariants.{Jump, Fault, Return}
use Rattle.tg_instr.specs.Codes.{is_end}
use Rattle.tg_instr.specs.Renaming.{renamed}
use Rattle.tg_instr.proofs.Tests.{all_append}
use Rattle.tg_regalloc.specs.Rewriting.{loads, stores, drawn_for, target, first_use, second_use, next_after, instruction_rewritten, code_rewritten, temps_after}
use Rattle.tg_regalloc.proofs.Replacing.{is_access, Replaces, AreReplaced, around}
use Rattle.tg_regalloc.proofs.Replacing.AreReplaced.{none, also}

loads_are_accesses : (x : Opnd) (slot : Option ℕ) → IsTrue (list_all is_access (loads x slot))
loads_are_accesses x None = refl
loads_are_accesses x (Some k) = refl

stores_are_accesses : (x : Opnd) (slot : Option ℕ) → IsTrue (list_all is_access (stores x slot))
stores_are_accesses x None = refl
stores_are_accesses x (Some k) = refl

one_drawn : (slot : Option ℕ) → drawn_for slot ≤ 1
one_drawn None = omega arith
one_drawn (Some k) = omega arith

module _ (slot_of : ℕ → Option ℕ) where
  -- a last instruction names no operand
  end_alone : (x : Instr) (next : ℕ) → IsTrue (is_end x) → instruction_rewritten slot_of x next ≡ x ∷ []
  end_alone (Jump m) next h = refl
  end_alone (Fault n) next h = refl
  end_alone Return next h = refl
  end_alone _ next h = cc

  replaced : (x : Instr) (next : ℕ) → Replaces x (instruction_rewritten slot_of x next)
  replaced x next =
      let to = target slot_of x next in
      let first = first_use slot_of x next in
      let second = second_use slot_of x next in
      let before = loads first.operand first.slot ++ loads second.operand second.slot in
      let after = stores to.operand to.slot in
      let e : before ++ (renamed x to.operand first.operand second.operand ∷ after) ≡ instruction_rewritten slot_of x next =
      append_assoc (loads first.operand first.slot) (loads second.operand second.slot) (renamed x to.operand first.operand second.operand ∷ after) in
      subst (λ l. Replaces x l) e
      (around x to.operand first.operand second.operand before after
      (all_append is_access (loads first.operand first.slot) (loads second.operand second.slot)
      (loads_are_accesses first.operand first.slot) (loads_are_accesses second.operand second.slot))
      (stores_are_accesses to.operand to.slot)
      (λ h. e ∙ end_alone x next h))

  pub are_replaced : (list : List Instr) (next : ℕ) → AreReplaced list (code_rewritten slot_of list next)
  are_replaced [] next = none
  are_replaced (x ∷ rest) next =
      also x (instruction_rewritten slot_of x next) rest (code_rewritten slot_of rest (next_after slot_of x next))
      (replaced x next) (are_replaced rest (next_after slot_of x next))

  -- One instruction after another.
  pub rewritten_more : (xs : List Instr) (x : Instr) (next : ℕ) →
      code_rewritten slot_of (xs ++ x ∷ []) next ≡ code_rewritten slot_of xs next ++ instruction_rewritten slot_of x (temps_after slot_of xs next)
  rewritten_more [] x next = append-nil (instruction_rewritten slot_of x next)
  rewritten_more (y ∷ xs) x next =
      ap (λ l. instruction_rewritten slot_of y next ++ l) (rewritten_more xs x (next_after slot_of y next))
      ∙ sym (append_assoc (instruction_rewritten slot_of y next) (code_rewritten slot_of xs (next_after slot_of y next))
      (instruction_rewritten slot_of x (temps_after slot_of (y ∷ xs) next)))

  pub temps_more : (xs : List Instr) (x : Instr) (next : ℕ) → temps_after slot_of (xs ++ x ∷ []) next ≡ next_after slot_of x (temps_after slot_of xs next)
  temps_more [] x next = refl
  temps_more (y ∷ xs) x next = temps_more xs x (next_after slot_of y next)

  -- one temporary for each operand
  pub draws_few : (x : Instr) (next : ℕ) → next_after slot_of x next ≤ next + 3
  draws_few x next =
      let a = one_drawn (target slot_of x next).slot in
      let b = one_drawn (first_use slot_of x next).slot in
      let c = one_drawn (second_use slot_of x next).slot in
      omega arith

  pub draws_some : (x : Instr) (next : ℕ) → next ≤ next_after slot_of x next
  draws_some x next = omega arith
