-- Code is rewritten alike by slots that agree on its temporaries.
use Rattle.std.proofs.Common.{ℕ, ◌≡◌, ◌<◌, ◌+◌, List, [], ◌∷◌, ◌++◌, Option, Some, None, refl, ap, ◌∙◌}
use Rattle.std.specs.Prelude.{IsTrue}
use Rattle.std.specs.List.{list_all}
use Rattle.std.proofs.lemmas.Bool.{ltb-true}
use Rattle.tg_instr.specs.declared.operands.Opnd.{Opnd}
use Rattle.tg_instr.specs.declared.operands.Opnd.TheVariants.{Temp, Reg}
use Rattle.tg_instr.specs.declared.instr.Instr.{Instr}
use Rattle.tg_instr.specs.Codes.{has_temps_below}
use Rattle.tg_instr.specs.Renaming.{named, renamed}
use Rattle.tg_instr.proofs.Tests.{left_holds, right_holds}
use Rattle.tg_regalloc.specs.declared.placing.Placed.{Placed}
use Rattle.tg_regalloc.specs.glue.Below.{is_option_below}
use Rattle.tg_regalloc.specs.Rewriting.{loads, stores, drawn, in_slot, placed, target, first_use, second_use, next_after, instruction_rewritten}
use Rattle.tg_regalloc.specs.Rewriting.{code_rewritten, temps_after}
use Rattle.tg_regalloc.proofs.Naming.{to_below, first_below, second_below}

abbrev pub AreAlike : ℕ → (f g : ℕ → Option ℕ) → Type 0
AreAlike n f g = (t : ℕ) → t < n → f t ≡ g t

abbrev around_placed : Instr → (to first second : Placed) → List Instr
around_placed one to first second =
    loads first.operand first.slot ++ (loads second.operand second.slot ++ (renamed one to.operand first.operand second.operand ∷ stores to.operand to.slot))

module _ (n : ℕ) (f g : ℕ → Option ℕ) (alike : AreAlike n f g) where
  placed_alike : (o : Option Opnd) (next : ℕ) → IsTrue (is_option_below n o) → placed f o next ≡ placed g o next
  placed_alike (Some (Temp t)) next h = ap (in_slot next (Temp t)) (alike t.0 (ltb-true t.0 n h))
  placed_alike (Some (Reg r)) next h = refl
  placed_alike None next h = refl

  target_alike : (x : Instr) (next : ℕ) → IsTrue (has_temps_below n x) → target f x next ≡ target g x next
  target_alike x next h = placed_alike (named x).to next (to_below n x h)

  first_alike : (x : Instr) (next : ℕ) → IsTrue (has_temps_below n x) → first_use f x next ≡ first_use g x next
  first_alike x next h =
      placed_alike (named x).first (next + drawn (target f x next)) (first_below n x h)
      ∙ ap (λ p. placed g (named x).first (next + drawn p)) (target_alike x next h)

  second_alike : (x : Instr) (next : ℕ) → IsTrue (has_temps_below n x) → second_use f x next ≡ second_use g x next
  second_alike x next h =
      placed_alike (named x).second (next + drawn (target f x next) + drawn (first_use f x next)) (second_below n x h)
      ∙ (ap (λ p. placed g (named x).second (next + drawn p + drawn (first_use f x next))) (target_alike x next h)
      ∙ ap (λ p. placed g (named x).second (next + drawn (target g x next) + drawn p)) (first_alike x next h))

  next_alike : (x : Instr) (next : ℕ) → IsTrue (has_temps_below n x) → next_after f x next ≡ next_after g x next
  next_alike x next h =
      ap (λ p. next + drawn p + drawn (first_use f x next) + drawn (second_use f x next)) (target_alike x next h)
      ∙ (ap (λ p. next + drawn (target g x next) + drawn p + drawn (second_use f x next)) (first_alike x next h)
      ∙ ap (λ p. next + drawn (target g x next) + drawn (first_use g x next) + drawn p) (second_alike x next h))

  instruction_alike : (x : Instr) (next : ℕ) → IsTrue (has_temps_below n x) → instruction_rewritten f x next ≡ instruction_rewritten g x next
  instruction_alike x next h =
      ap (λ p. around_placed x p (first_use f x next) (second_use f x next)) (target_alike x next h)
      ∙ (ap (λ p. around_placed x (target g x next) p (second_use f x next)) (first_alike x next h)
      ∙ ap (λ p. around_placed x (target g x next) (first_use g x next) p) (second_alike x next h))

  pub code_alike : (list : List Instr) (next : ℕ) → IsTrue (list_all (has_temps_below n) list) → code_rewritten f list next ≡ code_rewritten g list next
  code_alike [] next h = refl
  code_alike (x ∷ rest) next h =
      let here : IsTrue (has_temps_below n x) = left_holds _ _ h in
      ap (λ l. l ++ code_rewritten f rest (next_after f x next)) (instruction_alike x next here)
      ∙ (ap (λ m. instruction_rewritten g x next ++ code_rewritten f rest m) (next_alike x next here)
      ∙ ap (λ l. instruction_rewritten g x next ++ l) (code_alike rest (next_after g x next) (right_holds (has_temps_below n x) _ h)))

  pub temps_alike : (list : List Instr) (next : ℕ) → IsTrue (list_all (has_temps_below n) list) → temps_after f list next ≡ temps_after g list next
  temps_alike [] next h = refl
  temps_alike (x ∷ rest) next h =
      ap (temps_after f rest) (next_alike x next (left_holds _ _ h)) ∙ temps_alike rest (next_after g x next) (right_holds (has_temps_below n x) _ h)
