-- The text of instructions tells them.
use Rattle.std.proofs.Common.{ℕ, ◌≡◌, List, [], ◌∷◌, ◌++◌, drop, true, refl, sym, ap, ◌∙◌, append_assoc}
use Rattle.std.specs.Prelude.{codes}
use Rattle.std.proofs.lemmas.List.{append_cancel_left}
use Rattle.tg_instr.specs.declared.operands.Opnd.{Opnd}
use Rattle.tg_instr.specs.declared.instr.Instr.{Instr}
use Rattle.tg_instr.specs.Uses.{uses_of, defs_of}
use Rattle.tg_show.specs.Layout.{blanks}
use Rattle.tg_show.specs.Instructions.{instruction_margin, instruction_text, told, instruction_line, instruction_lines}
use Rattle.tg_show_laws.specs.Fields.{AllFit}
use Rattle.tg_show_laws.specs.laws.Laws.{InstructionsAreTold}
use Rattle.tg_show_laws.proofs.Numbers.{ends}
use Rattle.tg_show_laws.proofs.Trees.{byte, differ}
use Rattle.tg_show_laws.proofs.Views.{told_one, begins_some}

module _ (names : List (List ℕ)) where
  -- what stands behind an instruction's own text
  abbrev behind : Instr → List ℕ → List ℕ
  behind one rest = told names (codes "  # defines") (defs_of one) ++ (told names (codes "  # uses") (uses_of one) ++ (10 ∷ rest))

  operands_end : (word rest : List ℕ) (operands : List Opnd) → ends (32 ∷ word) ≡ true → ends rest ≡ true →
      ends (told names (32 ∷ word) operands ++ rest) ≡ true
  operands_end word rest [] f h = h
  operands_end word rest (x ∷ operands) f h = refl

  behind_ends : (one : Instr) (rest : List ℕ) → ends (behind one rest) ≡ true
  behind_ends one rest =
      operands_end (codes " # defines") (told names (codes "  # uses") (uses_of one) ++ (10 ∷ rest)) (defs_of one) refl
      (operands_end (codes " # uses") (10 ∷ rest) (uses_of one) refl refl)

  line_then : (one : Instr) (rest : List ℕ) →
      instruction_line names one ++ rest ≡ blanks (instruction_margin one) ++ (instruction_text names one ++ behind one rest)
  line_then one rest =
      let defines = told names (codes "  # defines") (defs_of one) in
      let uses = told names (codes "  # uses") (uses_of one) in
      append_assoc (blanks (instruction_margin one)) (instruction_text names one ++ (defines ++ (uses ++ 10 ∷ []))) rest
      ∙ ap (λ r. blanks (instruction_margin one) ++ r)
      (append_assoc (instruction_text names one) (defines ++ (uses ++ 10 ∷ [])) rest
      ∙ ap (λ r. instruction_text names one ++ r) (append_assoc defines (uses ++ 10 ∷ []) rest ∙ ap (λ r. defines ++ r) (append_assoc uses (10 ∷ []) rest)))

  told_list : (list others : List Instr) → AllFit list → AllFit others → instruction_lines names list ≡ instruction_lines names others → list ≡ others
  told_list [] [] f g h = refl
  told_list [] (one ∷ rest) f g h =
      let w = instruction_text names one ++ behind one (instruction_lines names rest) in
      absurd
      (differ (byte 0 (blanks (instruction_margin one) ++ w)) 0 (begins_some names one w g.0)
      (sym (ap (byte 0) (h ∙ line_then one (instruction_lines names rest)))))
  told_list (one ∷ rest) [] f g h =
      let w = instruction_text names one ++ behind one (instruction_lines names rest) in
      absurd
      (differ (byte 0 (blanks (instruction_margin one) ++ w)) 0 (begins_some names one w f.0)
      (ap (byte 0) (sym (line_then one (instruction_lines names rest)) ∙ h)))
  told_list (one ∷ rest) (other ∷ others) f g h =
      let u = instruction_lines names rest in
      let v = instruction_lines names others in
      let a = told_one names one other (behind one u) (behind other v) f.0 g.0 (behind_ends one u) (behind_ends other v)
      (sym (line_then one u) ∙ h ∙ line_then other v) in
      let same : behind other u ≡ behind other v = ap (λ i. behind i u) (sym a.0) ∙ a.1 in
      let defines = append_cancel_left (told names (codes "  # defines") (defs_of other))
      (told names (codes "  # uses") (uses_of other) ++ (10 ∷ u)) (told names (codes "  # uses") (uses_of other) ++ (10 ∷ v)) same in
      let uses = append_cancel_left (told names (codes "  # uses") (uses_of other)) (10 ∷ u) (10 ∷ v) defines in
      let b = told_list rest others f.1 g.1 (ap (drop 1) uses) in
      (λ i. a.0 i ∷ b i)

pub instructions_are_told : InstructionsAreTold
instructions_are_told names list others f g h = told_list names list others f g (ap (drop 13) h)
