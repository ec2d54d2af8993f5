-- Code in the frame is replaced instruction by instruction.
use Rattle.std.proofs.Common.{ℕ, ◌≡◌, List, [], ◌∷◌, ◌++◌, Option, Some, None, refl, ◌∙◌, subst, append_assoc}
use Rattle.std.specs.Prelude.{IsTrue}
use Rattle.std.specs.List.{list_all}
use Rattle.tg_instr.specs.declared.operands.Opnd.{Opnd}
use Rattle.tg_instr.specs.declared.operands.Opnd.TheVariants.{Temp, Reg}
use Rattle.tg_instr.specs.declared.instr.Instr.{Instr}
use Rattle.tg_instr.specs.declared.instr.Instr.TheVariants.{Jump, Fault, Return, Move}
use Rattle.tg_instr.specs.Codes.{is_end}
use Rattle.tg_instr.specs.Renaming.{named, renamed}
use Rattle.tg_instr.proofs.Tests.{all_append}
use Rattle.tg_regalloc.specs.mirror.InFrame.{through_named, loaded, stored, moved, through_slots, instruction_in_frame, code_in_frame}
use Rattle.tg_regalloc.proofs.Replacing.{is_access, Replaces, AreReplaced, around, by_accesses}
use Rattle.tg_regalloc.proofs.Replacing.AreReplaced.{none, also}

loaded_are_accesses : (base r : ℕ) (o : Option Opnd) → IsTrue (list_all is_access (loaded base r o))
loaded_are_accesses base r (Some (Temp t)) = refl
loaded_are_accesses base r (Some (Reg q)) = refl
loaded_are_accesses base r None = refl

stored_are_accesses : (base r : ℕ) (o : Option Opnd) → IsTrue (list_all is_access (stored base r o))
stored_are_accesses base r (Some (Temp t)) = refl
stored_are_accesses base r (Some (Reg q)) = refl
stored_are_accesses base r None = refl

-- a last instruction names no operand
end_alone : (base : ℕ) (x : Instr) → IsTrue (is_end x) → through_slots base x (named x) ≡ x ∷ []
end_alone base (Jump m) h = refl
end_alone base (Fault n) h = refl
end_alone base Return h = refl
end_alone base _ h = cc

through_replaces : (base : ℕ) (x : Instr) → Replaces x (through_slots base x (named x))
through_replaces base x =
    let n = named x in
    let before = loaded base 8 n.first ++ loaded base 9 n.second in
    let y = renamed x (through_named 8 n.to) (through_named 8 n.first) (through_named 9 n.second) in
    let e : before ++ (y ∷ stored base 8 n.to) ≡ through_slots base x n = append_assoc (loaded base 8 n.first) (loaded base 9 n.second) (y ∷ stored base 8 n.to) in
    subst (λ l. Replaces x l) e
    (around x (through_named 8 n.to) (through_named 8 n.first) (through_named 9 n.second) before (stored base 8 n.to)
    (all_append is_access (loaded base 8 n.first) (loaded base 9 n.second) (loaded_are_accesses base 8 n.first) (loaded_are_accesses base 9 n.second))
    (stored_are_accesses base 8 n.to)
    (λ h. e ∙ end_alone base x h))

move_replaces : (base : ℕ) (to from : Opnd) → Replaces (Move to from) (moved base to from)
move_replaces base (Temp t) (Temp s) = by_accesses (Temp t) (Temp s) _ refl
move_replaces base (Temp t) (Reg q) = by_accesses (Temp t) (Reg q) _ refl
move_replaces base (Reg r) (Temp s) = by_accesses (Reg r) (Temp s) _ refl
move_replaces base (Reg r) (Reg q) = around (Move (Reg r) (Reg q)) (Reg r) (Reg q) (Reg q) [] [] refl refl (λ h. refl)

replaced : (base : ℕ) (x : Instr) → Replaces x (instruction_in_frame base x)
replaced base (Move to from) = move_replaces base to from
replaced base x = through_replaces base x

pub are_framed : (base : ℕ) (list : List Instr) → AreReplaced list (code_in_frame base list)
are_framed base [] = none
are_framed base (x ∷ rest) = also x (instruction_in_frame base x) rest (code_in_frame base rest) (replaced base x) (are_framed base rest)
