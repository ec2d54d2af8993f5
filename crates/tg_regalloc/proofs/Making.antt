-- Code in the frame, one instruction after another.
use Rattle.std.proofs.Common.{ℕ, ◌≡◌, List, [], ◌∷◌, ◌++◌, ap, sym, ◌∙◌, append_assoc, append-nil}
use Rattle.tg_instr.specs.declared.instr.Instr.{Instr}
use Rattle.tg_regalloc.specs.mirror.InFrame.{instruction_in_frame, code_in_frame}

pub code_more : (base : ℕ) (xs : List Instr) (x : Instr) → code_in_frame base (xs ++ x ∷ []) ≡ code_in_frame base xs ++ instruction_in_frame base x
code_more base [] x = append-nil (instruction_in_frame base x)
code_more base (y ∷ xs) x =
    ap (λ l. instruction_in_frame base y ++ l) (code_more base xs x)
    ∙ sym (append_assoc (instruction_in_frame base y) (code_in_frame base xs) (instruction_in_frame base x))
