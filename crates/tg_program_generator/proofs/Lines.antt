-- The lines of functions, one after another.
use Rattle.std.proofs.Common.{◌≡◌, ◌+◌, ◌++◌, ℕ, suc, List, append_assoc, ap, subst, ◌∙◌, arith}
use Rattle.tg_program_generator.specs.Generated.{function_line, function_lines, head_lines}

pub one_more : (text : List ℕ) (i : ℕ) → text ≡ head_lines ++ function_lines i → text ++ function_line (i + 1) ≡ head_lines ++ function_lines (i + 1)
one_more text i e =
    let P : ℕ → Type 0 = λ k. text ++ function_line k ≡ head_lines ++ function_lines k in
    let next : suc i ≡ i + 1 = omega arith in
    subst P next (ap (λ t. t ++ function_line (suc i)) e ∙ append_assoc head_lines (function_lines i) (function_line (suc i)))
