use Rattle.std.proofs.Common.{◌≡◌, ℕ, List, IfOk, subst, string_bytes}
use Rattle.std.specs.Fmt.{decimal}
use Rattle.tg_driver.specs.Statuses.{asm_text}
use Rattle.tg_driver.proofs.LineLemmas.{line_pieces}
use Rattle.tg_driver.proofs.faults.bad_line.Goals as goal

pub returns : goal.returns
returns c =
    let P : List ℕ → Type 0 = λ z. IfOk c.numbered.result (λ s. string_bytes s ≡ z) in
    subst P (line_pieces (decimal c.args.line) (asm_text c.args.rule)) (rw c.asm_text.ensures at c.numbered.ensures)
