use Rattle.std.proofs.Common.{◌≡◌, ℕ, List, IfOk, subst, string_bytes}
use Rattle.std.specs.Fmt.{decimal}
use Rattle.tg_driver.specs.Statuses.{rule_text}
use Rattle.tg_driver.proofs.LineLemmas.{pieces}
use Rattle.tg_driver.proofs.faults.fault_line.Goals as goal

pub returns : goal.returns
returns c =
    let P : List ℕ → Type 0 = λ z. IfOk c.located.result (λ s. string_bytes s ≡ z) in
    subst P (pieces (decimal c.args.fault.place.line) (decimal c.args.fault.place.column) (rule_text c.args.fault.rule))
    (rw c.rule_text.ensures at c.located.ensures)
