use Rattle.std.proofs.Common.{◌≡◌, ℕ, ◌<◌, get_or}
use Rattle.tg_page.specs.Looks.{register_told}
use Rattle.tg_page.proofs.viewing.tell_registers.Given as goal

abbrev pub invariant-loop-at : goal.invariant-loop-at
invariant-loop-at l = (k : ℕ) → k < l.at → get_or l.registers k 0 ≡ register_told l.machine.state k
