use Rattle.std.proofs.Common.{◌≡◌, ℕ, ◌<◌, ◌+◌, Ok, slice_index}
use Rattle.tg_machine_state.specs.State.{load_byte}
use Rattle.tg_machine.proofs.cores.Core.copy.Given as goal

abbrev pub invariant-loop-k : goal.invariant-loop-k
invariant-loop-k l = (j : ℕ) → j < l.k → load_byte l.self (l.address + j) ≡ Ok (slice_index l.into j)
