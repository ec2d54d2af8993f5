-- Fetches of small programs, computed by the definition.
use Rattle.std.proofs.Common.{false, ◌≡◌, ℕ, List, [], ◌∷◌, None, Some, refl}
use Rattle.tg_machine_state.specs.State.{MachineState, initial_machine}
use Rattle.tg_machine_state.specs.declared.ends.RunEnd.TheVariants.{Break}
use Rattle.tg_isa.specs.Runs.{begun}
use Rattle.tg_machine.specs.declared.fetches.Seen.{Seen}
use Rattle.tg_machine.specs.Fetches.{fetches, seen_at, seen_next}
use Rattle.tg_machine.specs.Machines.{simulated}

abbrev program : List ℕ → MachineState
program words = initial_machine words [] 0x00400000 0 0

abbrev seen : ℕ → ℕ → Seen
seen place word = record { place = place; word = word }

-- main: break 3
break : fetches 1000 (begun (program (0xcd ∷ [])) []) ≡ seen 0x00400000 0xcd ∷ []
break = refl

-- main: jr $ra, whose second step fetches at place 0, which isn't seen
return : fetches 1000 (begun (program (0x03e00008 ∷ [])) []) ≡ seen 0x00400000 0x03e00008 ∷ []
return = refl

-- main: addiu $v0, $zero, 10; syscall
exit : fetches 1000 (begun (program (0x2402000a ∷ 0x0000000c ∷ [])) []) ≡ seen 0x00400000 0x2402000a ∷ seen 0x00400004 0x0000000c ∷ []
exit = refl

-- a word outside the table is seen
outside : fetches 1000 (begun (program (0xffffffff ∷ [])) []) ≡ seen 0x00400000 0xffffffff ∷ []
outside = refl

-- no more steps than are asked for
one_step : fetches 1 (begun (program (0x2402000a ∷ 0x0000000c ∷ [])) []) ≡ seen 0x00400000 0x2402000a ∷ []
one_step = refl

-- a machine that has ended fetches nothing
ended : seen_next (simulated (program (0xcd ∷ [])) (Some (Break 3)) 0 false) ≡ None
ended = refl

-- a place between two words isn't seen
between : seen_at (initial_machine (0xcd ∷ []) [] 0x00400002 0 0) ≡ []
between = refl
