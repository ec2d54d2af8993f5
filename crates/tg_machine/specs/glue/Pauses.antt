-- How far a machine comes by itself: until a service is due, until the run ends, or as many steps
-- as it may make.
use Rattle.std.specs.Prelude.{ℕ, zero, suc, ◌≡◌, ◌<◌}
use Rattle.tg_machine_state.specs.Services.{Goes, Ends, service}
use Rattle.tg_machine_state.specs.State.{MachineState}
use Rattle.tg_isa.specs.Effects.{step}
use Rattle.tg_machine.specs.declared.pauses.Pause.{Pause}
use Rattle.tg_machine.specs.declared.pauses.Pause.TheVariants.{Due, Ended, Made}
use Rattle.tg_machine.specs.glue.Moves.{IsOwn}

-- so many steps, none of which reads or writes, lead from a state to another
abbrev pub RunsTo : ℕ → MachineState → MachineState → Type 0
RunsTo zero s t = t ≡ s
RunsTo (suc n) s t = (mid : MachineState) × RunsTo n s mid × (step mid ≡ Goes t)

-- What at most so many steps leave. A service is due in the state after its place; what a step
-- that ends the run leaves of the state isn't told.
abbrev pub Pauses : ℕ → (old new : MachineState) → Pause → Type 0
Pauses n old new (Due k) =
    (mid : MachineState) × (k < n) × RunsTo k old mid × (step mid ≡ service new)
Pauses n old new (Ended e) =
    (k : ℕ) × (mid : MachineState) × (k < n) × RunsTo k old mid × (step mid ≡ Ends e) × IsOwn e
Pauses n old new Made = RunsTo n old new
