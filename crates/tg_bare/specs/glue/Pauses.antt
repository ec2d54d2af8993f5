-- How far a machine comes by itself: until a service is due, until the run ends, or as many steps
-- as it may make.
use Rattle.std.specs.Prelude.{ℕ, zero, suc, ◌≡◌, ◌<◌}
use Rattle.tg_machine_state.specs.Services.{service}
use Rattle.tg_machine.specs.glue.Moves.{IsOwn}
use Rattle.tg_bare.specs.declared.pauses.Pause.{Pause}
use Rattle.tg_bare.specs.declared.pauses.Pause.TheVariants.{Due, Ended, Made}
use Rattle.tg_bare.specs.Delayed.{Bare, Goes, Ends, bare_step}
use Rattle.tg_bare.specs.glue.Moves.{within}

-- so many steps, none of which reads or writes, lead from a machine to another
abbrev pub BareRunsTo : ℕ → Bare → Bare → Type 0
BareRunsTo zero b c = c ≡ b
BareRunsTo (suc n) b c = (mid : Bare) × BareRunsTo n b mid × (bare_step mid ≡ Goes c)

-- What at most so many steps leave. A service is due in the state after its place; what a step
-- that ends the run leaves of the machine isn't told.
abbrev pub BarePauses : ℕ → (old new : Bare) → Pause → Type 0
BarePauses n old new (Due k) =
    (mid : Bare) × (k < n) × BareRunsTo k old mid × (bare_step mid ≡ within new (service new.state))
BarePauses n old new (Ended e) =
    (k : ℕ) × (mid : Bare) × (k < n) × BareRunsTo k old mid × (bare_step mid ≡ Ends e) × IsOwn e
BarePauses n old new Made = BareRunsTo n old new
