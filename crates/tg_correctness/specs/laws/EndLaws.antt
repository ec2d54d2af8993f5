-- What the end of a run of so many steps says of the meaning of its program.
use Rattle.std.specs.Prelude.{ℕ, ◌≡◌, ◌<◌, ◌⊎◌}
use Rattle.tg_simulation.specs.Outcomes.{ended, Outcome}
use Rattle.tg_semantics.specs.Values.{Ending}
use Rattle.tg_semantics.specs.MachineEnds.{machine_end}
use Rattle.tg_isa.specs.Runs.{Execution, Progress, Running, Ended, run}
use Rattle.tg_correctness.specs.Images.{EndsAs, IsCutShort, most_steps, RunsAsMeant}

-- A run that still goes on has made fewer steps than are enough for any evaluation that ends. One
-- that has ended did all that the program means, and ended so; or a full stack cut it.
abbrev pub TellsMeaning : (means : ℕ → Outcome Ending) → (steps : ℕ) → Progress → Type 0
TellsMeaning means steps (Running w) =
    (n : ℕ) (e : Ending) → (means n).end ≡ ended e → steps < most_steps (means n).cost
TellsMeaning means steps (Ended f w) =
    (n : ℕ)
    × (((e : Ending) × ((means n).end ≡ ended e) × EndsAs (means n) (machine_end e) (Ended f w))
    ⊎ IsCutShort (means n) (Ended f w))

abbrev pub EndsTellMeaning : Type 0
EndsTellMeaning =
    (stack : ℕ) (means : ℕ → Outcome Ending) (w : Execution) (steps : ℕ) →
    RunsAsMeant stack means (λ m. run m w) → TellsMeaning means steps (run steps w)
