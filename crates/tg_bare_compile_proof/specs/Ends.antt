-- What the end of a run with delayed branches says of the meaning of its program.
use Rattle.std.specs.Prelude.{ℕ, ◌*◌, ◌≡◌, ◌<◌}
use Rattle.tg_machine_state.specs.declared.ends.RunEnd.{RunEnd}
use Rattle.tg_machine_state.specs.declared.ends.RunEnd.TheVariants.{StepLimit}
use Rattle.tg_simulation.specs.Outcomes.{ended, Outcome}
use Rattle.tg_semantics.specs.Values.{Ending}
use Rattle.tg_isa.specs.Runs.{Execution}
use Rattle.tg_correctness.specs.Images.{most_steps}
use Rattle.tg_correctness.specs.Ends.{EndIsMeant}

-- It says what the end of a run without delay slots says, but that at the limit of steps every
-- evaluation that ends costs so much that more than so many times the steps are allowed for it.
abbrev pub EndIsMeantWithin :
    (times : ℕ) (means : (turns : ℕ) → Outcome Ending) → (steps : ℕ) → RunEnd → Execution →
    Type 0
EndIsMeantWithin times means steps StepLimit last =
    (turns : ℕ) (ending : Ending) → (means turns).end ≡ ended ending →
    steps < times * most_steps (means turns).cost
EndIsMeantWithin times means steps end last = EndIsMeant means steps end last
