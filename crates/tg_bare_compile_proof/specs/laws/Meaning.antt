-- Agreement by fuel of the machine with delayed branches, in steps.
use Rattle.std.specs.Prelude.{ℕ, ◌*◌, List}
use Rattle.tg_simulation.specs.Agreement as by_fuel
use Rattle.tg_simulation.specs.Agreement.{FillsStack}
use Rattle.tg_simulation.specs.Outcomes.{Outcome}
use Rattle.tg_semantics.specs.Values.{Ending}
use Rattle.tg_semantics.specs.MachineRuns.{program_run}
use Rattle.tg_semantics.specs.Direct.{evaluate}
use Rattle.tg_syntax.specs.Tree.{Exp}
use Rattle.tg_asm_text.specs.Assembly.{Assembled}
use Rattle.tg_isa.specs.Runs.{Progress}
use Rattle.tg_bare_proof.specs.laws.Laws.{image_run}
use Rattle.tg_correctness.specs.Images.{RunsAsMeant}
use Rattle.tg_correctness.specs.laws.Laws.{most_work, most_besides}
use Rattle.tg_bare_compile_proof.specs.Images.{RunsAsMeantWithin, slot_times, bare_runs_to}

-- What is asked of the machine without delay slots is this, with the steps once: each way.
pub record IsOnce (stack : ℕ) (means : ℕ → Outcome Ending) (does : ℕ → Progress) : Type 0 where
  pub once : RunsAsMeant stack means does → RunsAsMeantWithin 1 stack means does
  pub back : RunsAsMeantWithin 1 stack means does → RunsAsMeant stack means does

abbrev pub OnceIsAsMeant : Type 0
OnceIsAsMeant =
    (stack : ℕ) (means : ℕ → Outcome Ending) (does : ℕ → Progress) → IsOnce stack means does

-- agreement by fuel is what is said of an image
abbrev pub BareAgreementIsMeant : Type 0
BareAgreementIsMeant =
    (names : List (List ℕ)) (program : Exp) (image : Assembled) (input : List ℕ)
    (heap stack : ℕ) →
    let source = program_run names program input heap stack in
    let machine = image_run image input heap stack in
    by_fuel.Agrees (slot_times * most_work) (slot_times * most_besides) source machine →
    FillsStack stack source machine →
    RunsAsMeantWithin slot_times stack
    (λ turns. evaluate names program input heap stack turns)
    (λ steps. bare_runs_to image input heap stack steps)
