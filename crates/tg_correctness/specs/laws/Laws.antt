-- What the passes promise of one program, each with its constants, and what comes of it together.
use Rattle.std.specs.Prelude.{ℕ, List}
use Rattle.tg_machine_state.specs.State.{initial_machine}
use Rattle.tg_syntax.specs.Tree.{Exp}
use Rattle.tg_simulation.specs.Runs.{Run}
use Rattle.tg_simulation.specs.Ran.{Ran, StaysOver}
use Rattle.tg_simulation.specs.Preserving.{Preserves}
use Rattle.tg_simulation.specs.Agreement as by_fuel
use Rattle.tg_simulation.specs.Agreement.{Source, Follows, FillsStack}
use Rattle.tg_simulation.specs.laws.Laws.{NeverEndsFull, NeverStuck}
use Rattle.tg_semantics.specs.MachineRuns.{program_run}
use Rattle.tg_asm_text.specs.Assembly.{Assembled}
use Rattle.tg_isa.specs.ImageRuns.{machine_run}
use Rattle.tg_semantics.specs.Direct.{evaluate}
use Rattle.tg_correctness.specs.Images.{RunsAsMeant, runs_to}

-- The constants of the passes: units of work of the trees for each unit of the program's cost, and
-- besides.
abbrev pub tree_work : ℕ
tree_work = 256

abbrev pub tree_besides : ℕ
tree_besides = 64

-- units after chapter 8; words of an allocation for each unit of flat code, and those of the first
-- activation's kept registers; the entry of the first activation, and the fetch after its return
abbrev pub flat_besides : ℕ
flat_besides = 1

abbrev pub unit_words : ℕ
unit_words = 13

abbrev pub kept_words : ℕ
kept_words = 117

abbrev pub machine_besides : ℕ
machine_besides = 5

-- what each pass promises of one program, in the form that it has before the pass and after it:
-- trees follow the source, and each form does what the one before it does
pub record ArePreserved (stack : ℕ) (source : Run Source)
    (trees flat instructions registers machine : Run Ran) : Type 0 where
  pub translated : (n : ℕ) → Follows stack tree_work tree_besides n source trees
  pub flattened : Preserves 1 flat_besides trees flat
  pub chosen : Preserves unit_words kept_words flat instructions
  pub allocated : Preserves 1 0 instructions registers
  pub emitted : Preserves 1 machine_besides registers machine

-- the constants of all of them
abbrev pub most_work : ℕ
most_work = 4096

abbrev pub most_besides : ℕ
most_besides = 65536

abbrev pub PassesAgree : Type 0
PassesAgree =
    (stack : ℕ) (source : Run Source) (trees flat instructions registers machine : Run Ran) →
    NeverEndsFull source → NeverStuck source → StaysOver trees → StaysOver machine →
    ArePreserved stack source trees flat instructions registers machine →
    by_fuel.Agrees most_work most_besides source machine × FillsStack stack source machine

-- agreement by fuel is what is said of an image
abbrev pub AgreementIsMeant : Type 0
AgreementIsMeant =
    (names : List (List ℕ)) (program : Exp) (image : Assembled) (input : List ℕ)
    (heap stack : ℕ) →
    let source = program_run names program input heap stack in
    let machine =
    machine_run (initial_machine image.code image.statics image.entry heap stack) input in
    by_fuel.Agrees most_work most_besides source machine →
    FillsStack stack source machine →
    RunsAsMeant stack
    (λ turns. evaluate names program input heap stack turns)
    (λ steps. runs_to image input heap stack steps)
