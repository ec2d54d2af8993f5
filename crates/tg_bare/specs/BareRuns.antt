-- Runs of the machine with delayed branches: by steps, with what they write, and by fuel.
use Rattle.std.specs.Prelude.{ℕ, zero, suc, ◌≡◌, ◌≤◌, List, [], ◌++◌, Option}
use Rattle.tg_machine_state.specs.declared.ends.RunEnd.{RunEnd}
use Rattle.tg_machine_state.specs.Services.{answered}
use Rattle.tg_simulation.specs.Runs.{Run}
use Rattle.tg_simulation.specs.Ran as ran
use Rattle.tg_simulation.specs.Ran.{Ran, stops, writes, works, StaysOver, OnlyGoesOn}
use Rattle.tg_isa.specs.declared.images.Image.{Image}
use Rattle.tg_isa.specs.Runs.{answers, first_answer, later_answers}
use Rattle.tg_isa.specs.ImageRuns.{first_byte, later_bytes}
use Rattle.tg_bare.specs.Delayed.{Bare, Did, Goes, Ends, Reads, Writes, bare_step, initial_bare}

abbrev pub answered_bare : Bare → Option ℕ → Bare
answered_bare b answer = record b { state = answered b.state answer }

-- A machine, what its reads will answer, and the output so far.
pub record BareExecution : Type 0 where
  pub machine : Bare
  pub input : List (Option ℕ)
  pub output : List ℕ

pub data BareProgress : Type 0 where
  Running : BareExecution → BareProgress
  Ended : RunEnd → BareExecution → BareProgress

-- a world after what its machine does
abbrev pub proceed_bare : BareExecution → Did → BareProgress
proceed_bare w (Goes b) = Running (record { machine = b; input = w.input; output = w.output })
proceed_bare w (Ends e) = Ended e w
proceed_bare w (Reads b) =
    Running (record {
      machine = answered_bare b (first_answer w.input);
      input = later_answers w.input;
      output = w.output;
    })
proceed_bare w (Writes bytes b) =
    Running (record { machine = b; input = w.input; output = w.output ++ bytes })

-- what at most so many steps come to
abbrev pub run_bare : ℕ → BareExecution → BareProgress
run_bare zero w = Running w
run_bare (suc n) w =
    elim (proceed_bare w (bare_step w.machine)) as (λ _. BareProgress) [
      | Running v ↦ run_bare n v
      | Ended e v ↦ Ended e v
    ]

-- a world whose input is these bytes, on which nothing was written yet
abbrev pub bare_begun : Bare → (bytes : List ℕ) → BareExecution
bare_begun b bytes = record { machine = b; input = answers bytes; output = [] }

-- what comes of a machine: a step takes a unit of fuel, and is a unit of work
abbrev pub bare_run : Bare → (input : List ℕ) → Run Ran
bare_run b input zero = stops input ran.WantsFuel
bare_run b input (suc n) = works 1 (elim (bare_step b) as (λ _. Ran) [
  | Goes t ↦ bare_run t input n
  | Ends e ↦ stops input (ran.Ended e)
  | Reads t ↦ bare_run (answered_bare t (first_byte input)) (later_bytes input) n
  | Writes bytes t ↦ writes bytes (bare_run t input n)
])

abbrev pub bare_image_run : Image → (input : List ℕ) → (heap stack : ℕ) → Run Ran
bare_image_run image input heap stack =
    bare_run (initial_bare image.code image.statics image.entry heap stack) input

-- it is what at most so many steps come to, on an input that is these bytes
abbrev pub IsBareRunOf : (n : ℕ) → BareProgress → Ran → Type 0
IsBareRunOf n (Running w) r =
    (r.output ≡ w.output) × (w.input ≡ answers r.input) × (r.stop ≡ ran.WantsFuel) × (r.work ≡ n)
IsBareRunOf n (Ended e w) r =
    (r.output ≡ w.output) × (w.input ≡ answers r.input) × (r.stop ≡ ran.Ended e) × (r.work ≤ n)

abbrev pub BareRunsByFuel : Type 0
BareRunsByFuel =
    (n : ℕ) (b : Bare) (input : List ℕ) →
    IsBareRunOf n (run_bare n (bare_begun b input)) (bare_run b input n)

-- what has ended stays so with more fuel, and with more fuel a run goes on
abbrev pub BareStaysOver : Type 0
BareStaysOver = (b : Bare) (input : List ℕ) → StaysOver (bare_run b input)

abbrev pub BareGoesOn : Type 0
BareGoesOn = (b : Bare) (input : List ℕ) → OnlyGoesOn (bare_run b input)

-- a machine that has ended did so in as many steps as it has worked
abbrev pub BareEndsByItsWork : Type 0
BareEndsByItsWork =
    (n : ℕ) (b : Bare) (input : List ℕ) (e : RunEnd) →
    (bare_run b input n).stop ≡ ran.Ended e →
    bare_run b input (bare_run b input n).work ≡ bare_run b input n
