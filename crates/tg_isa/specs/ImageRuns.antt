-- The machine's run of an image as a run by fuel: a step takes a unit of fuel, and is a unit of
-- work.
use Rattle.std.specs.Prelude.{ℕ, zero, suc, ◌≡◌, ◌≤◌, List, [], ◌∷◌, Option, Some, None}
use Rattle.tg_machine_state.specs.declared.ends.RunEnd.{RunEnd}
use Rattle.tg_machine_state.specs.State.{MachineState, initial_machine}
use Rattle.tg_machine_state.specs.Services.{Goes, Ends, Reads, Writes, answered}
use Rattle.tg_simulation.specs.Runs.{Run}
use Rattle.tg_simulation.specs.Ran as ran
use Rattle.tg_simulation.specs.Ran.{Ran, stops, writes, works, StaysOver, OnlyGoesOn}
use Rattle.tg_isa.specs.declared.images.Image.{Image}
use Rattle.tg_isa.specs.Effects.{step}
use Rattle.tg_isa.specs.Runs.{Progress, Running, Ended, run, begun, answers}

abbrev pub first_byte : List ℕ → Option ℕ
first_byte [] = None
first_byte (b ∷ rest) = Some b

abbrev pub later_bytes : List ℕ → List ℕ
later_bytes [] = []
later_bytes (b ∷ rest) = rest

-- what comes of a machine from a state on
abbrev pub machine_run : MachineState → (input : List ℕ) → Run Ran
machine_run s input zero = stops input ran.WantsFuel
machine_run s input (suc n) = works 1 (elim (step s) as (λ _. Ran) [
  | Goes t ↦ machine_run t input n
  | Ends e ↦ stops input (ran.Ended e)
  | Reads t ↦ machine_run (answered t (first_byte input)) (later_bytes input) n
  | Writes bytes t ↦ writes bytes (machine_run t input n)
])

abbrev pub image_run : Image → (input : List ℕ) → (heap stack : ℕ) → Run Ran
image_run image input heap stack =
    machine_run (initial_machine image.code image.statics image.entry heap stack) input

-- it is what at most so many steps come to, on an input that is these bytes
abbrev pub IsRunOf : (n : ℕ) → Progress → Ran → Type 0
IsRunOf n (Running w) r =
    (r.output ≡ w.output) × (w.input ≡ answers r.input) × (r.stop ≡ ran.WantsFuel) × (r.work ≡ n)
IsRunOf n (Ended e w) r =
    (r.output ≡ w.output) × (w.input ≡ answers r.input) × (r.stop ≡ ran.Ended e) × (r.work ≤ n)

abbrev pub RunsByFuel : Type 0
RunsByFuel =
    (n : ℕ) (s : MachineState) (input : List ℕ) →
    IsRunOf n (run n (begun s (answers input))) (machine_run s input n)

-- what has ended stays so with more fuel, and with more fuel a run goes on
abbrev pub MachineStaysOver : Type 0
MachineStaysOver = (s : MachineState) (input : List ℕ) → StaysOver (machine_run s input)

abbrev pub MachineGoesOn : Type 0
MachineGoesOn = (s : MachineState) (input : List ℕ) → OnlyGoesOn (machine_run s input)

-- a machine that has ended did so in as many steps as it has worked
abbrev pub MachineEndsByItsWork : Type 0
MachineEndsByItsWork =
    (n : ℕ) (s : MachineState) (input : List ℕ) (e : RunEnd) →
    (machine_run s input n).stop ≡ ran.Ended e →
    machine_run s input (machine_run s input n).work ≡ machine_run s input n
