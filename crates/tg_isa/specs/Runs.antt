-- Runs of the machine on an input, with what they write.
use Rattle.std.specs.Prelude.{ℕ, zero, suc, List, [], ◌∷◌, ◌++◌, map, Option, Some, None}
use Rattle.tg_machine_state.specs.declared.ends.RunEnd.{RunEnd}
use Rattle.tg_machine_state.specs.State.{MachineState}
use Rattle.tg_machine_state.specs.Services.{Step, Goes, Ends, Reads, Writes, answered}
use Rattle.tg_isa.specs.Effects.{step}

-- A machine, what its reads will answer (a byte, or None for the end of input; past the list, the
-- end), and the output so far.
pub record Execution : Type 0 where
  pub machine : MachineState
  pub input : List (Option ℕ)
  pub output : List ℕ

pub data Progress : Type 0 where
  Running : Execution → Progress
  Ended : RunEnd → Execution → Progress

-- the answers of an input that is these bytes
abbrev pub answers : List ℕ → List (Option ℕ)
answers bytes = map Some bytes

abbrev pub first_answer : List (Option ℕ) → Option ℕ
first_answer [] = None
first_answer (a ∷ rest) = a

abbrev pub later_answers : List (Option ℕ) → List (Option ℕ)
later_answers [] = []
later_answers (a ∷ rest) = rest

-- a world after what its machine does
abbrev pub proceed : Execution → Step → Progress
proceed w (Goes s) = Running (record { machine = s; input = w.input; output = w.output })
proceed w (Ends e) = Ended e w
proceed w (Reads s) =
    Running (record {
      machine = answered s (first_answer w.input);
      input = later_answers w.input;
      output = w.output;
    })
proceed w (Writes bytes s) =
    Running (record { machine = s; input = w.input; output = w.output ++ bytes })

-- what at most so many steps come to
abbrev pub run : ℕ → Execution → Progress
run zero w = Running w
run (suc n) w =
    elim (proceed w (step w.machine)) as (λ _. Progress) [
      | Running v ↦ run n v
      | Ended e v ↦ Ended e v
    ]

-- a world of a machine on which nothing was written yet
abbrev pub begun : MachineState → List (Option ℕ) → Execution
begun s input = record { machine = s; input = input; output = [] }
