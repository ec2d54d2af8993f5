-- What the steps of a run fetch, as a watcher sees them (MIPS I manual, appendix A: a step fetches
-- the word at its place).
use Rattle.std.specs.Prelude.{ℕ, zero, suc, ◌+◌, ◌*◌, ◌/◌, ◌%◌, ◌==◌, ◌≡◌, List, [], ◌∷◌, ◌++◌}
use Rattle.std.specs.Prelude.{length, slice_index, if◌then◌else◌, Bool, true, false, Option}
use Rattle.std.specs.Prelude.{Some, None}
use Rattle.tg_machine_state.specs.declared.ends.RunEnd.{RunEnd}
use Rattle.tg_machine_state.specs.State.{MachineState, code_base, offset}
use Rattle.tg_isa.specs.Effects.{step}
use Rattle.tg_isa.specs.Runs.{Execution, Running, Ended, proceed}
use Rattle.tg_machine.specs.declared.fetches.Seen.{Seen}
use Rattle.tg_machine.specs.Machines.{Simulated}
use Rattle.tg_machine.specs.Ran.{Stops, still, ended, read_failed, write_failed, IsSimulation}
use Rattle.tg_machine.specs.Ran.{MayFollow}

-- the word of the code at so many bytes after its base, with the place
abbrev pub seen_there : MachineState → Option ℕ → Option Seen
seen_there s (Some i) = Some (record { place = s.place; word = slice_index s.code (i / 4) })
seen_there s None = None

-- what a step from a state fetches, where its place is that of a word of the code
abbrev pub seen_of : MachineState → Option Seen
seen_of s =
    if s.place % 4 == 0 then seen_there s (offset s.place code_base (4 * length s.code)) else None

-- what the next step of a machine fetches: nothing where it has ended
abbrev pub next_of : Option RunEnd → MachineState → Option Seen
next_of (Some e) s = None
next_of None s = seen_of s

abbrev pub seen_next : Simulated → Option Seen
seen_next m = next_of m.end m.state

-- the same as a list
abbrev pub if_seen : Option Seen → List Seen
if_seen (Some x) = x ∷ []
if_seen None = []

abbrev pub seen_at : MachineState → List Seen
seen_at s = if_seen (seen_of s)

-- the fetches of at most so many steps, in order, up to where the run ends
abbrev pub fetches : ℕ → Execution → List Seen
fetches zero w = []
fetches (suc n) w =
    seen_at w.machine ++ elim (proceed w (step w.machine)) as (λ _. List Seen) [
      | Running v ↦ fetches n v
      | Ended e v ↦ []
    ]

-- the fetches of a call, by how it stops: a step that fails to read or to write is fetched too
abbrev pub fetches_until : {n : ℕ} {w : Execution} {e : RunEnd} {last : Execution}
    {front : List ℕ} → Stops n w e last front → List Seen
fetches_until {n} {w} (still runs limit whole) = fetches n w
fetches_until {n} {w} (ended runs whole) = fetches n w
fetches_until {n} {w} (read_failed i within comes reading fault whole) = fetches (i + 1) w
fetches_until {n} {w} (write_failed i rest within comes writing fault) = fetches (i + 1) w

-- the bytes that a source still tells, where its end wasn't met
abbrev pub rest_after : (ended : Bool) → Option (List ℕ) → List ℕ
rest_after true left = []
rest_after false None = []
rest_after false (Some bytes) = bytes

-- the call runs the machine, and these are the fetches of that very run
pub record IsWatched {I O : Type 0}
    (left : I → Option (List ℕ)) (read_faults : I → ℕ)
    (taken : O → Option (List ℕ)) (write_faults : O → ℕ)
    (n : ℕ) (old new : Simulated) (input input' : I) (out out' : O) (e : RunEnd)
    (seen : List Seen) : Type 0 where
  pub simulation : IsSimulation left read_faults taken write_faults n old new input input' out out' e
  pub may : MayFollow new.input_ended (rest_after new.input_ended (left input'))
  pub seen_is :
      seen ≡ fetches_until (simulation.stops (rest_after new.input_ended (left input')) may)
