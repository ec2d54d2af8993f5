-- What comes of a run of code from a moment on.
use Rattle.std.specs.Prelude.{ℕ, ◌+◌, ◌≡◌, ◌≤◌, List, [], ◌++◌}
use Rattle.tg_machine_state.specs.declared.ends.RunEnd.{RunEnd}
use Rattle.tg_simulation.specs.Runs.{Run}

-- how it stops: by an end of the machine, since it wants more fuel, or since it has gone wrong
pub data Stop : Type 0 where
  Ended : RunEnd → Stop
  WantsFuel Wrong : Stop

-- what it writes, the input that is left when it stops, and the units of work that it does
pub record Ran : Type 0 where
  pub output : List ℕ
  pub input : List ℕ
  pub stop : Stop
  pub work : ℕ

-- it stops at once
abbrev pub stops : (input : List ℕ) → Stop → Ran
stops input stop = record { output = []; input = input; stop = stop; work = 0 }

-- what comes of first writing bytes, or of first doing work
abbrev pub writes : List ℕ → Ran → Ran
writes bytes p = record p { output = bytes ++ p.output }

abbrev pub works : ℕ → Ran → Ran
works k p = record p { work = k + p.work }

-- more fuel changes nothing
abbrev pub IsOver : Stop → Type 0
IsOver (Ended e) = Unit {0}
IsOver WantsFuel = ⊥
IsOver Wrong = Unit {0}

-- what is over stays so with more fuel
abbrev pub StaysOver : Run Ran → Type 0
StaysOver c = (i j : ℕ) → i ≤ j → IsOver (c i).stop → c j ≡ c i

-- the second writes more, reads more of the input and does more work
pub record GoesOn (p q : Ran) : Type 0 where
  pub output : (more : List ℕ) × (q.output ≡ p.output ++ more)
  pub input : (read : List ℕ) × (p.input ≡ read ++ q.input)
  pub work : p.work ≤ q.work

-- with more fuel a run goes on from what it was with less
abbrev pub OnlyGoesOn : Run Ran → Type 0
OnlyGoesOn c = (i j : ℕ) → i ≤ j → GoesOn (c i) (c j)
