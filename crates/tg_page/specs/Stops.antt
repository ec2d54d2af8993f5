-- How far a debugger lets a machine run: up to a number of steps, its end, or a breakpoint.
use Rattle.std.specs.Prelude.{ℕ, ◌+◌, ◌-◌, ◌*◌, ◌^◌, ◌≡◌, ◌<◌, ◌≤◌, ◌==◌, List, drop, length, min}
use Rattle.std.specs.Prelude.{All, count_by, slice_index, Bool, true, false, Option, Some, None}
use Rattle.std.specs.Prelude.{IsSome}
use Rattle.std.specs.List.{list_any}
use Rattle.tg_machine_state.specs.declared.ends.RunEnd.{RunEnd}
use Rattle.tg_machine_state.specs.State.{code_base}
use Rattle.tg_machine.specs.declared.fetches.Seen.{Seen}
use Rattle.tg_machine.specs.Fetches.{IsWatched, seen_next}
use Rattle.tg_machine.specs.Machines.{Simulated}

-- a fetch is at one of these places
abbrev pub is_at : List ℕ → Seen → Bool
is_at breakpoints x = list_any (λ place. place == x.place) breakpoints

-- what is fetched next, if anything is, is at one of these places
abbrev pub next_is_at : List ℕ → Option Seen → Bool
next_is_at breakpoints (Some x) = is_at breakpoints x
next_is_at breakpoints None = false

-- how many of these fetches are at a place
abbrev pub fetched_at : ℕ → List Seen → ℕ
fetched_at place seen = count_by (λ x. x.place == place) seen

-- To the count of each word of the code its fetches are added. A count stands still at the greatest
-- u32.
pub record AreCounted (seen : List Seen) (old new : List ℕ) : Type 0 where
  pub same : length new ≡ length old
  pub counts : (k : ℕ) → k < length old →
      slice_index new k ≡ min (slice_index old k + fetched_at (code_base + 4 * k) seen) (2 ^ 32 - 1)

-- why a run stops: all steps are made, the machine has ended, or the next fetch is at a breakpoint,
-- after the steps that pass them over
pub data Halts (steps passing : ℕ) (breakpoints : List ℕ)
    (machine : Simulated) (made : ℕ) : Type 0 where
  all_made : made ≡ steps → Halts steps passing breakpoints machine made
  ended : made ≤ steps → IsSome machine.end → Halts steps passing breakpoints machine made
  at_breakpoint :
      made < steps →
      passing ≤ made →
      next_is_at breakpoints (seen_next machine) ≡ true →
      Halts steps passing breakpoints machine made

-- A run of so many steps, whose fetches are counted. After those that pass breakpoints over, none
-- of them is at one; so it stops at the first.
pub record RunsToStop {I O : Type 0}
    (left : I → Option (List ℕ)) (read_faults : I → ℕ)
    (taken : O → Option (List ℕ)) (write_faults : O → ℕ)
    (steps passing : ℕ) (breakpoints : List ℕ)
    (old new : Simulated) (input input' : I) (out out' : O) (counts counts' : List ℕ)
    (made : ℕ) : Type 0 where
  pub end : RunEnd
  pub seen : List Seen
  pub run :
      IsWatched left read_faults taken write_faults made old new input input' out out' end seen
  pub passed : All (λ x. is_at breakpoints x ≡ false) (drop passing seen)
  pub counted : AreCounted seen counts counts'
  pub halts : Halts steps passing breakpoints new made
