-- The laws of calls of the machine.
use Rattle.std.specs.Prelude.{ℕ, ◌≡◌, ◌≢◌, ◌+◌, ◌++◌, List, Option, None, IfSome}
use Rattle.tg_machine_state.specs.declared.ends.RunEnd.{RunEnd}
use Rattle.tg_machine_state.specs.declared.ends.RunEnd.TheVariants.{StepLimit}
use Rattle.tg_machine.specs.declared.fetches.Seen.{Seen}
use Rattle.tg_machine.specs.declared.status.Status.{Status}
use Rattle.tg_machine.specs.declared.status.Status.TheVariants.{Ended}
use Rattle.tg_machine.specs.Machines.{Simulated, HasEnded, end_of}
use Rattle.tg_machine.specs.Ran.{IsSimulation}
use Rattle.tg_machine.specs.Fetches.{IsWatched}

-- Calls can be chained: so many steps, all made, and then so many more, are a call of as many steps
-- together.
abbrev pub CallsChain : (I O : Type 0) → Type 0
CallsChain I O =
    (left : I → Option (List ℕ)) (read_faults : I → ℕ)
    (taken : O → Option (List ℕ)) (write_faults : O → ℕ)
    (k n : ℕ) (old mid new : Simulated) (first input input' : I) (start out out' : O) (e : RunEnd) →
    IsSimulation left read_faults taken write_faults k old mid first input start out StepLimit →
    IsSimulation left read_faults taken write_faults n mid new input input' out out' e →
    IsSimulation left read_faults taken write_faults (k + n) old new first input' start out' e

-- So can calls with what they fetch: the fetches of the two, in order, are those of the call
-- together.
abbrev pub WatchedCallsChain : (I O : Type 0) → Type 0
WatchedCallsChain I O =
    (left : I → Option (List ℕ)) (read_faults : I → ℕ)
    (taken : O → Option (List ℕ)) (write_faults : O → ℕ)
    (k n : ℕ) (old mid new : Simulated) (first input input' : I) (start out out' : O) (e : RunEnd)
    (s t : List Seen) →
    IsWatched left read_faults taken write_faults k old mid first input start out StepLimit s →
    IsWatched left read_faults taken write_faults n mid new input input' out out' e t →
    IsWatched left read_faults taken write_faults (k + n) old new first input' start out' e (s ++ t)

-- what a call of so many steps promises: it runs the machine, or answers the end again
pub record HasCalled {I O : Type 0}
    (left : I → Option (List ℕ)) (read_faults : I → ℕ)
    (taken : O → Option (List ℕ)) (write_faults : O → ℕ)
    (n : ℕ) (old new : Simulated) (input input' : I) (out out' : O) (e : RunEnd) : Type 0 where
  pub ran : old.end ≡ None →
      IsSimulation left read_faults taken write_faults n old new input input' out out' e
  pub again : IfSome old.end (λ g. (e ≡ g) × HasEnded old new input input' out out')

-- what a step promises
pub record HasStepped {I O : Type 0}
    (left : I → Option (List ℕ)) (read_faults : I → ℕ)
    (taken : O → Option (List ℕ)) (write_faults : O → ℕ)
    (old new : Simulated) (input input' : I) (out out' : O) (status : Status) : Type 0 where
  pub ran : old.end ≡ None →
      IsSimulation left read_faults taken write_faults 1 old new input input' out out' (end_of status)
  pub again : IfSome old.end (λ g. (status ≡ Ended g) × HasEnded old new input input' out out')

-- After a call that answered another end than the limit of steps, a call and a step answer that end
-- again, and leave the machine, the source and the sink as they are.
abbrev pub EndsAgain : (I O : Type 0) → Type 0
EndsAgain I O =
    (left : I → Option (List ℕ)) (read_faults : I → ℕ)
    (taken : O → Option (List ℕ)) (write_faults : O → ℕ)
    (k n : ℕ) (old mid new : Simulated) (first input input' : I) (start out out' : O)
    (e f : RunEnd) →
    HasCalled left read_faults taken write_faults k old mid first input start out e →
    e ≢ StepLimit →
    HasCalled left read_faults taken write_faults n mid new input input' out out' f →
    (f ≡ e) × HasEnded mid new input input' out out'

abbrev pub StepsEndAgain : (I O : Type 0) → Type 0
StepsEndAgain I O =
    (left : I → Option (List ℕ)) (read_faults : I → ℕ)
    (taken : O → Option (List ℕ)) (write_faults : O → ℕ)
    (k : ℕ) (old mid new : Simulated) (first input input' : I) (start out out' : O)
    (e : RunEnd) (status : Status) →
    HasCalled left read_faults taken write_faults k old mid first input start out e →
    e ≢ StepLimit →
    HasStepped left read_faults taken write_faults mid new input input' out out' status →
    (status ≡ Ended e) × HasEnded mid new input input' out out'
