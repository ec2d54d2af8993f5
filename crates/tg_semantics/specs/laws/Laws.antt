-- Laws of evaluation.
use Rattle.std.specs.Prelude.{◌≡◌, ◌≢◌, ◌≤◌, ℕ, suc, ◌+◌, List, ◌++◌, Some}
use Rattle.tg_syntax.specs.Tree.{Exp}
use Rattle.tg_simulation.specs.Outcomes.{ended, out_of_fuel, stuck, Outcome}
use Rattle.tg_semantics.specs.Values.{Value, Env, Ending, normal, initial_world}
use Rattle.tg_semantics.specs.Environments.{outermost_entries}
use Rattle.tg_semantics.specs.Evaluation.{Job, eval, run, run_program, meaning}
use Rattle.tg_semantics.specs.Direct.{RunState, Direct, direct, told_outcome, outcome, evaluate}
use Rattle.tg_semantics.specs.Passing.{Rest, Passing, passing, ends, evaluate_passing}

-- evaluation by results and evaluation that passes along what comes next have one outcome
abbrev pub FormsAgree : Type 0
FormsAgree =
    (names : List (List ℕ)) (body : Exp) (input : List ℕ) (heap stack fuel : ℕ) →
    evaluate names body input heap stack fuel ≡ evaluate_passing names body input heap stack fuel

-- the first goes on as the second: more is written, more of the input is read, the heap, the cost
-- and the greatest depth don't fall, and what was written when the limit was passed stays
pub record OutcomeGoesOn (o o' : Outcome Ending) : Type 0 where
  pub output : (more : List ℕ) × (o'.output ≡ o.output ++ more)
  pub input : (read : List ℕ) × (o.input ≡ read ++ o'.input)
  pub heap : o.heap ≤ o'.heap
  pub cost : o.cost ≤ o'.cost
  pub past_limit :
      (past : List ℕ) →
      o.output_past_limit ≡ Some past →
      o'.output_past_limit ≡ Some past
  pub deepest : o.deepest ≤ o'.deepest

-- each expression goes on from what was so far
abbrev pub so_far : RunState → Outcome Ending
so_far s = told_outcome out_of_fuel s

abbrev pub NothingIsTakenBack : Type 0
NothingIsTakenBack =
    (heap stack bound : ℕ) (e : Exp) (env : Env) (s : RunState) →
    let after_turn : Job → Direct Value = λ job. meaning Direct (direct heap stack) bound job in
    OutcomeGoesOn (so_far s) (outcome (eval Direct (direct heap stack) after_turn e env s))

-- a run that isn't out of fuel is the same with more fuel
abbrev pub MoreFuelIsIdle : Type 0
MoreFuelIsIdle =
    (names : List (List ℕ)) (body : Exp) (input : List ℕ) (heap stack fuel more : ℕ) →
    (evaluate names body input heap stack fuel).end ≢ out_of_fuel →
    evaluate names body input heap stack (fuel + more) ≡ evaluate names body input heap stack fuel

-- and one that is goes on
abbrev pub MoreFuelGoesOn : Type 0
MoreFuelGoesOn =
    (names : List (List ℕ)) (body : Exp) (input : List ℕ) (heap stack fuel more : ℕ) →
    OutcomeGoesOn
    (evaluate names body input heap stack fuel)
    (evaluate names body input heap stack (fuel + more))

-- two amounts of fuel that are enough give one outcome
abbrev pub HasOneOutcome : Type 0
HasOneOutcome =
    (names : List (List ℕ)) (body : Exp) (input : List ℕ) (heap stack fuel fuel' : ℕ) →
    (evaluate names body input heap stack fuel).end ≢ out_of_fuel →
    (evaluate names body input heap stack fuel').end ≢ out_of_fuel →
    evaluate names body input heap stack fuel ≡ evaluate names body input heap stack fuel'

-- what stands after a unit of fuel, with no bound but the fuel that is left
abbrev pub behind : (heap stack : ℕ) → Job → Passing Value
behind heap stack job go out w n = meaning Passing (passing heap stack) (suc n) job go out w n

-- and it is what the job does with the same after the next unit
abbrev pub FuelUnfolds : Type 0
FuelUnfolds =
    (heap stack : ℕ) (job : Job) (go : Value → Rest) (out : Rest) (w : _) (n : ℕ) →
    behind heap stack job go out w n ≡
    run Passing (passing heap stack) (behind heap stack) job go out w n

abbrev pub ProgramUnfolds : Type 0
ProgramUnfolds =
    (names : List (List ℕ)) (body : Exp) (input : List ℕ) (heap stack fuel : ℕ) →
    evaluate_passing names body input heap stack fuel ≡
    run_program Passing (passing heap stack) (behind heap stack) body (outermost_entries names)
    (λ v. ends (ended normal)) (ends stuck) (initial_world input) fuel
