-- What an evaluation may do. `Action A` is an action that gives an A, or leaves a loop by a
-- `break`, or after which the run is over. Two forms of actions follow: results (Direct.antt), and
-- runs that take what comes next (Passing.antt), the first as the language is explained, the second
-- as translated code behaves.
use Rattle.std.specs.Prelude.{ℕ, List, Option}
use Rattle.tg_simulation.specs.Outcomes.{End}
use Rattle.tg_semantics.specs.Values.{Value, Object, SourceWorld, Ending}

pub record Actions (Action : Type 0 → Type 0) : Type 1 where
  -- gives this; does one action, and then the next with what it gave
  pub give : {A : Type 0} → A → Action A
  pub bind : {A B : Type 0} → Action A → (A → Action B) → Action B
  -- leaves the loop; the run is over
  pub break : {A : Type 0} → Action A
  pub over : {A : Type 0} → End Ending → Action A
  -- a loop's body, and what follows it unless a `break` leaves that loop
  pub in_loop : (body onward : Action Value) → Action Value
  -- a function's body, in which no `break` stands outside a loop
  pub in_function : Action Value → Action Value
  -- uses a unit of fuel, or is out of fuel
  pub turn : Action Value → Action Value
  -- what is found in the world; the run is stuck where it isn't there
  pub look : {A : Type 0} → (SourceWorld → Option A) → Action A
  -- variables and objects, by their places
  pub new_variable : Value → Action ℕ
  pub set_variable : ℕ → Value → Action (Unit {0})
  pub new_object : Object → Action ℕ
  pub set_object : ℕ → Object → Action (Unit {0})
  -- takes bytes of the heap, or ends the program where they aren't there
  pub take_heap : ℕ → Action (Unit {0})
  -- the next byte of the input as a string, which is empty at its end
  pub read_byte : Action (List ℕ)
  pub write : List ℕ → Action (Unit {0})
  -- adds to the cost
  pub spend : ℕ → Action (Unit {0})
  -- something of this weight opens, and closes
  pub weigh : ℕ → Action (Unit {0})
  pub unweigh : ℕ → Action (Unit {0})
  -- an activation of a declared function opens, and closes
  pub descend : Action (Unit {0})
  pub ascend : Action (Unit {0})
