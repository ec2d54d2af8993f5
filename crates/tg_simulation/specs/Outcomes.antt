-- What comes of a program's run from a moment on, whatever ways to end the program has.
use Rattle.std.specs.Prelude.{ℕ, List, Option}

-- how the run is over: the program has ended, wants more fuel, or is stuck at what has no meaning
pub data End (Ending : Type 0) : Type 0 where
  ended : Ending → End Ending
  out_of_fuel stuck : End Ending

-- how the run is over, what it writes, the input that is left and the heap that is taken then, its
-- cost, what it had written when the weight of what is open was first above the stack, and the most
-- activations of declared functions that were open at once
pub record Outcome (Ending : Type 0) : Type 0 where
  pub end : End Ending
  pub output : List ℕ
  pub input : List ℕ
  pub heap : ℕ
  pub cost : ℕ
  pub output_past_limit : Option (List ℕ)
  pub deepest : ℕ
