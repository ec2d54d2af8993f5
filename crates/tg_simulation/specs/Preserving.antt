-- What each pass from code to code promises.
use Rattle.std.specs.Prelude.{ℕ, ◌+◌, ◌*◌, ◌≡◌, ◌≢◌, ◌≤◌}
use Rattle.tg_simulation.specs.Runs.{Run}
use Rattle.tg_simulation.specs.Ran.{Ran, Wrong}

-- it writes the same, leaves the same input and stops the same way, with at most a times the work
-- and b units more
pub record DoesTheSame (a b : ℕ) (p q : Ran) : Type 0 where
  pub output : q.output ≡ p.output
  pub input : q.input ≡ p.input
  pub stop : q.stop ≡ p.stop
  pub work : q.work ≤ a * p.work + b

-- each run before the pass that doesn't go wrong is a run after it, with at least as much fuel
pub record Preserves (a b : ℕ) (c d : Run Ran) : Type 0 where
  pub there : (n : ℕ) → (c n).stop ≢ Wrong → (m : ℕ) × (n ≤ m) × DoesTheSame a b (c n) (d m)
