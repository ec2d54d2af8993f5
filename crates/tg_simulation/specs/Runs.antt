-- Runs by fuel: what comes from a moment on, by the units of fuel that are left at that moment.
use Rattle.std.specs.Prelude.{ℕ, zero, suc, ◌≡◌, ◌≤◌}

abbrev pub Run : Type 0 → Type 0
Run O = ℕ → O

-- goes on where a unit of fuel is left; else this is what comes
abbrev pub turn : {O : Type 0} → O → Run O → Run O
turn none c zero = none
turn none c (suc n) = c n

-- a run that calls itself after a unit of fuel, with so many calls at most, one within another
abbrev pub nested : {X O : Type 0} → O → ((X → Run O) → X → Run O) → ℕ → X → Run O
nested none f zero x n = none
nested none f (suc d) x n = f (nested none f d) x n

-- with as many as there is fuel: the run that calls itself
abbrev pub again : {X O : Type 0} → O → ((X → Run O) → X → Run O) → X → Run O
again none f x n = nested none f (suc n) x n

-- two runs are the same as far as so much fuel
abbrev pub IsSameTo : {O : Type 0} → ℕ → Run O → Run O → Type 0
IsSameTo n c d = (i : ℕ) → i ≤ n → c i ≡ d i
