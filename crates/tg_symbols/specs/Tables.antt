-- Scoped symbol tables (Appel, chapter 5): names with what they have, the newest first.
use Rattle.std.specs.Prelude.{ℕ, ◌==◌, List, [], ◌∷◌, Option, Some, None, if◌then◌else◌}

-- what a name has: what the first entry of that name has
abbrev pub looked_up : {A : Type 0} → ℕ → List (ℕ × A) → Option A
looked_up x [] = None
looked_up x (entry ∷ rest) = if entry.0 == x then Some entry.1 else looked_up x rest
