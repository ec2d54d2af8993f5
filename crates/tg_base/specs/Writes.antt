-- What a write of a whole piece leaves.
use Rattle.std.specs.Prelude.{◌≡◌, ℕ, List, ◌++◌, Option, Result, MatchResult}
use Rattle.std.specs.Io.KnownBytes.{Appends}

-- a sink took a prefix of a piece
abbrev pub TakesPrefix : Option (List ℕ) → Option (List ℕ) → List ℕ → Type 0
TakesPrefix old new piece = (front rest : List ℕ) × (piece ≡ front ++ rest) × Appends old new front

-- a sink took the whole piece, or failed and took a prefix of it
abbrev pub TakesAll : {T E : Type 0} →
    Option (List ℕ) → Option (List ℕ) → Result T E → List ℕ → Type 0
TakesAll old new result piece =
    MatchResult result (λ _. Appends old new piece) (λ _. TakesPrefix old new piece)
