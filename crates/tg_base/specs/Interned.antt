-- Names: texts in a list in which each stands once.
use Rattle.std.specs.Prelude.{◌≡◌, ◌≢◌, ℕ, List, [], ◌∷◌, ◌++◌, length, slice_get, Bool, Some}
use Rattle.std.specs.Prelude.{MatchBool}
use Rattle.std.specs.List.{list_any, AllPairs}
use Rattle.std.specs.Str.{bytes_eq}

-- no text stands twice
pub record AreDistinct (texts : List (List ℕ)) : Type 0 where
  pub apart : AllPairs (λ a b. a ≢ b) texts

-- whether a text is in a list
abbrev pub is_among : List ℕ → List (List ℕ) → Bool
is_among text texts = list_any (bytes_eq text) texts

-- a text that is there keeps its place, and a new one goes last
abbrev pub IsInterned : List (List ℕ) → List ℕ → List (List ℕ) → ℕ → Type 0
IsInterned old text new n =
    MatchBool (is_among text old)
    ((new ≡ old) × (slice_get old n ≡ Some text))
    ((new ≡ old ++ text ∷ []) × (n ≡ length old))
