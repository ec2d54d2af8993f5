-- The lines of counts.
use Rattle.std.specs.Prelude.{ℕ, ◌≡◌, ◌<◌, List, [], ◌∷◌, slice_get, slice_index, Some}
use Rattle.std.specs.Prelude.{slice_index_or, ◌==◌, if◌then◌else◌}
use Rattle.tg_profiler.specs.Reports.{count_line}

-- a line for each name whose count isn't 0
abbrev pub lines_of : (names : List (List ℕ)) → (counts : List ℕ) → List (List ℕ)
lines_of [] counts = []
lines_of (name ∷ names) [] = []
lines_of (name ∷ names) (count ∷ counts) =
    if count == 0 then lines_of names counts else count_line name count ∷ lines_of names counts

-- line `at` of them is that of name and count number k
pub record HasCount (names : List (List ℕ)) (counts : List ℕ) (at k : ℕ) : Type 0 where
  pub below : k < 43
  pub line : slice_get (lines_of names counts) at
      ≡ Some (count_line (slice_index_or names k []) (slice_index counts k))
