-- The front of a name.
use Rattle.std.specs.Prelude.{ℕ, List, [], ◌∷◌, slice_index_or}
use Rattle.std.specs.Int.{from_be_bytes, w64}

-- the first eight bytes of a name as a number, with zeros after a shorter one
unfoldable pub front_number : List ℕ → ℕ
front_number name =
    from_be_bytes w64 (slice_index_or name 0 0 ∷ slice_index_or name 1 0
    ∷ slice_index_or name 2 0 ∷ slice_index_or name 3 0 ∷ slice_index_or name 4 0
    ∷ slice_index_or name 5 0 ∷ slice_index_or name 6 0 ∷ slice_index_or name 7 0 ∷ [])
