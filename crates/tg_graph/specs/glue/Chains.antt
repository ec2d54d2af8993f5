-- Lists linked by index in two vectors, of which one tells what stands after a place and the other
-- what stands before it. Places below a number are nodes; each place from there on is the end of a
-- list, and its first node stands after the end, so that a list goes round.
use Rattle.std.specs.Prelude.{◌≡◌, ℕ, zero, suc, ◌<◌, ◌≤◌, nat_lt, ◌==◌, List, [], ◌∷◌, ◌++◌}
use Rattle.std.specs.Prelude.{length, slice_index, if◌then◌else◌}

-- each place stands before the one after it, and after the one before it
pub record AreInverse (next prev : List ℕ) : Type 0 where
  pub sized : length prev ≡ length next
  pub ahead : (y : ℕ) → y < length next →
      (slice_index next y < length next) × (slice_index prev (slice_index next y) ≡ y)
  pub back : (y : ℕ) → y < length next →
      (slice_index prev y < length next) × (slice_index next (slice_index prev y) ≡ y)

-- the nodes from a place on
abbrev pub follow : (ℕ → ℕ) → (nodes : ℕ) → ℕ → ℕ → List ℕ
follow next n zero y = []
follow next n (suc k) y = if nat_lt y n then y ∷ follow next n k (next y) else []

-- from a place on stand these nodes, and then this end
abbrev pub LeadsAlong : (ℕ → ℕ) → (nodes : ℕ) → ℕ → List ℕ → (end : ℕ) → Type 0
LeadsAlong next n y [] end = y ≡ end
LeadsAlong next n y (x ∷ xs) end = (y ≡ x) × (x < n) × LeadsAlong next n (next x) xs end

-- each list that is linked by the one vector is another that is linked by the other
abbrev pub Relinks : (old new : List ℕ) → (nodes : ℕ) → (List ℕ → ℕ → List ℕ) → Type 0
Relinks old new n change =
    (end : ℕ) (xs : List ℕ) → n ≤ end → end < length old →
    LeadsAlong (slice_index old) n (slice_index old end) xs end →
    LeadsAlong (slice_index new) n (slice_index new end) (change xs end) end

-- nodes put last in the list of an end
abbrev pub joined_to : (end : ℕ) → (added : List ℕ) → List ℕ → ℕ → List ℕ
joined_to end added xs e = xs ++ (if e == end then added else [])

-- each place is linked to itself
abbrev pub AreAlone : List ℕ → (from to : ℕ) → Type 0
AreAlone next from to = (y : ℕ) → from ≤ y → y < to → slice_index next y ≡ y
