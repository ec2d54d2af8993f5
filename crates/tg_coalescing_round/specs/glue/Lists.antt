-- Lists of numbers, and lists of these, that are changed at one place.
use Rattle.std.specs.Prelude.{ℕ, ◌+◌, ◌-◌, Bool, false, ◌&&◌, List, [], ◌∷◌, ◌++◌, map, fold}
use Rattle.std.specs.Prelude.{slice_index, slice_index_or, slice_set}
use Rattle.std.specs.List.{range_with_len}
use Rattle.smallvec.specs.SmallVec.{SmallVec}

-- the lists of small vectors
abbrev pub numbers_in : List (SmallVec ℕ) → List (List ℕ)
numbers_in vectors = map (λ v. v.items) vectors

abbrev pub list_at : List (List ℕ) → ℕ → List ℕ
list_at lists at = slice_index_or lists at []

-- one more number last in the list at a place
abbrev pub pushed : (at number : ℕ) → List (List ℕ) → List (List ℕ)
pushed at number lists = slice_set lists at (list_at lists at ++ number ∷ [])

-- the list at one place emptied, and its numbers put after those at another
abbrev pub poured : (to from : ℕ) → List (List ℕ) → List (List ℕ)
poured to from lists =
    let emptied = slice_set lists from [] in
    slice_set emptied to (list_at emptied to ++ list_at lists from)

-- for each number below n a list of it alone
abbrev pub singletons : ℕ → List (List ℕ)
singletons n = map (λ x. x ∷ []) (range_with_len 0 n)

-- one number 0, and what it was added to another
abbrev pub moved_sum : (to from : ℕ) → List ℕ → List ℕ
moved_sum to from sums =
    let emptied = slice_set sums from 0 in
    slice_set emptied to (slice_index emptied to + slice_index sums from)

-- at one place whether both hold
abbrev pub conjoined : (to from : ℕ) → List Bool → List Bool
conjoined to from list =
    slice_set list to (slice_index_or list to false && slice_index_or list from false)

-- one number more or less by 1
abbrev pub raised : ℕ → List ℕ → List ℕ
raised at counts = slice_set counts at (slice_index counts at + 1)

abbrev pub lowered : ℕ → List ℕ → List ℕ
lowered at counts = slice_set counts at (slice_index counts at - 1)

-- one number at each of some places
abbrev pub set_at_all : ℕ → (places : List ℕ) → List ℕ → List ℕ
set_at_all number places list = fold (λ l at. slice_set l at number) list places
