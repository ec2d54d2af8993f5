-- What is live as changes from place to place, in the order of the code: what comes to it at a
-- place, and what goes. Most operands live over long ranges, so changes are few where sets are
-- long.
use Rattle.std.specs.Prelude.{◌≡◌, ◌⊎◌, ℕ, zero, suc, Bool, false, nat_eq, nat_lt, List, []}
use Rattle.std.specs.Prelude.{◌∷◌, ◌++◌, map, length, if◌then◌else◌}
use Rattle.std.specs.List.{range_with_len}
use Rattle.tg_instr.specs.declared.instr.Instr.{Instr}
use Rattle.tg_instr.specs.declared.operands.Opnd.{Opnd}
use Rattle.tg_instr.specs.Operands.{is_same}
use Rattle.tg_live.specs.Live.{Sets, set_at, number_of, IsLiveOut}
use Rattle.tg_live.specs.glue.Tables.{row}

abbrev pub ends_in : Opnd → List Opnd → Bool
ends_in x [] = false
ends_in x (y ∷ []) = is_same x y
ends_in x (y ∷ z ∷ rest) = ends_in x (z ∷ rest)

-- how many at the front of a set have smaller numbers
abbrev pub lower_count : Opnd → List Opnd → ℕ
lower_count x [] = 0
lower_count x (y ∷ rest) =
    if nat_lt (number_of y) (number_of x) then suc (lower_count x rest) else 0

-- a set in rising order with one more
abbrev pub put_in_order : Opnd → List Opnd → List Opnd
put_in_order x [] = x ∷ []
put_in_order x (y ∷ rest) =
    if nat_lt (number_of y) (number_of x) then y ∷ put_in_order x rest else x ∷ y ∷ rest

-- and without one that it has
abbrev pub set_without : Opnd → List Opnd → List Opnd
set_without x [] = []
set_without x (y ∷ rest) =
    if nat_lt (number_of y) (number_of x) then y ∷ set_without x rest else
    if nat_eq (number_of y) (number_of x) then rest else y ∷ rest

abbrev pub all_put_in_order : List Opnd → List Opnd → List Opnd
all_put_in_order [] set = set
all_put_in_order (x ∷ rest) set = all_put_in_order rest (put_in_order x set)

abbrev pub set_without_all : List Opnd → List Opnd → List Opnd
set_without_all [] set = set
set_without_all (x ∷ rest) set = set_without_all rest (set_without x set)

-- what is live after so many places
abbrev pub live_behind : (comes goes : Sets) → (count : ℕ) → List Opnd
live_behind comes goes zero = []
live_behind comes goes (suc at) =
    all_put_in_order (row comes at) (set_without_all (row goes at) (live_behind comes goes at))

abbrev pub sets_of : (comes goes : Sets) → Sets
sets_of comes goes = map (λ at. live_behind comes goes (suc at)) (range_with_len 0 (length comes))

-- what is live out of the place before this one, and nothing before the first
abbrev pub set_before : Sets → (at : ℕ) → List Opnd
set_before sets zero = []
set_before sets (suc at) = set_at sets at

-- the sets with the operand at the end of each set of a place that it is live out of
pub record AreSearched (all : List Instr) (x : Opnd) (old new : Sets) : Type 0 where
  pub size : length new ≡ length old
  pub each : (at : ℕ) →
      ((set_at new at ≡ set_at old at ++ x ∷ []) × IsLiveOut all at x)
      ⊎ ((set_at new at ≡ set_at old at) × (¬ IsLiveOut all at x))
