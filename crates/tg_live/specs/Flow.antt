-- Where the instructions of a code go on (Appel, chapter 10), as a set of pairs of places.
use Rattle.std.specs.Prelude.{ℕ, suc, Bool, nat_eq, List, [], ◌∷◌, ◌++◌, map, slice_index_or}
use Rattle.std.specs.Prelude.{if◌then◌else◌}
use Rattle.std.specs.List.{list_any}
use Rattle.std.specs.Ordering.{nat_cmp, then_cmp, on}
use Rattle.std.specs.declared.cmp.Ordering.{Ordering}
use Rattle.std.specs.FinSet as set
use Rattle.tg_instr.specs.declared.instr.Instr.{Instr}
use Rattle.tg_instr.specs.Shapes.{InstructionShape, Goes, Tests, Fails, Returns, shape}
use Rattle.tg_instr.specs.Codes.{is_mark}

-- the order of pairs of places
abbrev pub pair_cmp : ℕ × ℕ → ℕ × ℕ → Ordering
pair_cmp = then_cmp (on (λ p. p.0) nat_cmp) (on (λ p. p.1) nat_cmp)

abbrev pub Edges : Type 0
Edges = set.FinSet pair_cmp

-- the place of a mark
abbrev pub place_of : (mark : ℕ) → List Instr → ℕ
place_of m [] = 0
place_of m (one ∷ rest) = if is_mark m one then 0 else suc (place_of m rest)

-- where an instruction of this shape at a place goes on: a jump at its mark, a branch at its mark
-- and at the next place, a fault and a return nowhere, each other at the next place
abbrev pub onward : List Instr → (at : ℕ) → InstructionShape → List ℕ
onward all at (Goes m) = place_of m all ∷ []
onward all at (Tests rel left right m) = place_of m all ∷ suc at ∷ []
onward all at (Fails code) = []
onward all at Returns = []
onward all at _ = suc at ∷ []

abbrev pub onward_from : List Instr → (at : ℕ) → List Instr → List (List ℕ)
onward_from all at [] = []
onward_from all at (one ∷ rest) = onward all at (shape one) ∷ onward_from all (suc at) rest

-- for each place where its instruction goes on
abbrev pub successors : List Instr → List (List ℕ)
successors all = onward_from all 0 all

abbrev pub goes_on : List Instr → (at next : ℕ) → Bool
goes_on all at next = list_any (nat_eq next) (slice_index_or (successors all) at [])

abbrev pub edges_from : (at : ℕ) → List (List ℕ) → List (ℕ × ℕ)
edges_from at [] = []
edges_from at (nexts ∷ rest) = map (λ next. (at, next)) nexts ++ edges_from (suc at) rest

-- the pairs of a place and one where its instruction goes on
abbrev pub flow_of : List Instr → Edges
flow_of all = set.from_list (edges_from 0 (successors all))
