-- Graphs and lists computed.
use Rattle.std.proofs.Common.{◌≡◌, true, false, [], ◌∷◌, Some, None, refl}
use Rattle.tg_graph.specs.declared.worklists.Worklist.TheVariants.{Simplify, Spill}
use Rattle.tg_graph.specs.Interference.{Interference, bare, with_edge, interferes, neighbours, degree}
use Rattle.tg_graph.specs.Lists.{Lists, started, moved, after}
use Rattle.tg_graph.specs.glue.Bits.{bit, matrix_bit, pair_place, tiles_for, triangle}

-- three temporaries; the first interferes with the second and with register 3
abbrev small : Interference
small = with_edge (with_edge (bare 28) 25 26) 3 25

registers : interferes small 3 4 ≡ true
registers = refl

itself : interferes small 3 3 ≡ false
itself = refl

both_ways : (interferes small 25 26 ≡ true) × (interferes small 26 25 ≡ true) × (interferes small 25 3 ≡ true)
both_ways = (refl, refl, refl)

apart : (interferes small 26 27 ≡ false) × (interferes small 4 25 ≡ false) × (interferes small 3 26 ≡ false)
apart = (refl, refl, refl)

in_order : (neighbours small 25 ≡ 26 ∷ 3 ∷ []) × (neighbours small 26 ≡ 25 ∷ []) × (neighbours small 27 ≡ [])
in_order = (refl, refl, refl)

counted : (degree small 25 ≡ 2) × (degree small 27 ≡ 0)
counted = (refl, refl)

again : with_edge (with_edge small 26 25) 4 3 ≡ small
again = refl

-- a tile has the pairs of 128 nodes with 128, and one of 300 nodes stands in one of six tiles
places : (pair_place 0 1 ≡ 128) × (pair_place 26 27 ≡ 3482) × (pair_place 127 128 ≡ 16511) × (pair_place 128 129 ≡ 32896)
places = (refl, refl, refl, refl)

triangles : (triangle 1 ≡ 0) × (triangle 4 ≡ 6) × (tiles_for 300 ≡ 6)
triangles = (refl, refl, refl)

marked : (matrix_bit ([] ∷ (5 ∷ []) ∷ []) 16384 ≡ true) × (matrix_bit ([] ∷ (5 ∷ []) ∷ []) 16385 ≡ false) ×
    (matrix_bit ([] ∷ (5 ∷ []) ∷ []) 0 ≡ false)
marked = (refl, refl, refl)

bits : (bit (5 ∷ 1 ∷ []) 0 ≡ true) × (bit (5 ∷ 1 ∷ []) 1 ≡ false) × (bit (5 ∷ 1 ∷ []) 2 ≡ true) ×
    (bit (5 ∷ 1 ∷ []) 32 ≡ true) × (bit (5 ∷ 1 ∷ []) 64 ≡ false)
bits = (refl, refl, refl, refl, refl)

-- a node goes last, also in its own list
abbrev twice : Lists
twice = moved (moved (started 29) 26 Simplify) 25 Spill

listed : (twice.spill ≡ 27 ∷ 28 ∷ 25 ∷ []) × (twice.simplify ≡ 26 ∷ []) × (twice.stacked ≡ [])
listed = (refl, refl, refl)

behind : (after 27 twice.spill ≡ Some 28) × (after 25 twice.spill ≡ None)
behind = (refl, refl)
