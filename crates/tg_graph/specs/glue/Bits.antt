-- Bits in words of 32, the lowest first, and a triangular matrix of bits for pairs of nodes, cut
-- into tiles of 128 by 128. A tile has words only once a pair in it is joined. Pairs of near
-- numbers stand in few tiles, and so do the pairs of one node with all others.
use Rattle.std.specs.Prelude.{ℕ, ◌+◌, ◌-◌, ◌*◌, ◌/◌, ◌%◌, Bool, List, [], ◌==◌, slice_index}
use Rattle.std.specs.Prelude.{slice_index_or}
use Rattle.std.specs.Int.{bit_at}

-- whether the bit at a place is 1; beyond the words none is
abbrev pub bit : List ℕ → ℕ → Bool
bit words at = bit_at (slice_index words (at / 32)) (at % 32) == 1

-- how many pairs of two different numbers below a number there are
abbrev pub triangle : ℕ → ℕ
triangle n = n * (n - 1) / 2

-- how many nodes a tile has on a side
abbrev pub side : ℕ
side = 128

-- how many pairs a tile has
abbrev pub area : ℕ
area = 16384

-- how many tiles there are for so many nodes
abbrev pub tiles_for : (nodes : ℕ) → ℕ
tiles_for n = triangle (n / side + 2)

-- where the pair's bit is: tile by tile, and in a tile row by row
abbrev pub pair_place : (low high : ℕ) → ℕ
pair_place low high =
    (triangle (high / side + 1) + low / side) * area + (high % side * side + low % side)

-- the words of the tile of a place
abbrev pub tile_of : (tiles : List (List ℕ)) → (place : ℕ) → List ℕ
tile_of tiles place = slice_index_or tiles (place / area) []

-- whether the bit at a place of the matrix is 1
abbrev pub matrix_bit : (tiles : List (List ℕ)) → (place : ℕ) → Bool
matrix_bit tiles place = bit (tile_of tiles place) (place % area)
