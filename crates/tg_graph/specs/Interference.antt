-- Interference graphs (Appel, chapter 11; George and Appel 1996, section 2): which nodes may not
-- share a colour. Nodes 0 to 24 are the registers, in the order of the colours; temporary t is
-- node 25 + t.
use Rattle.std.specs.Prelude.{◌≡◌, ℕ, ◌-◌, ◌≤◌, ◌==◌, nat_eq, nat_lt, Bool, ◌&&◌, ◌||◌, List, []}
use Rattle.std.specs.Prelude.{◌∷◌, ◌++◌, length, replicate, slice_index_or, slice_set}
use Rattle.std.specs.Prelude.{if◌then◌else◌}
use Rattle.std.specs.List.{list_any, IsDistinct}

abbrev pub colours : ℕ
colours = 25

-- a node for each colour and for each of 2^24 temporaries
abbrev pub most_nodes : ℕ
most_nodes = 16777241

abbrev pub is_register : ℕ → Bool
is_register x = nat_lt x colours

-- the nodes, and for each temporary those that it was joined to, in the order of joining
pub record Interference : Type 0 where
  pub nodes : ℕ
  pub adjacent : List (List ℕ)

abbrev pub is_among : ℕ → List ℕ → Bool
is_among x xs = list_any (nat_eq x) xs

-- the neighbours of a temporary
abbrev pub neighbours : Interference → ℕ → List ℕ
neighbours g x = slice_index_or g.adjacent (x - colours) []

abbrev pub degree : Interference → ℕ → ℕ
degree g x = length (neighbours g x)

-- whether two nodes are joined, the greater given second: registers are from the start
abbrev pub are_joined : Interference → (low high : ℕ) → Bool
are_joined g low high = is_register high || is_among low (neighbours g high)

abbrev pub interferes : Interference → ℕ → ℕ → Bool
interferes g x y = (nat_lt x y && are_joined g x y) || (nat_lt y x && are_joined g y x)

-- registers alone are joined
abbrev pub bare : ℕ → Interference
bare n = record { nodes = n; adjacent = replicate (n - colours) [] }

-- the lists with one more neighbour of a node; a register has no list
abbrev pub with_neighbour : (node neighbour : ℕ) → List (List ℕ) → List (List ℕ)
with_neighbour x y lists =
    if is_register x then lists
    else slice_set lists (x - colours) (slice_index_or lists (x - colours) [] ++ y ∷ [])

-- two nodes joined; where they are already, nothing changes
abbrev pub with_edge : Interference → ℕ → ℕ → Interference
with_edge g a b =
    if interferes g a b then g
    else record { nodes = g.nodes; adjacent = with_neighbour b a (with_neighbour a b g.adjacent) }

-- whether two nodes are two others, in either order
abbrev pub are_ends : (a b x y : ℕ) → Bool
are_ends a b x y = (x == a && y == b) || (x == b && y == a)

-- what holds of each graph: neighbours are the nodes joined to a temporary, each once
pub record IsGraph (g : Interference) : Type 0 where
  pub sized : length g.adjacent ≡ g.nodes - colours
  pub exact : (x y : ℕ) → colours ≤ x → is_among y (neighbours g x) ≡ interferes g x y
  pub distinct : (x : ℕ) → IsDistinct nat_eq (neighbours g x)
