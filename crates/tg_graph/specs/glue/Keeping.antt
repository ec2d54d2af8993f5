-- How a graph is kept: a bit for each pair of nodes, in tiles, and a counter and a list for each
-- temporary.
use Rattle.std.specs.Prelude.{◌≡◌, ℕ, ◌-◌, ◌+◌, ◌<◌, ◌≤◌, List, Vec, length, map, slice_index}
use Rattle.std.specs.Prelude.{slice_set, if◌then◌else◌}
use Rattle.std.specs.declared.alloc.Global.{Global}
use Rattle.tg_graph.specs.Interference.{Interference, IsGraph, colours, most_nodes, is_register}
use Rattle.tg_graph.specs.Interference.{is_among, neighbours}
use Rattle.tg_graph.specs.glue.Bits.{matrix_bit, pair_place, tiles_for}

-- the lists of vectors
abbrev pub lists_of : List (Vec ℕ Global) → List (List ℕ)
lists_of vectors = map (λ v. v.items) vectors

-- the counters, that of a node one more
abbrev pub counted_up : ℕ → List ℕ → List ℕ
counted_up x counters =
    if is_register x then counters
    else slice_set counters (x - colours) (slice_index counters (x - colours) + 1)

pub record IsKept (g : Interference) (tiles : List (List ℕ)) (degrees : List ℕ) : Type 0 where
  pub some : colours ≤ g.nodes
  pub few : g.nodes ≤ most_nodes
  pub graph : IsGraph g
  pub room : length tiles ≡ tiles_for g.nodes
  pub told : (x y : ℕ) → x < y → y < g.nodes → colours ≤ y →
      matrix_bit tiles (pair_place x y) ≡ is_among x (neighbours g y)
  pub counted : degrees ≡ map length g.adjacent
