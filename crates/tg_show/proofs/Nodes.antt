-- The lines of nodes from one on.
use Rattle.std.proofs.Common.{ℕ, suc, ◌+◌, ◌-◌, ◌<◌, ◌≡◌, List, [], ◌++◌, ap, arith}
use Rattle.std.specs.List.{range_with_len}
use Rattle.tg_graph.specs.Interference.{Interference}
use Rattle.tg_show.specs.Graph.{node_line, node_lines}

pub lines_step : (names : List (List ℕ)) (g : Interference) (a b : ℕ) → a < b →
    node_lines names g (range_with_len a (b - a)) ≡ node_line names g a ++ node_lines names g (range_with_len (a + 1) (b - (a + 1)))
lines_step names g a b h =
    let e : b - a ≡ suc (b - (a + 1)) = omega arith in
    ap (λ n. node_lines names g (range_with_len a n)) e

pub lines_end : (names : List (List ℕ)) (g : Interference) (a b : ℕ) → b ≡ a → node_lines names g (range_with_len a (b - a)) ≡ []
lines_end names g a b h =
    let e : b - a ≡ 0 = omega arith in
    ap (λ n. node_lines names g (range_with_len a n)) e
