-- What follows from the definitions of graphs and lists.
use Rattle.std.specs.Prelude.{◌≡◌, ℕ, ◌<◌, ◌≤◌, ◌==◌, nat_eq, not, ◌&&◌, IsTrue, if◌then◌else◌}
use Rattle.std.specs.List.{IsDistinct}
use Rattle.tg_graph.specs.declared.worklists.Worklist.{Worklist}
use Rattle.tg_graph.specs.Interference.{colours, is_register, is_among, interferes, bare}
use Rattle.tg_graph.specs.Lists.{Lists, nodes_in, number, started, moved}

-- in a new graph two different registers interfere, and nothing else does
abbrev pub RegistersInterfere : Type 0
RegistersInterfere =
    (n x y : ℕ) → interferes (bare n) x y ≡ (is_register x && is_register y && not (x == y))

-- each node is in exactly one list, and there once
pub record ArePartition (lists : Lists) : Type 0 where
  pub one : (x : ℕ) → x < lists.nodes →
      (list : Worklist)
      × ((l : Worklist) → is_among x (nodes_in lists l) ≡ (number l == number list))
  pub nodes : (l : Worklist) (x : ℕ) → IsTrue (is_among x (nodes_in lists l)) → x < lists.nodes
  pub once : (l : Worklist) → IsDistinct nat_eq (nodes_in lists l)

abbrev pub StartIsPartition : Type 0
StartIsPartition = (n : ℕ) → colours ≤ n → ArePartition (started n)

-- a node moved is in the list named, and every other where it was
abbrev pub MovesTell : Type 0
MovesTell =
    (lists : Lists) (node : ℕ) (list l : Worklist) (y : ℕ) →
    is_among y (nodes_in (moved lists node list) l)
    ≡ (if y == node then number l == number list else is_among y (nodes_in lists l))

abbrev pub MovesKeepPartition : Type 0
MovesKeepPartition =
    (lists : Lists) (node : ℕ) (list : Worklist) → ArePartition lists → node < lists.nodes →
    ArePartition (moved lists node list)
