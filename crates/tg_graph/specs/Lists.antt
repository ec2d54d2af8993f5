-- The worklists of a round (George and Appel 1996, section 4): each node is in exactly one.
use Rattle.std.specs.Prelude.{ℕ, ◌-◌, ◌==◌, not, List, [], ◌∷◌, ◌++◌, filter, slice_get, Option}
use Rattle.std.specs.Prelude.{None, if◌then◌else◌}
use Rattle.std.specs.List.{range_with_len}
use Rattle.tg_graph.specs.declared.worklists.Worklist.{Worklist}
use Rattle.tg_graph.specs.declared.worklists.Worklist.TheVariants.{Fixed, Simplify, Freeze, Spill}
use Rattle.tg_graph.specs.declared.worklists.Worklist.TheVariants.{Stacked, Merged}
use Rattle.tg_graph.specs.Interference.{colours}

-- the number of nodes, and the nodes of each list, in order
pub record Lists : Type 0 where
  pub nodes : ℕ
  pub fixed : List ℕ
  pub simplify : List ℕ
  pub freeze : List ℕ
  pub spill : List ℕ
  pub stacked : List ℕ
  pub merged : List ℕ

abbrev pub nodes_in : Lists → Worklist → List ℕ
nodes_in lists Fixed = lists.fixed
nodes_in lists Simplify = lists.simplify
nodes_in lists Freeze = lists.freeze
nodes_in lists Spill = lists.spill
nodes_in lists Stacked = lists.stacked
nodes_in lists Merged = lists.merged

-- the place of a list among the six
abbrev pub number : Worklist → ℕ
number Fixed = 0
number Simplify = 1
number Freeze = 2
number Spill = 3
number Stacked = 4
number Merged = 5

-- the lists by their names
abbrev pub lists_by : ℕ → (Worklist → List ℕ) → Lists
lists_by n f = record {
  nodes = n;
  fixed = f Fixed;
  simplify = f Simplify;
  freeze = f Freeze;
  spill = f Spill;
  stacked = f Stacked;
  merged = f Merged;
}

-- registers are fixed, and each temporary may be spilled
abbrev pub started_in : ℕ → Worklist → List ℕ
started_in n Fixed = range_with_len 0 colours
started_in n Spill = range_with_len colours (n - colours)
started_in n _ = []

abbrev pub started : ℕ → Lists
started n = lists_by n (started_in n)

-- a list without a node
abbrev pub without : ℕ → List ℕ → List ℕ
without x xs = filter (λ y. not (x == y)) xs

-- a node taken out of its list and put last in the one named
abbrev pub moved : Lists → ℕ → Worklist → Lists
moved lists node list =
    lists_by lists.nodes
    (λ l. without node (nodes_in lists l) ++ (if number l == number list then node ∷ [] else []))

-- what stands right after a node
abbrev pub after : ℕ → List ℕ → Option ℕ
after x [] = None
after x (y ∷ ys) = if x == y then slice_get ys 0 else after x ys
