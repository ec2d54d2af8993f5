-- The nodes that were live out of a call: all calls define the same registers.
use Rattle.std.specs.Prelude.{ℕ, Bool, false, List, None, IsTrue, slice_index_or}
use Rattle.tg_instr.specs.Operands.{registers}
use Rattle.tg_instr.specs.Uses.{clobbered}
use Rattle.tg_graph.specs.Interference.{Interference, interferes}
use Rattle.tg_interference.specs.Pairs.{has, joins_both}

abbrev pub is_marked : List Bool → (node : ℕ) → Bool
is_marked marks n = slice_index_or marks n false

-- what calls define is joined to each node that is marked
abbrev pub HaveCrossed : (marks : List Bool) → Interference → Type 0
HaveCrossed marks graph =
    (x y : ℕ) → IsTrue (joins_both None (has (registers clobbered)) (is_marked marks) x y) →
    IsTrue (interferes graph x y)
