-- What holds of nodes and their operands.
use Rattle.std.specs.Prelude.{◌≡◌, ℕ, Some, is_some}
use Rattle.tg_instr.specs.declared.operands.Opnd.{Opnd}
use Rattle.tg_live.specs.Interference.{is_node}
use Rattle.tg_interference.specs.Nodes.{operand_at, node_of}

-- the operand at a node stands there
abbrev pub OperandsStand : Type 0
OperandsStand = (n : ℕ) → node_of (operand_at n) ≡ Some n

-- and no other does
abbrev pub NoOtherStands : Type 0
NoOtherStands = (x : Opnd) (n : ℕ) → node_of x ≡ Some n → operand_at n ≡ x

-- what may interfere has a node, and nothing else has
abbrev pub NodesExist : Type 0
NodesExist = (x : Opnd) → is_some (node_of x) ≡ is_node x
