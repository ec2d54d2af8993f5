-- The moves of a code between nodes (Appel, chapter 11).
use Rattle.std.specs.Prelude.{ℕ, List, Option, Some, None}
use Rattle.std.specs.List.{filter_map}
use Rattle.tg_instr.specs.declared.instr.Instr.{Instr}
use Rattle.tg_instr.specs.Shapes.{InstructionShape, Copy, shape}
use Rattle.tg_irc_definition.specs.declared.moves.Move.{Move}
use Rattle.tg_interference.specs.Nodes.{node_of}

-- a move where both ends have nodes
abbrev pub between : Option ℕ → Option ℕ → Option Move
between (Some to) (Some from) = Some (record { to = to; from = from })
between (Some to) None = None
between None from = None

abbrev pub move_of : InstructionShape → Option Move
move_of (Copy to from) = between (node_of to) (node_of from)
move_of _ = None

-- in the order of the code
abbrev pub moves_of : List Instr → List Move
moves_of all = filter_map (λ one. move_of (shape one)) all
