-- The lines of an interference graph and of the moves between its nodes (Appel, chapter 11): for
-- each temporary whether it has fewer neighbours than there are colours, and its neighbours in the
-- order in which they were joined to it. Registers all interfere with each other.
use Rattle.std.specs.Prelude.{ℕ, ◌-◌, nat_lt, List, [], ◌∷◌, ◌++◌, map, codes}
use Rattle.std.specs.Prelude.{if◌then◌else◌}
use Rattle.std.specs.Fmt.{decimal}
use Rattle.std.specs.List.{range_with_len}
use Rattle.tg_instr.specs.declared.operands.Opnd.{Opnd}
use Rattle.tg_instr.specs.declared.operands.Opnd.TheVariants.{Temp, Reg}
use Rattle.tg_graph.specs.Interference.{Interference, is_register, degree, neighbours}
use Rattle.tg_irc_definition.specs.declared.moves.Move.{Move}
use Rattle.tg_regalloc.specs.Painting.{register_of}
use Rattle.tg_show.specs.Runs.{operand_text, operands_text}

-- a node with fewer neighbours than there are colours can be taken out
abbrev pub degree_text : (degree : ℕ) → List ℕ
degree_text n = if nat_lt n 25 then codes " low" else codes " high"

abbrev pub operand_of : (node : ℕ) → Opnd
operand_of x = if is_register x then Reg (register_of x) else Temp (record { 0 = x - 25 })

module _ (names : List (List ℕ)) where
  abbrev pub node_text : (node : ℕ) → List ℕ
  node_text x = operand_text names (operand_of x)

  abbrev pub nodes_text : List ℕ → List ℕ
  nodes_text nodes = operands_text names (map operand_of nodes)

  abbrev pub node_line : Interference → (node : ℕ) → List ℕ
  node_line g x =
      codes "  " ++ (node_text x ++ (degree_text (degree g x) ++
      (nodes_text (neighbours g x) ++ 10 ∷ [])))

  abbrev pub node_lines : Interference → List ℕ → List ℕ
  node_lines g [] = []
  node_lines g (x ∷ rest) = node_line g x ++ node_lines g rest

  abbrev pub move_line : Move → List ℕ
  move_line m = codes "  move " ++ (node_text m.to ++ (codes " " ++ (node_text m.from ++ 10 ∷ [])))

  abbrev pub move_lines : List Move → List ℕ
  move_lines [] = []
  move_lines (m ∷ rest) = move_line m ++ move_lines rest

  -- the temporaries in the order of their numbers, and the moves in that of the code
  abbrev pub graph_lines : Interference → List Move → List ℕ
  graph_lines g moves =
      node_lines g (range_with_len 25 (g.nodes - 25)) ++ move_lines moves

  -- those of a round behind the first
  abbrev pub round_lines : (round : ℕ) → Interference → List Move → List ℕ
  round_lines k g moves = codes "  round " ++ (decimal k ++ (10 ∷ graph_lines g moves))
