-- The interference graph of a code (Appel, chapter 11), and what each instruction adds to it.
use Rattle.std.specs.Prelude.{◌≡◌, ◌↔◌, ◌+◌, ◌==◌, ℕ, Bool, false, not, ◌&&◌, ◌||◌, List, Option}
use Rattle.std.specs.Prelude.{Some, None, IsTrue}
use Rattle.tg_instr.specs.declared.instr.Instr.{Instr}
use Rattle.tg_instr.specs.declared.operands.Opnd.{Opnd}
use Rattle.tg_graph.specs.Interference.{Interference, interferes}
use Rattle.tg_live.specs.Live.{is_among}
use Rattle.tg_live.specs.Interference.{Interferes}
use Rattle.tg_irc_definition.specs.declared.moves.Move.{Move}
use Rattle.tg_interference.specs.Nodes.{operand_at}

-- it has a node for each colour and each temporary, and two nodes interfere exactly where their
-- operands do
pub record IsInterference (all : List Instr) (temps : ℕ) (graph : Interference) : Type 0 where
  pub nodes : graph.nodes ≡ 25 + temps
  pub pairs : (x y : ℕ) →
      IsTrue (interferes graph x y) ↔ Interferes all (operand_at x) (operand_at y)

-- the node's operand is one of these
abbrev pub has : List Opnd → (node : ℕ) → Bool
has list n = is_among (operand_at n) list

abbrev pub is_move : Option Move → (to from : ℕ) → Bool
is_move None to from = false
is_move (Some m) to from = to == m.to && from == m.from

-- a definition is not joined to itself, nor a move's to what it moves
abbrev pub is_apart : Option Move → (d x : ℕ) → Bool
is_apart moved d x = not (d == x) && not (is_move moved d x)

-- a definition that passes the one test is joined to what passes the other
abbrev pub joins : Option Move → (defines lives : ℕ → Bool) → (d x : ℕ) → Bool
joins moved defines lives d x = defines d && (is_apart moved d x && lives x)

-- in either order
abbrev pub joins_both : Option Move → (defines lives : ℕ → Bool) → (x y : ℕ) → Bool
joins_both moved defines lives x y = joins moved defines lives x y || joins moved defines lives y x
