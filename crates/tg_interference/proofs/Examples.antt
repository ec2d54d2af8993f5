-- Nodes, and the pairs, the moves and the facts of a code, by computing.
use Rattle.std.proofs.Common.{◌≡◌, ℕ, Bool, true, false, List, [], ◌∷◌, ◌++◌, Some, None, map, replicate, refl, inl}
use Rattle.std.specs.Prelude.{filter}
use Rattle.std.specs.List.{range_with_len}
use Rattle.tg_instr.specs.declared.instr.Instr.TheVariants.{Move as MoveOf, Return}
use Rattle.tg_instr.specs.declared.operands.Opnd.{Opnd}
use Rattle.tg_instr.specs.declared.operands.Opnd.TheVariants.{Reg}
use Rattle.tg_graph.specs.Interference.{Interference, interferes}
use Rattle.tg_live.specs.Live.{Sets}
use Rattle.tg_live.proofs.LiveExamples as live
use Rattle.tg_live.proofs.LiveExamples.{copies}
use Rattle.tg_irc_definition.specs.declared.moves.Move.{Move}
use Rattle.tg_irc_definition.specs.declared.candidates.NodeFacts.{NodeFacts}
use Rattle.tg_interference.specs.Nodes.{operand_at, node_of}
use Rattle.tg_interference.specs.Moves.{moves_of}
use Rattle.tg_interference.specs.Pairs.{IsInterference}
use Rattle.tg_interference.specs.Facts.{temp, facts_of_nodes}
use Rattle.tg_interference.proofs.Interfering.{joined_below}

-- $v0, $a0, $ra and t3 have nodes, and $zero and $sp have none
nodes : map node_of (Reg 2 ∷ Reg 4 ∷ Reg 31 ∷ temp 3 ∷ Reg 0 ∷ Reg 29 ∷ [])
    ≡ Some 0 ∷ Some 2 ∷ Some 24 ∷ Some 28 ∷ None ∷ None ∷ []
unfolding node_of
nodes = refl

operands : map operand_at (0 ∷ 2 ∷ 24 ∷ 28 ∷ []) ≡ Reg 2 ∷ Reg 4 ∷ Reg 31 ∷ temp 3 ∷ []
unfolding operand_at
operands = refl

-- The code `copies` is t0 <- $a0; t1 <- t0; t2 <- t0 + t1; $v0 <- t2; return.

-- $s0 to $s7 and $ra are live throughout
abbrev given_back : List Opnd
given_back = map (λ r. Reg r) (range_with_len 16 8 ++ 31 ∷ [])

-- what is live out of each of its instructions
abbrev lives : Sets
lives =
    (given_back ++ temp 0 ∷ []) ∷ (given_back ++ temp 0 ∷ temp 1 ∷ []) ∷ (given_back ++ temp 2 ∷ []) ∷
    (Reg 2 ∷ given_back) ∷ [] ∷ []

abbrev move : ℕ → ℕ → Move
move to from = record { to = to; from = from }

abbrev node_facts : ℕ → Bool → NodeFacts
node_facts uses made = record { uses = uses; made = made }

-- the nodes that its instructions join to a node
abbrev joined_to : ℕ → List ℕ
joined_to x = filter (joined_below copies lives 5 x) (range_with_len 0 28)

-- each temporary is joined to $s0 to $s7 and $ra, as $v0 is, and t0 not to its copy t1
joined_nodes : map joined_to (25 ∷ 26 ∷ 27 ∷ 0 ∷ []) ≡ replicate 4 (range_with_len 16 9)
unfolding operand_at node_of
joined_nodes = refl

-- in each graph of the code $s0 and t2 interfere, and $v0 and $a0 as colours
s0_with_t2 : (graph : Interference) → IsInterference copies 3 graph → interferes graph 16 27 ≡ true
unfolding operand_at
s0_with_t2 graph is = (is.pairs 16 27).1 live.s0_with_t2

v0_with_a0 : (graph : Interference) → IsInterference copies 3 graph → interferes graph 0 2 ≡ true
unfolding operand_at
v0_with_a0 graph is = (is.pairs 0 2).1 (record { left = refl; right = refl; cause = inl refl })

-- (t0, $a0), (t1, t0) and ($v0, t2)
copies_moves : moves_of copies ≡ move 25 2 ∷ move 26 25 ∷ move 0 27 ∷ []
unfolding node_of
copies_moves = refl

-- a move of $zero is none between nodes
no_move : moves_of (MoveOf (temp 0) (Reg 0) ∷ MoveOf (Reg 29) (temp 0) ∷ Return ∷ []) ≡ []
unfolding node_of
no_move = refl

-- t0 is defined once and used twice, t1 and t2 are used once, and t2 alone is made
copies_facts : facts_of_nodes copies 3 2
    ≡ map (λ n. node_facts 0 false) (range_with_len 0 25) ++ node_facts 3 false ∷ node_facts 2 false ∷ node_facts 2 true ∷ []
copies_facts = refl
