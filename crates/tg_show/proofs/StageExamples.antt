-- The text of stages, computed.
use Rattle.std.specs.Prelude.{ℕ, ◌≡◌, List, [], ◌∷◌, true, false, codes, refl}
use Rattle.std.specs.Fmt.{digits}
use Rattle.tg_isa.specs.declared.mips.Mips.TheVariants as mips
use Rattle.tg_tree.specs.declared.operators.Rel.TheVariants.{Less}
use Rattle.tg_tree.specs.Tree.{Const, Temp, Move, no_stms, stm}
use Rattle.tg_trace_schedule.specs.Block.{Branch, Return, Block}
use Rattle.tg_graph.specs.Interference.{Interference, bare, with_edge}
use Rattle.tg_regalloc.specs.declared.allocations.Location.TheVariants.{Colour, Slot}
use Rattle.tg_emit.specs.declared.assembly.Line.TheVariants.{Label, One, La}
use Rattle.tg_show.specs.Blocks.{blocks_lines}
use Rattle.tg_show.specs.Graph.{graph_lines, round_lines}
use Rattle.tg_show.specs.Registers.{placed_lines}
use Rattle.tg_show.specs.Assembly.{assembly_lines}

-- t3 is the home of `sum`
abbrev names : List (List ℕ)
names = [] ∷ [] ∷ [] ∷ codes "sum" ∷ []

abbrev two_blocks : List Block
two_blocks =
    record { body = stm (Move 3 (Const 1)) no_stms; end = Branch Less (Temp 3) (Const 4) 0 1 }
    ∷ record { body = no_stms; end = Return (Temp 3) } ∷ []

blocks : blocks_lines names 0 two_blocks ≡
    codes "  LABEL .0\n    MOVE(TEMP t3:sum, CONST 1)\n    CJUMP(LT, TEMP t3:sum, CONST 4, .0, .1)\n  LABEL .1\n    RETURN(TEMP t3:sum)\n"
unfolding digits
blocks = refl

-- t1 and t0 interfere, and t0 with $a0, to which it was joined last
abbrev graph : Interference
graph = with_edge (with_edge (bare 27) 26 25) 25 2

graph_and_move : graph_lines names graph (record { to = 25; from = 4 } ∷ []) ≡
    codes "  t0 low t1 $a0\n  t1 low t0\n  move t0 $a2\n"
unfolding digits
graph_and_move = refl

second_round : round_lines names 2 graph [] ≡ codes "  round 2\n  t0 low t1 $a0\n  t1 low t0\n"
unfolding digits
second_round = refl

homes : placed_lines names false (Colour 0 ∷ Slot 2 ∷ Colour 24 ∷ Colour 16 ∷ []) ≡
    codes "  colour t0 $v0\n  slot t1 2\n  colour t2 $ra\n  colour t3:sum $s0\n"
unfolding digits
homes = refl

all_in_frame : placed_lines names true (Slot 2 ∷ []) ≡ codes "  all in frame\n"
all_in_frame = refl

lines : assembly_lines (Label (codes "f33") ∷ One (mips.Jr 31) [] ∷ La 8 (codes "s40") ∷ []) ≡
    codes "  f33:\n  \tjr $ra\n  \tla $t0, s40\n"
unfolding digits
lines = refl
