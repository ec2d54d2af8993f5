-- The text of some trees, computed.
use Rattle.std.specs.Prelude.{ℕ, ◌≡◌, List, [], ◌∷◌, ◌++◌, Some, None, codes, map, refl}
use Rattle.std.specs.Fmt.{digits}
use Rattle.std.specs.List.{range_with_len}
use Rattle.tg_frame.specs.declared.accesses.Access.TheVariants.{InTemp, InFrame}
use Rattle.tg_tree.specs.declared.operators.Bin.TheVariants.{Add}
use Rattle.tg_tree.specs.declared.operators.Rel.TheVariants.{Less}
use Rattle.tg_tree.specs.Tree.{Const, Address, Temp, FrameAddress, Binary, Load, Call, no_txs, tx}
use Rattle.tg_tree.specs.Tree.{Compare, Not, Both, Ts, Move, If, Break, Seq, Return, no_stms, stm}
use Rattle.tg_instr.specs.declared.operands.Opnd.{Opnd}
use Rattle.tg_instr.specs.declared.operands.Opnd.TheVariants as operand
use Rattle.tg_instr.specs.declared.instr.Instr.TheVariants as instr
use Rattle.tg_instr.specs.Uses.{defs_of}
use Rattle.tg_show.specs.Trees.{ts_text}
use Rattle.tg_show.specs.Layout.{new_line, laid}
use Rattle.tg_show.specs.declared.variables.FunctionVariables.{FunctionVariables}
use Rattle.tg_show.specs.Variables.{variables_lines}
use Rattle.tg_show.specs.Names.{names_of}
use Rattle.tg_show.specs.Runs.{operands_text}
use Rattle.tg_show.specs.Instructions.{told}
use Rattle.tg_show.specs.Live.{live_lines, live_text}
use Rattle.tg_show.specs.Stages.{function_line}

-- t3 is the home of `sum`
abbrev names : List (List ℕ)
names = [] ∷ [] ∷ [] ∷ codes "sum" ∷ []

abbrev short : Ts
short = Move 3 (Binary Add (Load (Temp 1)) (Const 4294967292))

on_one_line : laid 1 (ts_text names short) ≡ codes "  MOVE(TEMP t3:sum, BINOP(PLUS, MEM(TEMP t1), CONST -4))\n"
unfolding digits
on_one_line = refl

abbrev long : Ts
long =
    Seq (stm short (stm (If (Both (Compare Less (Temp 3) (Const 0)) (Not (Compare Less (Const 7) (Temp 4)))) (Seq no_stms) (Break 0))
    (stm (Return (Call 33 (tx FrameAddress (tx (Address 40) no_txs)))) no_stms)))

on_lines : laid 0 (ts_text names long) ≡
    codes "SEQ(\n  MOVE(TEMP t3:sum, BINOP(PLUS, MEM(TEMP t1), CONST -4)),\n  IF(\n    AND(REL(LT, TEMP t3:sum, CONST 0), NOT(REL(LT, CONST 7, TEMP t4))),\n    SEQ(),\n    BREAK 0),\n  RETURN(CALL(NAME f33, FP, NAME s40)))\n"
unfolding digits
on_lines = refl

-- Behind 40 levels a line is indented by 64 blanks.
indented : new_line 40 ≡ codes "\n                                                                "
indented = refl

-- a function at level 1 whose `b` is used by functions `g` and `h` in it; no type of `sum` is written
abbrev of_level_1 : FunctionVariables
of_level_1 = record {
  level = 1;
  link = Some (InFrame 0);
  parameters = record { place = record { line = 3; column = 14 }; name = codes "a"; of_type = Some (codes "int"); home = InTemp (record { 0 = 0 }); users = [] } ∷ [];
  locals =
      record { place = record { line = 4; column = 9 }; name = codes "b"; of_type = Some (codes "row"); home = InFrame 1; users = codes "g" ∷ codes "h" ∷ [] }
      ∷ record { place = record { line = 5; column = 9 }; name = codes "sum"; of_type = None; home = InTemp (record { 0 = 3 }); users = [] } ∷ [];
}

variables : variables_lines of_level_1 ≡
    codes "  level 1\n  link slot 0\n  parameter 3:14 a int t0\n  variable 4:9 b row slot 1 escapes to g h\n  variable 5:9 sum - t3\n"
unfolding digits
variables = refl

-- its temporaries t0 and t3 are homes
temporaries : names_of of_level_1 ≡ codes "a" ∷ [] ∷ [] ∷ codes "sum" ∷ []
temporaries = refl

function : function_line 33 (codes "f") (Some (record { line = 2; column = 12 })) ≡ codes "function 33 f 2:12\n"
unfolding digits
function = refl

abbrev t : ℕ → Opnd
t n = operand.Temp (record { 0 = n })

-- t3, which is the home of `sum`, lives across the call, whose result doesn't
live : live_lines names ((t 3 ∷ []) ∷ (operand.Reg 2 ∷ t 3 ∷ []) ∷ (operand.Reg 2 ∷ []) ∷ [] ∷ []) [] 0
    (instr.Mark 0 ∷ instr.Call (record { 0 = 33 }) ∷ instr.Sw (t 3) 4 (operand.Reg 2) ∷ instr.Return ∷ []) ≡
    codes "  .0:  # live t3:sum\n    jal f33  # live $v0 t3:sum  # crosses 1\n    sw t3:sum, 4($v0)  # live $v0\n    return\n"
unfolding digits
live = refl

-- 13 temporaries of which one is another than before
live_in_numbers : live_text names (t 3 ∷ map t (range_with_len 5 12)) (map t (range_with_len 4 13)) instr.Return ≡ codes "  # live 13 +t4 -t3:sum"
unfolding digits
live_in_numbers = refl

-- Out of a label they are told.
live_out_of_label : live_text names (t 3 ∷ []) (map t (range_with_len 4 13)) (instr.Mark 0) ≡ codes "  # live t4..t16"
unfolding digits
live_out_of_label = refl

-- Two that follow each other are no run, nor is one in which t3 stands, which has a name, and $t0 doesn't follow $a3.
runs : operands_text names (map operand.Reg (range_with_len 2 8) ++ (map t (range_with_len 2 5) ++ (t 7 ∷ t 9 ∷ t 8 ∷ []))) ≡
    codes " $v0 $v1 $a0..$a3 $t0 $t1 t2 t3:sum t4..t7 t9 t8"
unfolding digits
runs = refl

-- what a call defines
call_defines : told names (codes "  # defines") (defs_of (instr.Call (record { 0 = 33 }))) ≡
    codes "  # defines $v0 $v1 $a0..$a3 $t0..$t9 $ra"
unfolding digits
call_defines = refl
