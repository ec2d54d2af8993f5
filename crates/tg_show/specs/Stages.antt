-- The stages of a function: a line of the stage's name, and below it the lines of what it has,
-- which are indented by one level at least.
use Rattle.std.specs.Prelude.{ℕ, List, [], ◌∷◌, ◌++◌, codes, Option, Some, None}
use Rattle.std.specs.Fmt.{decimal}
use Rattle.tg_base.specs.declared.places.Place.{Place}
use Rattle.tg_tree.specs.Tree.{Ts, Stms, Linear}
use Rattle.tg_instr.specs.declared.instr.Instr.{Instr}
use Rattle.tg_trace_schedule.specs.Block.{Block}
use Rattle.tg_live.specs.Live.{Sets}
use Rattle.tg_graph.specs.Interference.{Interference}
use Rattle.tg_irc_definition.specs.declared.moves.Move.{Move}
use Rattle.tg_regalloc.specs.declared.allocations.Allocation.{Allocation}
use Rattle.tg_emit.specs.declared.assembly.Line.{Line}
use Rattle.tg_show.specs.declared.variables.FunctionVariables.{FunctionVariables}
use Rattle.tg_show.specs.Variables.{place_text, variables_lines}
use Rattle.tg_show.specs.Layout.{laid}
use Rattle.tg_show.specs.Trees.{ts_text}
use Rattle.tg_show.specs.Flat.{statement_lines, element_lines}
use Rattle.tg_show.specs.Instructions.{instruction_lines}
use Rattle.tg_show.specs.Blocks.{blocks_lines}
use Rattle.tg_show.specs.Live.{live_lines}
use Rattle.tg_show.specs.Graph.{graph_lines}
use Rattle.tg_show.specs.Registers.{allocation_lines}
use Rattle.tg_show.specs.Assembly.{assembly_lines}

-- a function by its label, as in the text of allocations, its name, and the place where it is
-- declared, which the program's body and the runtime's functions have none of
abbrev pub declared_text : Option Place → List ℕ
declared_text None = []
declared_text (Some place) = place_text place

abbrev pub function_line : (label : ℕ) → (name : List ℕ) → Option Place → List ℕ
function_line label name place =
    codes "function " ++ (decimal label ++ (codes " " ++ (name ++
    (declared_text place ++ 10 ∷ []))))

abbrev pub stage : (name lines : List ℕ) → List ℕ
stage name lines = name ++ (10 ∷ [] ++ lines)

abbrev pub variables_stage : FunctionVariables → List ℕ
variables_stage all = stage (codes "variables") (variables_lines all)

abbrev pub tree_stage : (names : List (List ℕ)) → Ts → List ℕ
tree_stage names body = stage (codes "tree") (laid 1 (ts_text names body))

abbrev pub folded_stage : (names : List (List ℕ)) → Ts → List ℕ
folded_stage names body = stage (codes "folded") (laid 1 (ts_text names body))

abbrev pub canonical_stage : (names : List (List ℕ)) → Stms → List ℕ
canonical_stage names ss = stage (codes "canonical") (statement_lines names 1 ss)

abbrev pub blocks_stage : (names : List (List ℕ)) → List Block → List ℕ
blocks_stage names blocks = stage (codes "blocks") (blocks_lines names 0 blocks)

abbrev pub traces_stage : (names : List (List ℕ)) → List Linear → List ℕ
traces_stage names code = stage (codes "traces") (element_lines names code)

abbrev pub instructions_stage : (names : List (List ℕ)) → List Instr → List ℕ
instructions_stage names list = stage (codes "instructions") (instruction_lines names list)

abbrev pub live_stage : (names : List (List ℕ)) → Sets → List Instr → List ℕ
live_stage names sets list = stage (codes "live") (live_lines names sets [] 0 list)

abbrev pub graph_stage : (names : List (List ℕ)) → Interference → List Move → List ℕ
graph_stage names g moves = stage (codes "graph") (graph_lines names g moves)

abbrev pub registers_stage : (names : List (List ℕ)) → Allocation → List ℕ
registers_stage names a = stage (codes "registers") (allocation_lines names a)

abbrev pub assembly_stage : List Line → List ℕ
assembly_stage lines = stage (codes "assembly") (assembly_lines lines)
