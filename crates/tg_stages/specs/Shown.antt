-- The text of `show`: of each function what each pass made of it, in the order in which the compiler
-- works (Appel, chapters 6 to 12).
use Rattle.std.specs.Prelude.{ℕ, ◌≡◌, List, [], ◌++◌, Bool, Option, Some, None, if◌then◌else◌}
use Rattle.tg_tree.specs.Tree.{Ts, Linear, Function}
use Rattle.tg_fold.specs.laws.Laws.{folded_function}
use Rattle.tg_canon.specs.laws.Meaning.{canonical}
use Rattle.tg_trace_schedule.specs.laws.Carried.{in_blocks}
use Rattle.tg_canon_trace_proof.specs.Flattened.{flattened}
use Rattle.tg_instr.specs.declared.instr.Instr.{Instr}
use Rattle.tg_munch.specs.mirror.Bodies.{munched}
use Rattle.tg_live.specs.Live.{Sets, AreLiveSets}
use Rattle.tg_graph.specs.Interference.{Interference}
use Rattle.tg_interference.specs.Pairs.{IsInterference}
use Rattle.tg_interference.specs.Moves.{moves_of}
use Rattle.tg_redundancy.specs.mirror.Known.{known_code}
use Rattle.tg_irc_definition.specs.declared.rounds.Round.{Round}
use Rattle.tg_regalloc.specs.Rounds.{BetweenRounds}
use Rattle.tg_regalloc.specs.declared.allocations.Allocation.{Allocation}
use Rattle.tg_emit.specs.mirror.Lines.{function_lines}
use Rattle.tg_compile.specs.declared.passes.Passes.{Passes}
use Rattle.tg_compile.specs.Prepared.{prepared_function}
use Rattle.tg_show.specs.declared.variables.FunctionVariables.{FunctionVariables}
use Rattle.tg_show.specs.Names.{names_of}
use Rattle.tg_show.specs.Stages.{function_line, variables_stage, tree_stage, folded_stage}
use Rattle.tg_show.specs.Stages.{canonical_stage, blocks_stage, traces_stage, instructions_stage}
use Rattle.tg_show.specs.Stages.{live_stage, graph_stage, registers_stage, assembly_stage}
use Rattle.tg_stages.specs.declared.headings.Heading.{Heading}
use Rattle.tg_stages.specs.LaterRounds.{TellLater}

-- trees and flat code tell no temporary by a name
abbrev unnamed : List (List ℕ)
unnamed = []

-- its variables, which only a function of the source has
abbrev pub variables_text : Option FunctionVariables → List ℕ
variables_text None = []
variables_text (Some own) = variables_stage own

-- the names of its temporaries that are homes of variables
abbrev pub temp_names : Option FunctionVariables → List (List ℕ)
temp_names None = []
temp_names (Some own) = names_of own

-- the tree as it was translated, and, where folding is switched on, as it was folded
abbrev pub trees_text : Passes → Function Ts → List ℕ
trees_text passes f =
    tree_stage unnamed f.body ++
    (if passes.fold then folded_stage unnamed (folded_function f).body else [])

-- canonical statements, blocks and traces of a function that is prepared
abbrev pub flat_text : Function Ts → List ℕ
flat_text f =
    canonical_stage unnamed (canonical f).body ++
    (blocks_stage unnamed (in_blocks (canonical f)).body ++
    traces_stage unnamed (flattened f).body)

-- its instructions with known words and tests, what is live out of each, and the graph and the moves
-- before the first round of allocation; by the names of its temporaries
abbrev pub code_text : (names : List (List ℕ)) → List Instr → Sets → Interference → List ℕ
code_text names code live graph =
    instructions_stage names code ++
    (live_stage names live code ++ graph_stage names graph (moves_of code))

-- its allocation, and its lines of assembly, whose branches are turned where the code is long
abbrev pub allocated_text :
    (names : List (List ℕ)) → (is_long : Bool) → Allocation → List ℕ
allocated_text names long a =
    registers_stage names a ++ assembly_stage (function_lines long a.done)

abbrev pub heading_text : (label : ℕ) → Heading → List ℕ
heading_text label h = function_line label h.name h.place

-- the instructions that are chosen for flat code, with known words and tests
abbrev pub first_code : Function (List Linear) → BetweenRounds
first_code f = record {
  list = known_code (munched f).code;
  temps = (munched f).drawn.temp;
  slots = f.slots;
}

-- the text of a code from its instructions to the graph of the first round
pub record TellsFirst (names : List (List ℕ)) (s : BetweenRounds) (text : List ℕ) : Type 0 where
  pub live : Sets
  pub graph : Interference
  pub are_live : AreLiveSets s.list live
  pub interferes : IsInterference s.list s.temps graph
  pub text_is : text ≡ code_text names s.list live graph

-- and then the graphs of later rounds of its allocation
pub record TellsCode (names : List (List ℕ)) (s : BetweenRounds) (rounds : List Round)
    (text : List ℕ) : Type 0 where
  pub first : List ℕ
  pub later : List ℕ
  pub tells_first : TellsFirst names s first
  pub tells_later : TellLater names s.temps 1 s rounds later
  pub text_is : text ≡ first ++ later

-- the text of a function that has this heading, these variables if the source declares it, and this
-- allocation
pub record TellsFunction (passes : Passes) (long : Bool) (h : Heading)
    (own : Option FunctionVariables) (f : Function Ts) (a : Allocation) (text : List ℕ) :
    Type 0 where
  pub code : List ℕ
  pub tells_code :
      TellsCode (temp_names own) (first_code (flattened (prepared_function passes f))) a.rounds code
  pub text_is :
      text ≡ heading_text f.label h ++
      (variables_text own ++
      (trees_text passes f ++
      (flat_text (prepared_function passes f) ++
      (code ++ allocated_text (temp_names own) long a))))
