-- Laws of the words of code and of the frames of compiled functions.
use Rattle.std.specs.Prelude.{ℕ, ◌≤◌, ◌<◌, ◌+◌, ◌-◌, ◌*◌, Bool, IsTrue, List, length, sum_by}
use Rattle.std.specs.List.{AllZip, list_all}
use Rattle.std.specs.Ordering.{nat_cmp}
use Rattle.std.specs.FinSet.{FinSet}
use Rattle.tg_machine_state.specs.State.{most_words as segment_words}
use Rattle.tg_syntax.specs.Tree.{Exp}
use Rattle.tg_syntax.specs.Functions.{Measures, program_functions, program_size}
use Rattle.tg_typecheck.specs.Programs.{CheckedProgram, IsAccepted}
use Rattle.tg_tree.specs.Tree.{Ts, Function}
use Rattle.tg_tree.specs.Sizes.{tree_length, tree_needs}
use Rattle.tg_tree.specs.declared.fragments.Literal.{Literal}
use Rattle.tg_translate.specs.mirror.Translate.{translated}
use Rattle.tg_translate_laws.specs.Programs.{with_runtime}
use Rattle.tg_translate_laws.specs.laws.Laws.{
  FunctionIsWithin,
  paid,
  node_length,
  node_needs,
  parameter_length,
  parameter_needs,
  function_length,
  function_needs,
  findings_in,
}
use Rattle.tg_canon_trace_proof.specs.Flattened.{MayBeFlattened}
use Rattle.tg_canon_trace_proof.specs.laws.Laws.{added_length, added_needs}
use Rattle.tg_instr.specs.declared.codes.Allocated.{Allocated}
use Rattle.tg_instr.specs.Lengths as instr
use Rattle.tg_munch.specs.laws.Lengths.{kept_count}
use Rattle.tg_redundancy.specs.mirror.Known.{most_moves}
use Rattle.tg_irc_definition.specs.Policies.{Rule}
use Rattle.tg_regalloc.specs.declared.allocations.Allocation.{Allocation}
use Rattle.tg_regalloc.specs.Allocations.{codes_of}
use Rattle.tg_emit.specs.mirror.Lines.{
  words,
  function_lines,
  functions_lines,
  size_of,
  is_long,
  assembly_of,
}
use Rattle.tg_code_bounds.specs.Allocating.{IsAllocationOf, has_small_frame}
use Rattle.tg_code_bounds.specs.Reduced.{ReducesTo}

-- The functions of a text. A declaration is a node of the body that it stands in, and so is each of
-- its parameters; and the body that it declares is a node at least.
abbrev pub param_count : Measures → ℕ
param_count m = m.nodes - m.size

abbrev pub FunctionsAreFew : Type 0
FunctionsAreFew =
    (e : Exp) →
    2 * length (program_functions e) + sum_by param_count (program_functions e) ≤
    program_size e + 1

-- The lines of a function, its branches turned round or not, are the words of its code at most, and
-- those of its entry, which lowers $sp and loads the word there.
abbrev pub entry_words : ℕ
entry_words = 4

abbrev pub LinesAreShort : Type 0
LinesAreShort =
    (turned : Bool) (f : Allocated) →
    words (function_lines turned f) ≤ instr.words f.code.list + entry_words

-- A function that is allocated, by the length and the needs of its tree: the words of its code,
-- whichever way its branches are written, and the bytes of its frame, with the slots of its
-- temporaries. Besides, its flat code may be a little longer than its tree, and it keeps nine
-- registers, each by a move, which counts thirteen, where other instructions count ten; and known
-- words are moved.
abbrev pub length_words : ℕ
length_words = 12

abbrev pub besides_words : ℕ
besides_words =
    length_words * added_length + 13 * kept_count + 3 * most_moves + entry_words

abbrev pub besides_bytes : ℕ
besides_bytes = 4 * (added_needs + 2 * added_length + kept_count)

abbrev pub CodeIsShort : Type 0
CodeIsShort =
    (rule : Rule) (f : Function Ts) (a : Allocation) → MayBeFlattened f → IsAllocationOf rule f a →
    (turned : Bool) →
    words (function_lines turned a.done) ≤ length_words * tree_length f + besides_words

abbrev pub FramesAreSmall : Type 0
FramesAreSmall =
    (rule : Rule) (f : Function Ts) (a : Allocation) → MayBeFlattened f → IsAllocationOf rule f a →
    size_of a.done.frame ≤ 4 * (tree_needs f + 2 * tree_length f) + besides_bytes

-- And by the measures of its text, where functions are nested 32 deep at most: what a node of its
-- body pays for, what a parameter does, and what each function has besides. The tree may be one that
-- a pass has made, no larger than what the text was translated to.
abbrev pub node_words : ℕ
node_words = length_words * node_length

abbrev pub parameter_words : ℕ
parameter_words = length_words * parameter_length

abbrev pub function_words : ℕ
function_words = length_words * function_length + besides_words

abbrev pub node_bytes : ℕ
node_bytes = 4 * (node_needs + 2 * node_length)

abbrev pub parameter_bytes : ℕ
parameter_bytes = 4 * (parameter_needs + 2 * parameter_length)

abbrev pub function_bytes : ℕ
function_bytes = 4 * (function_needs + 2 * function_length) + besides_bytes

pub record IsPaid (m : Measures) (code : Allocated) : Type 0 where
  pub short :
      (turned : Bool) →
      words (function_lines turned code) ≤ paid node_words parameter_words function_words m
  pub small : size_of code.frame ≤ paid node_bytes parameter_bytes function_bytes m

abbrev pub FunctionsArePaid : Type 0
FunctionsArePaid =
    (rule : Rule) (m : Measures) (f g : Function Ts) (a : Allocation) → m.level ≤ 32 →
    FunctionIsWithin m f → ReducesTo f g →
    MayBeFlattened g → IsAllocationOf rule g a →
    IsPaid m a.done

-- Allocations of the functions of a program, and after them of the runtime's: of those themselves, or
-- of functions in their places that are no larger.
pub record AreAllocationsOf (rule : Rule) (p : CheckedProgram) (links : FinSet nat_cmp)
    (allocations : List Allocation) : Type 0 where
  pub functions : List (Function Ts)
  pub reduced :
      AllZip ReducesTo (with_runtime (translated (findings_in p links) p.body)).functions functions
  pub allocated : AllZip (IsAllocationOf rule) functions allocations

-- The most words of code that a node of a program takes, with what its functions have besides, and
-- that the runtime takes.
abbrev pub most_node_words : ℕ
most_node_words = 1975

abbrev pub most_runtime_words : ℕ
most_runtime_words = 1000000

-- Their code is no longer than that, so that it fits its segment: as functions, and as an assembly
-- with any literals.
pub record FitsSegment (nodes : ℕ) (codes : List Allocated) : Type 0 where
  pub short :
      (turned : Bool) →
      words (functions_lines turned codes) ≤ most_node_words * nodes + most_runtime_words
  pub functions : words (functions_lines (is_long codes) codes) < segment_words
  pub assembly : (literals : List Literal) → words (assembly_of codes literals) < segment_words

abbrev pub ProgramCodeFits : Type 0
ProgramCodeFits =
    (rule : Rule) (p : CheckedProgram) (links : FinSet nat_cmp) (allocations : List Allocation) →
    IsAccepted p → AreAllocationsOf rule p links allocations →
    FitsSegment (program_size p.body) (codes_of allocations)

abbrev pub ProgramFramesAreSmall : Type 0
ProgramFramesAreSmall =
    (rule : Rule) (p : CheckedProgram) (links : FinSet nat_cmp) (allocations : List Allocation) →
    IsAccepted p → AreAllocationsOf rule p links allocations →
    IsTrue (list_all has_small_frame (codes_of allocations))
