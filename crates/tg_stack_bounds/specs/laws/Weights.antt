-- Frames within the weight of a function of the text: 256 bytes a node, 64 a level that is crossed,
-- and 1,024 besides; and those of the runtime within 4,096.
use Rattle.std.specs.Prelude.{◌≡◌, ◌≤◌, ◌+◌, ◌*◌, List, ◌++◌, length}
use Rattle.std.specs.List.{AllZip, AllByRecursion}
use Rattle.std.specs.Ordering.{nat_cmp}
use Rattle.std.specs.FinSet.{FinSet}
use Rattle.tg_syntax.specs.Functions.{Measures, program_functions}
use Rattle.tg_semantics.specs.Levels.{activation}
use Rattle.tg_typecheck.specs.Programs.{CheckedProgram, IsAccepted}
use Rattle.tg_tree.specs.Tree.{Ts, Function}
use Rattle.tg_tree.specs.Sizes.{tree_length, tree_needs}
use Rattle.tg_translate.specs.mirror.Translate.{translated}
use Rattle.tg_translate_laws.specs.laws.Laws.{findings_in}
use Rattle.tg_canon_trace_proof.specs.Flattened.{MayBeFlattened}
use Rattle.tg_irc_definition.specs.Policies.{Rule}
use Rattle.tg_regalloc.specs.declared.allocations.Allocation.{Allocation}
use Rattle.tg_emit.specs.mirror.Lines.{size_of}
use Rattle.tg_code_bounds.specs.Allocating.{IsAllocationOf}
use Rattle.tg_code_bounds.specs.laws.Laws.{AreAllocationsOf}

-- A tree that takes 64 words a node and 16 a level that is crossed, of needs and of a seventh of
-- its length together, and for each parameter of the frame a little.
pub record IsLight (m : Measures) (f : Function Ts) : Type 0 where
  pub light :
      7 * tree_needs f + tree_length f + 8 * length f.params
      ≤ 448 * m.nodes + 112 * m.hops + 1727

-- a frame within what an activation of its function weighs
abbrev pub IsWithinWeight : Measures → Allocation → Type 0
IsWithinWeight m a = size_of a.done.frame ≤ activation m.nodes m.hops

-- the law of one function: whatever the policy, its frame is within the weight where its tree is
-- light
abbrev pub FramesAreLight : Type 0
FramesAreLight =
    (rule : Rule) (m : Measures) (f : Function Ts) (a : Allocation) →
    MayBeFlattened f → IsAllocationOf rule f a → IsLight m f → IsWithinWeight m a

-- a frame of the runtime, none of whose functions calls another
abbrev pub FitsRuntime : Allocation → Type 0
FitsRuntime a = size_of a.done.frame ≤ 4096

-- The allocations of a program: those of its functions, in the order of the text, and those of the
-- runtime after them; of all these, or of what passes make of them that is no larger.
pub record AreWithinWeight (ms : List Measures) (allocations : List Allocation) : Type 0 where
  pub own : List Allocation
  pub rest : List Allocation
  pub all : allocations ≡ own ++ rest
  pub within : AllZip IsWithinWeight ms own
  pub fit : AllByRecursion FitsRuntime rest

-- the trees of a program are light, each for its function of the text
abbrev pub TreesAreLight : CheckedProgram → FinSet nat_cmp → Type 0
TreesAreLight p links =
    AllZip IsLight (program_functions p.body) (translated (findings_in p links) p.body).functions

-- which those of an accepted program are
abbrev pub AcceptedTreesAreLight : Type 0
AcceptedTreesAreLight =
    (p : CheckedProgram) (links : FinSet nat_cmp) → IsAccepted p → TreesAreLight p links

-- the law of programs
abbrev pub ProgramFramesAreLight : Type 0
ProgramFramesAreLight =
    (rule : Rule) (p : CheckedProgram) (links : FinSet nat_cmp) (allocations : List Allocation) →
    IsAccepted p → AreAllocationsOf rule p links allocations →
    AreWithinWeight (program_functions p.body) allocations
