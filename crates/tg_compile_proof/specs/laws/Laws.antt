-- What is compiled of an accepted program whose ints are words does what the program means: the
-- laws of the passes, one after the other, and the theorem.
use Rattle.std.specs.Prelude.{ℕ, ◌≡◌, ◌≤◌, List, [], map, Ok}
use Rattle.std.specs.List.{Contains, sum}
use Rattle.tg_syntax.specs.OfWords.{OfWords}
use Rattle.tg_simulation.specs.Bytes.{AreBytes}
use Rattle.tg_simulation.specs.Ran.{Ran}
use Rattle.tg_simulation.specs.Runs.{Run}
use Rattle.tg_simulation.specs.Preserving.{Preserves}
use Rattle.tg_simulation.specs.Agreement.{Source, Follows, Agrees, FillsStack}
use Rattle.tg_simulation.specs.laws.Laws.{NeverEndsFull, NeverStuck}
use Rattle.tg_semantics.specs.MachineRuns.{program_run}
use Rattle.tg_typecheck.specs.Programs.{CheckedProgram, IsAccepted}
use Rattle.tg_asm_text.specs.Assembly.{Assembled, assembled}
use Rattle.tg_tree.specs.declared.fragments.Literal.{Literal}
use Rattle.tg_tree.specs.Tree.{Ts, Function, Code}
use Rattle.tg_tree.specs.Units.{Trees}
use Rattle.tg_tree.specs.Running.{tree_run}
use Rattle.tg_tree.specs.Named.{named_ts, HasWords}
use Rattle.tg_tree.specs.FrameSizes.{IsSizeOf, IsNested}
use Rattle.tg_instr.specs.declared.instr.Instr.{Instr}
use Rattle.tg_irc_definition.specs.Policies.{Rule}
use Rattle.tg_regalloc.specs.declared.allocations.Allocation.{Allocation}
use Rattle.tg_compile.specs.declared.passes.Passes.{Passes}
use Rattle.tg_compile.specs.Prepared.{prepared}
use Rattle.tg_compile.specs.Compiling.{fragments_of, Compiles}
use Rattle.tg_emit_proof.specs.laws.Emission.{MayRun, FitRegions}
use Rattle.tg_correctness.specs.laws.Laws.{tree_work, tree_besides, unit_words, kept_words}
use Rattle.tg_correctness.specs.laws.Laws.{most_work, most_besides}
use Rattle.tg_correctness.specs.Images.{AreSizes, DoesWhatIsMeant}
use Rattle.tg_compile_proof.specs.Forms.{Compilation, IsCompiled, instructions, registers}
use Rattle.tg_compile_proof.specs.Forms.{frames, tree_form, flat_form, instruction_form}
use Rattle.tg_compile_proof.specs.Forms.{register_form, machine_form}

-- What is asked of the choice of instructions, with known words and tests, on an input.
abbrev pub KeepsChoice : (p : Compilation) → (input : List ℕ) → (heap stack : ℕ) → Type 0
KeepsChoice p input heap stack =
    Preserves unit_words kept_words
    (flat_form p input heap stack) (instruction_form p input heap stack)

-- It does, of every compiled program whose constants are words.
abbrev pub ChoiceIsKept : Type 0
ChoiceIsKept =
    (p : Compilation) → IsCompiled p → HasWords (λ body. named_ts body []) p.trees →
    (input : List ℕ) (heap stack : ℕ) → AreBytes input → FitRegions heap stack →
    KeepsChoice p input heap stack

-- a program that is compiled may be run: its code names $zero, $sp and the colours alone
abbrev pub CompiledMayRun : Type 0
CompiledMayRun = (p : Compilation) → IsCompiled p → MayRun (registers p) p.literals

-- The frames of the allocations are frames of the instructions; and of the trees, which have no
-- words for arguments.
abbrev pub FramesAreSizes : Type 0
FramesAreSizes =
    (p : Compilation) → IsCompiled p → (f : Function (List Instr)) →
    Contains (instructions p).functions f → IsSizeOf f (frames p f.label)

abbrev pub FramesAreSizesOfTrees : Type 0
FramesAreSizesOfTrees =
    (p : Compilation) → IsCompiled p → (f : Function Ts) →
    Contains p.trees.functions f → f.out ≡ 0 → IsSizeOf f (frames p f.label)

-- Allocating registers keeps what the instructions do, whatever the policy, in no more steps than
-- are counted for them.
abbrev pub AllocationIsKept : Type 0
AllocationIsKept =
    (p : Compilation) → IsCompiled p → (input : List ℕ) (heap stack : ℕ) →
    Preserves 1 0 (instruction_form p input heap stack) (register_form p input heap stack)

-- Where the trees follow a source, whatever source, the machine agrees with it, and calls that are
-- too deep for the stack fill it.
abbrev pub CompiledAgrees : Type 0
CompiledAgrees =
    (p : Compilation) → IsCompiled p → (source : Run Source) (input : List ℕ) (heap stack : ℕ) →
    AreBytes input →
    FitRegions heap stack →
    NeverEndsFull source →
    NeverStuck source →
    ((n : ℕ) → Follows stack tree_work tree_besides n source (tree_form p input heap stack)) →
    HasWords (λ body. named_ts body []) p.trees →
    Agrees most_work most_besides source (machine_form p input heap stack)
    × FillsStack stack source (machine_form p input heap stack)

-- what an accepted program is compiled to, with the passes that are switched on
abbrev pub compilation_of :
    Passes → Rule → CheckedProgram → List Allocation → List Literal → Compilation
compilation_of passes rule p allocations literals = record {
  rule = rule;
  trees = prepared passes (fragments_of p.notes p.body);
  allocations = allocations;
  literals = literals;
}

-- What passes over trees make of a program does what it did, with no more work.
abbrev pub PrepareIsCorrect : Type 0
PrepareIsCorrect =
    (passes : Passes) (code : Code Ts) (size : ℕ → ℕ) (floor room body : ℕ) (input : List ℕ) →
    Preserves 1 0
    (tree_run Trees code size floor room body input)
    (tree_run Trees (prepared passes code) size floor room body input)

-- Code that follows a source, and is preserved with no more work, is followed by what comes of it:
-- a full stack cuts the one where it cuts the other.
abbrev pub FollowingGoesOn : Type 0
FollowingGoesOn =
    (stack a r n : ℕ) (source : Run Source) (before after : Run Ran) →
    Follows stack a r n source before → Preserves 1 0 before after →
    Follows stack a r n source after

-- Frames of the runtime's functions that are open at once, of which no one calls another before the
-- passes or after them, have 4,096 bytes.
abbrev pub RuntimeFramesFit : Type 0
RuntimeFramesFit =
    (passes : Passes) (rule : Rule) (program : CheckedProgram) (allocations : List Allocation)
    (literals : List Literal) →
    let p : Compilation = compilation_of passes rule program allocations literals in
    IsCompiled p →
    (fs : List (Function Ts)) →
    IsNested (λ body. named_ts body []) (fragments_of program.notes program.body).functions fs →
    sum (map (λ (f : Function Ts). frames p f.label) fs) ≤ 4096

-- What the translation of a program promises, with the passes over its trees: the constants are
-- words, and on every input and with all sizes of heap and stack the trees follow the program.
pub record IsTranslated (program : CheckedProgram) (p : Compilation) : Type 0 where
  pub words : HasWords (λ body. named_ts body []) p.trees
  pub follows :
      (input : List ℕ) (heap stack : ℕ) → AreBytes input → AreSizes heap stack → (n : ℕ) →
      Follows stack tree_work tree_besides n
      (program_run program.names program.body input heap stack)
      (tree_form p input heap stack)

-- it does, where an accepted program's ints are words and it is compiled
abbrev pub ProgramsAreTranslated : Type 0
ProgramsAreTranslated =
    (passes : Passes) (rule : Rule) (program : CheckedProgram) (allocations : List Allocation)
    (literals : List Literal) →
    IsAccepted program → OfWords program.body →
    IsCompiled (compilation_of passes rule program allocations literals) →
    IsTranslated program (compilation_of passes rule program allocations literals)

-- The constants of an accepted program's trees, with the runtime's, are words, where those of its
-- text are.
abbrev pub FragmentsHaveWords : Type 0
FragmentsHaveWords =
    (program : CheckedProgram) → IsAccepted program → OfWords program.body →
    HasWords (λ body. named_ts body []) (fragments_of program.notes program.body)

-- An accepted program whose ints are words is compiled to a text whose image does what the program
-- means, whatever passes are switched on.
abbrev pub CompileIsCorrect : Type 0
CompileIsCorrect =
    (passes : Passes) (rule : Rule) (program : CheckedProgram) (allocations : List Allocation)
    (text : List ℕ) →
    IsAccepted program →
    Compiles passes rule program.notes program.body allocations text →
    OfWords program.body →
    (image : Assembled) × (assembled text ≡ Ok image)
    × DoesWhatIsMeant program.names program.body image
