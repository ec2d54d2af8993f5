-- What is compiled of an accepted program does what the program means on the machine with delayed
-- branches, with its delay slots.
use Rattle.std.specs.Prelude.{ℕ, ◌*◌, ◌<◌, ◌≡◌, List, [], Ok}
use Rattle.tg_machine_state.specs.State.{most_words}
use Rattle.tg_syntax.specs.OfWords.{OfWords}
use Rattle.tg_simulation.specs.Bytes.{AreBytes}
use Rattle.tg_simulation.specs.Ran.{Ran}
use Rattle.tg_simulation.specs.Runs.{Run}
use Rattle.tg_simulation.specs.Agreement.{Source, Follows, Agrees, FillsStack}
use Rattle.tg_simulation.specs.laws.Laws.{NeverEndsFull, NeverStuck}
use Rattle.tg_typecheck.specs.Programs.{CheckedProgram, IsAccepted}
use Rattle.tg_asm_text.specs.Assembly.{Assembled, assembled}
use Rattle.tg_tree.specs.declared.fragments.Literal.{Literal}
use Rattle.tg_tree.specs.Named.{named_ts, HasWords}
use Rattle.tg_instr.specs.declared.codes.Allocated.{Allocated}
use Rattle.tg_irc_definition.specs.Policies.{Rule}
use Rattle.tg_regalloc.specs.declared.allocations.Allocation.{Allocation}
use Rattle.tg_emit.specs.declared.assembly.Line.{Line}
use Rattle.tg_emit.specs.mirror.Lines.{words, assembly_of}
use Rattle.tg_emit.specs.mirror.Text.{text_of}
use Rattle.tg_emit_proof.specs.LinesRun.{lines_run}
use Rattle.tg_emit_proof.specs.laws.Laws.{HasImage}
use Rattle.tg_emit_proof.specs.laws.Emission.{FitRegions, lines_of}
use Rattle.tg_delay.specs.Filling.{delayed}
use Rattle.tg_delay_proof.specs.laws.Laws.{returns_behind_slots}
use Rattle.tg_bare_proof.specs.laws.Laws.{image_with, image_run}
use Rattle.tg_compile.specs.declared.passes.Passes.{Passes}
use Rattle.tg_compile.specs.Compiling.{Compiles}
use Rattle.tg_correctness.specs.laws.Laws.{tree_work, tree_besides, most_work, most_besides}
use Rattle.tg_compile_proof.specs.Forms.{Compilation, IsCompiled, registers, tree_form}
use Rattle.tg_compile_proof.specs.laws.Laws.{compilation_of}
use Rattle.tg_bare_compile_proof.specs.Images.{slot_times, BareDoesWhatIsMeant}
use Rattle.tg_bare_compile_proof.specs.Builds.{MayBeDelayed, delayed_text}

module _ (p : Compilation) where
  -- the lines of a compiled program, with their slots; and their image
  abbrev pub delayed_lines : List Line
  delayed_lines = delayed (lines_of (registers p))

  abbrev pub delayed_image : Assembled
  delayed_image = image_with delayed_lines p.literals

  module _ (input : List ℕ) (heap stack : ℕ) where
    -- the run of the lines without slots, for the words behind the slots of the image; and that of
    -- the image
    abbrev pub lines_form : Run Ran
    lines_form =
        lines_run (returns_behind_slots delayed_lines) (lines_of (registers p)) p.literals
        input heap stack

    abbrev pub delayed_form : Run Ran
    delayed_form = image_run delayed_image input heap stack

-- Where the trees follow a source, whatever source, the machine with delayed branches agrees with
-- it, and calls that are too deep for the stack fill it.
abbrev pub DelayedAgrees : Type 0
DelayedAgrees =
    (p : Compilation) → IsCompiled p → HasImage (delayed_lines p) p.literals →
    (source : Run Source) (input : List ℕ) (heap stack : ℕ) →
    AreBytes input →
    FitRegions heap stack →
    NeverEndsFull source →
    NeverStuck source →
    ((n : ℕ) → Follows stack tree_work tree_besides n source (tree_form p input heap stack)) →
    HasWords (λ body. named_ts body []) p.trees →
    Agrees (slot_times * most_work) (slot_times * most_besides) source
    (delayed_form p input heap stack)
    × FillsStack stack source (delayed_form p input heap stack)

-- What a program that isn't too large is compiled to has room for its slots.
abbrev pub DelayedIsShort : Type 0
DelayedIsShort =
    (passes : Passes) (rule : Rule) (program : CheckedProgram) (allocations : List Allocation)
    (literals : List Literal) →
    let p : Compilation = compilation_of passes rule program allocations literals in
    IsAccepted program → MayBeDelayed program.body → IsCompiled p →
    words (delayed_lines p) < most_words

-- The text of lines with slots has the image of the lines.
abbrev pub DelayedTextHasImage : Type 0
DelayedTextHasImage =
    (fs : List Allocated) (ls : List Literal) → HasImage (delayed (lines_of fs)) ls →
    assembled (text_of (delayed (assembly_of fs ls)))
    ≡ Ok (image_with (delayed (lines_of fs)) ls)

-- An accepted program whose ints are words, and which isn't too large, is compiled to a text that,
-- with its delay slots, has an image that does what the program means on the machine with delayed
-- branches.
abbrev pub BareCompileIsCorrect : Type 0
BareCompileIsCorrect =
    (passes : Passes) (rule : Rule) (program : CheckedProgram) (allocations : List Allocation)
    (text : List ℕ) →
    IsAccepted program → MayBeDelayed program.body → OfWords program.body →
    (compiles : Compiles passes rule program.notes program.body allocations text) →
    (image : Assembled) × (assembled (delayed_text allocations compiles.literals) ≡ Ok image)
    × BareDoesWhatIsMeant program.names program.body image
