-- The passes one after the other, over a compiled program.
use Rattle.std.proofs.Common.{ℕ, ◌-◌, ap, ◌∙◌}
use Rattle.std.specs.Prelude.{All}
use Rattle.std.proofs.lemmas.List.Elements.{All-contains}
use Rattle.tg_machine_state.specs.State.{initial_machine, stack_top}
use Rattle.tg_semantics.specs.laws.Laws.{FormsAgree}
use Rattle.tg_semantics.specs.Passing.{evaluate_passing}
use Rattle.tg_semantics.specs.MachineRuns.{program_run, NoEndingIsFull, OnlyStuckIsStuck}
use Rattle.tg_typecheck.specs.Programs.{CheckedProgram, IsAccepted}
use Rattle.tg_typecheck.specs.laws.Laws.{IsNeverStuck}
use Rattle.tg_asm_text.specs.Assembly.{Assembled, assembled}
use Rattle.tg_isa.specs.ImageRuns.{MachineStaysOver}
use Rattle.tg_tree.specs.Tree.{Ts, Function, Code}
use Rattle.tg_tree.specs.Units.{Trees}
use Rattle.tg_tree.specs.laws.Laws.{TreesStayOver}
use Rattle.tg_canon_trace_proof.specs.laws.Laws.{FlattenIsCorrect}
use Rattle.tg_canon_trace_proof.specs.Flattened.{MayBeFlattened}
use Rattle.tg_emit_laws.specs.Images.{ProgramHasImage}
use Rattle.tg_compile.specs.Compiling.{fragments_of}
use Rattle.tg_compile.specs.glue.Passes.{IsWellFormed}
use Rattle.tg_compile.specs.laws.Prepared.{PreparedIsReduced}
use Rattle.tg_emit_proof.specs.laws.Emission.{FitRegions, EmitIsCorrect, emitted_image}
use Rattle.tg_correctness.specs.laws.Laws.{PassesAgree, AgreementIsMeant}
use Rattle.tg_correctness.specs.Images.{AreSizes}
use Rattle.tg_compile_proof.specs.Forms.{Compilation, IsCompiled, registers, frames, tree_form, flat_form}
use Rattle.tg_compile_proof.specs.Forms.{instruction_form, register_form, machine_form}
use Rattle.tg_compile_proof.specs.laws.Laws.{CompiledMayRun, ChoiceIsKept, AllocationIsKept, CompiledAgrees}
use Rattle.tg_compile_proof.specs.laws.Laws.{CompileIsCorrect, compilation_of, IsTranslated, ProgramsAreTranslated}
use Rattle.tg_compile_proof.proofs.Reduced.{reduced_may}

pub compiled_agrees : CompiledMayRun → FlattenIsCorrect → EmitIsCorrect → TreesStayOver → MachineStaysOver →
    PassesAgree →
    ChoiceIsKept → AllocationIsKept → CompiledAgrees
compiled_agrees runs flatten emit trees_stay machine_stays passes chosen allocated p c source input heap stack bytes
    sizes full unstuck
    follows words =
    let floor = stack_top - stack in
    let image : Assembled = emitted_image (registers p) p.literals in
    passes stack source (tree_form p input heap stack) (flat_form p input heap stack)
    (instruction_form p input heap stack) (register_form p input heap stack) (machine_form p input heap stack)
    full unstuck
    (trees_stay Trees p.trees (frames p) floor heap 32 input)
    (machine_stays (initial_machine image.code image.statics image.entry heap stack) input)
    (record {
      translated = follows;
      flattened = flatten p.trees (frames p) floor heap 32 input c.may_be_flat;
      chosen = chosen p c words input heap stack bytes sizes;
      allocated = allocated p c input heap stack;
      emitted = emit (registers p) p.literals input heap stack (runs p c) sizes bytes;
    })

-- sizes that a command may ask for fit the regions
fit : (heap stack : ℕ) → AreSizes heap stack → FitRegions heap stack
fit heap stack s = record { heap_most = s.heap_most; stack_words = s.stack_words; stack_most = s.stack_most }

pub compile_is_correct :
    CompiledAgrees → ProgramHasImage → AgreementIsMeant → FormsAgree → NoEndingIsFull → OnlyStuckIsStuck →
    IsNeverStuck → ProgramsAreTranslated → PreparedIsReduced →
    ((program : CheckedProgram) → IsAccepted program →
    All IsWellFormed (fragments_of program.notes program.body).functions) →
    CompileIsCorrect
compile_is_correct agrees text meant forms full only never carried reduced formed passes rule program allocations assembly accepted
    compiles
    of_words = (
      emitted_image (registers p) p.literals,
      ap assembled compiles.text_is ∙ text (registers p) p.literals compiles.program compiles.typed,
      λ input heap stack bytes sizes.
          let passing = λ (n : ℕ). evaluate_passing program.names program.body input heap stack n in
          let both =
          agrees p compiled (program_run program.names program.body input heap stack) input heap stack bytes
          (fit heap stack sizes) (λ n. full (passing n))
          (λ n e. never program accepted input heap stack n
          (ap (λ o. o.end) (forms program.names program.body input heap stack n) ∙ only (passing n) e))
          (promised.follows input heap stack bytes sizes) promised.words in
          meant program.names program.body (emitted_image (registers p) p.literals) input heap stack both.0 both.1,
    )
  where
    p : Compilation
    p = compilation_of passes rule program allocations compiles.literals

    source : Code Ts
    source = fragments_of program.notes program.body

    may_be_flat : (f : Function Ts) → IsWellFormed f → MayBeFlattened f
    may_be_flat f h = record { closed = h.closed; temps = h.drawn }

    compiled : IsCompiled p
    compiled = record {
      functions = compiles.functions_are;
      literals = compiles.literals_are;
      program = compiles.program;
      typed = compiles.typed;
      may_be_flat =
          reduced_may source.functions p.trees.functions (reduced passes source)
          (λ f c. may_be_flat f (All-contains IsWellFormed source.functions f (formed program accepted) c));
    }

    promised : IsTranslated program p
    promised = carried passes rule program allocations compiles.literals accepted of_words compiled
