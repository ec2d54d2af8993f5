-- The passes one after the other, over a compiled program, and its slots behind them.
use Rattle.std.proofs.Common.{ℕ, ◌-◌, ap, ◌∙◌, subst}
use Rattle.std.specs.Prelude.{All}
use Rattle.std.proofs.lemmas.List.Elements.{All-contains}
use Rattle.tg_machine_state.specs.State.{stack_top}
use Rattle.tg_semantics.specs.laws.Laws.{FormsAgree}
use Rattle.tg_semantics.specs.Passing.{evaluate_passing}
use Rattle.tg_semantics.specs.MachineRuns.{program_run, NoEndingIsFull, OnlyStuckIsStuck}
use Rattle.tg_typecheck.specs.Programs.{CheckedProgram, IsAccepted}
use Rattle.tg_typecheck.specs.laws.Laws.{IsNeverStuck}
use Rattle.tg_tree.specs.Tree.{Ts, Function, Code}
use Rattle.tg_tree.specs.Units.{Trees}
use Rattle.tg_tree.specs.laws.Laws.{TreesStayOver}
use Rattle.tg_canon_trace_proof.specs.laws.Laws.{FlattenIsCorrect}
use Rattle.tg_canon_trace_proof.specs.Flattened.{MayBeFlattened}
use Rattle.tg_emit.specs.mirror.Lines.{is_long}
use Rattle.tg_emit_laws.specs.Images.{ProgramIsCode, ProgramIsSound}
use Rattle.tg_emit_proof.specs.laws.Laws.{AreReturns, HasImage}
use Rattle.tg_emit_proof.specs.laws.Emission.{FitRegions, EmissionKeepsRuns, lines_of}
use Rattle.tg_delay_proof.specs.laws.Laws.{returns_behind_slots, DelayingKeepsCalls, SlotsAreReturns, LinesStayOver}
use Rattle.tg_bare_proof.specs.laws.Laws.{EmittedMayBeDelayed, DelayedLinesAgree, DelayedHasImage}
use Rattle.tg_compile.specs.Compiling.{fragments_of}
use Rattle.tg_compile.specs.glue.Passes.{IsWellFormed}
use Rattle.tg_compile.specs.laws.Prepared.{PreparedIsReduced}
use Rattle.tg_correctness.specs.laws.Laws.{PassesAgree}
use Rattle.tg_correctness.specs.Images.{AreSizes}
use Rattle.tg_compile_proof.specs.Forms.{Compilation, IsCompiled, registers, frames, tree_form, flat_form}
use Rattle.tg_compile_proof.specs.Forms.{instruction_form, register_form}
use Rattle.tg_compile_proof.specs.laws.Laws.{CompiledMayRun, ChoiceIsKept, AllocationIsKept}
use Rattle.tg_compile_proof.specs.laws.Laws.{compilation_of, IsTranslated, ProgramsAreTranslated}
use Rattle.tg_compile_proof.proofs.Reduced.{reduced_may}
use Rattle.tg_bare_compile_proof.specs.laws.Meaning.{BareAgreementIsMeant}
use Rattle.tg_bare_compile_proof.specs.laws.Laws.{delayed_lines, delayed_image, lines_form, DelayedAgrees, DelayedIsShort}
use Rattle.tg_bare_compile_proof.specs.laws.Laws.{DelayedTextHasImage, BareCompileIsCorrect}

pub delayed_agrees : CompiledMayRun → FlattenIsCorrect → EmissionKeepsRuns → TreesStayOver → LinesStayOver → PassesAgree →
    ChoiceIsKept → AllocationIsKept → EmittedMayBeDelayed → DelayingKeepsCalls → SlotsAreReturns → DelayedLinesAgree →
    DelayedAgrees
delayed_agrees runs flatten emission trees_stay lines_stay passes chosen allocated may same slots goes p c has source input heap stack
    bytes sizes full unstuck follows words =
    let floor = stack_top - stack in
    let fs = registers p in
    let lines = lines_of fs in
    let returns = returns_behind_slots (delayed_lines p) in
    let are = subst (λ n. AreReturns n returns) (same lines) (slots (delayed_lines p) has.short) in
    let both =
    passes stack source (tree_form p input heap stack) (flat_form p input heap stack)
    (instruction_form p input heap stack) (register_form p input heap stack) (lines_form p input heap stack)
    full unstuck
    (trees_stay Trees p.trees (frames p) floor heap 32 input)
    (lines_stay returns lines p.literals input heap stack)
    (record {
      translated = follows;
      flattened = flatten p.trees (frames p) floor heap 32 input c.may_be_flat;
      chosen = chosen p c words input heap stack bytes sizes;
      allocated = allocated p c input heap stack;
      emitted = emission fs p.literals input heap stack returns (runs p c) sizes bytes are;
    }) in
    let allowed = may (is_long fs) fs in
    goes 4096 65536 source lines p.literals input heap stack allowed.0 allowed.1 has both.0 both.1

-- sizes that a command may ask for fit the regions
fit : (heap stack : ℕ) → AreSizes heap stack → FitRegions heap stack
fit heap stack s = record { heap_most = s.heap_most; stack_words = s.stack_words; stack_most = s.stack_most }

pub bare_compile_is_correct :
    DelayedAgrees → DelayedHasImage → DelayedTextHasImage → DelayedIsShort → ProgramIsCode → ProgramIsSound → BareAgreementIsMeant →
    FormsAgree → NoEndingIsFull → OnlyStuckIsStuck → IsNeverStuck → ProgramsAreTranslated → PreparedIsReduced →
    ((program : CheckedProgram) → IsAccepted program →
    All IsWellFormed (fragments_of program.notes program.body).functions) →
    BareCompileIsCorrect
bare_compile_is_correct agrees images text short code sound meant forms full only never carried reduced formed passes rule program
    allocations assembly accepted few of_words compiles = (
      delayed_image p,
      text (registers p) p.literals has,
      λ input heap stack bytes sizes.
          let passing = λ (n : ℕ). evaluate_passing program.names program.body input heap stack n in
          let both =
          agrees p compiled has (program_run program.names program.body input heap stack) input heap stack bytes
          (fit heap stack sizes) (λ n. full (passing n))
          (λ n e. never program accepted input heap stack n
          (ap (λ o. o.end) (forms program.names program.body input heap stack n) ∙ only (passing n) e))
          (promised.follows input heap stack bytes sizes) promised.words in
          meant program.names program.body (delayed_image p) input heap stack both.0 both.1,
    )
  where
    p : Compilation
    p = compilation_of passes rule program allocations compiles.literals

    source : Code Ts
    source = fragments_of program.notes program.body

    may_be_flat : (f : Function Ts) → IsWellFormed f → MayBeFlattened f
    may_be_flat f h = record { closed = h.closed; temps = h.drawn }

    compiled : IsCompiled p
    compiled = record {
      functions = compiles.functions_are;
      literals = compiles.literals_are;
      program = compiles.program;
      typed = compiles.typed;
      may_be_flat =
          reduced_may source.functions p.trees.functions (reduced passes source)
          (λ f c. may_be_flat f (All-contains IsWellFormed source.functions f (formed program accepted) c));
    }

    promised : IsTranslated program p
    promised = carried passes rule program allocations compiles.literals accepted of_words compiled

    -- the lines have an image, and so have they with their slots
    plain : HasImage (lines_of (registers p)) p.literals
    plain = record {
      code = code (registers p) p.literals compiles.program compiles.typed;
      literals = compiles.typed.literals;
      sound = sound (registers p) p.literals compiles.program compiles.typed;
      short = compiles.program.code_fits;
    }

    has : HasImage (delayed_lines p) p.literals
    has = images (registers p) p.literals plain (short passes rule program allocations compiles.literals accepted few compiled)
