-- The translation of an accepted program that is compiled, and the passes over its trees, keep their promise: the constants are words, and
-- the trees follow the program on every input, with frames of the sizes that its allocations have.
use Rattle.std.proofs.Common.{◌≤◌, ◌-◌, ◌∙◌, length, subst, arith}
use Rattle.std.specs.FinSet.{from_list}
use Rattle.tg_machine_state.specs.State.{most_bytes, stack_top}
use Rattle.tg_escape.specs.Links.{links_of}
use Rattle.tg_semantics.specs.MachineRuns.{program_run}
use Rattle.tg_tree.specs.Memory.{statics_of}
use Rattle.tg_tree.specs.Units.{Trees}
use Rattle.tg_tree.specs.Running.{tree_run}
use Rattle.tg_correctness.specs.laws.Laws.{tree_work, tree_besides}
use Rattle.tg_translate_laws.specs.laws.Laws.{ProgramsAreLinked}
use Rattle.tg_translate_proof.specs.laws.Laws.{TranslateIsCorrect, trees_of}
use Rattle.tg_stack_bounds.specs.laws.Weights.{AcceptedTreesAreLight, ProgramFramesAreLight}
use Rattle.tg_compile.specs.Compiling.{fragments_of}
use Rattle.tg_compile.specs.laws.Prepared.{PreparedIsReduced, LiteralsStay, PreparedHasWords}
use Rattle.tg_compile_proof.specs.Forms.{Compilation, frames, tree_form}
use Rattle.tg_compile_proof.specs.laws.Laws.{compilation_of, FramesAreSizesOfTrees, RuntimeFramesFit, FragmentsHaveWords}
use Rattle.tg_compile_proof.specs.laws.Laws.{PrepareIsCorrect, ProgramsAreTranslated}
use Rattle.tg_compile_proof.proofs.Preparing.{following_goes_on}
use Rattle.tg_compile_proof.proofs.Sizes.{sizes_are_allowed, statics_are}

pub programs_are_translated : TranslateIsCorrect → AcceptedTreesAreLight → ProgramFramesAreLight → ProgramsAreLinked → FramesAreSizesOfTrees →
    RuntimeFramesFit → FragmentsHaveWords → PreparedIsReduced → LiteralsStay → PreparedHasWords → PrepareIsCorrect → ProgramsAreTranslated
programs_are_translated kept light weigh linked sizes fits words reduced literals_stay words_stay prepares passes rule program allocations literals
    accepted of_words c =
    let p : Compilation = compilation_of passes rule program allocations literals in
    let source = fragments_of program.notes program.body in
    let few = c.program.statics_fit in
    let long = statics_are literals in
    let statics : length (statics_of (trees_of program).literals) ≤ most_bytes =
    subst (λ ls. length (statics_of ls) ≤ most_bytes) (c.literals ∙ literals_stay passes source) (omega (arith, few, long)) in
    record {
      words = words_stay passes source (words program accepted of_words);
      follows = λ input heap stack bytes asked n.
          following_goes_on stack tree_work tree_besides n (program_run program.names program.body input heap stack)
          (tree_run Trees source (frames p) (stack_top - stack) heap 32 input) (tree_form p input heap stack)
          ((kept program (frames p) heap stack input
          (record {
            accepted = accepted;
            words = of_words;
            statics = statics;
            sizes =
                sizes_are_allowed sizes fits weigh linked reduced passes rule program allocations literals accepted
                (light program (from_list (links_of program.body)) accepted) c;
            heap_small = asked.heap_most;
            stack_small = asked.stack_most;
            bytes = bytes;
          })).follows n)
          (prepares passes source (frames p) (stack_top - stack) heap 32 input);
    }
