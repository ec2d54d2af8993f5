-- What the program of `Program.antt` is found to be, and what it does in every form: it ends by
-- exit(16) and writes nothing.
use Rattle.std.specs.Prelude.{◌≡◌, ◌≤◌, ◌+◌, ◌*◌, [], pos}
use Rattle.tg_machine_state.specs.declared.ends.RunEnd.TheVariants.{Exit}
use Rattle.tg_simulation.specs.Outcomes.{Outcome, ended}
use Rattle.tg_simulation.specs.Ran.{Ran, Ended}
use Rattle.tg_semantics.specs.Values.{Ending, by_exit}
use Rattle.tg_semantics.specs.Direct.{evaluate}
use Rattle.tg_typecheck.specs.Accepted.{accepted, finding}
use Rattle.tg_escape.specs.Escaping.{escapes_of}
use Rattle.tg_escape.specs.Links.{links_of}
use Rattle.tg_translate.specs.mirror.Scopes.{Findings}
use Rattle.tg_instr.specs.declared.operands.Opnd.{Opnd}
use Rattle.tg_instr.specs.declared.instr.Instr.TheVariants.{Move}
use Rattle.tg_instr.specs.Lengths.{most_words}
use Rattle.tg_munch.specs.laws.Lengths.{kept_count}
use Rattle.tg_correctness.specs.laws.Laws.{unit_words, kept_words}
use Rattle.tg_pipeline_example.specs.Program.{names, program, notes, escaping, linking}
use Rattle.tg_pipeline_example.specs.Stages.{
  findings,
  as_trees,
  as_canonical,
  as_flat,
  as_instructions,
  as_known,
  as_most_words,
  as_in_frames,
  as_image,
}

abbrev pub IsFound : Type 0
IsFound =
    (finding names program ≡ accepted notes)
    × (escapes_of program ≡ escaping)
    × (links_of program ≡ linking)

abbrev found : Findings
found = findings notes escaping linking

abbrev pub ExitsBySixteen : Outcome Ending → Type 0
ExitsBySixteen o = (o.end ≡ ended (by_exit 16)) × (o.output ≡ [])

abbrev pub IsSo : Ran → Type 0
IsSo r = (r.stop ≡ Ended (Exit (pos 16))) × (r.output ≡ [])

abbrev pub SourceEnds : Type 0
SourceEnds = ExitsBySixteen (evaluate names program [] 64 65536 20)

abbrev pub TreesEnd : Type 0
TreesEnd = IsSo (as_trees program found 20)

abbrev pub CanonicalEnd : Type 0
CanonicalEnd = IsSo (as_canonical program found 20)

abbrev pub FlatEnds : Type 0
FlatEnds = IsSo (as_flat program found 40)

abbrev pub InstructionsEnd : Type 0
InstructionsEnd = IsSo (as_instructions program found 40)

abbrev pub KnownEnds : Type 0
KnownEnds = IsSo (as_known program found 40)

abbrev pub FramesEnd : Type 0
FramesEnd = IsSo (as_in_frames program found 40)

abbrev pub ImageEnds : Type 0
ImageEnds = IsSo (as_image program found 2000)

-- Of the constants of the passes, the words for a unit of flat code are those of a move, which an
-- allocation makes most of; and registers are kept by moves. So the words of the run are within
-- what its flat code's units pay for.
pub record WordsAreCounted : Type 0 where
  pub unit : (to from : Opnd) → most_words (Move to from) ≡ unit_words
  pub kept : kept_words ≡ unit_words * kept_count
  pub flat : (as_flat program found 40).work ≡ 571
  pub words : (as_most_words program found 40).work ≡ 2675
  pub within :
      (as_most_words program found 40).work ≤
      unit_words * (as_flat program found 40).work + kept_words
