-- The laws of runs of lines: one is the machine's run of the image that the lines make, for the
-- words after the calls there, and these are such as a run of lines asks for.
use Rattle.std.specs.Prelude.{ℕ, ◌+◌, ◌*◌, ◌^◌, ◌==◌, ◌≡◌, ◌≢◌, ◌<◌, List, [], ◌∷◌, ◌++◌, map}
use Rattle.std.specs.Prelude.{codes, All, if◌then◌else◌}
use Rattle.tg_machine_state.specs.State.{code_base, most_words, initial_machine}
use Rattle.tg_simulation.specs.Ran.{Wrong}
use Rattle.tg_isa.specs.declared.mips.Mips.TheVariants.{Jal}
use Rattle.tg_asm_text.specs.declared.keywords.Segment.TheVariants.{Code}
use Rattle.tg_asm_text.specs.Assembly.{Assembled}
use Rattle.tg_asm_text.specs.Placement.{IsSound, image_of}
use Rattle.tg_asm_text.specs.Texts as texts
use Rattle.tg_isa.specs.ImageRuns.{machine_run}
use Rattle.tg_tree.specs.declared.fragments.Literal.{Literal}
use Rattle.tg_emit.specs.declared.assembly.Line.{Line}
use Rattle.tg_emit.specs.declared.assembly.Line.TheVariants.{One}
use Rattle.tg_emit.specs.mirror.Lines.{words_of, words}
use Rattle.tg_emit.specs.Ranges.{LiteralFits}
use Rattle.tg_emit_laws.specs.Images.{written_line, statics_written, AreCode}
use Rattle.tg_emit_proof.specs.LinesRun.{Returns, calls, lines_run}

-- words that can stand for the places after so many calls
pub record AreReturns (n : ℕ) (returns : Returns) : Type 0 where
  pub words : (k : ℕ) → k < n → returns k < 2 ^ 32
  pub elsewhere : (k : ℕ) → k < n → returns k ≢ 0
  pub differ : (j k : ℕ) → j < n → k < n → returns j ≡ returns k → j ≡ k

-- the word after the call with so many calls after it, in lines the first of which is at a word
abbrev pub word_behind : (at : ℕ) → List Line → Returns
word_behind at [] k = at
word_behind at (One (Jal n) target ∷ rest) k =
    if calls rest == k then at + 1 else word_behind (at + 1) rest k
word_behind at (line ∷ rest) k = word_behind (at + words_of line) rest k

-- the places after the calls of an image
abbrev pub returns_in : List Line → Returns
returns_in lines k = code_base + 4 * word_behind 0 lines k

-- code and literals as the assembler reads them
abbrev pub written : List Line → List Literal → List texts.Line
written lines ls =
    texts.Enter Code ∷ texts.Globl (codes "main") ∷ map written_line lines ++ statics_written ls

-- Lines and literals of which there is an image, with a word to spare in its segment.
pub record HasImage (lines : List Line) (ls : List Literal) : Type 0 where
  pub code : AreCode lines
  pub literals : All LiteralFits ls
  pub sound : IsSound (texts.readings_of (written lines ls))
  pub short : words lines < most_words

-- The machine's run of the image is the run of the lines, for the words after its calls.
abbrev pub LinesRunOnTheMachine : Type 0
LinesRunOnTheMachine =
    (lines : List Line) (ls : List Literal) (input : List ℕ) (heap stack n : ℕ) →
    HasImage lines ls →
    (lines_run (returns_in lines) lines ls input heap stack n).stop ≢ Wrong →
    let image : Assembled = image_of (texts.readings_of (written lines ls)) in
    machine_run (initial_machine image.code image.statics image.entry heap stack) input n
    ≡ lines_run (returns_in lines) lines ls input heap stack n

-- The places after calls differ, and none is 0.
abbrev pub PlacesAreReturns : Type 0
PlacesAreReturns =
    (lines : List Line) → words lines < most_words →
    AreReturns (calls lines) (returns_in lines)
