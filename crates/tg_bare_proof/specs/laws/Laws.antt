-- The laws of filled delay slots on the machine that has them: its run of the image that the lines
-- make is the run of the lines, and does what the lines before do; and which lines have an image.
use Rattle.std.specs.Prelude.{ℕ, ◌+◌, ◌*◌, ◌<◌, ◌≤◌, ◌≡◌, ◌≢◌, List, [], ◌∷◌, ◌++◌, ⊤}
use Rattle.std.specs.Prelude.{Bool, true}
use Rattle.tg_machine_state.specs.State.{most_words}
use Rattle.tg_simulation.specs.Runs.{Run}
use Rattle.tg_simulation.specs.Ran.{Ran, Wrong}
use Rattle.tg_simulation.specs.Agreement.{Source, Agrees, FillsStack}
use Rattle.tg_simulation.specs.Preserving.{Preserves}
use Rattle.tg_isa.specs.declared.mips.Mips.TheVariants.{Jalr}
use Rattle.tg_asm_text.specs.Assembly.{Assembled}
use Rattle.tg_asm_text.specs.Placement.{image_of}
use Rattle.tg_asm_text.specs.Texts as texts
use Rattle.tg_tree.specs.declared.fragments.Literal.{Literal}
use Rattle.tg_instr.specs.declared.codes.Allocated.{Allocated}
use Rattle.tg_emit.specs.declared.assembly.Line.{Line}
use Rattle.tg_emit.specs.declared.assembly.Line.TheVariants.{One}
use Rattle.tg_emit.specs.mirror.Lines.{words, functions_lines, literals_lines, is_long, assembly_of}
use Rattle.tg_emit_proof.specs.LinesRun.{Returns, calls, lines_run}
use Rattle.tg_emit_proof.specs.laws.Laws.{AreReturns, written, HasImage}
use Rattle.tg_bare.specs.Delayed.{initial_bare}
use Rattle.tg_bare.specs.BareRuns.{bare_run}
use Rattle.tg_delay.specs.Filling.{filled, delayed}
use Rattle.tg_delay_proof.specs.DelayedRun.{delayed_run}
use Rattle.tg_delay_proof.specs.laws.Laws.{GivesNone, returns_behind_slots}

-- no row is a `jalr`, whose word a run of lines doesn't know
abbrev pub HasNoJalr : List Line → Type 0
HasNoJalr [] = ⊤
HasNoJalr (One (Jalr rd rs) target ∷ rest) = ⊥
HasNoJalr (line ∷ rest) = HasNoJalr rest

abbrev pub image_with : List Line → List Literal → Assembled
image_with lines ls = image_of (texts.readings_of (written lines ls))

abbrev pub image_run : Assembled → (input : List ℕ) → (heap stack : ℕ) → Run Ran
image_run image input heap stack =
    bare_run (initial_bare image.code image.statics image.entry heap stack) input

-- As long as lines don't go wrong the machine's run of their image is the run of the lines, for the
-- words behind the slots there.
abbrev pub DelayedRunOnTheMachine : Type 0
DelayedRunOnTheMachine =
    (lines : List Line) (ls : List Literal) (input : List ℕ) (heap stack n : ℕ) →
    HasImage lines ls → HasNoJalr lines →
    (delayed_run (returns_behind_slots lines) lines ls input heap stack n).stop ≢ Wrong →
    image_run (image_with lines ls) input heap stack n
    ≡ delayed_run (returns_behind_slots lines) lines ls input heap stack n

-- A run that lines keep, whatever words stand behind their calls, the machine keeps: with as many
-- units of work for each unit, and as many besides, as four times the lines.
abbrev pub LinesAreDelayed : Type 0
LinesAreDelayed =
    (a b : ℕ) (c : Run Ran) (lines : List Line) (ls : List Literal) (input : List ℕ)
    (heap stack : ℕ) →
    ((returns : Returns) → AreReturns (calls lines) returns →
    Preserves a b c (lines_run returns lines ls input heap stack)) →
    GivesNone lines → HasNoJalr lines → HasImage (delayed lines) ls →
    Preserves (4 * a) (4 * b + 0) c (image_run (image_with (delayed lines) ls) input heap stack)

-- The lines' own run, for the words behind the slots of the delayed lines, the machine keeps.
abbrev pub LinesKeepOnTheMachine : Type 0
LinesKeepOnTheMachine =
    (lines : List Line) (ls : List Literal) (input : List ℕ) (heap stack : ℕ) →
    GivesNone lines → HasNoJalr lines → HasImage (delayed lines) ls →
    Preserves 4 0
    (lines_run (returns_behind_slots (delayed lines)) lines ls input heap stack)
    (image_run (image_with (delayed lines) ls) input heap stack)

-- Where the lines agree with a source, for these words, so does the machine.
abbrev pub DelayedLinesAgree : Type 0
DelayedLinesAgree =
    (a b : ℕ) (source : Run Source) (lines : List Line) (ls : List Literal) (input : List ℕ)
    (heap stack : ℕ) →
    GivesNone lines → HasNoJalr lines → HasImage (delayed lines) ls →
    let before : Run Ran =
    lines_run (returns_behind_slots (delayed lines)) lines ls input heap stack in
    let after : Run Ran = image_run (image_with (delayed lines) ls) input heap stack in
    Agrees a b source before → FillsStack stack source before →
    Agrees (4 * a) (4 * b + 0) source after × FillsStack stack source after

-- What is asked of the lines holds of what is emitted.
abbrev pub EmittedMayBeDelayed : Type 0
EmittedMayBeDelayed =
    (turned : Bool) (fs : List Allocated) →
    GivesNone (functions_lines turned fs) × HasNoJalr (functions_lines turned fs)

-- An assembly is delayed in its code alone.
abbrev pub CodeIsDelayed : Type 0
CodeIsDelayed =
    (fs : List Allocated) (ls : List Literal) →
    delayed (assembly_of fs ls) ≡ delayed (functions_lines (is_long fs) fs) ++ literals_lines ls

-- Lines with their slots have an image where they are short.
abbrev pub FilledHasImage : Type 0
FilledHasImage =
    (lines : List Line) (ls : List Literal) →
    HasImage lines ls → words (filled lines) ≤ 32000 → HasImage (filled lines) ls

-- And where they are long, since their branches are turned round.
abbrev pub LongCodeHasImage : Type 0
LongCodeHasImage =
    (fs : List Allocated) (ls : List Literal) →
    HasImage (functions_lines true fs) ls →
    words (filled (functions_lines true fs)) < most_words →
    HasImage (filled (functions_lines true fs)) ls

-- What is emitted has an image with its delay slots, however long its code is, where that fits the
-- segment: branches are turned round where they wouldn't reach.
abbrev pub DelayedHasImage : Type 0
DelayedHasImage =
    (fs : List Allocated) (ls : List Literal) →
    HasImage (functions_lines (is_long fs) fs) ls →
    words (delayed (functions_lines (is_long fs) fs)) < most_words →
    HasImage (delayed (functions_lines (is_long fs) fs)) ls
