-- What is emitted does what its functions over registers do: as lines, whatever words stand for
-- the places after its calls, and as an image on the machine.
use Rattle.std.specs.Prelude.{ℕ, ◌+◌, ◌-◌, ◌%◌, ◌==◌, ◌≡◌, ◌≢◌, ◌≤◌, List, [], ◌∷◌, map, Ok}
use Rattle.std.specs.Prelude.{IsTrue, if◌then◌else◌}
use Rattle.std.specs.List.{list_all}
use Rattle.tg_machine_state.specs.declared.ends.RunEnd.{RunEnd}
use Rattle.tg_machine_state.specs.State.{initial_machine, stack_top, most_room}
use Rattle.tg_simulation.specs.Bytes.{AreBytes, IsPrefix}
use Rattle.tg_simulation.specs.Runs.{Run}
use Rattle.tg_simulation.specs.Ran.{Ran, Ended, Wrong}
use Rattle.tg_simulation.specs.Preserving.{DoesTheSame, Preserves}
use Rattle.tg_asm_text.specs.Assembly.{Assembled, assembled}
use Rattle.tg_asm_text.specs.Placement.{image_of}
use Rattle.tg_asm_text.specs.Texts.{readings_of}
use Rattle.tg_isa.specs.ImageRuns.{machine_run}
use Rattle.tg_tree.specs.declared.fragments.Literal.{Literal}
use Rattle.tg_tree.specs.Tree.{Function, Code}
use Rattle.tg_tree.specs.glue.Plain.{plain_literal}
use Rattle.tg_instr.specs.declared.instr.Instr.{Instr}
use Rattle.tg_instr.specs.declared.codes.Allocated.{Allocated}
use Rattle.tg_instr.specs.Codes.{is_of_colours}
use Rattle.tg_instr.specs.Running.{code_run}
use Rattle.tg_emit.specs.declared.assembly.Line.{Line}
use Rattle.tg_emit.specs.mirror.Lines.{size_of, functions_lines, is_long, assembly_of}
use Rattle.tg_emit.specs.mirror.Text.{text_of}
use Rattle.tg_emit_laws.specs.Programs.{IsWholeProgram, AreTyped}
use Rattle.tg_emit_laws.specs.Images.{program_written}
use Rattle.tg_emit_proof.specs.LinesRun.{Returns, calls, lines_run}
use Rattle.tg_emit_proof.specs.laws.Laws.{AreReturns}
use Rattle.tg_emit_proof.specs.Setting.{emitted_units, entry_steps}

-- functions over registers and literals, as code that runs
abbrev pub function_over : Allocated → Function (List Instr)
function_over f = record {
  label = f.frame.label.0;
  params = f.frame.params;
  slots = f.frame.slots;
  temps = 0;
  out = f.frame.out;
  body = f.code.list;
}

abbrev pub code_over : List Allocated → List Literal → Code (List Instr)
code_over fs ls =
    record { functions = map function_over fs; literals = map plain_literal ls }

-- the bytes of each frame, by its function's label
abbrev pub sizes_of : List Allocated → (label : ℕ) → ℕ
sizes_of [] label = 8
sizes_of (f ∷ fs) label = if f.frame.label.0 == label then size_of f.frame else sizes_of fs label

-- A program whose code may be run: it names $zero, $sp and the colours alone.
pub record MayRun (fs : List Allocated) (ls : List Literal) : Type 0 where
  pub program : IsWholeProgram fs ls
  pub typed : AreTyped fs ls
  pub registers : IsTrue (list_all (λ (f : Allocated). list_all is_of_colours f.code.list) fs)

-- bytes of heap and of stack that fit their regions
pub record FitRegions (heap stack : ℕ) : Type 0 where
  pub heap_most : heap ≤ most_room
  pub stack_words : stack % 4 ≡ 0
  pub stack_most : stack ≤ most_room

abbrev pub lines_of : List Allocated → List Line
lines_of fs = functions_lines (is_long fs) fs

-- the run of the functions, with the frames that they have, and of their image
abbrev pub registers_run :
    List Allocated → List Literal → (input : List ℕ) → (heap stack : ℕ) → Run Ran
registers_run fs ls input heap stack =
    code_run emitted_units (code_over fs ls) (sizes_of fs) (stack_top - stack) heap 32 input

abbrev pub emitted_image : List Allocated → List Literal → Assembled
emitted_image fs ls = image_of (readings_of (program_written fs ls))

abbrev pub assembled_run : Assembled → (input : List ℕ) → (heap stack : ℕ) → Run Ran
assembled_run image input heap stack =
    machine_run (initial_machine image.code image.statics image.entry heap stack) input

-- The first half: for any words that its calls may put into $ra.
abbrev pub EmissionKeepsRuns : Type 0
EmissionKeepsRuns =
    (fs : List Allocated) (ls : List Literal) (input : List ℕ) (heap stack : ℕ)
    (returns : Returns) →
    MayRun fs ls → FitRegions heap stack → AreBytes input →
    AreReturns (calls (lines_of fs)) returns →
    Preserves 1 (entry_steps + 1)
    (registers_run fs ls input heap stack)
    (lines_run returns (lines_of fs) ls input heap stack)

-- Both halves, for the words after the calls of the image.
abbrev pub EmitIsCorrect : Type 0
EmitIsCorrect =
    (fs : List Allocated) (ls : List Literal) (input : List ℕ) (heap stack : ℕ) →
    MayRun fs ls → FitRegions heap stack → AreBytes input →
    Preserves 1 (entry_steps + 1)
    (registers_run fs ls input heap stack)
    (assembled_run (emitted_image fs ls) input heap stack)

-- A run does what another does, both ways.
pub record RunsAgree (a b : ℕ) (c d : Run Ran) : Type 0 where
  -- whatever the first comes to the second does, with as much fuel at least
  pub there : (n : ℕ) → (m : ℕ) × (n ≤ m) × DoesTheSame a b (c n) (d m)
  -- an end of the second is that of the first, with no more fuel
  pub only :
      (m : ℕ) (e : RunEnd) → (d m).stop ≡ Ended e →
      ((c m).stop ≡ Ended e) × ((c m).output ≡ (d m).output) × ((c m).input ≡ (d m).input)
  -- and what the second has written by any moment is a prefix of what the first writes
  pub front : (m : ℕ) → IsPrefix (d m).output (c m).output

-- The machine's run of the image of the text, where no run of the functions goes wrong: with as
-- many steps at least as these take turns, and for each unit of work a step, and five besides.
abbrev pub EmissionAgrees : Type 0
EmissionAgrees =
    (fs : List Allocated) (ls : List Literal) → MayRun fs ls →
    (image : Assembled) × (assembled (text_of (assembly_of fs ls)) ≡ Ok image)
    × ((input : List ℕ) (heap stack : ℕ) → FitRegions heap stack → AreBytes input →
    ((n : ℕ) → (registers_run fs ls input heap stack n).stop ≢ Wrong) →
    RunsAgree 1 (entry_steps + 1)
    (registers_run fs ls input heap stack) (assembled_run image input heap stack))
