-- Functions over registers with the lines that stand for them, what a run of either is given, and
-- the two runs.
use Rattle.std.specs.Prelude.{ℕ, ◌+◌, ◌-◌, List, Option, Bool}
use Rattle.tg_machine_state.specs.State.{MachineState, stack_top}
use Rattle.tg_simulation.specs.Runs.{Run}
use Rattle.tg_simulation.specs.Ran.{Ran}
use Rattle.tg_tree.specs.declared.fragments.Literal.{Literal}
use Rattle.tg_tree.specs.Actions.{World, Activation}
use Rattle.tg_tree.specs.Tree.{Function, Code}
use Rattle.tg_instr.specs.declared.instr.Instr.{Instr}
use Rattle.tg_instr.specs.declared.instr.Instr.TheVariants.{Call}
use Rattle.tg_instr.specs.Lengths.{words_of}
use Rattle.tg_instr.specs.Contents.{Contents}
use Rattle.tg_instr.specs.Meaning.{Back, Around, Enter}
use Rattle.tg_instr.specs.Running as code
use Rattle.tg_instr.specs.Running.{CodePoint, Units, everywhere}
use Rattle.tg_emit.specs.declared.assembly.Line.{Line}
use Rattle.tg_emit_proof.specs.LinesRun.{Place, left, Returns, place_of, lines_going, going_from}

-- The rows that an instruction takes at most: its words, and of a call those of its callee's entry
-- too.
abbrev pub entry_steps : ℕ
entry_steps = 4

abbrev pub steps_of : Instr → ℕ
steps_of (Call label) = 1 + entry_steps
steps_of one = words_of one

abbrev pub emitted_units : Units
emitted_units = everywhere steps_of

pub record Setting : Type 0 where
  -- the functions, and the bytes of a frame by its function's label
  pub program : Code (List Instr)
  pub size : (label : ℕ) → ℕ
  -- their lines and literals, and whether branches are turned round there
  pub lines : List Line
  pub literals : List Literal
  pub turned : Bool
  -- the words that calls put into $ra
  pub returns : Returns
  -- bytes of heap and of stack
  pub room : ℕ
  pub stack : ℕ

module _ (g : Setting) where
  -- what the lines do from a place on
  abbrev pub going : Place → MachineState → (input : List ℕ) → Run Ran
  going p s input = lines_going g.returns g.lines g.literals p s input

  abbrev pub from : List Line → MachineState → (input : List ℕ) → Run Ran
  from here s input = going (left here) s input

  -- what they do after a jump to a word
  abbrev pub back_to : (word : ℕ) → Option Place
  back_to v = place_of g.returns v g.lines

  abbrev pub going_to : Option Place → MachineState → (input : List ℕ) → Run Ran
  going_to o s input = going_from g.returns g.lines g.literals o s input

  -- what the code does from a point on, at a function's entry, and from code of a function on
  abbrev pub later : CodePoint → Run Ran
  later = code.code_going emitted_units g.program g.size (stack_top - g.stack) g.room

  abbrev pub begin_with :
      (CodePoint → Run Ran) → Option (Function (List Instr)) → Contents → (top : ℕ) → Back →
      World → Run Ran
  begin_with = code.begin_code emitted_units g.program g.size (stack_top - g.stack) g.room

  abbrev pub enter : Enter
  enter = code.enter_code emitted_units g.program g.size (stack_top - g.stack) g.room later

  abbrev pub jump_in :
      Function (List Instr) → Option (List Instr) → Activation → Back → World → Contents → Run Ran
  jump_in = code.jump_to emitted_units g.program g.size (stack_top - g.stack) g.room later

  abbrev pub around : Function (List Instr) → Activation → Back → Around
  around = code.around emitted_units g.program g.size (stack_top - g.stack) g.room later

  abbrev pub code_from :
      Function (List Instr) → List Instr → Activation → Back → World → Contents → Run Ran
  code_from = code.run_code emitted_units g.program g.size (stack_top - g.stack) g.room later
