-- The forms that a compiled program has between its source and the machine, and their runs: with
-- the frames that its allocations have.
use Rattle.std.specs.Prelude.{ℕ, ◌-◌, ◌≡◌, List, map}
use Rattle.std.specs.List.{Contains}
use Rattle.tg_machine_state.specs.State.{stack_top}
use Rattle.tg_simulation.specs.Runs.{Run}
use Rattle.tg_simulation.specs.Ran.{Ran}
use Rattle.tg_tree.specs.declared.fragments.Literal.{Literal}
use Rattle.tg_tree.specs.Tree.{Ts, Linear, Function, Code}
use Rattle.tg_tree.specs.glue.Plain.{plain_literal}
use Rattle.tg_tree.specs.Units.{Trees}
use Rattle.tg_tree.specs.Running.{tree_run}
use Rattle.tg_tree.specs.Flat.{flat_run}
use Rattle.tg_canon_trace_proof.specs.Flattened.{flattened_code, MayBeFlattened}
use Rattle.tg_instr.specs.declared.instr.Instr.{Instr}
use Rattle.tg_instr.specs.declared.codes.Allocated.{Allocated}
use Rattle.tg_instr.specs.Lengths.{most_words}
use Rattle.tg_instr.specs.Running.{everywhere, code_run}
use Rattle.tg_munch_proof.specs.laws.Chosen.{chosen_code}
use Rattle.tg_redundancy_proof.specs.laws.Laws.{known_program}
use Rattle.tg_irc_definition.specs.Policies.{Rule}
use Rattle.tg_regalloc.specs.declared.allocations.Allocation.{Allocation}
use Rattle.tg_regalloc.specs.Allocations.{codes_of}
use Rattle.tg_emit_laws.specs.Programs.{IsWholeProgram, AreTyped}
use Rattle.tg_compile.specs.Compiling.{CompileFunctions}
use Rattle.tg_emit_proof.specs.laws.Emission.{sizes_of, registers_run, emitted_image, assembled_run}

-- A program of trees, with an allocation for each function by a policy's rule, and its literals.
pub record Compilation : Type 0 where
  pub rule : Rule
  pub trees : Code Ts
  pub allocations : List Allocation
  pub literals : List Literal

module _ (p : Compilation) where
  -- Each function is compiled to its allocation, and what they are is a program. The trees may be
  -- any whose functions can be laid flat: those of a translation, or what a pass makes of them.
  pub record IsCompiled : Type 0 where
    pub functions : CompileFunctions p.rule p.trees.functions p.allocations
    pub literals : map plain_literal p.literals ≡ p.trees.literals
    pub program : IsWholeProgram (codes_of p.allocations) p.literals
    pub typed : AreTyped (codes_of p.allocations) p.literals
    pub may_be_flat : (f : Function Ts) → Contains p.trees.functions f → MayBeFlattened f

  -- its forms
  abbrev pub flat_code : Code (List Linear)
  flat_code = flattened_code p.trees

  -- the instructions that are chosen, and these with known words and tests
  abbrev pub chosen_instructions : Code (List Instr)
  chosen_instructions = chosen_code flat_code

  abbrev pub instructions : Code (List Instr)
  instructions = known_program chosen_instructions

  abbrev pub registers : List Allocated
  registers = codes_of p.allocations

  -- the bytes of each frame
  abbrev pub frames : (label : ℕ) → ℕ
  frames = sizes_of registers

  module _ (input : List ℕ) (heap stack : ℕ) where
    -- its runs
    abbrev pub tree_form : Run Ran
    tree_form = tree_run Trees p.trees frames (stack_top - stack) heap 32 input

    abbrev pub flat_form : Run Ran
    flat_form = flat_run flat_code frames (stack_top - stack) heap 32 input

    -- instructions are charged the most words that may stand for them
    abbrev pub instruction_form : Run Ran
    instruction_form =
        code_run (everywhere most_words) instructions frames (stack_top - stack) heap 32 input

    abbrev pub register_form : Run Ran
    register_form = registers_run registers p.literals input heap stack

    abbrev pub machine_form : Run Ran
    machine_form = assembled_run (emitted_image registers p.literals) input heap stack
