-- Runs of instructions. A jump, a branch that is taken and a call take a unit of fuel each, and the
-- first activation of a program takes none.
use Rattle.std.specs.Prelude.{ℕ, zero, suc, ◌+◌, ◌-◌, ◌*◌, ◌==◌, List, [], ◌∷◌, Option, Some, None}
use Rattle.std.specs.Prelude.{nat_lt, pos, length, if◌then◌else◌}
use Rattle.tg_machine_state.specs.declared.ends.RunEnd.TheVariants.{Exit, StackFull}
use Rattle.tg_machine_state.specs.State.{stack_top}
use Rattle.tg_simulation.specs.Runs.{Run, again}
use Rattle.tg_simulation.specs.Ran.{Ran, Ended, WantsFuel, stops}
use Rattle.tg_tree.specs.Actions.{World, Activation, over, wrong, charged}
use Rattle.tg_tree.specs.Memory.{Cell, Closed, Unset, Memory, put, lay, begin}
use Rattle.tg_tree.specs.Running.{function_of, with_fuel}
use Rattle.tg_tree.specs.Tree.{Function, Code}
use Rattle.tg_instr.specs.declared.instr.Instr.{Instr}
use Rattle.tg_instr.specs.declared.instr.Instr.TheVariants.{Mark}
use Rattle.tg_instr.specs.Shapes.{shape}
use Rattle.tg_instr.specs.Contents.{Contents, no_contents, at_entry}
use Rattle.tg_instr.specs.Meaning.{Back, Around, Enter, act}

-- what stands after a mark
abbrev pub behind : (mark : ℕ) → List Instr → Option (List Instr)
behind m [] = None
behind m (Mark k ∷ rest) = if k == m then Some rest else behind m rest
behind m (_ ∷ rest) = behind m rest

-- the words at the low end of a frame, for the arguments past the fourth of the calls in it
abbrev pub lay_out : (low words : ℕ) → Cell → Memory → Memory
lay_out low zero c m = m
lay_out low (suc n) c m = put (low + 4 * n) c (lay_out low n c m)

-- a function's slots and low words become this cell
abbrev pub with_frame : {Body : Type 0} → Function Body → Activation → Cell → World → World
with_frame f a c w = record w {
  memory = lay_out (a.base - a.size) f.out c (lay a.base f.slots c w.memory);
}

-- a place in a function's code: what is left of it from there on
pub record CodePoint : Type 0 where
  pub function : Function (List Instr)
  pub rest : List Instr
  pub activation : Activation
  pub back : Back
  pub world : World
  pub contents : Contents

-- The units that an instruction is charged, told by its place: the label of its function, and how
-- many instructions of its code are left after it.
abbrev pub Units : Type 0
Units = (label left : ℕ) → Instr → ℕ

-- the same at every place
abbrev pub everywhere : (Instr → ℕ) → Units
everywhere units label left one = units one

-- For the units that instructions are charged, a size of each frame by its function's label, the
-- stack's floor, and the heap's room.
module _ (units : Units) (code : Code (List Instr)) (size : ℕ → ℕ) (floor room : ℕ) where
  abbrev pub begin_code :
      (CodePoint → Run Ran) → Option (Function (List Instr)) → Contents → (top : ℕ) →
      Back → World → Run Ran
  begin_code later None s top back w = wrong w
  begin_code later (Some f) s top back w =
      if nat_lt top (floor + size f.label) then over (Ended StackFull) w else
      later (record {
        function = f;
        rest = f.body;
        activation = record { base = top; size = size f.label };
        back = λ c w1.
            back c (with_frame f (record { base = top; size = size f.label }) Closed w1);
        world = with_frame f (record { base = top; size = size f.label }) Unset w;
        contents = s;
      })

  -- a call runs the body after a unit of fuel
  abbrev pub enter_code : (CodePoint → Run Ran) → Enter
  enter_code later label s top back w =
      begin_code (λ p. with_fuel p.world (later p)) (function_of label code.functions)
      s top back w

  module _ (later : CodePoint → Run Ran) (f : Function (List Instr)) where
    abbrev pub jump_to :
        Option (List Instr) → Activation → Back → World → Contents → Run Ran
    jump_to None a back w s = wrong w
    jump_to (Some rest) a back w s =
        with_fuel w (later (record {
          function = f;
          rest = rest;
          activation = a;
          back = back;
          world = w;
          contents = s;
        }))

    abbrev pub around : Activation → Back → Around
    around a back = record {
      activation = a;
      slots = f.slots;
      jumps = λ m w s. jump_to (behind m f.body) a back w s;
      back = back;
    }

    abbrev pub run_code : List Instr → Activation → Back → World → Contents → Run Ran
    run_code [] a back w s = wrong w
    run_code (one ∷ rest) a back w s =
        charged (units f.label (length rest) one)
        (act room code.literals (enter_code later) (shape one) (around a back)
        (λ w1 s1. run_code rest a back w1 s1) w s)

  -- one step: the code up to the next unit of fuel
  abbrev pub code_step : (CodePoint → Run Ran) → CodePoint → Run Ran
  code_step later p =
      run_code later p.function p.rest p.activation p.back p.world p.contents

  abbrev pub code_going : CodePoint → Run Ran
  code_going = again (stops [] WantsFuel) code_step

  -- the first activation of a program, whose return is the program's end
  abbrev pub code_run : (body : ℕ) → (input : List ℕ) → Run Ran
  code_run body input =
      begin_code code_going (function_of body code.functions) (at_entry no_contents) stack_top
      (λ c w. over (Ended (Exit (pos 0))) w)
      (record { memory = begin code.literals; input = input })
