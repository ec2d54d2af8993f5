-- Every allocation keeps the meaning of its code, whatever the policy answers: each function alone,
-- and all functions of a program together, with the work that they do.
use Rattle.std.specs.Prelude.{ℕ, ◌+◌, ◌≡◌, ◌≤◌, IsTrue, List, map}
use Rattle.std.specs.List.{AllZip, list_all}
use Rattle.tg_frame.specs.declared.frames.Frame.{Frame}
use Rattle.tg_simulation.specs.Preserving.{Preserves}
use Rattle.tg_tree.specs.Tree.{Function}
use Rattle.tg_instr.specs.declared.instr.Instr.{Instr}
use Rattle.tg_instr.specs.declared.codes.Allocated.{Allocated}
use Rattle.tg_instr.specs.declared.codes.Code.{Code}
use Rattle.tg_instr.specs.Codes.{names_registers}
use Rattle.tg_instr.specs.Lengths.{most_words}
use Rattle.tg_instr.specs.Running.{everywhere, code_run}
use Rattle.tg_irc_definition.specs.Policies.{Rule}
use Rattle.tg_regalloc_proof.specs.Keeping.{AreHeld, Keeps, Surroundings, program}
use Rattle.tg_regalloc.specs.declared.allocations.Allocation.{Allocation}
use Rattle.tg_regalloc.specs.Allocations.{IsAllocation, codes_of}
use Rattle.tg_regalloc.specs.Conditions.{is_fixed}
use Rattle.tg_regalloc.specs.laws.Growth.{blocks_of, most_steps}
use Rattle.tg_regalloc.specs.mirror.InFrame.{code_in_frame, instruction_in_frame}

-- One function.

-- it has this frame and this code
pub record IsFunctionOf (frame : Frame) (list : List Instr) (f : Function (List Instr)) :
    Type 0 where
  pub label : f.label ≡ frame.label.0
  pub slots : f.slots ≡ frame.slots
  pub out : f.out ≡ frame.out
  pub body : f.body ≡ list

-- the code of an allocation may stand in the place of the code that was handed in, with the blocks
-- of the allocation
abbrev pub AllocationsKeep : Type 0
AllocationsKeep =
    (rule : Rule) (code : Code) (frame : Frame) (a : Allocation) (f g : Function (List Instr)) →
    IsTrue (list_all (names_registers is_fixed) code.list) →
    IsAllocation rule code frame a →
    IsFunctionOf frame code.list f →
    IsFunctionOf a.done.frame a.done.code.list g →
    Keeps (blocks_of code frame a) f g

-- it is the function with every temporary in a slot of its own, above those of the frame
pub record IsInFrame (frame : Frame) (code : Code) (g : Function (List Instr)) : Type 0 where
  pub label : g.label ≡ frame.label.0
  pub slots : g.slots ≡ frame.slots + code.temps
  pub out : g.out ≡ frame.out
  pub body : g.body ≡ code_in_frame frame.slots code.list

-- and so may the code with every temporary in the frame
abbrev pub FramesKeep : Type 0
FramesKeep =
    (code : Code) (frame : Frame) (f g : Function (List Instr)) →
    IsTrue (list_all (names_registers is_fixed) code.list) →
    IsFunctionOf frame code.list f →
    IsInFrame frame code g →
    Keeps (map (instruction_in_frame frame.slots) code.list) f g

-- All functions of a program.

-- an allocation of a function, by a policy's rule
pub record Allocates (rule : Rule) (f : Function (List Instr)) (a : Allocation) : Type 0 where
  pub frame : Frame
  pub code : Code
  pub is_function : IsFunctionOf frame code.list f
  pub registers : IsTrue (list_all (names_registers is_fixed) code.list)
  pub allocation : IsAllocation rule code frame a

-- a function over registers, as code that runs
abbrev pub function_over : Allocated → Function (List Instr)
function_over f = record {
  label = f.frame.label.0;
  params = f.frame.params;
  slots = f.frame.slots;
  temps = 0;
  out = f.frame.out;
  body = f.code.list;
}

abbrev pub functions_over : List Allocation → List (Function (List Instr))
functions_over allocations = map function_over (codes_of allocations)

-- Whatever an instruction over registers is charged, as long as it is no more than its words (and
-- 10 for a call): a program of allocations does what its functions did, with the same fuel and no
-- more work than the most words of each instruction that was handed in. Its frames have to fit the
-- sizes.
abbrev pub RegallocIsCorrect : Type 0
RegallocIsCorrect =
    (rule : Rule) (fs : List (Function (List Instr))) (allocations : List Allocation)
    (units : Instr → ℕ) (e : Surroundings) →
    AllZip (Allocates rule) fs allocations →
    ((one : Instr) → units one ≤ most_steps one) →
    AreHeld e.size (functions_over allocations) →
    Preserves 1 0
    (code_run (everywhere most_words) (program fs e.literals) e.size e.floor e.room e.body e.input)
    (code_run (everywhere units) (program (functions_over allocations) e.literals) e.size e.floor
    e.room e.body e.input)
