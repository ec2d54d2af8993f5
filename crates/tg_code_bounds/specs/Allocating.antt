-- An allocation of a function of trees, and what of it takes words of code and bytes of the stack.
use Rattle.std.specs.Prelude.{◌≡◌, ◌<◌, ◌^◌, Bool, nat_lt, IsTrue}
use Rattle.std.specs.List.{list_all}
use Rattle.tg_frame.specs.declared.frames.Frame.{Frame}
use Rattle.tg_tree.specs.Tree.{Ts, Function}
use Rattle.tg_canon_trace_proof.specs.Flattened.{flattened}
use Rattle.tg_instr.specs.declared.codes.Code.{Code}
use Rattle.tg_instr.specs.declared.codes.Allocated.{Allocated}
use Rattle.tg_instr.specs.Codes.{is_allocated, names_registers}
use Rattle.tg_munch.specs.mirror.Choosing.{Chosen}
use Rattle.tg_munch.specs.mirror.Bodies.{munched, outs}
use Rattle.tg_redundancy.specs.mirror.Known.{known_code}
use Rattle.tg_irc_definition.specs.Policies.{Rule}
use Rattle.tg_regalloc.specs.declared.allocations.Allocation.{Allocation}
use Rattle.tg_regalloc.specs.Allocations.{IsAllocation}
use Rattle.tg_emit.specs.mirror.Lines.{size_of}

-- the instructions that are chosen for the flat code of a function, and what is drawn for them
abbrev pub chosen : Function Ts → Chosen (Unit {0})
chosen f = munched (flattened f)

-- such instructions with known words and tests, and the frame of the function then
pub record Chooses (f : Function Ts) (frame : Frame) (code : Code) : Type 0 where
  pub label : frame.label.0 ≡ f.label
  pub params : frame.params ≡ f.params
  pub slots : frame.slots ≡ f.slots
  pub drawn : frame.temps ≡ (flattened f).temps
  pub out : frame.out ≡ outs (flattened f).body
  pub list : code.list ≡ known_code (chosen f).code
  pub temps : code.temps ≡ (chosen f).drawn.temp
  pub few : code.temps < 16777216

-- An allocation, by a policy's rule, of the instructions that are chosen for a function, in its
-- frame. It names no register but $zero, $sp and the colours.
pub record IsAllocationOf (rule : Rule) (f : Function Ts) (a : Allocation) : Type 0 where
  pub frame : Frame
  pub code : Code
  pub chooses : Chooses f frame code
  pub allocation : IsAllocation rule code frame a
  pub registers : IsTrue (list_all (names_registers is_allocated) a.done.code.list)

-- a frame below 2 ^ 29 bytes
abbrev pub has_small_frame : Allocated → Bool
has_small_frame f = nat_lt (size_of f.frame) (2 ^ 29)
