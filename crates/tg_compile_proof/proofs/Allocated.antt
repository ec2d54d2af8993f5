-- The registers of a compiled program: its allocations keep what its instructions do.
use Rattle.std.proofs.Common.{ℕ, ◌≡◌, ◌≤◌, ◌+◌, ◌*◌, ◌-◌, ◌==◌, List, [], ◌∷◌, map, Bool, true, false, Some}
use Rattle.std.proofs.Common.{sym, subst, arith}
use Rattle.std.specs.Prelude.{IsTrue, if◌then◌else◌}
use Rattle.std.specs.List.{AllZip, list_all}
use Rattle.tg_machine_state.specs.State.{stack_top}
use Rattle.tg_simulation.specs.Preserving.{Preserves}
use Rattle.tg_frame.specs.Homes.{slot_bound}
use Rattle.tg_tree.specs.Tree.{Ts, Function}
use Rattle.tg_tree.specs.Running.{function_of}
use Rattle.tg_canon.specs.laws.Meaning.{canonical}
use Rattle.tg_trace_schedule.specs.laws.Carried.{in_blocks}
use Rattle.tg_trace_schedule.specs.laws.Traced.{laid}
use Rattle.tg_canon_trace_proof.specs.Flattened.{flattened}
use Rattle.tg_instr.specs.declared.instr.Instr.{Instr}
use Rattle.tg_instr.specs.declared.instr.Instr.TheVariants as instr
use Rattle.tg_instr.specs.declared.codes.Allocated.{Allocated}
use Rattle.tg_instr.specs.Codes.{names_registers}
use Rattle.tg_instr.specs.Running.{everywhere, code_run}
use Rattle.tg_munch_proof.specs.laws.Chosen.{chosen}
use Rattle.tg_redundancy_proof.specs.laws.Laws.{with_known}
use Rattle.tg_irc_definition.specs.Policies.{Rule}
use Rattle.tg_regalloc_proof.specs.Keeping.{AreHeld, Surroundings}
use Rattle.tg_regalloc.specs.declared.allocations.Allocation.{Allocation}
use Rattle.tg_regalloc.specs.Conditions.{is_fixed}
use Rattle.tg_regalloc.specs.laws.Growth.{most_steps}
use Rattle.tg_regalloc_proof.specs.laws.Laws.{Allocates, RegallocIsCorrect, functions_over}
use Rattle.tg_code_bounds.specs.Allocating.{IsAllocationOf}
use Rattle.tg_emit.specs.mirror.Lines.{size_of}
use Rattle.tg_compile.specs.glue.Passes.{CodeNamesItsOwn}
use Rattle.tg_emit_proof.specs.Setting.{steps_of}
use Rattle.tg_emit_proof.specs.laws.Emission.{sizes_of, function_over}
use Rattle.tg_emit_proof.proofs.Known.{found_there}
use Rattle.tg_compile_proof.specs.Forms.{instructions, registers, frames}
use Rattle.tg_compile_proof.specs.Forms.{instruction_form}
use Rattle.tg_compile_proof.specs.laws.Laws.{AllocationIsKept}

-- an instruction takes no more steps than are counted for it
few_steps : (one : Instr) → steps_of one ≤ most_steps one
few_steps (instr.Call label) = omega arith
few_steps one = omega arith

-- an allocation of a function of trees is one of its instructions, with known words and tests; its
-- parameters' slots are the frame's, as the type of frames says
allocates : CodeNamesItsOwn → (rule : Rule) (f : Function Ts) (a : Allocation) → IsAllocationOf rule f a →
    Allocates rule (with_known (chosen (flattened f))) a
allocates own rule f a h =
    let c = h.chooses in
    let below : slot_bound f.params ≤ f.slots =
    subst (λ ps. slot_bound ps ≤ f.slots) c.params
    (subst (λ s. slot_bound h.frame.params ≤ s) c.slots h.frame.slots_below) in
    record {
      frame = h.frame;
      code = h.code;
      is_function = record { label = sym c.label; slots = sym c.slots; out = sym c.out; body = sym c.list };
      registers = subst (λ list. IsTrue (list_all (names_registers is_fixed) list)) (sym c.list)
          (own f below).registers;
      allocation = h.allocation;
    }

all_allocate : CodeNamesItsOwn → (rule : Rule) (fs : List (Function Ts)) (made : List Allocation) →
    AllZip (IsAllocationOf rule) fs made →
    AllZip (Allocates rule) (map with_known (map chosen (map laid (map in_blocks (map canonical fs))))) made
all_allocate own rule [] [] h = tt
all_allocate own rule [] (a ∷ made) h = absurd h
all_allocate own rule (f ∷ fs) [] h = absurd h
all_allocate own rule (f ∷ fs) (a ∷ made) h = (allocates own rule f a h.0, all_allocate own rule fs made h.1)

-- the frames hold slots and words for arguments
held_at : (codes : List Allocated) (label : ℕ) (f : Function (List Instr)) →
    function_of label (map function_over codes) ≡ Some f → 4 * (f.slots + f.out) ≤ sizes_of codes label
held_at [] label f e = cc
held_at (g ∷ codes) label f e = by (g.frame.label.0 == label) e (held_at codes label f)
  where
    first : 4 * (g.frame.slots + g.frame.out) ≤ size_of g.frame
    first = omega arith

    same : Some (function_over g) ≡ Some f → function_over g ≡ f
    same h = cc

    by : (b : Bool) → (if b then Some (function_over g) else function_of label (map function_over codes)) ≡ Some f →
        (function_of label (map function_over codes) ≡ Some f → 4 * (f.slots + f.out) ≤ sizes_of codes label) →
        4 * (f.slots + f.out) ≤ (if b then size_of g.frame else sizes_of codes label)
    by true h later = subst (λ (x : Function (List Instr)). 4 * (x.slots + x.out) ≤ size_of g.frame) (same h) first
    by false h later = later h

are_held : (codes : List Allocated) → AreHeld (sizes_of codes) (map function_over codes)
are_held codes label f e =
    let t = found_there label (map function_over codes) f e in
    subst (λ l. 4 * (f.slots + f.out) ≤ sizes_of codes l) (sym t.1) (held_at codes label f e)

pub allocation_is_kept : CodeNamesItsOwn → RegallocIsCorrect → AllocationIsKept
allocation_is_kept own keep p c input heap stack =
    let e : Surroundings = record {
      literals = p.trees.literals;
      size = frames p;
      floor = stack_top - stack;
      room = heap;
      body = 32;
      input = input;
    } in
    subst (λ ls. Preserves 1 0 (instruction_form p input heap stack)
    (code_run (everywhere steps_of) (record { functions = functions_over p.allocations; literals = ls })
    (frames p) (stack_top - stack) heap 32 input)) (sym c.literals)
    (keep p.rule (instructions p).functions p.allocations steps_of e
    (all_allocate own p.rule p.trees.functions p.allocations c.functions) few_steps (are_held (registers p)))
